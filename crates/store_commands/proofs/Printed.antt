-- What a word that prints of a store answers.
use Rattle.std.specs.Prelude.{◌≡◌, ℕ, List, [], Option, None, Some}
use Rattle.std.proofs.Common.{refl, sym, ap, subst, ◌∙◌}
use Rattle.send_model.specs.Subvolume.{Subvolume}
use Rattle.send_model.specs.Store.{Entry, Store}
use Rattle.send_model.specs.Headline.{IsFrontOf, IsProperFrontOf}
use Rattle.sx_base.specs.declared.outcome.Outcome.{Outcome}
use Rattle.sx_base.specs.declared.outcome.Outcome.TheVariants as ended
use Rattle.store_model.specs.Stored.{StandsFor, StandsForNone}
use Rattle.store_model.specs.StoreLines.{listed, shown}
use Rattle.store_model.specs.Dues as dues
use Rattle.store_model.specs.Dues.{complete_named, show_output, unless_missing}
use Rattle.store_model.specs.NamedFiles.{unnamed}
use Rattle.store_model.specs.Requests.{ListStore, ShowEntry, word_at, at_entry}
use Rattle.store_model.specs.Answers.{Answers, OfAnyWord, Missing, DueSays}
use Rattle.tree_view.specs.Printing.{Prints}
use Rattle.store_commands.specs.Ending.{outcome_meant}
use Rattle.store_commands.proofs.Opened.{by_store, by_none}

-- Listing.
pub list_answers : (words : List (List ℕ)) (store : ℕ) (image : List ℕ) (s : Store ℕ) (text : List ℕ) (outcome : Outcome) (written : List ℕ) → StandsFor image s → listed s ≡ text → Prints text outcome written
    → Answers (ListStore store) (at_entry words image (unnamed [])) (OfAnyWord (outcome_meant outcome)) written image
list_answers words store image s text ended.Done written stands is prints =
    ((s, stands, refl), (refl, by_store image s (λ t. written ≡ listed t) (written ≡ []) stands (prints ∙ sym is)))
list_answers words store image s text ended.OutputFault written stands is prints =
    (refl, by_store image s (λ t. IsProperFrontOf (listed t) written) ⊥ stands (subst (λ (l : List ℕ). IsProperFrontOf l written) (sym is) prints))
list_answers words store image s text ended.NoMemory written stands is prints =
    (refl, by_store image s (λ t. IsFrontOf (listed t) written) (written ≡ []) stands (subst (λ (l : List ℕ). IsFrontOf l written) (sym is) prints))
list_answers words store image s text (ended.Refused verdict) written stands is prints = absurd prints
list_answers words store image s text ended.InputFault written stands is prints = absurd prints
list_answers words store image s text (ended.InputTooLong file) written stands is prints = absurd prints
list_answers words store image s text (ended.TooMuch sum) written stands is prints = absurd prints
list_answers words store image s text (ended.InputChanged file place) written stands is prints = absurd prints

pub list_of_none : (words : List (List ℕ)) (store : ℕ) (image : List ℕ) (group : ℕ) → StandsForNone image group → DueSays (ListStore store) (at_entry words image (unnamed [])) (dues.NotStore group) [] image
list_of_none words store image group fails = (fails, (refl, by_none image group (λ s. [] ≡ []) ([] ≡ []) fails refl))

-- Showing: nothing is there of the name.
pub show_missing : (words : List (List ℕ)) (store at : ℕ) (image : List ℕ) (s : Store ℕ) (name : List ℕ) → word_at words at ≡ name → StandsFor image s → complete_named name s ≡ None
    → Answers (ShowEntry store at) (at_entry words image (unnamed [])) (Missing name) [] image
show_missing words store at image s name asks stands gone =
    subst (λ (n : List ℕ). Answers (ShowEntry store at) (at_entry words image (unnamed [])) (Missing n) [] image) asks (
      (s, stands, sym (ap (unless_missing (word_at words at)) (ap (λ (n : List ℕ). complete_named n s) asks ∙ gone))),
      (refl, by_store image s (λ t. [] ≡ []) ([] ≡ []) stands refl),
    )

-- Or its lines are printed.
pub show_answers : (words : List (List ℕ)) (store at : ℕ) (image : List ℕ) (s : Store ℕ) (name text : List ℕ) (found : Entry (Subvolume ℕ) × Subvolume ℕ) (outcome : Outcome) (written : List ℕ) → word_at words at ≡ name → StandsFor image s
    → complete_named name s ≡ Some found → shown found.0.name found.0.key found.1 ≡ text → Prints text outcome written → Answers (ShowEntry store at) (at_entry words image (unnamed [])) (OfAnyWord (outcome_meant outcome)) written image
show_answers words store at image s name text found outcome written asks stands is same prints = by outcome prints
  where
    here : complete_named (word_at words at) s ≡ Some found
    here = ap (λ (n : List ℕ). complete_named n s) asks ∙ is

    whole : show_output (word_at words at) s ≡ text
    whole = ap (λ (o : Option (Entry (Subvolume ℕ) × Subvolume ℕ)). elim o as (λ x. List ℕ) [ None ↦ [] | Some found ↦ shown found.0.name found.0.key found.1 ]) here ∙ same

    by : (outcome : Outcome) → Prints text outcome written → Answers (ShowEntry store at) (at_entry words image (unnamed [])) (OfAnyWord (outcome_meant outcome)) written image
    by ended.Done p =
        ((s, stands, sym (ap (unless_missing (word_at words at)) here)), (refl, by_store image s (λ t. written ≡ show_output (word_at words at) t) (written ≡ []) stands (p ∙ sym whole)))
    by ended.OutputFault p = (refl, by_store image s (λ t. IsProperFrontOf (show_output (word_at words at) t) written) ⊥ stands (subst (λ (l : List ℕ). IsProperFrontOf l written) (sym whole) p))
    by ended.NoMemory p = (refl, by_store image s (λ t. IsFrontOf (show_output (word_at words at) t) written) (written ≡ []) stands (subst (λ (l : List ℕ). IsFrontOf l written) (sym whole) p))
    by (ended.Refused verdict) p = absurd p
    by ended.InputFault p = absurd p
    by (ended.InputTooLong file) p = absurd p
    by (ended.TooMuch sum) p = absurd p
    by (ended.InputChanged file place) p = absurd p

pub show_of_none : (words : List (List ℕ)) (store at : ℕ) (image : List ℕ) (group : ℕ) → StandsForNone image group → DueSays (ShowEntry store at) (at_entry words image (unnamed [])) (dues.NotStore group) [] image
show_of_none words store at image group fails = (fails, (refl, by_none image group (λ s. [] ≡ []) ([] ≡ []) fails refl))
