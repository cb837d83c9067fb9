-- What printing a file of a store answers.
use Rattle.std.specs.Prelude.{◌≡◌, ℕ, List, [], Option, None, Some}
use Rattle.std.proofs.Common.{refl, sym, ap, subst, ◌∙◌}
use Rattle.send_model.specs.Headline.{IsFrontOf, IsProperFrontOf}
use Rattle.send_model.specs.Subvolume.{Subvolume}
use Rattle.send_model.specs.Store.{Entry, Store}
use Rattle.sx_base.specs.declared.outcome.Outcome.TheVariants as ended
use Rattle.store_model.specs.Stored.{StandsFor, StandsForNone}
use Rattle.store_model.specs.Dues as dues
use Rattle.store_model.specs.Dues.{Due, complete_named, file_at, unless_missing, cat_due, cat_output}
use Rattle.store_model.specs.NamedFiles.{unnamed}
use Rattle.store_model.specs.Requests.{CatFile, word_at, at_entry}
use Rattle.store_model.specs.Answers.{Answers, Missing, DueSays}
use Rattle.store_commands.specs.declared.ends.StoreEnd.{StoreEnd}
use Rattle.store_commands.specs.declared.ends.StoreEnd.TheVariants as made
use Rattle.store_commands.specs.Ending.{answer_of}
use Rattle.store_commands.specs.Files.{FileEnds}
use Rattle.store_commands.proofs.Opened.{by_store, by_none}

module _ (words : List (List ℕ)) (store at to : ℕ) (image : List ℕ) where
  abbrev name : List ℕ
  name = word_at words at

  abbrev path : List ℕ
  path = word_at words to

  abbrev due_in : Option (Entry (Subvolume ℕ) × Subvolume ℕ) → Due
  due_in None = dues.Missing name
  due_in (Some found) = unless_missing path (file_at path found.1)

  due_is : (s : Store ℕ) → cat_due name path s ≡ due_in (complete_named name s)
  due_is s = by_entry (complete_named name s)
    where
      by_entry : (o : Option (Entry (Subvolume ℕ) × Subvolume ℕ)) → (elim o as (λ x. Due) [ None ↦ dues.Missing name | Some found ↦ unless_missing path (file_at path found.1) ]) ≡ due_in o
      by_entry None = refl
      by_entry (Some found) = refl

  pub cat_of_none : (group : ℕ) → StandsForNone image group → DueSays (CatFile store at to) (at_entry words image (unnamed [])) (dues.NotStore group) [] image
  cat_of_none group fails = (fails, (refl, by_none image group (λ s. [] ≡ []) ([] ≡ []) fails refl))

  pub cat_missing : (s : Store ℕ) → StandsFor image s → complete_named name s ≡ None → Answers (CatFile store at to) (at_entry words image (unnamed [])) (Missing name) [] image
  cat_missing s stands gone = ((s, stands, sym (due_is s ∙ ap due_in gone)), (refl, by_store image s (λ t. [] ≡ []) ([] ≡ []) stands refl))

  module _ (s : Store ℕ) (stands : StandsFor image s) (found : Entry (Subvolume ℕ) × Subvolume ℕ) (here : complete_named name s ≡ Some found) where
    pub cat_no_file : file_at path found.1 ≡ None → Answers (CatFile store at to) (at_entry words image (unnamed [])) (Missing path) [] image
    cat_no_file gone = ((s, stands, sym (due_is s ∙ ap due_in here ∙ ap (unless_missing path) gone)), (refl, by_store image s (λ t. [] ≡ []) ([] ≡ []) stands refl))

    module _ (cells written : List ℕ) (there : file_at path found.1 ≡ Some cells) where
      whole : cat_output name path s ≡ cells
      whole =
          ap (λ (o : Option (Entry (Subvolume ℕ) × Subvolume ℕ)). elim o as (λ x. List ℕ) [ None ↦ [] | Some found ↦ (elim (file_at path found.1) as (λ x. List ℕ) [ None ↦ [] | Some cells ↦ cells ]) ]) here
          ∙ ap (λ (o : Option (List ℕ)). elim o as (λ x. List ℕ) [ None ↦ [] | Some cells ↦ cells ]) there

      front : IsFrontOf cells written → Answers (CatFile store at to) (at_entry words image (unnamed [])) (answer_of name path made.StoreFault) written image
      front p = (refl, by_store image s (λ t. IsFrontOf (cat_output name path t) written) (written ≡ []) stands (subst (λ (l : List ℕ). IsFrontOf l written) (sym whole) p))

      pub cat_answers : (end : StoreEnd) → FileEnds cells end written → Answers (CatFile store at to) (at_entry words image (unnamed [])) (answer_of name path end) written image
      cat_answers (made.Ends ended.Done) p =
          ((s, stands, sym (due_is s ∙ ap due_in here ∙ ap (unless_missing path) there)), (refl, by_store image s (λ t. written ≡ cat_output name path t) (written ≡ []) stands (p ∙ sym whole)))
      cat_answers (made.Ends ended.OutputFault) p = (refl, by_store image s (λ t. IsProperFrontOf (cat_output name path t) written) ⊥ stands (subst (λ (l : List ℕ). IsProperFrontOf l written) (sym whole) p))
      cat_answers (made.Ends ended.NoMemory) p = front p
      cat_answers (made.Ends (ended.Refused verdict)) p = absurd p
      cat_answers (made.Ends ended.InputFault) p = absurd p
      cat_answers (made.Ends (ended.InputTooLong file)) p = absurd p
      cat_answers (made.Ends (ended.TooMuch sum)) p = absurd p
      cat_answers (made.Ends (ended.InputChanged file place)) p = absurd p
      cat_answers made.StoreFault p = front p
      cat_answers (made.NotStore group) p = absurd p
      cat_answers made.NoName p = absurd p
      cat_answers made.NoFile p = absurd p
      cat_answers (made.LogFull end wanted limit) p = absurd p
      cat_answers (made.StoreThere size) p = absurd p
      cat_answers (made.Damaged group stored computed) p = absurd p
