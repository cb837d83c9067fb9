-- The attributes that a command wants, one after the other in a table.
use Rattle.std.specs.Prelude.{◌≡◌, ℕ, ◌+◌, ◌<◌, ◌≤◌, true, false, List, ◌∷◌, length, drop, slice_index_or, None, Some, Ok, Err}
use Rattle.std.proofs.Common.{refl, sym, ap, subst, ◌∙◌, add-one, drop-cons}
use Rattle.std.proofs.lemmas.List.{drop_all}
use Rattle.send_model.specs.Refusal.{MissingAttribute, BadAttribute}
use Rattle.send_model.specs.Attribute.{form_of}
use Rattle.send_model.specs.Spelling.{Attribute}
use Rattle.send_model.specs.Reading.{form_fits, wanted_there}
use Rattle.tlv_frame.specs.Table.{Table, StandsFor, value_at}
use Rattle.send_commands.specs.Values.{HaveForms}

-- What is wanted from a place on decides.
abbrev pub IsLeft : Table → List ℕ → ℕ → Type 0
IsLeft table wanted i = (attributes : List Attribute) → StandsFor table attributes → wanted_there wanted attributes ≡ wanted_there (drop i wanted) attributes

-- The attribute at a place is the next one.
pub next_wanted : (wanted : List ℕ) (i : ℕ) → i < length wanted → drop i wanted ≡ slice_index_or wanted i 0 ∷ drop (i + 1) wanted
next_wanted wanted i less = rw (add-one, drop-cons wanted i 0)

-- The next one is missing.
pub one_missing : (table : Table) (wanted : List ℕ) (i kind : ℕ) (attributes : List Attribute) → IsLeft table wanted i → StandsFor table attributes
    → drop i wanted ≡ kind ∷ drop (i + 1) wanted → value_at table kind ≡ None → wanted_there wanted attributes ≡ Err (MissingAttribute kind)
unfolding wanted_there
one_missing table wanted i kind attributes left stands next none =
    left attributes stands ∙ ap (λ (kinds : List ℕ). wanted_there kinds attributes) next ∙ rw (sym (stands.values kind) ∙ none) refl

-- The next one has another length than its form.
pub one_misfits : (table : Table) (wanted : List ℕ) (i kind : ℕ) (bytes : List ℕ) (attributes : List Attribute) → IsLeft table wanted i → StandsFor table attributes
    → drop i wanted ≡ kind ∷ drop (i + 1) wanted → value_at table kind ≡ Some bytes → form_fits (form_of kind) bytes ≡ false → wanted_there wanted attributes ≡ Err (BadAttribute kind)
unfolding wanted_there
one_misfits table wanted i kind bytes attributes left stands next there misfits =
    left attributes stands ∙ ap (λ (kinds : List ℕ). wanted_there kinds attributes) next ∙ rw (sym (stands.values kind) ∙ there, misfits) refl

-- The next one is there.
pub one_there : (table : Table) (wanted : List ℕ) (i kind : ℕ) (bytes : List ℕ) → IsLeft table wanted i
    → drop i wanted ≡ kind ∷ drop (i + 1) wanted → value_at table kind ≡ Some bytes → form_fits (form_of kind) bytes ≡ true → IsLeft table wanted (i + 1)
unfolding wanted_there
one_there table wanted i kind bytes left next there fits attributes stands =
    left attributes stands ∙ ap (λ (kinds : List ℕ). wanted_there kinds attributes) next ∙ rw (sym (stands.values kind) ∙ there, fits) refl

-- All are there.
pub all_there : (table : Table) (wanted : List ℕ) (i : ℕ) (attributes : List Attribute) → IsLeft table wanted i → StandsFor table attributes → length wanted ≤ i → wanted_there wanted attributes ≡ Ok tt
unfolding wanted_there
all_there table wanted i attributes left stands past = left attributes stands ∙ ap (λ (kinds : List ℕ). wanted_there kinds attributes) (drop_all i wanted past)

-- Forms of what is left, once those in front have theirs.
abbrev pub FormsLeft : Table → List ℕ → ℕ → Type 0
FormsLeft table wanted i = HaveForms table (drop i wanted) → HaveForms table wanted

pub one_formed : (table : Table) (wanted : List ℕ) (i kind : ℕ) (bytes : List ℕ) → FormsLeft table wanted i
    → drop i wanted ≡ kind ∷ drop (i + 1) wanted → value_at table kind ≡ Some bytes → form_fits (form_of kind) bytes ≡ true → FormsLeft table wanted (i + 1)
one_formed table wanted i kind bytes left next there fits rest =
    left (subst (λ (kinds : List ℕ). HaveForms table kinds) (sym next) (rw there fits, rest))
