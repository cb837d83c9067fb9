-- Words without names are files, in their order; and names that are given fit.
use Rattle.std.specs.Prelude.{◌≡◌, ◌<◌, ℕ, ◌+◌, ◌^◌, Bool, true, false, List, [], ◌∷◌, drop, length, Option, None, Some, IfSome, nat_lt, if◌then◌else◌}
use Rattle.std.specs.List.{AllByRecursion}
use Rattle.std.proofs.Common.{refl, ap, subst}
use Rattle.std.proofs.lemmas.Bool.{ltb-true, lt-ltb}
use Rattle.send_model.specs.Attribute.{IsBytes}
use Rattle.send_model.specs.Overridden.{IsNewName, AreLawfulOverrides}
use Rattle.send_model.specs.NamedWords.{GivenFile, is_name_word, new_name, onto_files, files_from, names_of, PlainFilesAreGiven, GivenNamesFit, ShortNamesAreGiven}
use Rattle.send_model.proofs.ElementLaws.{all_drop}
use Rattle.send_model.proofs.Sorts.{same_inside}

pub plain_files_are_given : PlainFilesAreGiven
unfolding files_from
plain_files_are_given at [] plain = refl
plain_files_are_given at (word ∷ words) plain =
    rw plain.0 (ap (onto_files (record { at = at; name = None })) (plain_files_are_given (at + 1) words plain.1))

-- What files give names that fit, where the first of them has one that fits.
abbrev Fits : Option (List GivenFile) → Type 0
Fits o = (given : List GivenFile) → o ≡ Some given → AreLawfulOverrides (names_of given)

onto_fits : (file : GivenFile) (o : Option (List GivenFile)) → IfSome file.name IsNewName → Fits o → Fits (onto_files file o)
onto_fits file None name more given e = cc
onto_fits file (Some files) name more given e = subst (λ (fs : List GivenFile). AreLawfulOverrides (names_of fs)) (same_inside e) (record { name = name; parents = tt }, more files refl)

fit_from : (before : Option (List ℕ)) (at : ℕ) (words : List (List ℕ)) → IfSome before IsNewName → AllByRecursion IsBytes words → Fits (files_from before at words)
unfolding files_from
fit_from None at [] name bytes = λ given e. subst (λ (fs : List GivenFile). AreLawfulOverrides (names_of fs)) (same_inside e) tt
fit_from (Some new) at [] name bytes = λ given e. cc
fit_from None at (word ∷ words) name bytes = one (is_name_word word) (λ n. fit_from (Some (drop 5 word)) (at + 1) words n bytes.1) (fit_from None (at + 1) words tt bytes.1)
  where
    two : (b : Bool) → nat_lt (length (drop 5 word)) (2 ^ 16) ≡ b → (IsNewName (drop 5 word) → Fits (files_from (Some (drop 5 word)) (at + 1) words))
        → Fits (elim (if b then Some (drop 5 word) else None) as (λ x. Option (List GivenFile)) [ None ↦ None | Some new ↦ files_from (Some new) (at + 1) words ])
    two true short later = later (record { bytes = all_drop (λ b. b < 256) 5 word bytes.0; short = ltb-true (length (drop 5 word)) (2 ^ 16) short })
    two false short later = λ given e. cc

    one : (b : Bool) → (IsNewName (drop 5 word) → Fits (files_from (Some (drop 5 word)) (at + 1) words)) → Fits (files_from None (at + 1) words)
        → Fits (if b then (elim (new_name word) as (λ x. Option (List GivenFile)) [ None ↦ None | Some new ↦ files_from (Some new) (at + 1) words ]) else onto_files (record { at = at; name = None }) (files_from None (at + 1) words))
    one true later more = two (nat_lt (length (drop 5 word)) (2 ^ 16)) refl later
    one false later more = onto_fits (record { at = at; name = None }) (files_from None (at + 1) words) tt more
fit_from (Some new) at (word ∷ words) name bytes = one (is_name_word word) (fit_from None (at + 1) words tt bytes.1)
  where
    one : (b : Bool) → Fits (files_from None (at + 1) words) → Fits (if b then None else onto_files (record { at = at; name = Some new }) (files_from None (at + 1) words))
    one true more = λ given e. cc
    one false more = onto_fits (record { at = at; name = Some new }) (files_from None (at + 1) words) name more

pub given_names_fit : GivenNamesFit
given_names_fit at words given bytes e = fit_from None at words tt bytes given e

pub short_names_are_given : ShortNamesAreGiven
short_names_are_given word short = rw (lt-ltb (length (drop 5 word)) (2 ^ 16) short) refl
