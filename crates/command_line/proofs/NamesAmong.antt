-- The names of files among words: of those that are files with what is said in front of each, and
-- of those that take turns.
use Rattle.std.specs.Prelude.{◌≡◌, ℕ, Bool, true, false, not, List, [], ◌∷◌, Option, None, Some, is_some, cond, if◌then◌else◌}
use Rattle.std.specs.Option.{unwrap_or}
use Rattle.std.proofs.Common.{refl, sym, ap, ◌∙◌}
use Rattle.std.proofs.lemmas.Bool.{false≢true}
use Rattle.send_model.specs.Overridden.{Override, no_override, says_nothing}
use Rattle.send_model.proofs.Sorts.{same_inside}
use Rattle.program_model.specs.FileWords.{GivenFiles, no_files, with_file, stands_in_front, said_too, given_from, given_in}
use Rattle.program_model.specs.TurnWords.{TurnFiles, turn_files}
use Rattle.program_model.proofs.TurnWords.{View, IsFile, IsGuard, view}
use Rattle.command_line.specs.declared.file_names.Among.TheVariants.{Sayings, Guards}
use Rattle.command_line.specs.declared.file_names.Among.{Among}
use Rattle.command_line.specs.Given.{some_given, files_given}
use Rattle.command_line.specs.Names.{names_file, names_in}

-- ---- one word more

name_more : (among : Among) (word : List ℕ) (words : List (List ℕ)) → names_file among word ≡ true → names_in among (word ∷ words) ≡ word ∷ names_in among words
name_more among word words is = ap (λ (b : Bool). cond b (word ∷ names_in among words) (names_in among words)) is

pub no_name_more : (among : Among) (word : List ℕ) (words : List (List ℕ)) → names_file among word ≡ false → names_in among (word ∷ words) ≡ names_in among words
no_name_more among word words is = ap (λ (b : Bool). cond b (word ∷ names_in among words) (names_in among words)) is

-- ---- files with what is said in front of each

file_names : (word : List ℕ) (said : Override) (words : List (List ℕ)) (given : GivenFiles) → stands_in_front word ≡ false
    → ((rest : GivenFiles) → given_from no_override words ≡ Some rest → rest.files ≡ names_in Sayings words)
    → with_file word said (given_from no_override words) ≡ Some given → given.files ≡ names_in Sayings (word ∷ words)
file_names word said words given file more is = one (given_from no_override words) refl is
  where
    one : (o : Option GivenFiles) → given_from no_override words ≡ o → with_file word said o ≡ Some given → given.files ≡ names_in Sayings (word ∷ words)
    one None e q = cc
    one (Some rest) e q =
        ap (λ (g : GivenFiles). g.files) (sym (same_inside q)) ∙ ap (λ (l : List (List ℕ)). word ∷ l) (more rest e)
        ∙ sym (name_more Sayings word words (ap (λ (b : Bool). not b) file))

names_from : (said : Override) (words : List (List ℕ)) (given : GivenFiles) → given_from said words ≡ Some given → given.files ≡ names_in Sayings words
unfolding given_from
names_from said [] given is = one (says_nothing said) is
  where
    one : (b : Bool) → (if b then Some no_files else None) ≡ Some given → given.files ≡ []
    one true q = ap (λ (g : GivenFiles). g.files) (sym (same_inside q))
    one false q = cc
names_from said (word ∷ words) given is =
    one (stands_in_front word) refl (said_too said word) (λ more rest e. names_from more words rest e) (λ rest e. names_from no_override words rest e) is
  where
    one : (b : Bool) → stands_in_front word ≡ b → (o : Option Override)
        → ((more : Override) (rest : GivenFiles) → given_from more words ≡ Some rest → rest.files ≡ names_in Sayings words)
        → ((rest : GivenFiles) → given_from no_override words ≡ Some rest → rest.files ≡ names_in Sayings words)
        → (if b then elim o as (λ x. Option GivenFiles) [ None ↦ None | Some more ↦ given_from more words ] else with_file word said (given_from no_override words)) ≡ Some given
        → given.files ≡ names_in Sayings (word ∷ words)
    one true front None in_front behind q = cc
    one true front (Some more) in_front behind q = in_front more given q ∙ sym (no_name_more Sayings word words (ap (λ (b : Bool). not b) front))
    one false file o in_front behind q = file_names word said words given file behind q

pub names_given : (words : List (List ℕ)) (given : GivenFiles) → given_in words ≡ Some given → given.files ≡ names_in Sayings words
names_given words given is = names_from no_override words given is

pub names_of_files : (words : List (List ℕ)) → is_some (some_given words) ≡ true → names_in Sayings words ≡ (files_given words).files
names_of_files [] some = absurd (false≢true some)
names_of_files (word ∷ words) some = one (given_in (word ∷ words)) refl some
  where
    one : (o : Option GivenFiles) → given_in (word ∷ words) ≡ o → is_some o ≡ true → names_in Sayings (word ∷ words) ≡ (unwrap_or o no_files).files
    one None e h = absurd (false≢true h)
    one (Some given) e h = sym (names_given (word ∷ words) given e)

-- ---- files that take turns

pub names_in_turn : (words : List (List ℕ)) (turns : TurnFiles) → turn_files words ≡ Some turns → turns.files ≡ names_in Guards words
unfolding turn_files
names_in_turn [] turns is = ap (λ (t : TurnFiles). t.files) (sym (same_inside is))
names_in_turn (word ∷ words) turns is = one (λ rest e. names_in_turn words rest e) (view word words turns is)
  where
    one : ((rest : TurnFiles) → turn_files words ≡ Some rest → rest.files ≡ names_in Guards words) → View word words turns → turns.files ≡ names_in Guards (word ∷ words)
    one more (IsFile rest file e q) =
        ap (λ (t : TurnFiles). t.files) q ∙ ap (λ (l : List (List ℕ)). word ∷ l) (more rest e) ∙ sym (name_more Guards word words (ap (λ (b : Bool). not b) file))
    one more (IsGuard rest guard share shares g h e s q) =
        ap (λ (t : TurnFiles). t.files) q ∙ more rest e ∙ sym (no_name_more Guards word words (ap (λ (b : Bool). not b) g))
