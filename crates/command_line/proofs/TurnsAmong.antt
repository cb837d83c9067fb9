-- Files that take turns, with their guards, among words.
use Rattle.std.specs.Prelude.{◌≡◌, ◌≢◌, nat_le, ◌&&◌, ℕ, ◌+◌, ◌-◌, ◌≤◌, ◌<◌, Bool, true, false, List, [], ◌∷◌, ◌++◌, length, map, Option, None, Some, is_some, if◌then◌else◌}
use Rattle.std.specs.List.{AllByRecursion, cons_option}
use Rattle.std.specs.Option.{option_map, unwrap_or}
use Rattle.std.proofs.Common.{refl, sym, ap, ◌∙◌, arith, append_assoc, append-nil}
use Rattle.std.proofs.lemmas.Bool.{false≢true}
use Rattle.send_model.specs.Guards.{Guard, GuardSpec, guard_of, is_guard_word}
use Rattle.send_model.proofs.Sorts.{same_inside}
use Rattle.store_model.specs.Turns.{schedule_of}
use Rattle.program_model.specs.TurnWords.{TurnFiles, turn_files, are_turns}
use Rattle.program_model.proofs.TurnWords.{View, IsFile, IsGuard, view, Split, split_guard}
use Rattle.program_model.proofs.TurnGuards.{is_scheduled, are_places}
use Rattle.command_line.specs.Given.{Turns, turns_in, turns_given, turns_among, with_schedule, no_turns, guards_in}
use Rattle.command_line.proofs.GuardWords.{no_guard}

-- ---- the guards

pub guards_in_turn : (words : List (List ℕ)) (turns : TurnFiles) → turn_files words ≡ Some turns → turns.guards ≡ guards_in words
unfolding turn_files
guards_in_turn [] turns is = ap (λ (t : TurnFiles). t.guards) (sym (same_inside is))
guards_in_turn (word ∷ words) turns is = one (λ rest e. guards_in_turn words rest e) (view word words turns is)
  where
    one : ((rest : TurnFiles) → turn_files words ≡ Some rest → rest.guards ≡ guards_in words) → View word words turns → turns.guards ≡ guards_in (word ∷ words)
    one more (IsFile rest file e q) =
        ap (λ (t : TurnFiles). t.guards) q ∙ more rest e ∙ sym (ap (λ (o : Option GuardSpec). cons_option o (guards_in words)) (no_guard word file))
    one more (IsGuard rest guard share shares g h e s q) =
        ap (λ (t : TurnFiles). t.guards) q ∙ ap (λ (l : List GuardSpec). guard ∷ l) (more rest e) ∙ sym (ap (λ (o : Option GuardSpec). cons_option o (guards_in words)) h)

-- ---- how many each file has

-- Guards that stand in front of the first file's own.
abbrev pub onto : ℕ → List ℕ → List ℕ
onto own [] = []
onto own (share ∷ shares) = (own + share) ∷ shares

onto_none : (shares : List ℕ) → onto 0 shares ≡ shares
onto_none [] = refl
onto_none (share ∷ shares) = ap (λ (n : ℕ). n ∷ shares) (omega arith)

-- Some files are counted, and guards of the next one; the others are those of the words that are
-- left.
pub record AreShared (done : List ℕ) (own : ℕ) (left : List (List ℕ)) (turns : TurnFiles) : Type 0 where
  pub rest : TurnFiles
  pub is : turn_files left ≡ Some rest
  pub shares_are : done ++ onto own rest.shares ≡ turns.shares

pub shared_none : (words : List (List ℕ)) (turns : TurnFiles) → turn_files words ≡ Some turns → AreShared [] 0 words turns
shared_none words turns is = record { rest = turns; is = is; shares_are = onto_none turns.shares }

true_false : {P : Type 0} (b : Bool) → b ≡ true → b ≡ false → P
true_false true e f = cc
true_false false e f = cc

pub shared_file : (done : List ℕ) (own : ℕ) (word : List ℕ) (left : List (List ℕ)) (turns : TurnFiles) → is_guard_word word ≡ false
    → AreShared done own (word ∷ left) turns → AreShared (done ++ own ∷ []) 0 left turns
shared_file done own word left turns file s = one (view word left s.rest s.is)
  where
    one : View word left s.rest → AreShared (done ++ own ∷ []) 0 left turns
    one (IsFile rest f e q) = record {
      rest = rest;
      is = e;
      shares_are = ap (λ (l : List ℕ). (done ++ own ∷ []) ++ l) (onto_none rest.shares)
          ∙ append_assoc done (own ∷ []) rest.shares
          ∙ ap (λ (n : ℕ). done ++ n ∷ rest.shares) (omega arith)
          ∙ ap (λ (t : TurnFiles). done ++ onto own t.shares) (sym q) ∙ s.shares_are;
    }
    one (IsGuard rest guard share shares g h e sh q) = true_false (is_guard_word word) g file

pub shared_guard : (done : List ℕ) (own : ℕ) (word : List ℕ) (left : List (List ℕ)) (turns : TurnFiles) → is_guard_word word ≡ true
    → AreShared done own (word ∷ left) turns → AreShared done (own + 1) left turns
shared_guard done own word left turns guards s = one (view word left s.rest s.is)
  where
    one : View word left s.rest → AreShared done (own + 1) left turns
    one (IsFile rest f e q) = true_false (is_guard_word word) guards f
    one (IsGuard rest guard share shares g h e sh q) = record {
      rest = rest;
      is = e;
      shares_are = ap (λ (l : List ℕ). done ++ onto (own + 1) l) sh
          ∙ ap (λ (n : ℕ). done ++ n ∷ shares) (omega arith)
          ∙ ap (λ (t : TurnFiles). done ++ onto own t.shares) (sym q) ∙ s.shares_are;
    }

pub shared_end : (done : List ℕ) (own : ℕ) (turns : TurnFiles) → AreShared done own [] turns → done ≡ turns.shares
unfolding turn_files
shared_end done own turns s = sym (append-nil done) ∙ ap (λ (t : TurnFiles). done ++ onto own t.shares) (same_inside s.is) ∙ s.shares_are

-- ---- what stands

pub are_among : (words : List (List ℕ)) → is_some (turn_files words) ≡ true → turn_files words ≡ Some (turns_among words)
are_among words some = one (turn_files words) some
  where
    one : (o : Option TurnFiles) → is_some o ≡ true → o ≡ Some (unwrap_or o no_turns.files)
    one None h = absurd (false≢true h)
    one (Some turns) h = refl

-- The files are those of the words, and the word is a schedule of these.
pub record Stand (schedule : List ℕ) (words : List (List ℕ)) (turns : Turns) : Type 0 where
  pub files : turn_files words ≡ Some turns.files
  pub scheduled : schedule_of (length turns.files.files) schedule ≡ Some turns.schedule
  pub some : turns.files.files ≢ []

abbrev with_files : List ℕ → Option TurnFiles → Option Turns
with_files schedule o = elim o [ None ↦ None | Some turns ↦ with_schedule schedule turns ]

abbrev if_turns : TurnFiles → Bool → Option (List ℕ) → Option Turns
if_turns turns are scheduled = if are then option_map (λ schedule. record { schedule = schedule; files = turns }) scheduled else None

pub stand : (schedule : List ℕ) (words : List (List ℕ)) → is_some (turns_in schedule words) ≡ true → Stand schedule words (turns_given schedule words)
stand schedule words some = one (turn_files words) refl some
  where
    two : (turns : TurnFiles) → turn_files words ≡ Some turns → (b : Bool) → are_turns turns ≡ b → (s : Option (List ℕ)) → schedule_of (length turns.files) schedule ≡ s
        → is_some (if_turns turns b s) ≡ true → Stand schedule words (unwrap_or (if_turns turns b s) no_turns)
    two turns e true are None q h = absurd (false≢true h)
    two turns e true are (Some places) q h = record {
      files = e;
      scheduled = q;
      some = λ none. false≢true (sym (ap (λ (fs : List (List ℕ)). nat_le 1 (length fs) && nat_le (length fs) 10) none) ∙ are);
    }
    two turns e false are s q h = absurd (false≢true h)

    one : (o : Option TurnFiles) → turn_files words ≡ o → is_some (with_files schedule o) ≡ true → Stand schedule words (unwrap_or (with_files schedule o) no_turns)
    one None e h = absurd (false≢true h)
    one (Some turns) e h = two turns e (are_turns turns) refl (schedule_of (length turns.files) schedule) refl h

pub some_files : (schedule : List ℕ) (words : List (List ℕ)) → is_some (turns_in schedule words) ≡ true → is_some (turn_files words) ≡ true
some_files schedule words some = ap (λ (o : Option TurnFiles). is_some o) (stand schedule words some).files

pub files_are : (schedule : List ℕ) (words : List (List ℕ)) → is_some (turns_in schedule words) ≡ true → turns_among words ≡ (turns_given schedule words).files
files_are schedule words some = ap (λ (o : Option TurnFiles). unwrap_or o no_turns.files) (stand schedule words some).files

-- The letters of a schedule are the places of its files.
pub places_are : (schedule : List ℕ) (words : List (List ℕ)) → is_some (turns_in schedule words) ≡ true
    → map (λ letter. letter - 48) schedule ≡ (turns_given schedule words).schedule
places_are schedule words some = sym (is_scheduled _ schedule _ (stand schedule words some).scheduled).0

pub letters_are : (schedule : List ℕ) (words : List (List ℕ)) → is_some (turns_in schedule words) ≡ true
    → AllByRecursion (λ letter. (48 ≤ letter) × (letter - 48 < length (turns_given schedule words).files.files)) schedule
letters_are schedule words some =
    let s = stand schedule words some in
    are_places (length (turns_given schedule words).files.files) schedule (is_scheduled _ schedule _ s.scheduled).1

-- A word among them that means no guard is a file.
pub is_file : (files : List (List ℕ)) (done : List (List Guard)) (own : List Guard) (word : List ℕ) (left : List (List ℕ)) (turns : TurnFiles)
    → guard_of word ≡ None → Split files done own (word ∷ left) turns → is_guard_word word ≡ false
is_file files done own word left turns none s = one (is_guard_word word) refl
  where
    no_other : {P : Type 0} (o : Option GuardSpec) (guard : GuardSpec) → o ≡ None → o ≡ Some guard → P
    no_other None guard e f = cc
    no_other (Some spec) guard e f = cc

    one : (b : Bool) → is_guard_word word ≡ b → b ≡ false
    one true e = let g = split_guard files done own word left turns e s in no_other (guard_of word) g.0 none g.1
    one false e = refl
