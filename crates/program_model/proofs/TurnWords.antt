-- The words of files that take turns, one after the other.
use Rattle.std.specs.Prelude.{◌≡◌, ℕ, zero, suc, Bool, true, false, List, [], ◌∷◌, ◌++◌, length, drop, Option, None, Some, if◌then◌else◌}
use Rattle.std.proofs.Common.{refl, sym, ap, subst, ◌∙◌, append_assoc, append-nil}
use Rattle.send_model.specs.Guards.{Guard, GuardSpec, new_guard, guard_of, is_guard_word}
use Rattle.send_model.specs.Words.{new_guards}
use Rattle.store_model.specs.TurnDues.{shared}
use Rattle.send_model.proofs.Sorts.{same_inside}
use Rattle.program_model.specs.TurnWords.{TurnFiles, with_guard, with_file, turn_files}

-- ---- one word more

-- A word is a file, or a guard of the first file behind it.
pub data View (word : List ℕ) (words : List (List ℕ)) (turns : TurnFiles) : Type 0 where
  IsFile : (rest : TurnFiles) → is_guard_word word ≡ false → turn_files words ≡ Some rest → turns ≡ with_file word rest → View word words turns
  IsGuard : (rest : TurnFiles) (guard : GuardSpec) (share : ℕ) (shares : List ℕ) → is_guard_word word ≡ true → guard_of word ≡ Some guard → turn_files words ≡ Some rest
      → rest.shares ≡ share ∷ shares → turns ≡ record { guards = guard ∷ rest.guards; shares = suc share ∷ shares; files = rest.files } → View word words turns

pub view : (word : List ℕ) (words : List (List ℕ)) (turns : TurnFiles) → turn_files (word ∷ words) ≡ Some turns → View word words turns
unfolding turn_files
view word words turns is = one (turn_files words) refl is
  where
    four : (rest : TurnFiles) (guard : GuardSpec) → turn_files words ≡ Some rest → is_guard_word word ≡ true → guard_of word ≡ Some guard → (shares : List ℕ) → rest.shares ≡ shares
        → (elim shares as (λ x. Option TurnFiles) [ [] ↦ None | share ∷ more ↦ Some (record { guards = guard ∷ rest.guards; shares = suc share ∷ more; files = rest.files }) ]) ≡ Some turns
        → View word words turns
    four rest guard e g h [] s q = cc
    four rest guard e g h (share ∷ shares) s q = IsGuard rest guard share shares g h e s (sym (same_inside q))

    three : (rest : TurnFiles) → turn_files words ≡ Some rest → is_guard_word word ≡ true → (o : Option GuardSpec) → guard_of word ≡ o
        → (elim o as (λ x. Option TurnFiles) [ None ↦ None | Some guard ↦ with_guard guard rest ]) ≡ Some turns → View word words turns
    three rest e g None h q = cc
    three rest e g (Some guard) h q = four rest guard e g h rest.shares refl q

    two : (rest : TurnFiles) → turn_files words ≡ Some rest → (b : Bool) → is_guard_word word ≡ b
        → (if b then elim (guard_of word) as (λ x. Option TurnFiles) [ None ↦ None | Some guard ↦ with_guard guard rest ] else Some (with_file word rest)) ≡ Some turns → View word words turns
    two rest e true g q = three rest e g (guard_of word) refl q
    two rest e false g q = IsFile rest g e (sym (same_inside q))

    one : (o : Option TurnFiles) → turn_files words ≡ o
        → (elim o as (λ x. Option TurnFiles) [
          | None ↦ None
          | Some rest ↦ if is_guard_word word then elim (guard_of word) as (λ x. Option TurnFiles) [ None ↦ None | Some guard ↦ with_guard guard rest ] else Some (with_file word rest)
        ]) ≡ Some turns → View word words turns
    one None e q = cc
    one (Some rest) e q = two rest e (is_guard_word word) refl q

true_false : {P : Type 0} (b : Bool) → b ≡ true → b ≡ false → P
true_false true e f = cc
true_false false e f = cc

-- What words mean that a word stands in front of.
pub file_more : (word : List ℕ) (words : List (List ℕ)) (rest : TurnFiles) → turn_files words ≡ Some rest → is_guard_word word ≡ false → turn_files (word ∷ words) ≡ Some (with_file word rest)
unfolding turn_files
file_more word words rest is file =
    ap (λ (o : Option TurnFiles). elim o as (λ x. Option TurnFiles) [
      | None ↦ None
      | Some r ↦ if is_guard_word word then elim (guard_of word) as (λ x. Option TurnFiles) [ None ↦ None | Some guard ↦ with_guard guard r ] else Some (with_file word r)
    ]) is
    ∙ ap (λ (b : Bool). if b then elim (guard_of word) as (λ x. Option TurnFiles) [ None ↦ None | Some guard ↦ with_guard guard rest ] else Some (with_file word rest)) file

pub guard_more : (word : List ℕ) (words : List (List ℕ)) (rest : TurnFiles) (said : Option GuardSpec) → turn_files words ≡ Some rest → is_guard_word word ≡ true → guard_of word ≡ said
    → turn_files (word ∷ words) ≡ elim said as (λ x. Option TurnFiles) [ None ↦ None | Some guard ↦ with_guard guard rest ]
unfolding turn_files
guard_more word words rest said is guard means =
    ap (λ (o : Option TurnFiles). elim o as (λ x. Option TurnFiles) [
      | None ↦ None
      | Some r ↦ if is_guard_word word then elim (guard_of word) as (λ x. Option TurnFiles) [ None ↦ None | Some guard ↦ with_guard guard r ] else Some (with_file word r)
    ]) is
    ∙ ap (λ (b : Bool). if b then elim (guard_of word) as (λ x. Option TurnFiles) [ None ↦ None | Some guard ↦ with_guard guard rest ] else Some (with_file word rest)) guard
    ∙ ap (λ (o : Option GuardSpec). elim o as (λ x. Option TurnFiles) [ None ↦ None | Some guard ↦ with_guard guard rest ]) means

-- Where some last words mean nothing, all of them mean nothing.
none_more : (word : List ℕ) (words : List (List ℕ)) → turn_files words ≡ None → turn_files (word ∷ words) ≡ None
unfolding turn_files
none_more word words is =
    ap (λ (o : Option TurnFiles). elim o as (λ x. Option TurnFiles) [
      | None ↦ None
      | Some r ↦ if is_guard_word word then elim (guard_of word) as (λ x. Option TurnFiles) [ None ↦ None | Some guard ↦ with_guard guard r ] else Some (with_file word r)
    ]) is

pub none_before : (n : ℕ) (words : List (List ℕ)) → turn_files (drop n words) ≡ None → turn_files words ≡ None
none_before zero words is = is
none_before (suc n) [] is = is
none_before (suc n) (word ∷ words) is = none_more word words (none_before n words is)

-- As many shares as files.
pub as_many : (words : List (List ℕ)) (turns : TurnFiles) → turn_files words ≡ Some turns → length turns.shares ≡ length turns.files
unfolding turn_files
as_many [] turns is = subst (λ (t : TurnFiles). length t.shares ≡ length t.files) (same_inside is) refl
as_many (word ∷ words) turns is = one (λ rest e. as_many words rest e) (view word words turns is)
  where
    one : ((rest : TurnFiles) → turn_files words ≡ Some rest → length rest.shares ≡ length rest.files) → View word words turns → length turns.shares ≡ length turns.files
    one more (IsFile rest file e q) = subst (λ (t : TurnFiles). length t.shares ≡ length t.files) (sym q) (ap (λ (n : ℕ). suc n) (more rest e))
    one more (IsGuard rest guard share shares g h e s q) =
        subst (λ (t : TurnFiles). length t.shares ≡ length t.files) (sym q) (sym (ap (λ (l : List ℕ). length l) s) ∙ more rest e)

-- ---- guards file by file

abbrev pub per_file : TurnFiles → List (List Guard)
per_file turns = shared (new_guards turns.guards) turns.shares

-- Guards in front of the first file's own.
abbrev pub onto : List Guard → List (List Guard) → List (List Guard)
onto own [] = []
onto own (first ∷ more) = (own ++ first) ∷ more

onto_none : (all : List (List Guard)) → onto [] all ≡ all
onto_none [] = refl
onto_none (first ∷ more) = refl

onto_one : (own : List Guard) (guard : Guard) (first : List Guard) (more : List (List Guard)) → onto (own ++ guard ∷ []) (first ∷ more) ≡ onto own ((guard ∷ first) ∷ more)
onto_one own guard first more = ap (λ (l : List Guard). l ∷ more) (append_assoc own (guard ∷ []) first)

-- Some files with their guards are taken, and guards of the next one; the others are those of the
-- words that are left.
pub record Split (files : List (List ℕ)) (done : List (List Guard)) (own : List Guard) (left : List (List ℕ)) (turns : TurnFiles) : Type 0 where
  pub rest : TurnFiles
  pub is : turn_files left ≡ Some rest
  pub files_are : files ++ rest.files ≡ turns.files
  pub guards_are : done ++ onto own (per_file rest) ≡ per_file turns

pub split_start : (words : List (List ℕ)) (turns : TurnFiles) → turn_files words ≡ Some turns → Split [] [] [] words turns
split_start words turns is = record { rest = turns; is = is; files_are = refl; guards_are = onto_none (per_file turns) }

pub split_file : (files : List (List ℕ)) (done : List (List Guard)) (own : List Guard) (word : List ℕ) (left : List (List ℕ)) (turns : TurnFiles) → is_guard_word word ≡ false
    → Split files done own (word ∷ left) turns → Split (files ++ word ∷ []) (done ++ own ∷ []) [] left turns
unfolding shared
split_file files done own word left turns file s = one (view word left s.rest s.is)
  where
    one : View word left s.rest → Split (files ++ word ∷ []) (done ++ own ∷ []) [] left turns
    one (IsFile rest f e q) = record {
      rest = rest;
      is = e;
      files_are = append_assoc files (word ∷ []) rest.files ∙ ap (λ (t : TurnFiles). files ++ t.files) (sym q) ∙ s.files_are;
      guards_are = ap (λ (l : List (List Guard)). (done ++ own ∷ []) ++ l) (onto_none (per_file rest))
          ∙ append_assoc done (own ∷ []) (per_file rest)
          ∙ ap (λ (l : List Guard). done ++ l ∷ per_file rest) (sym (append-nil own))
          ∙ ap (λ (t : TurnFiles). done ++ onto own (per_file t)) (sym q) ∙ s.guards_are;
    }
    one (IsGuard rest guard share shares g h e sh q) = true_false (is_guard_word word) g file

pub split_guard : (files : List (List ℕ)) (done : List (List Guard)) (own : List Guard) (word : List ℕ) (left : List (List ℕ)) (turns : TurnFiles) → is_guard_word word ≡ true
    → Split files done own (word ∷ left) turns → (guard : GuardSpec) × (guard_of word ≡ Some guard) × Split files done (own ++ new_guard guard ∷ []) left turns
unfolding shared
split_guard files done own word left turns guards s = one (view word left s.rest s.is)
  where
    one : View word left s.rest → (guard : GuardSpec) × (guard_of word ≡ Some guard) × Split files done (own ++ new_guard guard ∷ []) left turns
    one (IsFile rest f e q) = true_false (is_guard_word word) guards f
    one (IsGuard rest guard share shares g h e sh q) = (
      guard,
      h,
      record {
        rest = rest;
        is = e;
        files_are = ap (λ (t : TurnFiles). files ++ t.files) (sym q) ∙ s.files_are;
        guards_are = ap (λ (l : List ℕ). done ++ onto (own ++ new_guard guard ∷ []) (shared (new_guards rest.guards) l)) sh
            ∙ ap (λ (l : List (List Guard)). done ++ l) (onto_one own (new_guard guard) _ _)
            ∙ ap (λ (t : TurnFiles). done ++ onto own (per_file t)) (sym q) ∙ s.guards_are;
      },
    )

pub split_end : (files : List (List ℕ)) (done : List (List Guard)) (own : List Guard) (turns : TurnFiles) → Split files done own [] turns → (files ≡ turns.files) × (done ≡ per_file turns)
unfolding shared turn_files
split_end files done own turns s = (
  (sym (append-nil files) ∙ ap (λ (t : TurnFiles). files ++ t.files) (same_inside s.is)) ∙ s.files_are,
  (sym (append-nil done) ∙ ap (λ (t : TurnFiles). done ++ onto own (per_file t)) (same_inside s.is)) ∙ s.guards_are,
)
