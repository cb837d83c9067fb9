-- What is found out of a file that is read whole: the answer that is due, and where it can be
-- squashed the fates of its WRITE commands.
use Rattle.std.specs.Prelude.{◌≡◌, ℕ, ◌==◌, ◌||◌, Bool, true, false, List, [], ◌∷◌, ◌++◌, Option, None, Some, Result, Ok, Err, is_some, if◌then◌else◌}
use Rattle.std.specs.List.{list_any, AllByRecursion}
use Rattle.std.proofs.Common.{refl, sym, ap, ap₂, subst, ◌∙◌, eqb-true}
use Rattle.std.proofs.lemmas.Bool.{or_parts}
use Rattle.send_model.specs.Refusal.{Refusal, NotConsecutive}
use Rattle.send_model.specs.Command.{Command, End}
use Rattle.send_model.specs.Reading.{Item, Verdict, is_version}
use Rattle.send_model.specs.Receive.{byte_cells, start_of, verdict_of, run_items, run_by, then_run, IsAccepted}
use Rattle.send_model.specs.Store.{Head, Store, State, Stepped, step}
use Rattle.send_model.specs.Order.{heads, commands_of, then_judge, without_parts, last_item}
use Rattle.send_model.specs.Counts.{is_end}
use Rattle.send_model.specs.Cells.{recelled_store}
use Rattle.send_model.specs.Composed.{version_of}
use Rattle.send_model.specs.Laws.{CanWrite}
use Rattle.send_model.specs.Outside.{keys_outside, FindsLawful}
use Rattle.send_model.specs.Due.{RefusedAt, Limited, refused_due}
use Rattle.send_model.specs.Overridden.{Override}
use Rattle.send_model.proofs.Runs.{Takes, takes_run}
use Rattle.send_model.proofs.ReadCommands.{is_output, writable_in_output}
use Rattle.sx_base.specs.Refusals.{verdict_meant}
use Rattle.sx_base.specs.declared.outcome.Outcome.{Outcome}
use Rattle.sx_base.specs.declared.refusal.Refusal.TheVariants as reason
use Rattle.auditor.specs.Following.{read_whole}
use Rattle.squash_model.specs.SquashJudge as due
use Rattle.squash_model.specs.SquashJudge.{nothing_passed, passed_with, is_second, judge_one}
use Rattle.squash_model.specs.Squashed.{stands, unborn, squashed, squashed_from, squashed_of}
use Rattle.squash_model.specs.Liveness.{all_live}
use Rattle.squash_model.proofs.SameSquash.{BornTakes, starts_born}
use Rattle.squash_model.proofs.SquashProved.{takes_lead}
use Rattle.squash_model.proofs.SpelledSquash.{IsInside, squashed_inside, squashed_end}
use Rattle.squash_log.specs.Fates.{Fate, fates_of}
use Rattle.squash_log.specs.Resolved.{blank_start, blank_end, changes_by, by_fates}
use Rattle.squash_log.proofs.Resolving.{fates_squash_the_same}
use Rattle.squasher.specs.declared.judging.Judged.{Judged}
use Rattle.squash_model.specs.SquashDues.{squash_due, stop_or, verdict_or}
use Rattle.squasher.specs.Judging.{HaveSameShape, read_with, Sight, JudgedBy}
use Rattle.squasher.specs.Squashing.{Stops, IsFound, JudgeOver}
use Rattle.squasher.proofs.Keeping.{Blank, judge_blank, judged_blank, HeadsAre, IsClosed, Keeps, keeps_whole}

abbrev pub blank_of : {C : Type 0} → Store C → Store Blank
blank_of core = recelled_store (λ c. tt) core

-- ---- the answer that is due

-- Over a base of the same shape as the subvolumes.
pub judged_over : {C : Type 0} (core : Store C) (base : Store ℕ) → HaveSameShape core base → (items : List Item) → judge_one (start_of base) nothing_passed items ≡ judge_blank (start_of (blank_of core)) nothing_passed items
judged_over core base same items = judged_blank base items ∙ ap (λ (s : Store Blank). judge_blank (start_of s) nothing_passed items) (sym same)

pub due_refused : (base : Store ℕ) (read : Limited) (verdict : Verdict) → judge_one (start_of base) nothing_passed read.items ≡ Some verdict → squash_due base read ≡ RefusedAt verdict
due_refused base read verdict e = ap (λ (o : Option Verdict). verdict_or o (stop_or read.stop (refused_due (without_parts read.items (heads read.items))))) e

pub due_stop : (base : Store ℕ) (read : Limited) → judge_one (start_of base) nothing_passed read.items ≡ None → squash_due base read ≡ stop_or read.stop (refused_due (without_parts read.items (heads read.items)))
due_stop base read e = ap (λ (o : Option Verdict). verdict_or o (stop_or read.stop (refused_due (without_parts read.items (heads read.items))))) e

-- ---- what has no verdict is taken

record Allowed (item : Item) (state : State ℕ) (passed : due.Passed) (rest : Option Verdict) : Type 0 where
  taken : (step 0 (byte_cells item) state item.command).refusal ≡ None
  later : rest ≡ None

allowed : (item : Item) (state : State ℕ) (passed : due.Passed) (rest : Option Verdict) → then_judge item (step 0 (byte_cells item) state item.command) (is_second passed item) rest ≡ None → Allowed item state passed rest
allowed item state passed rest e = one (step 0 (byte_cells item) state item.command).refusal refl (is_second passed item) e
  where
    one : (o : Option Refusal) → (step 0 (byte_cells item) state item.command).refusal ≡ o → (b : Bool)
        → (elim o as (λ x. Option Verdict) [ Some refusal ↦ Some (verdict_of item refusal) | None ↦ (if b then Some (verdict_of item NotConsecutive) else rest) ]) ≡ None
        → Allowed item state passed rest
    one (Some refusal) t b q = cc
    one None t true q = cc
    one None t false q = record { taken = t; later = q }

takes_all : (items : List Item) (state : State ℕ) (passed : due.Passed) → judge_one state passed items ≡ None → (run_items 0 byte_cells state items).refused ≡ None
unfolding judge_one run_items run_by
takes_all [] state passed e = refl
takes_all (item ∷ items) state passed e =
    let next : Stepped ℕ = step 0 (byte_cells item) state item.command in
    let a = allowed item state passed (judge_one next.state (passed_with passed item) items) e in
    on next.refusal a.taken (takes_all items next.state (passed_with passed item) a.later)
  where
    on : (o : Option Refusal) → o ≡ None → (run_by (λ s i. step 0 (byte_cells i) s i.command) (step 0 (byte_cells item) state item.command).state items).refused ≡ None
        → (then_run item (record { state = (step 0 (byte_cells item) state item.command).state; refusal = o }) (run_by (λ s i. step 0 (byte_cells i) s i.command) (step 0 (byte_cells item) state item.command).state items)).refused ≡ None
    on None t more = more
    on (Some refusal) t more = cc

-- ---- the version

some_version : (v : ℕ) (items : List Item) (last : Item) → last_item items ≡ Some last → AllByRecursion (λ i. i.version ≡ v) items → list_any (λ i. i.version == 2) items ≡ (v == 2)
some_version v [] last e all = cc
some_version v (i ∷ []) last e all = ap (λ (n : ℕ). (n == 2) || false) all.0 ∙ or_false (v == 2)
  where
    or_false : (b : Bool) → (b || false) ≡ b
    or_false true = refl
    or_false false = refl
some_version v (i ∷ next ∷ items) last e all = ap₂ (λ (n : ℕ) (b : Bool). (n == 2) || b) all.0 (some_version v (next ∷ items) last e all.1) ∙ or_self (v == 2)
  where
    or_self : (b : Bool) → (b || b) ≡ b
    or_self true = refl
    or_self false = refl

version_is : (v : ℕ) (items : List Item) (last : Item) → last_item items ≡ Some last → is_version v ≡ true → AllByRecursion (λ i. i.version ≡ v) items → v ≡ version_of items
unfolding version_of
version_is v items last e fits all = one (v == 2) refl ∙ sym (ap (λ (b : Bool). if b then 2 else 1) (some_version v items last e all))
  where
    first : (b : Bool) → (v == 1) ≡ b → (b || false) ≡ true → v ≡ 1
    first true p q = eqb-true v 1 p
    first false p q = cc

    one : (b : Bool) → (v == 2) ≡ b → v ≡ (if b then 2 else 1)
    one true p = eqb-true v 2 p
    one false p = first (v == 1) refl (ap (λ (x : Bool). (v == 1) || x) (sym p) ∙ fits)

-- ---- what is squashed can be spelled

all_front : {A : Type 0} (P : A → Type 0) (xs ys : List A) → AllByRecursion P (xs ++ ys) → AllByRecursion P xs
all_front P [] ys all = tt
all_front P (x ∷ xs) ys all = (all.0, all_front P xs ys all.1)

all_both : {A : Type 0} (P : A → Type 0) (xs ys zs : List A) → AllByRecursion P (xs ++ zs) → AllByRecursion P ys → AllByRecursion P (ys ++ zs)
all_both P [] [] zs all ys = all
all_both P (x ∷ xs) [] zs all ys = all_both P xs [] zs all.1 ys
all_both P xs (y ∷ ys) zs all more = (more.0, all_both P xs ys zs all more.1)

are_inside : (version : ℕ) (cs : List Command) → AllByRecursion (CanWrite version) cs → list_any is_end cs ≡ false → AllByRecursion (IsInside version) cs
are_inside version [] all none = tt
are_inside version (c ∷ cs) all none = let p = or_parts (is_end c) (list_any is_end cs) none in ((all.0, p.0), are_inside version cs all.1 p.1)

only_written : (version : ℕ) (cs : List Command) → AllByRecursion (IsInside version) cs → AllByRecursion (CanWrite version) cs
only_written version [] all = tt
only_written version (c ∷ cs) all = (all.0.0, only_written version cs all.1)

module _ (base : Store ℕ) (items : List Item) (front : List Command) (front_is : commands_of items ≡ front ++ End ∷ []) (no_end : list_any is_end front ≡ false)
    (writable : AllByRecursion (λ item. CanWrite item.version item.command × (is_version item.version ≡ true)) items) (accepted : IsAccepted (run_items 0 byte_cells (start_of base) items)) where
  squashed_spelled : AllByRecursion (CanWrite (version_of items)) (squashed_of base items)
  squashed_spelled =
      let version : ℕ = version_of items in
      let cs : List Command = commands_of items in
      let end : State ℕ = (run_items 0 byte_cells (start_of base) items).state in
      let takes : Takes (start_of base) cs end = takes_run items (start_of base) accepted in
      let born : BornTakes 0 (unborn base) (front ++ End ∷ []) = subst (λ (ds : List Command). BornTakes 0 (unborn base) ds) front_is (starts_born base cs end (takes_lead cs (start_of base) end takes)) in
      let all : AllByRecursion (CanWrite version) (front ++ End ∷ []) = subst (λ (ds : List Command). AllByRecursion (CanWrite version) ds) front_is (writable_in_output items writable) in
      let inside = are_inside version front (all_front (CanWrite version) front (End ∷ []) all) no_end in
      let standing = stands base cs in
      let is : squashed base cs ≡ squashed_from standing 0 (unborn base) front ++ End ∷ [] =
      ap (λ (ds : List Command). squashed_from standing 0 (unborn base) ds) front_is ∙ squashed_end standing version (is_output items) front 0 (unborn base) in
      subst (λ (ds : List Command). AllByRecursion (CanWrite version) ds) (sym is)
      (all_both (CanWrite version) front (squashed_from standing 0 (unborn base) front) (End ∷ []) all
      (only_written version (squashed_from standing 0 (unborn base) front) (squashed_inside standing version (is_output items) front (End ∷ []) 0 (unborn base) inside born)))

-- ---- a file that is read whole

module _ {C : Type 0} (file : ℕ) (core : Store C) (said : Override) (bytes : List ℕ) (items : List Item) (now : Sight) (whole : read_with said file bytes ≡ read_whole items)
    (k : Keeps file (start_of (blank_of core)) items now) (c : IsClosed (start_of (blank_of core)) file items now) where
  none_due : (base : Store ℕ) → HaveSameShape core base → judge_one (start_of base) nothing_passed items ≡ None
  none_due base shape = judged_over core base shape items ∙ keeps_whole file (start_of (blank_of core)) items now k

  -- It has no part.
  without : (base : Store ℕ) → HaveSameShape core base → now.fates ≡ None → squash_due base (read_whole items) ≡ RefusedAt (verdict_of c.last NotConsecutive)
  without base shape none =
      let no_heads : heads items ≡ [] = subst (λ (b : Bool). HeadsAre b (heads items)) (ap (λ (f : Option (List Fate)). is_some f) none) c.heads_are in
      due_stop base (read_whole items) (none_due base shape)
      ∙ ap (λ (hs : List Head). refused_due (without_parts items hs)) no_heads
      ∙ ap (λ (o : Option Item). refused_due (elim o as (λ x. Option Verdict) [ None ↦ None | Some item ↦ Some (verdict_of item NotConsecutive) ])) c.last_is

  last_verdict : verdict_of c.last NotConsecutive ≡ verdict_meant (record { file = file; command = now.passed.number; offset = now.passed.offset; refusal = reason.NotConsecutive })
  last_verdict =
      ap₂ (λ (f : ℕ) (n : ℕ). record { file = f; command = n; offset = c.last.offset; refusal = NotConsecutive }) c.file_is c.number_is
      ∙ ap (λ (o : ℕ). record { file = file; command = now.passed.number; offset = o; refusal = NotConsecutive }) c.offset_is

  -- It has one.
  one_head : (found : List Fate) → now.fates ≡ Some found → HeadsAre true (heads items)
  one_head found some = subst (λ (b : Bool). HeadsAre b (heads items)) (ap (λ (f : Option (List Fate)). is_some f) some) c.heads_are

  found_out : (found : Judged) → (now.fates ≡ Some found.fates) → (found.version ≡ now.passed.version) → (found.commands ≡ now.passed.number)
      → (base : Store ℕ) → HaveSameShape core base → FindsLawful base (keys_outside items) → IsFound base (read_whole items) found
  found_out found some version commands base shape lawful =
      let h = one_head found.fates some in
      let accepted = takes_all items (start_of base) nothing_passed (none_due base shape) in
      let fates : found.fates ≡ fates_of (changes_by (blank_start base) c.front) (all_live (blank_end (blank_start base) c.front).part) =
      c.fates_are found.fates some ∙ ap (λ (s : Store Blank). fates_of (changes_by (start_of s) c.front) (all_live (blank_end (start_of s) c.front).part)) shape in
      let same : by_fates found.fates c.front ++ End ∷ [] ≡ squashed_of base items =
      ap (λ (fs : List Fate). by_fates fs c.front ++ End ∷ []) fates ∙ fates_squash_the_same base items c.front h.0 c.front_is c.no_end h.1 lawful accepted in
      let is : now.passed.version ≡ version_of items = version_is now.passed.version items c.last c.last_is k.version_fits k.versions in
      let spelled = squashed_spelled base items c.front c.front_is c.no_end k.writable accepted in
      record {
        done = due_stop base (read_whole items) (none_due base shape) ∙ ap (λ (hs : List Head). refused_due (without_parts items hs)) h.1;
        version = version ∙ is;
        commands = commands ∙ k.counted;
        front = c.front;
        front_is = c.front_is;
        no_end = c.no_end;
        fates_are = fates;
        squashed = same;
        writable = k.writable;
        versions = subst (λ (v : ℕ). AllByRecursion (λ item. item.version ≡ v) items) (sym version) k.versions;
        spelled = all_front (CanWrite found.version) (by_fates found.fates c.front) (End ∷ [])
            (subst (λ (v : ℕ). AllByRecursion (CanWrite v) (by_fates found.fates c.front ++ End ∷ [])) (sym (version ∙ is))
            (subst (λ (ds : List Command). AllByRecursion (CanWrite (version_of items)) ds) (sym same) spelled));
      }

  pub by_result : (r : Result Judged Outcome) → JudgedBy file now r → JudgeOver core said file r bytes
  by_result (Ok found) (some, version, commands) = λ base shape lawful.
      subst (λ (l : Limited). IsFound base l found) (sym whole)
      (found_out found some version commands base shape (subst (λ (l : Limited). FindsLawful base (keys_outside l.items)) whole lawful))
  by_result (Err outcome) (none, is) = λ base shape.
      subst (λ (x : Outcome). Stops (squash_due base (read_with said file bytes)) x) (sym is)
      (ap (squash_due base) whole ∙ without base shape none ∙ ap RefusedAt last_verdict)
