-- The whole export: over cells of any kind, and with what it wrote.
use Rattle.std.specs.Prelude.{◌≡◌, ℕ, ◌≤◌, true, List, [], ◌∷◌, ◌++◌, take, Option, None, Some, Err}
use Rattle.std.proofs.Common.{refl, sym, ap, subst, ◌∙◌, append-nil, arith, inl, inr}
use Rattle.std.proofs.KnownBytes.{Appends-trans}
use Rattle.std.specs.Io.KnownBytes.{Appends}
use Rattle.send_model.specs.Refusal.{Refusal}
use Rattle.send_model.specs.Reading.{Item, Verdict, input}
use Rattle.send_model.specs.Receive.{Ran, run_by, then_run, byte_cells, start_of}
use Rattle.send_model.specs.Store.{Store, State, After}
use Rattle.send_model.specs.Guards.{Watched, watched_step, refused_from, looked}
use Rattle.send_model.specs.Cells.{recelled_state}
use Rattle.send_model.specs.Headline.{IsFrontOf}
use Rattle.send_model.specs.Due.{Due, RefusedAt, Limited, limited_from, stop_due, audit_due_of}
use Rattle.send_model.specs.Overridden.{Overrides, overridden, overridden_limited}
use Rattle.send_model.specs.Exported.{Exporting, exporting, separated_by, exported_of, byte_step, AreSmallBy}
use Rattle.send_model.specs.Receivable.{exported_from}
use Rattle.send_model.specs.Words.{Export}
use Rattle.send_model.proofs.Fronts.{is_front, part_front}
use Rattle.send_model.proofs.CellClones.{all_steps-cells}
use Rattle.send_model.proofs.SeparatedCells.{blank_separated, blank_small}
use Rattle.sx_base.specs.Calls.{IfAllTold, Wrote, Caused}
use Rattle.sx_base.specs.declared.outcome.Outcome.{Outcome}
use Rattle.sx_base.specs.declared.outcome.Outcome.TheVariants as ended
use Rattle.sx_base.specs.Outside.{AppendsPart}
use Rattle.part_names.specs.Overriding.{EndsOf, sources_with}
use Rattle.stream_dump.specs.declared.gathering.Gathered.{Gathered}
use Rattle.stream_dump.specs.Steps.{last_bytes}
use Rattle.stream_dump.proofs.Unpacked.{EndsWith}
use Rattle.auditor.specs.Following.{blank, HaveSameShape, Followed, follow, follow_all, beside, due_from_here}
use Rattle.stream_export.specs.Exporting.{Blank, blank_does, Point, written_from, SmallFrom}
use Rattle.stream_export.specs.Steps.{point_at, Passes}
use Rattle.stream_export.proofs.Unpacked.{Stops, AllTaken, AllEnd}
use Rattle.stream_export.proofs.Going.{follow_plain}

-- Where an export begins.
abbrev pub start_over : {C : Type 0} → Store C → Point
start_over core = record { now = exporting (blank core); begins = true }

-- What is written over a store of bytes.
written_is : {C : Type 0} (core : Store C) (store : Store ℕ) (items : List Item) → HaveSameShape core store → written_from (start_over core) items ≡ exported_of store items
written_is core store items same =
    ap (λ (s : Store Blank). exported_from true (separated_by blank_does (exporting s) items)) same ∙ ap (exported_from true) (blank_separated store items)

small_is : {C : Type 0} (core : Store C) (store : Store ℕ) (items : List Item) → HaveSameShape core store → SmallFrom (start_over core) items → AreSmallBy byte_step (start_of store) items
small_is core store items same small = blank_small store items (subst (λ (s : Store Blank). AreSmallBy blank_does (start_of s) items) same small)

-- ---- the answer that is due

-- A state without its cells, and no guards.
abbrev unwatched : State ℕ → Followed
unwatched state = beside [] (recelled_state (λ _. tt) state)

same_follow : (state : State ℕ) (item : Item) → follow (unwatched state) item ≡ record { state = unwatched (byte_step state item).state; refusal = (byte_step state item).refusal }
same_follow state item =
    follow_plain (recelled_state (λ _. tt) state) item
    ∙ ap (λ (a : After (State Blank)). record { state = beside [] a.state; refusal = a.refusal }) (all_steps-cells (λ _. tt) item.command 0 (byte_cells item) state)

-- No guards, beside a state of bytes, and where items lead from there.
abbrev unguarded : State ℕ → Watched (State ℕ)
unguarded state = record { guards = []; state = state }

abbrev ran_from : State ℕ → List Item → Ran (Watched (State ℕ))
ran_from state items = run_by (watched_step byte_step) (unguarded state) items

-- The same command is refused.
same_refused : (items : List Item) (state : State ℕ) → (follow_all (unwatched state) items).refused ≡ (ran_from state items).refused
unfolding run_by refused_from looked
same_refused [] state = refl
same_refused (item ∷ items) state =
    ap (λ (a : After Followed). (then_run item a (follow_all a.state items)).refused) (same_follow state item)
    ∙ one (byte_step state item).refusal (same_refused items next)
  where
    next : State ℕ
    next = (byte_step state item).state

    one : (o : Option Refusal) → (follow_all (unwatched next) items).refused ≡ (ran_from next items).refused
        → (then_run item (record { state = unwatched next; refusal = o }) (follow_all (unwatched next) items)).refused
        ≡ (then_run item (record { state = unguarded next; refusal = o }) (ran_from next items)).refused
    one None more = more
    one (Some refusal) more = refl

-- So the answer that is due does not look at cells.
due_is : {C : Type 0} (core : Store C) (store : Store ℕ) (read : Limited) → HaveSameShape core store → due_from_here (beside [] (start_over core).now.state) read ≡ audit_due_of store [] read
due_is core store read same =
    ap (λ (s : Store Blank). due_from_here (beside [] (start_of s)) read) same
    ∙ ap (λ (o : Option Verdict). elim o as (λ x. Due) [ Some verdict ↦ RefusedAt verdict | None ↦ stop_due read.stop ]) (same_refused read.items (start_of store))

-- ---- the end

-- All that was gathered is written, or a front part of it.
module _ {C : Type 0} (core : Store C) (store : Store ℕ) (same : HaveSameShape core store) (overrides : Overrides) (files : List (List ℕ)) (bytes : List ℕ) (taken_old taken_mid taken_now : Option (List ℕ)) (before now : ℕ) where
  abbrev Read : Limited
  Read = overridden_limited overrides (limited_from 1 files)

  abbrev All : List ℕ
  All = written_from (start_over core) Read.items

  abbrev Exported : List ℕ
  Exported = exported_of store Read.items

  -- The output failed in the middle.
  cut : Passes [] bytes All taken_old taken_mid → (count : ℕ) → Appends taken_mid taken_now (take count bytes) → Wrote taken_old taken_now (IsFrontOf Exported)
  cut p count appends =
      let whole : Exported ≡ (p.sent ++ bytes) ++ [] = sym (written_is core store Read.items same) ∙ sym p.bytes_are ∙ sym (append-nil (p.sent ++ bytes)) in (
        p.sent ++ take count bytes,
        Appends-trans taken_old taken_mid taken_now p.sent (take count bytes) p.appends appends,
        part_front Exported p.sent bytes [] count whole,
      )

  -- All of it is written.
  all : Passes [] bytes All taken_old taken_mid → Appends taken_mid taken_now bytes → Wrote taken_old taken_now (λ w. w ≡ Exported)
  all p appends = (p.sent ++ bytes, Appends-trans taken_old taken_mid taken_now p.sent bytes p.appends appends, p.bytes_are ∙ written_is core store Read.items same)

  front_of_all : Wrote taken_old taken_mid (IsFrontOf All) → Appends taken_mid taken_now [] → Wrote taken_old taken_now (IsFrontOf Exported)
  front_of_all (w, appends, front) none =
      let f : IsFrontOf Exported w = subst (λ (l : List ℕ). IsFrontOf l w) (written_is core store Read.items same) front in
      (w ++ [], Appends-trans taken_old taken_mid taken_now w [] appends none, subst (IsFrontOf Exported) (sym (append-nil w)) f)

  is_all_front : (w : List ℕ) → w ≡ Exported → IsFrontOf Exported w
  is_all_front w is = is_front Exported w [] (sym is ∙ sym (append-nil w))

  abbrev Answered : Outcome → Type 0
  Answered result = Wrote taken_old taken_now (λ written. EndsOf (Export 0 0) store (sources_with overrides files) result written)

  -- What was gathered is written, or the output failed in the middle.
  written : (outcome : Outcome) → Stops (start_over core) Read [] bytes taken_old taken_mid outcome → Appends taken_mid taken_now (last_bytes outcome bytes) → Answered outcome
  written (ended.Refused verdict) (d, p) appends = let (w, a, is) = all p appends in (w, a, (sym (due_is core store Read same) ∙ d, is))
  written (ended.InputTooLong file) (d, p) appends = let (w, a, is) = all p appends in (w, a, (sym (due_is core store Read same) ∙ d, is_all_front w is))
  written ended.InputFault front none = front_of_all front none
  written ended.OutputFault front none = front_of_all front none
  written ended.NoMemory front none = front_of_all front none
  written ended.Done stops appends = absurd stops
  written (ended.TooMuch sum) stops appends = absurd stops
  written (ended.InputChanged file place) stops appends = absurd stops

  broken : (outcome : Outcome) → Stops (start_over core) Read [] bytes taken_old taken_mid outcome → AppendsPart taken_mid taken_now (last_bytes outcome bytes) → Answered ended.OutputFault
  broken (ended.Refused verdict) (d, p) (count, less, appends) = cut p count appends
  broken (ended.InputTooLong file) (d, p) (count, less, appends) = cut p count appends
  broken ended.InputFault front (count, less, appends) = absurd (omega (arith, less))
  broken ended.OutputFault front (count, less, appends) = absurd (omega (arith, less))
  broken ended.NoMemory front (count, less, appends) = absurd (omega (arith, less))
  broken ended.Done stops part = absurd stops
  broken (ended.TooMuch sum) stops part = absurd stops
  broken (ended.InputChanged file place) stops part = absurd stops

  pub stops_end : (outcome result : Outcome) → Stops (start_over core) Read [] bytes taken_old taken_mid outcome → EndsWith bytes outcome taken_mid taken_now before now result → Answered result
  stops_end outcome result stops (inl (is, appends)) = subst Answered (sym is) (written outcome stops appends)
  stops_end outcome result stops (inr (is, rose, part)) = subst Answered (sym is) (broken outcome stops part)

  pub taken_end : (result : Outcome) → AllTaken overrides (start_over core) [] bytes taken_old taken_mid files → EndsWith bytes ended.Done taken_mid taken_now before now result → Answered result
  taken_end result t (inl (is, appends)) =
      let (w, a, same_bytes) = all t.passes appends in
      subst Answered (sym is) (w, a, (sym (due_is core store Read same) ∙ t.done, same_bytes))
  taken_end result t (inr (is, rose, part)) = subst Answered (sym is) (cut t.passes part.0 part.2)

  -- What stops before the end is not done.
  pub never_done : (outcome result : Outcome) → Stops (start_over core) Read [] bytes taken_old taken_mid outcome → EndsWith bytes outcome taken_mid taken_now before now result → result ≡ ended.Done
      → AreSmallBy byte_step (start_of store) (overridden overrides (input files)).items
  never_done outcome result stops (inl (is, appends)) done = absurd (subst (Stops (start_over core) Read [] bytes taken_old taken_mid) (sym is ∙ done) stops)
  never_done outcome result stops (inr (is, rose, part)) done = absurd (apart (sym is ∙ done))
    where
      apart : ended.OutputFault ≡ ended.Done → ⊥
      apart e = cc

-- ---- of files that are told

told_all : (told : Option (List (List ℕ × List ℕ))) (names : List (List ℕ)) (P Q : List (List ℕ) → Type 0) → ((files : List (List ℕ)) → P files → Q files) → IfAllTold told names P → IfAllTold told names Q
told_all None names P Q f p = tt
told_all (Some table) names P Q f p = f _ p

-- An export that began over a core.
abbrev Began : {C : Type 0} → Store C → Exporting Blank → Gathered → Type 0
Began core start gathered = (start ≡ exporting (blank core)) × (gathered ≡ record { bytes = []; begins = true })

from_start : {C : Type 0} (core : Store C) (start : Exporting Blank) (gathered : Gathered) (P : Point → List ℕ → Type 0) → start ≡ exporting (blank core) → gathered ≡ record { bytes = []; begins = true }
    → P (point_at start gathered) gathered.bytes → P (start_over core) []
from_start core start gathered P s g p = subst (λ (x : Exporting Blank). P (record { now = x; begins = true }) []) s (subst (λ (x : Gathered). P (point_at start x) x.bytes) g p)

-- All commands were taken.
pub export_done : {C : Type 0} (told : Option (List (List ℕ × List ℕ))) (overrides : Overrides) (names : List (List ℕ)) (core : Store C) (start : Exporting Blank) (gathered : Gathered) (bytes : List ℕ) (taken_old taken_mid taken_now : Option (List ℕ)) (before now : ℕ) (result : Outcome)
    → start ≡ exporting (blank core) → gathered ≡ record { bytes = []; begins = true } → IfAllTold told names (AllTaken overrides (point_at start gathered) gathered.bytes bytes taken_old taken_mid) → EndsWith bytes ended.Done taken_mid taken_now before now result
    → (store : Store ℕ) → HaveSameShape core store → IfAllTold told names (λ files. Wrote taken_old taken_now (λ written. EndsOf (Export 0 0) store (sources_with overrides files) result written))
export_done told overrides names core start gathered bytes taken_old taken_mid taken_now before now result s g all ends store same =
    told_all told names (AllTaken overrides (start_over core) [] bytes taken_old taken_mid) (λ files. Wrote taken_old taken_now (λ written. EndsOf (Export 0 0) store (sources_with overrides files) result written))
    (λ files t. taken_end core store same overrides files bytes taken_old taken_mid taken_now before now result t ends)
    (from_start core start gathered (λ p b. IfAllTold told names (AllTaken overrides p b bytes taken_old taken_mid)) s g all)

pub done_small : {C : Type 0} (told : Option (List (List ℕ × List ℕ))) (overrides : Overrides) (names : List (List ℕ)) (core : Store C) (start : Exporting Blank) (gathered : Gathered) (bytes : List ℕ) (taken_old taken_mid : Option (List ℕ)) (result : Outcome)
    → start ≡ exporting (blank core) → gathered ≡ record { bytes = []; begins = true } → IfAllTold told names (AllTaken overrides (point_at start gathered) gathered.bytes bytes taken_old taken_mid)
    → (store : Store ℕ) → HaveSameShape core store → IfAllTold told names (λ files. result ≡ ended.Done → AreSmallBy byte_step (start_of store) (overridden overrides (input files)).items)
done_small told overrides names core start gathered bytes taken_old taken_mid result s g all store same =
    told_all told names (AllTaken overrides (start_over core) [] bytes taken_old taken_mid) (λ files. result ≡ ended.Done → AreSmallBy byte_step (start_of store) (overridden overrides (input files)).items)
    (λ files t done. small_is core store (overridden overrides (input files)).items same t.small)
    (from_start core start gathered (λ p b. IfAllTold told names (AllTaken overrides p b bytes taken_old taken_mid)) s g all)

-- The export ended early.
pub export_stops : {C : Type 0} (told : Option (List (List ℕ × List ℕ))) (overrides : Overrides) (names : List (List ℕ)) (core : Store C) (start : Exporting Blank) (gathered : Gathered) (bytes : List ℕ) (taken_old taken_mid taken_now : Option (List ℕ)) (before now : ℕ) (outcome result : Outcome)
    → start ≡ exporting (blank core) → gathered ≡ record { bytes = []; begins = true } → IfAllTold told names (AllEnd overrides (point_at start gathered) gathered.bytes bytes taken_old taken_mid (Err outcome)) → EndsWith bytes outcome taken_mid taken_now before now result
    → (store : Store ℕ) → HaveSameShape core store → IfAllTold told names (λ files. Wrote taken_old taken_now (λ written. EndsOf (Export 0 0) store (sources_with overrides files) result written))
export_stops told overrides names core start gathered bytes taken_old taken_mid taken_now before now outcome result s g all ends store same =
    told_all told names (AllEnd overrides (start_over core) [] bytes taken_old taken_mid (Err outcome)) (λ files. Wrote taken_old taken_now (λ written. EndsOf (Export 0 0) store (sources_with overrides files) result written))
    (λ files t. stops_end core store same overrides files bytes taken_old taken_mid taken_now before now outcome result t ends)
    (from_start core start gathered (λ p b. IfAllTold told names (AllEnd overrides p b bytes taken_old taken_mid (Err outcome))) s g all)

pub stops_small : {C : Type 0} (told : Option (List (List ℕ × List ℕ))) (overrides : Overrides) (names : List (List ℕ)) (core : Store C) (start : Exporting Blank) (gathered : Gathered) (bytes : List ℕ) (taken_old taken_mid taken_now : Option (List ℕ)) (before now : ℕ) (outcome result : Outcome)
    → start ≡ exporting (blank core) → gathered ≡ record { bytes = []; begins = true } → IfAllTold told names (AllEnd overrides (point_at start gathered) gathered.bytes bytes taken_old taken_mid (Err outcome)) → EndsWith bytes outcome taken_mid taken_now before now result
    → (store : Store ℕ) → HaveSameShape core store → IfAllTold told names (λ files. result ≡ ended.Done → AreSmallBy byte_step (start_of store) (overridden overrides (input files)).items)
stops_small told overrides names core start gathered bytes taken_old taken_mid taken_now before now outcome result s g all ends store same =
    told_all told names (AllEnd overrides (start_over core) [] bytes taken_old taken_mid (Err outcome)) (λ files. result ≡ ended.Done → AreSmallBy byte_step (start_of store) (overridden overrides (input files)).items)
    (λ files t done. never_done core store same overrides files bytes taken_old taken_mid taken_now before now outcome result t ends done)
    (from_start core start gathered (λ p b. IfAllTold told names (AllEnd overrides p b bytes taken_old taken_mid (Err outcome))) s g all)

-- ---- causes

pub caused_end : (inputs_before inputs_now out_before out_mid out_now : ℕ) (bytes : List ℕ) (outcome result : Outcome) (taken_old taken_now : Option (List ℕ)) → out_mid ≤ out_now
    → out_before ≤ out_mid → EndsWith bytes outcome taken_old taken_now out_mid out_now result → Caused inputs_before inputs_now out_before out_mid outcome → Caused inputs_before inputs_now out_before out_now result
caused_end inputs_before inputs_now out_before out_mid out_now bytes outcome result taken_old taken_now later early (inl (is, appends)) caused =
    subst (λ (x : Outcome). Caused inputs_before inputs_now out_before out_now x) (sym is) (by_outcome outcome caused)
  where
    by_outcome : (x : Outcome) → Caused inputs_before inputs_now out_before out_mid x → Caused inputs_before inputs_now out_before out_now x
    by_outcome ended.OutputFault rose = omega (arith, later, rose)
    by_outcome ended.InputFault rose = rose
    by_outcome ended.NoMemory rose = tt
    by_outcome ended.Done rose = tt
    by_outcome (ended.Refused verdict) rose = tt
    by_outcome (ended.InputTooLong file) rose = tt
    by_outcome (ended.TooMuch sum) rose = rose
    by_outcome (ended.InputChanged file place) rose = rose
caused_end inputs_before inputs_now out_before out_mid out_now bytes outcome result taken_old taken_now later early (inr (is, rose, part)) caused =
    subst (λ (x : Outcome). Caused inputs_before inputs_now out_before out_now x) (sym is) (omega (arith, early, rose))
