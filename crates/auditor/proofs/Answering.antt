-- The whole audit: over cells of any kind, and with what it wrote.
use Rattle.std.specs.Prelude.{◌≡◌, ℕ, List, [], ◌∷◌, length, take, Option, None, Some, Result, Ok, Err, ◌<◌}
use Rattle.std.proofs.Common.{refl, sym, ap, subst, ◌∙◌}
use Rattle.std.proofs.KnownBytes.{Appends-nil}
use Rattle.send_model.specs.Refusal.{Refusal}
use Rattle.send_model.specs.Reading.{Item, Verdict, input}
use Rattle.send_model.specs.Store.{Store, State, After, step}
use Rattle.send_model.specs.Receive.{run_by, then_run, byte_cells, start_of}
use Rattle.send_model.specs.Guards.{Guard, Watched, watched_step, guarded, looked, watched}
use Rattle.send_model.specs.Order.{heads}
use Rattle.send_model.specs.Cells.{recelled_state, recelled_step}
use Rattle.send_model.specs.Due.{Due, DoneWhole, RefusedAt, Limited, limited_from, stop_due, audit_due, audit_due_of, accepted_line_of}
use Rattle.send_model.specs.Words.{Audit}
use Rattle.send_model.specs.Overridden.{Overrides, overridden, overridden_limited}
use Rattle.send_model.specs.Sources.{EndSaysOf}
use Rattle.send_model.proofs.CellClones.{all_steps-cells}
use Rattle.sx_base.specs.Calls.{IfAllTold, Wrote}
use Rattle.sx_base.specs.declared.outcome.Outcome.{Outcome}
use Rattle.sx_base.specs.declared.outcome.Outcome.TheVariants as ended
use Rattle.part_names.specs.Overriding.{sources_with}
use Rattle.auditor.specs.declared.counts.Totals.{Totals}
use Rattle.auditor.specs.Following.{blank, HaveSameShape, blank_step, Followed, follow, follow_all, due_from_here, beside}
use Rattle.auditor.specs.Answers.{Stops, AllAccepted, AllEnd, accepted_text, WritesLine, AuditEnds}

-- ---- cells that carry nothing

-- Guards beside a state, without its cells.
abbrev without_cells : {C : Type 0} → Watched (State C) → Followed
without_cells w = record { guards = w.guards; state = recelled_state (λ _. tt) w.state }

abbrev after_without : {C : Type 0} → After (Watched (State C)) → After Followed
after_without after = record { state = without_cells after.state; refusal = after.refusal }

-- What an item does over cells of bytes, under guards.
abbrev byte_step : Watched (State ℕ) → Item → After (Watched (State ℕ))
byte_step w item = watched_step (λ s i. step 0 (byte_cells i) s i.command) w item

same_follow : (w : Watched (State ℕ)) (item : Item) → follow (without_cells w) item ≡ after_without (byte_step w item)
same_follow w item = one (guarded w.guards item.command)
  where
    stepped : blank_step (recelled_state (λ _. tt) w.state) item.command ≡ recelled_step (λ _. tt) (step 0 (byte_cells item) w.state item.command)
    stepped = all_steps-cells (λ _. tt) item.command 0 (byte_cells item) w.state

    one : (o : Option Refusal) → (elim o as (λ x. After Followed) [
      | Some refusal ↦ record { state = record { guards = looked w.guards item.command; state = recelled_state (λ _. tt) w.state }; refusal = Some refusal }
      | None ↦ watched (looked w.guards item.command) (blank_step (recelled_state (λ _. tt) w.state) item.command)
    ]) ≡ after_without (elim o as (λ x. After (Watched (State ℕ))) [
      | Some refusal ↦ record { state = record { guards = looked w.guards item.command; state = w.state }; refusal = Some refusal }
      | None ↦ watched (looked w.guards item.command) (step 0 (byte_cells item) w.state item.command)
    ])
    one None = ap (watched (looked w.guards item.command)) stepped
    one (Some refusal) = refl

same_refused : (items : List Item) (w : Watched (State ℕ)) → (follow_all (without_cells w) items).refused ≡ (run_by byte_step w items).refused
unfolding run_by
same_refused [] w = refl
same_refused (item ∷ items) w =
    ap (λ (a : After Followed). (then_run item a (follow_all a.state items)).refused) (same_follow w item)
    ∙ one (byte_step w item).refusal (same_refused items (byte_step w item).state)
  where
    after : After (Watched (State ℕ))
    after = byte_step w item

    one : (o : Option Refusal) → (follow_all (without_cells after.state) items).refused ≡ (run_by byte_step after.state items).refused
        → (then_run item (record { state = without_cells after.state; refusal = o }) (follow_all (without_cells after.state) items)).refused ≡ (then_run item (record { state = after.state; refusal = o }) (run_by byte_step after.state items)).refused
    one None more = more
    one (Some refusal) more = refl

-- The answer that is due does not look at cells.
due_over : {C : Type 0} (core : Store C) (store : Store ℕ) (guards : List Guard) (read : Limited) → HaveSameShape core store
    → due_from_here (beside guards (record { store = blank core; part = None })) read ≡ audit_due_of store guards read
due_over core store guards read same =
    ap (λ (s : Store (Unit {0})). due_from_here (beside guards (record { store = s; part = None })) read) same
    ∙ ap (λ (o : Option Verdict). elim o as (λ x. Due) [ Some verdict ↦ RefusedAt verdict | None ↦ stop_due read.stop ]) (same_refused read.items (record { guards = guards; state = start_of store }))

pub same_due : {C : Type 0} (core : Store C) (store : Store ℕ) (guards : List Guard) (files : List (List ℕ)) → HaveSameShape core store
    → due_from_here (beside guards (record { store = blank core; part = None })) (limited_from 1 files) ≡ audit_due store guards files
unfolding audit_due
same_due core store guards files same = due_over core store guards (limited_from 1 files) same

-- ---- with what was written

line_is : (overrides : Overrides) (start : Followed) (totals : Totals) (files : List (List ℕ)) → AllAccepted overrides start totals files
    → accepted_text totals.parts totals.commands ≡ accepted_line_of (overridden overrides (input files)).items
line_is overrides start totals files all =
    ap (λ (n : ℕ). accepted_text n totals.commands) all.counted.parts_are
    ∙ ap (λ (n : ℕ). accepted_text (length (heads (overridden overrides (input files)).items)) n) all.counted.commands_are

told_all : (told : Option (List (List ℕ × List ℕ))) (names : List (List ℕ)) (P Q : List (List ℕ) → Type 0) → ((files : List (List ℕ)) → P files → Q files) → IfAllTold told names P → IfAllTold told names Q
told_all None names P Q f p = tt
told_all (Some table) names P Q f p = f _ p

-- The follower's start, over the core.
abbrev pub start_over : {C : Type 0} → Store C → List Guard → Followed
start_over core guards = beside guards (record { store = blank core; part = None })

from_start : (told : Option (List (List ℕ × List ℕ))) (overrides : Overrides) (names : List (List ℕ)) (guards : List Guard) (start first : State (Unit {0})) (r result : Result Totals Outcome) → start ≡ first → r ≡ result
    → IfAllTold told names (AllEnd overrides (beside guards start) r) → IfAllTold told names (AllEnd overrides (beside guards first) result)
from_start told overrides names guards start first r result e was all =
    subst (λ (s : State (Unit {0})). IfAllTold told names (AllEnd overrides (beside guards s) result)) e (subst (λ (x : Result Totals Outcome). IfAllTold told names (AllEnd overrides (beside guards start) x)) was all)

-- All is accepted, and the line is written, or the output failed, or there is no memory for it.
pub audit_accepts : {C : Type 0} (told : Option (List (List ℕ × List ℕ))) (overrides : Overrides) (names : List (List ℕ)) (core : Store C) (store : Store ℕ) (guards : List Guard) (start : State (Unit {0})) (r : Result Totals Outcome) (totals : Totals) (old new : Option (List ℕ)) (before now : ℕ) (outcome : Outcome)
    → HaveSameShape core store → start ≡ record { store = blank core; part = None } → r ≡ Ok totals → IfAllTold told names (AllEnd overrides (beside guards start) r) → WritesLine (accepted_text totals.parts totals.commands) old new before now outcome
    → IfAllTold told names (λ files. Wrote old new (AuditEnds store guards overrides files outcome))
audit_accepts {C} told overrides names core store guards start r totals old new before now outcome same fresh was all wrote =
    told_all told names (AllAccepted overrides (start_over core guards) totals) (λ files. Wrote old new (AuditEnds store guards overrides files outcome)) (λ files accepted. by_outcome files accepted outcome wrote)
    (from_start told overrides names guards start (start_over core guards).state r (Ok totals) fresh was all)
  where
    by_outcome : (files : List (List ℕ)) → AllAccepted overrides (start_over core guards) totals files → (x : Outcome) → WritesLine (accepted_text totals.parts totals.commands) old new before now x → Wrote old new (AuditEnds store guards overrides files x)
    by_outcome files accepted ended.Done appends =
        let done : audit_due_of store guards (overridden_limited overrides (limited_from 1 files)) ≡ DoneWhole = sym (due_over core store guards (overridden_limited overrides (limited_from 1 files)) same) ∙ accepted.done in
        (accepted_text totals.parts totals.commands, appends, (done, done_says (line_is overrides (start_over core guards) totals files accepted)))
      where
        done_says : accepted_text totals.parts totals.commands ≡ accepted_line_of (overridden overrides (input files)).items
            → EndSaysOf (Audit [] 0 0) store (sources_with overrides files) DoneWhole (accepted_text totals.parts totals.commands)
        done_says e = e
    by_outcome files accepted ended.OutputFault (rose, part) =
        let done : audit_due_of store guards (overridden_limited overrides (limited_from 1 files)) ≡ DoneWhole = sym (due_over core store guards (overridden_limited overrides (limited_from 1 files)) same) ∙ accepted.done in
        let line = line_is overrides (start_over core guards) totals files accepted in
        let text : List ℕ = accepted_text totals.parts totals.commands in (
          take part.0 text,
          part.2,
          (
            done,
            record {
              count = part.0;
              within = subst (λ (l : List ℕ). part.0 < length l) line part.1;
              written_is = ap (take part.0) line;
            },
          ),
        )
    by_outcome files accepted ended.NoMemory appends = ([], appends, refl)
    by_outcome files accepted ended.InputFault w = absurd w
    by_outcome files accepted (ended.Refused verdict) w = absurd w
    by_outcome files accepted (ended.InputTooLong file) w = absurd w
    by_outcome files accepted (ended.TooMuch sum) w = absurd w
    by_outcome files accepted (ended.InputChanged file place) w = absurd w

-- The audit ends early, and nothing is written.
pub audit_stops : {C : Type 0} (told : Option (List (List ℕ × List ℕ))) (overrides : Overrides) (names : List (List ℕ)) (core : Store C) (store : Store ℕ) (guards : List Guard) (start : State (Unit {0})) (r : Result Totals Outcome) (out : Option (List ℕ)) (outcome : Outcome)
    → HaveSameShape core store → start ≡ record { store = blank core; part = None } → r ≡ Err outcome → IfAllTold told names (AllEnd overrides (beside guards start) r)
    → IfAllTold told names (λ files. Wrote out out (AuditEnds store guards overrides files outcome))
audit_stops {C} told overrides names core store guards start r out outcome same fresh was stops =
    told_all told names (AllEnd overrides (start_over core guards) (Err outcome)) (λ files. Wrote out out (AuditEnds store guards overrides files outcome)) (λ files s. ([], Appends-nil out, by_outcome files outcome s))
    (from_start told overrides names guards start (start_over core guards).state r (Err outcome) fresh was stops)
  where
    by_outcome : (files : List (List ℕ)) (x : Outcome) → Stops (due_from_here (start_over core guards) (overridden_limited overrides (limited_from 1 files))) x → AuditEnds store guards overrides files x []
    by_outcome files (ended.Refused verdict) s = (sym (due_over core store guards (overridden_limited overrides (limited_from 1 files)) same) ∙ s, refl)
    by_outcome files (ended.InputTooLong file) s = (sym (due_over core store guards (overridden_limited overrides (limited_from 1 files)) same) ∙ s, refl)
    by_outcome files (ended.TooMuch sum) s = absurd s
    by_outcome files (ended.InputChanged file place) s = absurd s
    by_outcome files ended.InputFault s = refl
    by_outcome files ended.NoMemory s = refl
    by_outcome files ended.OutputFault s = absurd s
    by_outcome files ended.Done s = absurd s
