use Rattle.std.specs.Prelude.{ℕ, List, None, Err}
use Rattle.std.proofs.Common.{refl, sym, ap, subst, ◌∙◌}
use Rattle.sx_base.specs.Causes.{Rose}
use Rattle.group_log.specs.declared.stops.LogStop.{LogStop}
use Rattle.edits_copy.specs.Finding.{FindsAll, FindStops}
use Rattle.store_commands.specs.declared.ends.StoreEnd.{StoreEnd}
use Rattle.stream_back.specs.Writing.{PlaceCaused}
use Rattle.stream_back.proofs.Places.{open_stops, find_stops, is_found, open_caused, find_caused}
use Rattle.stream_back.proofs.located.locate.Goals as goal

pub returns-in-Err-clause-stops : goal.returns-in-Err-clause-stops
returns-in-Err-clause-stops g c tells has =
    c.ended_at.ensures
    ∙ open_stops _ (g.D.Disk.seen c.args.disk.now) c.args.uuid c.in-Err.why has c.in-Err.ensures.stops (λ is. c.in-Err.ensures.not_store tells (ap (λ (e : LogStop). Err e) is))

pub returns-in-Err-clause-cause : goal.returns-in-Err-clause-cause
returns-in-Err-clause-cause g c =
    let rose = Rose (g.D.Disk.faults c.args.disk.now) (g.D.Disk.faults c.open.new.disk) in
    subst (λ (e : StoreEnd). PlaceCaused rose e) (sym c.ended_at.ensures) (open_caused rose c.in-Err.why c.in-Err.ensures.stops)

pub returns-in-Ok-None-clause-stops : goal.returns-in-Ok-None-clause-stops
returns-in-Ok-None-clause-stops g c tells has =
    absurd
    (is_found (g.D.Disk.seen c.args.disk.now) c.args.uuid None has
    (subst (λ (l : List ℕ). FindsAll l c.args.uuid None) (c.open.ensures.seen tells) (rw c.in-Ok-None.field-0-is at (c.in-Ok-None.ensures.found tells))) refl)

pub returns-in-Err-find_edits-clause-stops : goal.returns-in-Err-find_edits-clause-stops
returns-in-Err-find_edits-clause-stops g c tells has =
    c.ended_at-in-Err-find_edits.ensures
    ∙ find_stops _ (g.D.Disk.seen c.args.disk.now) c.args.uuid c.in-Err-find_edits.why has c.in-Err-find_edits.ensures.stops
    (subst (λ (l : List ℕ). FindStops l c.in-Err-find_edits.why) (c.open.ensures.seen tells) (c.in-Err-find_edits.ensures.not_store tells))

pub returns-in-Err-find_edits-clause-cause : goal.returns-in-Err-find_edits-clause-cause
returns-in-Err-find_edits-clause-cause g c =
    let now : ℕ = g.D.Disk.faults c.find_edits.new.disk in
    subst (λ (n : ℕ). PlaceCaused (Rose n now) c.ended_at-in-Err-find_edits.result) c.in-Ok.ensures.steady
    (subst (λ (e : StoreEnd). PlaceCaused (Rose (g.D.Disk.faults c.open.new.disk) now) e) (sym c.ended_at-in-Err-find_edits.ensures) (find_caused _ c.in-Err-find_edits.why c.in-Err-find_edits.ensures.stops))
