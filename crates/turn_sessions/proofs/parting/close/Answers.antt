use Rattle.std.specs.Prelude.{◌≡◌, ℕ, List, Option, Err}
use Rattle.std.proofs.Common.{sym, ap, subst, ◌∙◌}
use Rattle.std.specs.Io.KnownBytes.{Appends}
use Rattle.std.proofs.KnownBytes.{Appends-nil}
use Rattle.sx_base.specs.Causes.{Rose}
use Rattle.sx_base.specs.Outside.{AppendsPart}
use Rattle.store_model.specs.Turns.{Receiving}
use Rattle.auditor.specs.Following.{blank}
use Rattle.receiver.specs.declared.outcome.Received.{Received}
use Rattle.turn_sessions.specs.declared.part.OpenPart.{OpenPart}
use Rattle.turn_sessions.specs.Edits.{AreFrames}
use Rattle.turn_sessions.specs.Standing.{Blank, edits_of, IsHeld, AreHeld}
use Rattle.turn_sessions.proofs.Unpacked.{CloseSays}
use Rattle.turn_sessions.proofs.Closing.{none_is, one_is, none_closed, body_written, closed_ok, closed_cut, closed_stopped}
use Rattle.turn_sessions.proofs.parting.close.Goals as goal

pub returns-in_default-clause-closed : goal.returns-in_default-clause-closed
returns-in_default-clause-closed g c p are held =
    none_closed g.D.Disk c.args.disk.now c.args.store.now (g.O.Sink.taken c.args.out.now) p
    (λ is_told image. g.met.D.Disk.only_now c.args.disk.now image is_told) (none_is p c.args.current.now (sym c.in_default.is ∙ c.take.ensures.value) are)

pub complete-requires-clause-completed : goal.complete-requires-clause-completed
complete-requires-clause-completed g c =
    let h = c.requires.held in
    let o : OpenPart = c.in-Some.open in
    let q = one_is h.0 c.args.current.now o (sym c.in-Some.is ∙ c.take.ensures.value) h.1 in
    let uuid : List ℕ = c.key.result.uuid in
    let own : uuid ≡ o.part.key.uuid = ap (λ k. k.uuid) c.key.ensures in
    let w = body_written q.r o c.args.store.now uuid q.part own (subst (λ (x : Option (Receiving Blank)). AreHeld (blank c.args.store.now.core) x) q.is h.2) in
    (edits_of q.r, w.new, subst (λ (l : List ℕ). AreFrames o.version l (edits_of q.r)) (sym c.as_slice.ensures.bytes) w.frames, w.completes)

pub returns-in-Err-clause-closed : goal.returns-in-Err-clause-closed
returns-in-Err-clause-closed g c p are held =
    let o : OpenPart = c.in-Some.open in
    let q = one_is p c.args.current.now o (sym c.in-Some.is ∙ c.take.ensures.value) are in
    let hold : IsHeld (blank c.args.store.now.core) q.r = subst (λ (x : Option (Receiving Blank)). AreHeld (blank c.args.store.now.core) x) q.is held in
    let uuid : List ℕ = c.key.result.uuid in
    let own : uuid ≡ o.part.key.uuid = ap (λ k. k.uuid) c.key.ensures in
    let w = body_written q.r o c.args.store.now uuid q.part own hold in
    let fr : AreFrames o.version c.as_slice.result.now (edits_of q.r) = subst (λ (l : List ℕ). AreFrames o.version l (edits_of q.r)) (sym c.as_slice.ensures.bytes) w.frames in
    let e = c.in-Err.ensures in
    subst (λ (x : Received). CloseSays g.D.Disk c.args.disk.now c.complete.new.disk c.args.store.now c.complete.new.store (g.O.Sink.taken c.args.out.now) (g.O.Sink.taken c.args.out.now) p (Err x)) (sym c.ended_by.ensures)
    (closed_stopped g.D.Disk c.args.disk.now c.complete.new.disk c.args.store.now c.complete.new.store (g.O.Sink.taken c.args.out.now) (g.O.Sink.taken c.args.out.now) o uuid q.r q.part own hold
    (Rose (g.D.Disk.faults c.args.disk.now) (g.D.Disk.faults c.complete.new.disk)) p c.in-Err.why q.is e.not_refused
    (λ is_told image later is. g.met.D.Disk.counts_now c.complete.new.disk (g.D.Disk.moment c.args.disk.now) image is_told later is)
    (e.stops (edits_of q.r) fr)
    (λ is_told header groups h. e.any_moment is_told header groups (edits_of q.r) fr h)
    (λ is_told header groups h. e.no_room is_told header groups h)
    (Appends-nil (g.O.Sink.taken c.args.out.now)))

pub returns-in_default-write_whole-clause-closed : goal.returns-in_default-write_whole-clause-closed
returns-in_default-write_whole-clause-closed g c p are held =
    let o : OpenPart = c.in-Some.open in
    let q = one_is p c.args.current.now o (sym c.in-Some.is ∙ c.take.ensures.value) are in
    let hold : IsHeld (blank c.args.store.now.core) q.r = subst (λ (x : Option (Receiving Blank)). AreHeld (blank c.args.store.now.core) x) q.is held in
    let uuid : List ℕ = c.key.result.uuid in
    let own : uuid ≡ o.part.key.uuid = ap (λ k. k.uuid) c.key.ensures in
    let w = body_written q.r o c.args.store.now uuid q.part own hold in
    let fr : AreFrames o.version c.as_slice.result.now (edits_of q.r) = subst (λ (l : List ℕ). AreFrames o.version l (edits_of q.r)) (sym c.as_slice.ensures.bytes) w.frames in
    let e = c.in-Ok.ensures in
    closed_cut g.D.Disk c.args.disk.now c.complete.new.disk c.args.store.now c.complete.new.store (g.O.Sink.taken c.args.out.now) (g.O.Sink.taken c.write_whole.new.sink) o uuid q.r q.part own hold p q.is
    (λ is_told header groups h. e.holds is_told header groups (edits_of q.r) fr h)
    (λ is_told header groups h. e.any_moment is_told header groups (edits_of q.r) fr h)
    (subst (λ (l : List ℕ). AppendsPart (g.O.Sink.taken c.args.out.now) (g.O.Sink.taken c.write_whole.new.sink) l) c.as_slice-2.ensures.bytes c.in_default-write_whole.ensures.part)

pub returns-clause-closed : goal.returns-clause-closed
returns-clause-closed g c p are held =
    let o : OpenPart = c.in-Some.open in
    let q = one_is p c.args.current.now o (sym c.in-Some.is ∙ c.take.ensures.value) are in
    let hold : IsHeld (blank c.args.store.now.core) q.r = subst (λ (x : Option (Receiving Blank)). AreHeld (blank c.args.store.now.core) x) q.is held in
    let uuid : List ℕ = c.key.result.uuid in
    let own : uuid ≡ o.part.key.uuid = ap (λ k. k.uuid) c.key.ensures in
    let w = body_written q.r o c.args.store.now uuid q.part own hold in
    let fr : AreFrames o.version c.as_slice.result.now (edits_of q.r) = subst (λ (l : List ℕ). AreFrames o.version l (edits_of q.r)) (sym c.as_slice.ensures.bytes) w.frames in
    let e = c.in-Ok.ensures in
    closed_ok g.D.Disk c.args.disk.now c.complete.new.disk c.args.store.now c.complete.new.store (g.O.Sink.taken c.args.out.now) (g.O.Sink.taken c.write_whole.new.sink) o uuid q.r q.part own hold p q.is
    (e.made (edits_of q.r) w.new fr w.completes) (e.gate (edits_of q.r) fr) e.limit (e.fits (edits_of q.r) fr)
    (λ is_told header groups h. e.holds is_told header groups (edits_of q.r) fr h)
    (λ is_told header groups h. e.any_moment is_told header groups (edits_of q.r) fr h)
    (subst (λ (l : List ℕ). Appends (g.O.Sink.taken c.args.out.now) (g.O.Sink.taken c.write_whole.new.sink) l) c.as_slice-2.ensures.bytes c.in-Ok-write_whole.ensures.whole)
