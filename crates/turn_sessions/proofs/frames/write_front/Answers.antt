use Rattle.std.specs.Prelude.{◌≡◌, ◌+◌, ◌++◌, ◌∷◌, [], ℕ, List, Err, None, length}
use Rattle.std.proofs.Common.{sym, ap, subst, ◌∙◌}
use Rattle.sx_base.specs.Causes.{Rose}
use Rattle.send_model.specs.Command.{Command}
use Rattle.send_model.specs.Spelling.{canonical}
use Rattle.send_model.proofs.Fuel.{ok_same}
use Rattle.store_model.specs.Stored.{IsEdit}
use Rattle.send_commands.specs.Meaning.{meaning_of}
use Rattle.group_replay.specs.Stopping.{IfLog}
use Rattle.store_journal.specs.Filling.{first_full, piece_asks, IsStopOf}
use Rattle.store_journal.proofs.Unpacked.{Builds}
use Rattle.turn_sessions.specs.Fronts.{IsInFront}
use Rattle.turn_sessions.specs.Edits.{IsFront, IsTaken}
use Rattle.turn_sessions.proofs.FramesLeft.{front_same, no_refusal, stopped_so}
use Rattle.turn_sessions.proofs.frames.write_front.Given.{Over}
use Rattle.turn_sessions.proofs.frames.write_front.Goals.{In-Some}
use Rattle.turn_sessions.proofs.frames.write_front.Goals as goal

module _ (g : Over) (c : In-Some g) where
  front : IsInFront c.args.version c.args.bytes.now (meaning_of c.in-Some.front.command) c.in-Some.front.len
  front = c.in-Some.ensures.found

  same : (d : Command) (more : List ℕ) → IsFront c.args.version c.args.bytes.now d more → (meaning_of c.in-Some.front.command ≡ d) × (c.in-Some.front.len ≡ length (canonical c.args.version d))
  same d more is = front_same c.args.version c.args.bytes.now (meaning_of c.in-Some.front.command) d c.in-Some.front.len more front is

pub edit-edited-requires-clause-edit : goal.edit-edited-requires-clause-edit
edit-edited-requires-clause-edit g c =
    let at = (goal.at.edit-edited-requires-clause-edit g c).In-Some in
    let next = c.requires.next in
    let is = same g at next.0 next.1 next.3 in
    subst (λ (x : Command). IsEdit c.args.version x) (sym is.0) next.3.edit

pub returns-in-Ok-clause-len : goal.returns-in-Ok-clause-len
returns-in-Ok-clause-len g c d more is = (same g (goal.at.returns-in-Ok-clause-len g c).In-Some d more is).1

pub returns-in-Ok-clause-size : goal.returns-in-Ok-clause-size
returns-in-Ok-clause-size g c d more is =
    let s = same g (goal.at.returns-in-Ok-clause-size g c).In-Some d more is in
    c.in-Ok.ensures.size ∙ ap (λ (x : Command). c.args.store.now.log.size + length (canonical c.args.version x)) s.0

pub returns-in-Ok-clause-edited : goal.returns-in-Ok-clause-edited
returns-in-Ok-clause-edited g c d more middle is taken =
    let s = same g (goal.at.returns-in-Ok-clause-edited g c).In-Some d more is in
    sym (ok_same (sym (subst (λ (x : Command). IsTaken c.args.version c.args.store.now c.args.part.now x middle) (sym s.0) taken) ∙ c.in-Ok.ensures.edited))

pub returns-in-Ok-clause-builds : goal.returns-in-Ok-clause-builds
returns-in-Ok-clause-builds g c tells header groups commands d more is builds =
    let s = same g (goal.at.returns-in-Ok-clause-builds g c).In-Some d more is in
    subst (λ (x : Command). Builds header groups c.args.version (commands ++ x ∷ []) c.edit-edited.new.part c.edit-edited.new.self (g.D.Disk.seen c.edit-edited.new.disk) (g.D.Disk.pending c.edit-edited.new.disk)) s.0
    (c.in-Ok.ensures.builds tells header groups commands builds)

pub returns-in-Ok-clause-fits : goal.returns-in-Ok-clause-fits
returns-in-Ok-clause-fits g c d more is =
    let s = same g (goal.at.returns-in-Ok-clause-fits g c).In-Some d more is in
    subst (λ (x : Command). first_full c.args.store.now.log.limit (piece_asks c.args.store.now.log.size (length (canonical c.args.version x))) ≡ None) s.0 c.in-Ok.ensures.fits

pub returns-in-Err-clause-not_refused : goal.returns-in-Err-clause-not_refused
returns-in-Err-clause-not_refused g c =
    let next = c.requires.next in
    let s = same g (goal.at.returns-in-Err-clause-not_refused g c).In-Some next.0 next.1 next.3 in
    no_refusal c.args.version c.args.store.now c.args.part.now c.edit-edited.new.part (meaning_of c.in-Some.front.command) next.0 next.2 c.in-Err.why s.0 next.4 c.in-Err.ensures.edited

pub returns-in-Err-clause-stopped : goal.returns-in-Err-clause-stopped
returns-in-Err-clause-stopped g c =
    let next = c.requires.next in
    let s = same g (goal.at.returns-in-Err-clause-stopped g c).In-Some next.0 next.1 next.3 in
    stopped_so ℕ c.in-Err.why c.edit-edited.new.self _
    (no_refusal c.args.version c.args.store.now c.args.part.now c.edit-edited.new.part (meaning_of c.in-Some.front.command) next.0 next.2 c.in-Err.why s.0 next.4 c.in-Err.ensures.edited) c.in-Err.ensures.ended

pub returns-in-Err-clause-stops : goal.returns-in-Err-clause-stops
returns-in-Err-clause-stops g c d more is =
    let s = same g (goal.at.returns-in-Err-clause-stops g c).In-Some d more is in
    subst (λ (x : Command). IfLog {T = Unit {0}} (Err c.in-Err.why) (IsStopOf (Rose (g.D.Disk.faults c.args.disk.now) (g.D.Disk.faults c.edit-edited.new.disk)) c.args.store.now.log.limit (first_full c.args.store.now.log.limit (piece_asks c.args.store.now.log.size (length (canonical c.args.version x))))))
    s.0 c.in-Err.ensures.stops
