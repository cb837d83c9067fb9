-- What an edit leaves of a part that may be there.
use Rattle.std.proofs.Common.{None}
use Rattle.std.proofs.lemmas.Result.{err_from_is_err_and}
use Rattle.send_commands.specs.Meaning.{meaning_of}
use Rattle.clone_resolve.specs.declared.done.Done.{Done}
use Rattle.clone_resolve.specs.Steps.{cells_put}
use Rattle.clone_resolve.proofs.StepLaws.{no_part, edit_taken, edit_stops}
use Rattle.clone_resolve.proofs.edit_core.EditCore.edit_open.Goals as goal

pub returns-in_default-clause-edited : goal.returns-in_default-clause-edited
returns-in_default-clause-edited g c = rw (c.in_default.is) (no_part None (cells_put g.O.Origin.advanced c.args.origin (meaning_of c.args.c.now)) c.args.self.now (meaning_of c.args.c.now))

pub returns-in_err-edit-clause-edited : goal.returns-in_err-edit-clause-edited
returns-in_err-edit-clause-edited g c =
    let p = err_from_is_err_and c.from_residual.result c.from_residual.ensures.1 in
    rw (p.1, p.2, c.in-Some.is)
    (edit_stops None (cells_put g.O.Origin.advanced c.args.origin (meaning_of c.args.c.now)) c.args.self.now c.in-Some.open c.edit.new.part (meaning_of c.args.c.now) c.edit.ensures.key (Unit {0}) Done c.in_err-edit.field-0.0 c.in_err-edit.ensures.edited)

pub returns-clause-edited : goal.returns-clause-edited
returns-clause-edited g c = rw (c.in-Some.is)
    (edit_taken None (cells_put g.O.Origin.advanced c.args.origin (meaning_of c.args.c.now)) c.args.self.now c.in-Some.open c.edit.new.part (meaning_of c.args.c.now) c.in_ok-edit.ensures.key c.in_ok-edit.ensures.edited)
