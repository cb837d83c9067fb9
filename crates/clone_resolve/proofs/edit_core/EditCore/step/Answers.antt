-- The three ways of a step.
use Rattle.std.proofs.Common.{None, refl, sym}
use Rattle.send_model.specs.Store as meant
use Rattle.send_commands.specs.Meaning.{meaning_of}
use Rattle.clone_resolve.specs.Heads.{head_meant}
use Rattle.clone_resolve.specs.Steps.{cells_put}
use Rattle.clone_resolve.proofs.StepLaws.{fits_kept, head_step, edit_step}
use Rattle.clone_resolve.proofs.edit_core.EditCore.step.Goals as goal

pub returns-in-End-clause-stepped : goal.returns-in-End-clause-stepped
unfolding meant.step
returns-in-End-clause-stepped g c = rw (c.in-End.is, c.complete_open.ensures.none, c.complete_open.ensures.complete) refl

pub returns-in-Some : goal.returns-in-Some
returns-in-Some g c =
    let s = head_step None (cells_put g.O.Origin.advanced c.args.origin (meaning_of c.args.c.now)) (record { store = c.args.self.now; part = c.args.part.now }) (meaning_of c.args.c.now) (head_meant c.in-Some.head) (sym c.in-Some.ensures) in
    record {
      fits = c.enter.ensures.fits;
      done = rw s.1 c.enter.ensures.done;
      stepped = rw s.0 c.enter.ensures.entered;
    }

pub returns-in-None : goal.returns-in-None
returns-in-None g c =
    let s = edit_step None (cells_put g.O.Origin.advanced c.args.origin (meaning_of c.args.c.now)) (record { store = c.args.self.now; part = c.args.part.now }) c.args.c.now (sym c.in-None.ensures) c.in_default.not-End in
    record {
      fits = fits_kept c.args.self.now c.args.part.now c.edit_open.new.part c.edit_open.ensures.key c.requires.fits;
      done = rw s.1 c.edit_open.ensures.done;
      stepped = rw s.0 c.edit_open.ensures.edited;
    }
