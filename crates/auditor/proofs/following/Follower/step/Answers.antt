use Rattle.send_commands.specs.Meaning.{meaning_of}
use Rattle.auditor.proofs.Steps.{answers_blank}
use Rattle.auditor.proofs.following.Follower.step.Goals as goal

pub returns-clause-stepped : goal.returns-clause-stepped
returns-clause-stepped g c =
    rw (← c.self.view_is) (answers_blank g.R.Origin.advanced c.self.inside.origin (meaning_of c.args.command.now) _ _ c.step.result c.step.ensures.stepped)
