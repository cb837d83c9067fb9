use Rattle.std.proofs.Common.{◌∙◌}
use Rattle.cmd_reader.specs.Next.{item_of}
use Rattle.send_commands.specs.Meaning.{meaning_of}
use Rattle.send_model.specs.Store.{head_of}
use Rattle.clone_resolve.specs.Heads.{head_meant}
use Rattle.squasher.proofs.Stepping.{there_mapped, step_refused, step_second, step_taken}
use Rattle.squasher.proofs.judging.Keeper.step.Goals as goal

pub returns-in-Err-Refused-clause-stepped : goal.returns-in-Err-Refused-clause-stepped
returns-in-Err-Refused-clause-stepped g c =
    step_refused g.R.Origin.advanced c.self.inside.origin (record { store = c.self.inside.core; part = c.self.inside.part }) (record { store = c.step.new.self; part = c.step.new.part }) c.args.self.now
    c.self.inside.log c.self.inside.fates c.self.inside.passed (item_of c.args.file c.args.item.now) c.step.result c.self.view_is c.step.ensures.stepped
    c.in-Err-Refused.field-0 c.in-Err-Refused.refusal c.refused.result c.in-Err-Refused.is c.in-Err-Refused.field-0-is c.refused.ensures

pub returns-then-is_second-clause-stepped : goal.returns-then-is_second-clause-stepped
returns-then-is_second-clause-stepped g c =
    step_second g.R.Origin.advanced c.self.inside.origin (record { store = c.self.inside.core; part = c.self.inside.part }) (record { store = c.step.new.self; part = c.step.new.part }) c.args.self.now
    c.self.inside.log c.self.inside.fates c.self.inside.passed (item_of c.args.file c.args.item.now) c.step.result c.self.view_is c.step.ensures.stepped
    c.in-Ok.field-0 c.in-Ok.is c.is_some-is_head.result c.is_second.result
    (c.is_some-is_head.ensures ∙ there_mapped head_meant c.head_of.result (head_of (meaning_of c.args.item.now.command)) c.head_of.ensures) c.is_second.ensures
    c.refused-then-is_second.result c.if-is_second.true c.refused-then-is_second.ensures

pub returns-clause-stepped : goal.returns-clause-stepped
returns-clause-stepped g c =
    step_taken g.R.Origin.advanced c.self.inside.origin (record { store = c.self.inside.core; part = c.self.inside.part }) (record { store = c.step.new.self; part = c.step.new.part }) c.args.self.now
    c.self.inside.log c.self.inside.fates c.self.inside.passed (item_of c.args.file c.args.item.now) c.step.result c.self.view_is c.step.ensures.stepped
    c.in-Ok.field-0 c.in-Ok.is c.is_some-is_head.result c.is_second.result
    (c.is_some-is_head.ensures ∙ there_mapped head_meant c.head_of.result (head_of (meaning_of c.args.item.now.command)) c.head_of.ensures) c.is_second.ensures
    c.with-self-inside.result c.if-is_second.false c.with-self-inside.ensures.begun c.with-self-inside.ensures.closed c.with-self-inside.ensures.version c.with-self-inside.ensures.number c.with-self-inside.ensures.offset
