use Rattle.std.proofs.Common.{List, ℕ, drop, ap, subst, ◌∙◌}
use Rattle.cmd_reader.specs.Items.{GlanceSaid}
use Rattle.cmd_reader.proofs.command_reader.CmdReader.glance.Goals as goal

pub returns : goal.returns
returns c = record { says = subst (λ (body : List ℕ). GlanceSaid c.args.frame body c.glance_in.result) (c.body_in.ensures.body ∙ ap (λ (l : List ℕ). drop 10 l) c.last_frame.ensures.bytes) c.glance_in.ensures.says }
