use Rattle.std.proofs.Common.{List, ℕ, drop, ap, subst, ◌∙◌}
use Rattle.send_model.specs.Attribute.{IsBytes}
use Rattle.cmd_reader.specs.Items.{ItemSays}
use Rattle.cmd_reader.proofs.command_reader.CmdReader.item.Goals as goal

pub returns-clause-says : goal.returns-clause-says
returns-clause-says c = subst (λ (body : List ℕ). ItemSays c.args.frame body c.item_in.result) (c.body_in.ensures.body ∙ ap (λ (l : List ℕ). drop 10 l) c.last_frame.ensures.bytes) c.item_in.ensures.says

pub returns-clause-bytes : goal.returns-clause-bytes
returns-clause-bytes c = subst IsBytes c.last_frame.ensures.bytes c.body_in.ensures.bytes
