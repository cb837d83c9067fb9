use Rattle.send_model.proofs.CountLaws.{are_counted}
use Rattle.send_model.proofs.laws.composed_commands_are_counted.Goals as goal

pub returns : goal.returns
returns c = record { counted = λ store parts last state current items. are_counted store parts last state current items }
