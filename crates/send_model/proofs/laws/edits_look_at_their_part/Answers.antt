use Rattle.send_model.proofs.Sorts.{plain_edit_part, plain_from}
use Rattle.send_model.proofs.CellClones.{all_steps-cells}
use Rattle.send_model.proofs.laws.edits_look_at_their_part.Goals as goal

pub returns-clause-part : goal.returns-clause-part
returns-clause-part c s put store part d clone end head = plain_edit_part 0 put store part d (plain_from d clone end head)

pub returns-clause-cells : goal.returns-clause-cells
returns-clause-cells c s f zero_cell put state d = all_steps-cells f d zero_cell put state
