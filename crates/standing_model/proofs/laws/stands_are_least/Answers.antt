use Rattle.standing_model.proofs.LeastStands.{stand_is_least, stand_is_block}
use Rattle.standing_model.proofs.Candidates.{enough_find_stand}
use Rattle.standing_model.proofs.laws.stands_are_least.Goals as goal

pub returns : goal.returns
returns c = record { least = stand_is_least; blocks = stand_is_block; enough = enough_find_stand }
