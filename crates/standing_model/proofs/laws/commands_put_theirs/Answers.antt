use Rattle.standing_model.proofs.PutCells.{edits_put_theirs, clones_put_theirs}
use Rattle.standing_model.proofs.laws.commands_put_theirs.Goals as goal

pub returns : goal.returns
returns c = record { edits = edits_put_theirs; clones = clones_put_theirs }
