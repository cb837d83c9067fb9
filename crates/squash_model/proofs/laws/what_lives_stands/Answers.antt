use Rattle.squash_model.proofs.LiveCells.{liveness_looks_at_no_cells}
use Rattle.squash_model.proofs.LiveSquash.{liveness_squashes_the_same}
use Rattle.squash_model.proofs.laws.what_lives_stands.Goals as goal

pub returns : goal.returns
returns c = record { same = liveness_squashes_the_same; blank = liveness_looks_at_no_cells }
