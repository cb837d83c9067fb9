use Rattle.squash_log.proofs.KeptCells.{beside_both}
use Rattle.squash_log.proofs.file_lives.keep_beside.Goals as goal

pub returns : goal.returns
returns c =
    beside_both c.args.at c.args.len c.args.size c.args.cells.now c.keep_outside.new.cells c.keep_below.new.cells
    c.in_ok-keep_outside.ensures c.in_ok-keep_below.ensures
