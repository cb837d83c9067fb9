use Rattle.std.proofs.Common.{arith}
use Rattle.squash_log.proofs.KeptCells.{below_is, below_all}
use Rattle.squash_log.proofs.file_lives.keep_below.Goals as goal

pub returns-then-size : goal.returns-then-size
returns-then-size c = below_all c.args.size c.args.cells.now (omega (arith, c.size.ensures.count, c.if-size.true))

pub returns : goal.returns
returns c = below_is c.args.size c.args.cells.now c.cut_to.new.self c.in_ok-cut_to.ensures
