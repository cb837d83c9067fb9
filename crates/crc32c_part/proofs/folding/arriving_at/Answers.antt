-- The five words, one by one.
use Rattle.std.proofs.Common.{arith}
use Rattle.crc32c_part.proofs.FoldSteps.{arriving_is}
use Rattle.crc32c_part.proofs.folding.arriving_at.Goals as goal

pub returns : goal.returns
returns c = arriving_is c.args.words.now c.args.place c.requires.low (omega arith)
