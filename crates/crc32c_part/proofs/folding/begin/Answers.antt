-- The checksum so far stands in front of zeros.
use Rattle.std.proofs.Common.{arith}
use Rattle.crc32c_part.proofs.FoldSteps.{begins}
use Rattle.crc32c_part.proofs.folding.begin.Goals as goal

pub returns : goal.returns
returns c = λ bytes. begins c.clear_behind.new.words c.from.result c.args.crc bytes (omega arith) c.clear_behind.ensures.zeros c.from.ensures
