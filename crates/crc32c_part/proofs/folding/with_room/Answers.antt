-- The last words go to the front.
use Rattle.std.proofs.Common.{arith}
use Rattle.crc32c_part.proofs.FoldSteps.{to_front}
use Rattle.crc32c_part.proofs.folding.with_room.Goals as goal

pub returns-clause-same : goal.returns-clause-same
returns-clause-same c = λ bytes. to_front c.args.words.now c.copy_within.new.self c.args.end bytes c.requires.low (omega arith) c.copy_within.ensures.after
