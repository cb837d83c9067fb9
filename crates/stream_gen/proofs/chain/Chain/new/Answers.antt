use Rattle.stream_gen.proofs.DrawnNumbers.{number_first}
use Rattle.stream_gen.proofs.chain.Chain.new.Goals as goal

pub invariant_of-result : goal.invariant_of-result
invariant_of-result c = number_first c.args.seed
