use Rattle.std.proofs.Common.{rules, append_assoc}
use Rattle.chain_trial.proofs.trying.line_of.Goals as goal

pub returns : goal.returns
returns c = search (rules, append_assoc)
