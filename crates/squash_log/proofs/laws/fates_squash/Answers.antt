use Rattle.squash_log.proofs.Resolving.{fates_squash_the_same}
use Rattle.squash_log.proofs.laws.fates_squash.Goals as goal

pub returns : goal.returns
returns c = fates_squash_the_same
