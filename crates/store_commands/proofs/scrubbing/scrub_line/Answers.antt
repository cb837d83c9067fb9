use Rattle.std.proofs.Common.{rules}
use Rattle.store_model.specs.Scrub.{scrub_line}
use Rattle.store_commands.proofs.scrubbing.scrub_line.Goals as goal

pub returns : goal.returns
unfolding scrub_line
returns c = record { line = search rules }
