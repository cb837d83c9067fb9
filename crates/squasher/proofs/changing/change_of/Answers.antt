use Rattle.std.proofs.Common.{sym}
use Rattle.squasher.proofs.Blanks.{nothing_changed}
use Rattle.squasher.proofs.changing.change_of.Goals as goal

pub returns-in_default : goal.returns-in_default
returns-in_default g c = record {
  change = sym (nothing_changed c.args.part.now c.args.command.now c.in_default.not-Write c.in_default.not-Truncate c.in_default.not-Fallocate c.in_default.not-Clone);
  sized = tt;
}
