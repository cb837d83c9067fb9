use Rattle.std.proofs.Common.{sym}
use Rattle.send_commands.specs.Meaning.{meaning_of}
use Rattle.squasher.proofs.Sizing.{change_fits}
use Rattle.squasher.proofs.judging.Keeper.take_inner.Goals as goal

pub push-requires : goal.push-requires
push-requires g c = record {
  fits = change_fits c.args.self.now.state c.step.new.self.state (meaning_of c.args.item.now.command) c.in-Some.change c.in-Ok.ensures.stepped.0.stepped (sym c.in-Some.ensures.change) c.in-Some.ensures.sized;
}
