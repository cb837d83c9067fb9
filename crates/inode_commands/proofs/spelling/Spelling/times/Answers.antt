use Rattle.std.proofs.Common.{sym, subst}
use Rattle.send_model.specs.Attribute.{Time}
use Rattle.send_model.specs.Exported.{IsMoment}
use Rattle.send_commands.specs.Meaning.{time_of as said_time}
use Rattle.inode_commands.proofs.Can.{times_can}
use Rattle.inode_commands.proofs.spelling.Spelling.times.Goals as goal

pub push-requires : goal.push-requires
push-requires g c = record { can = times_can c.args.path.now c.requires.short (said_time c.moment_at.result) (said_time c.moment_at-2.result) (subst (λ (t : Time). IsMoment t) (sym c.moment_at.ensures) c.requires.moments.0) (subst (λ (t : Time). IsMoment t) (sym c.moment_at-2.ensures) c.requires.moments.1) }
