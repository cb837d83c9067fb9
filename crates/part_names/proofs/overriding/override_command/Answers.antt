use Rattle.std.proofs.Common.{sym, subst}
use Rattle.send_model.specs.Command.{Command}
use Rattle.send_model.specs.Laws.{CanWrite}
use Rattle.send_commands.specs.Meaning.{meaning_of}
use Rattle.send_commands.specs.Writing.{IsWritable}
use Rattle.part_names.proofs.Places.{writable_as, can_write_as}
use Rattle.part_names.proofs.overriding.override_command.Goals as goal

pub returns-clause-writable : goal.returns-clause-writable
returns-clause-writable c version w =
    subst (λ (d : Command). IsWritable version d) (sym c.changed.ensures.meant) (writable_as version c.args.said.now (meaning_of c.args.command.now) c.requires.lawful w)

pub returns-clause-can_write : goal.returns-clause-can_write
returns-clause-can_write c version known w =
    subst (λ (d : Command). CanWrite version d) (sym c.changed.ensures.meant) (can_write_as version c.args.said.now (meaning_of c.args.command.now) c.requires.lawful w)
