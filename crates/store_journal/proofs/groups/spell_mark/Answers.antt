use Rattle.send_commands.specs.Meaning.{meaning_of}
use Rattle.send_commands.proofs.Writable.{spellable_is_writable}
use Rattle.store_journal.proofs.groups.spell_mark.Goals as goal

pub encode-requires-clause-writable : goal.encode-requires-clause-writable
encode-requires-clause-writable c = spellable_is_writable 1 (meaning_of c.args.head.now) c.requires
