use Rattle.send_commands.specs.Meaning.{meaning_of}
use Rattle.send_commands.proofs.Writable.{spellable_is_writable}
use Rattle.sx_base.proofs.DiskMoments.{begins}
use Rattle.group_log.proofs.GatedGroups.{grows_has}
use Rattle.store_journal.proofs.groups.write_edit.Goals as goal

pub encode-requires-clause-writable : goal.encode-requires-clause-writable
encode-requires-clause-writable g c = spellable_is_writable c.args.version (meaning_of c.args.c.now) c.requires.spellable

pub returns-in_err-encode-clause-any_moment : goal.returns-in_err-encode-clause-any_moment
returns-in_err-encode-clause-any_moment g c tells header bodies body grows =
    begins c.args.disk.now (λ image. g.met.D.Disk.only_now c.args.disk.now image tells) (grows_has header bodies body c.args.log.now _ _ grows)
