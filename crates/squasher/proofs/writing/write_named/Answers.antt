use Rattle.std.specs.Prelude.{ℕ}
use Rattle.std.proofs.Common.{sym, subst}
use Rattle.send_model.specs.Laws.{CanWrite}
use Rattle.send_commands.specs.Meaning.{meaning_of}
use Rattle.send_commands.specs.Writing.{IsWritable}
use Rattle.clone_pieces.specs.Sending.{output}
use Rattle.part_names.specs.Overriding.{IsOverridden}
use Rattle.squasher.proofs.Named.{same_version, still_spelled, passes, puts_as}
use Rattle.squasher.proofs.writing.write_named.Goals as goal

pub write_item-requires-clause-writable : goal.write_item-requires-clause-writable
write_item-requires-clause-writable g c =
    let said = c.args.file.now.said.now in
    let item = c.args.item.now in
    let new = c.given_or-meant.result.now in
    let e = subst (IsOverridden said item) (sym c.given_or-meant.ensures) c.override_item-changed.ensures.meant in
    subst (λ (v : ℕ). IsWritable v (meaning_of new.command)) (sym (same_version said item new e)) (e.writable item.version c.requires.writable)

pub write_item-requires-clause-can_write : goal.write_item-requires-clause-can_write
write_item-requires-clause-can_write g c =
    let said = c.args.file.now.said.now in
    let item = c.args.item.now in
    let new = c.given_or-meant.result.now in
    let e = subst (IsOverridden said item) (sym c.given_or-meant.ensures) c.override_item-changed.ensures.meant in
    subst (λ (v : ℕ). CanWrite v (meaning_of new.command)) (sym (same_version said item new e)) (e.can_write item.version c.requires.version c.requires.can_write)

pub write_item-requires-clause-spelled : goal.write_item-requires-clause-spelled
write_item-requires-clause-spelled g c =
    let said = c.args.file.now.said.now in
    let item = c.args.item.now in
    let new = c.given_or-meant.result.now in
    let e = subst (IsOverridden said item) (sym c.given_or-meant.ensures) c.override_item-changed.ensures.meant in
    still_spelled said item new e c.args.frame.now c.requires.spelled

pub returns-clause-fates : goal.returns-clause-fates
returns-clause-fates g c =
    let said = c.args.file.now.said.now in
    let item = c.args.item.now in
    let new = c.given_or-meant.result.now in
    let e = subst (IsOverridden said item) (sym c.given_or-meant.ensures) c.override_item-changed.ensures.meant in
    passes said item new e c.args.fates.now c.write_item.new.fates c.write_item.result c.write_item.ensures.fates

pub returns-clause-put : goal.returns-clause-put
returns-clause-put g c =
    let said = c.args.file.now.said.now in
    let item = c.args.item.now in
    let new = c.given_or-meant.result.now in
    let e = subst (IsOverridden said item) (sym c.given_or-meant.ensures) c.override_item-changed.ensures.meant in
    puts_as said item new e c.args.fates.now (output g.O.Sink c.args.out.now c.args.pending.now) (output g.O.Sink c.write_item.new.out c.write_item.new.pending) c.write_item.result c.write_item.ensures.put
