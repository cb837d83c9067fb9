-- Each sort of edit.
use Rattle.std.proofs.Common.{None, [], sym, ap, ◌∙◌}
use Rattle.send_model.specs.Edit.{edit}
use Rattle.send_commands.specs.Meaning.{meaning_of}
use Rattle.clone_resolve.specs.Steps.{cells_put}
use Rattle.clone_resolve.proofs.EditLaws.{write_is, truncate_is, fallocate_is, clone_is, of_tree, changes_so}
use Rattle.clone_resolve.proofs.edit_core.EditCore.edit.Goals as goal

pub returns-in-Write-clause-edited : goal.returns-in-Write-clause-edited
returns-in-Write-clause-edited g c =
    let part = ap (λ p. p.subvolume) c.part.view_is in
    let v = rw part at c.write.ensures in
    rw (c.in-Write.is, write_is g.O.Origin.advanced c.args.origin c.args.self.now c.args.part.now c.in-Write.path.now c.in-Write.offset c.in-Write.bytes.now) v

pub returns-in-Truncate-clause-edited : goal.returns-in-Truncate-clause-edited
returns-in-Truncate-clause-edited g c =
    let part = ap (λ p. p.subvolume) c.part-in-Truncate.view_is in
    let v = rw part at c.truncate.ensures in
    rw (c.in-Truncate.is, truncate_is None _ c.args.self.now c.args.part.now c.in-Truncate.size c.in-Truncate.path.now) v

pub returns-in-Fallocate-clause-edited : goal.returns-in-Fallocate-clause-edited
returns-in-Fallocate-clause-edited g c =
    let part = ap (λ p. p.subvolume) c.part-in-Fallocate.view_is in
    let v = rw part at c.fallocate.ensures in
    rw (c.in-Fallocate.is, fallocate_is None _ c.args.self.now c.args.part.now c.in-Fallocate.size c.in-Fallocate.path.now c.in-Fallocate.offset c.in-Fallocate.mode) v

pub returns-in-Clone-clause-edited : goal.returns-in-Clone-clause-edited
returns-in-Clone-clause-edited g c =
    let w = rw (c.key_with.ensures.uuid, c.key_with.ensures.ctransid) at c.clone_range.ensures.cloned in
    rw (c.in-Clone.is, clone_is None _ c.args.self.now c.args.part.now c.in-Clone.path.now c.in-Clone.offset c.in-Clone.clone_uuid c.in-Clone.clone_ctransid c.in-Clone.clone_path.now c.in-Clone.clone_offset c.in-Clone.clone_len) w

pub returns-in_default : goal.returns-in_default
returns-in_default g c =
    let m = meaning_of c.args.c.now in
    let t = of_tree None (cells_put g.O.Origin.advanced c.args.origin m) c.args.self.now c.args.part.now c.args.c.now c.in_default.not-Write c.in_default.not-Truncate c.in_default.not-Fallocate c.in_default.not-Clone in
    let w = rw (c.tree_mut.ensures.value) at c.edit_tree.ensures in
    let part = ap (λ p. p.subvolume) c.part-in_default.view_is in
    record {
      key = ap (λ p. p.key) c.part-in_default.view_is;
      edited = changes_so c.edit_tree.result _ _ c.edit_tree.new.tree _ _ part (ap (λ s. edit None [] m s) part ∙ sym t.edits) w;
    }
