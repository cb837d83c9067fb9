-- Each way out of the change.
use Rattle.std.proofs.Common.{◌≡◌, Ok, true, false, ap, ◌∙◌, sym, rules}
use Rattle.std.proofs.lemmas.Result.{err_from_is_err_and}
use Rattle.send_model.specs.Edit.{is_xattr_name, change_inode}
use Rattle.inode_tree.proofs.EditSteps.{set_xattr_lost, set_xattr_bad, set_xattr_made}
use Rattle.inode_tree.proofs.Standing.{still_there}
use Rattle.inode_tree.proofs.tree.Tree.set_xattr.Goals as goal

pub returns-in_err-ino : goal.returns-in_err-ino
returns-in_err-ino g c =
    let p = err_from_is_err_and c.from_residual.result c.from_residual.ensures.1 in
    rw (p.1, p.2) (set_xattr_lost c.args.self.now c.args.path.now c.args.name.now c.args.value.now _ c.in_err-ino.ensures.found, c.in_err-ino.ensures.same)

pub returns-then-not-is_xattr_name : goal.returns-then-not-is_xattr_name
returns-then-not-is_xattr_name g c =
    let bad : is_xattr_name c.args.name.now ≡ false = search rules in
    (set_xattr_bad c.args.self.now c.args.path.now c.args.name.now c.args.value.now c.in_ok-ino.ino c.in_ok-ino.ensures.found bad, c.in_ok-ino.ensures.same)

pub change-requires : goal.change-requires
change-requires g c = still_there c.reach.new.self c.args.self.now c.in_ok-ino.ensures.same c.args.path.now c.in_ok-ino.ino c.in_ok-ino.ensures.found

pub returns : goal.returns
returns g c =
    let good : is_xattr_name c.args.name.now ≡ true = search rules in
    set_xattr_made c.args.self.now c.args.path.now c.args.name.now c.args.value.now c.in_ok-ino.ino c.in_ok-ino.ensures.found good
    ∙ ap Ok (sym (c.in_ok-change.ensures ∙ ap (change_inode c.in_ok-ino.ino _) c.in_ok-ino.ensures.same))
