-- Each way out of the change.
use Rattle.std.proofs.Common.{◌≡◌, Ok, true, false, ap, ◌∙◌, sym, subst, rules}
use Rattle.std.proofs.lemmas.Result.{err_from_is_err_and}
use Rattle.send_model.specs.Edit.{is_xattr_name, has_xattr, change_inode}
use Rattle.inode_tree.proofs.EditSteps.{remove_xattr_lost, remove_xattr_bad, remove_xattr_absent, remove_xattr_made}
use Rattle.inode_tree.proofs.Standing.{still_there}
use Rattle.inode_tree.proofs.tree.Tree.remove_xattr.Goals as goal

pub returns-in_err-ino : goal.returns-in_err-ino
returns-in_err-ino g c =
    let p = err_from_is_err_and c.from_residual.result c.from_residual.ensures.1 in
    rw (p.1, p.2) (remove_xattr_lost c.args.self.now c.args.path.now c.args.name.now _ c.in_err-ino.ensures.found, c.in_err-ino.ensures.same)

pub returns-then-not-is_xattr_name : goal.returns-then-not-is_xattr_name
returns-then-not-is_xattr_name g c =
    let bad : is_xattr_name c.args.name.now ≡ false = search rules in
    (remove_xattr_bad c.args.self.now c.args.path.now c.args.name.now c.in_ok-ino.ino c.in_ok-ino.ensures.found bad, c.in_ok-ino.ensures.same)

pub returns-then-not-has_xattr : goal.returns-then-not-has_xattr
returns-then-not-has_xattr g c =
    let same = c.in_ok-ino.ensures.same in
    let good : is_xattr_name c.args.name.now ≡ true = search rules in
    let absent : has_xattr c.reach.new.self c.in_ok-ino.ino c.args.name.now ≡ false = search rules in (
      remove_xattr_absent c.args.self.now c.args.path.now c.args.name.now c.in_ok-ino.ino c.in_ok-ino.ensures.found good (subst (λ s. has_xattr s c.in_ok-ino.ino c.args.name.now ≡ false) same absent),
      same,
    )

pub change-requires : goal.change-requires
change-requires g c = still_there c.reach.new.self c.args.self.now c.in_ok-ino.ensures.same c.args.path.now c.in_ok-ino.ino c.in_ok-ino.ensures.found

pub returns : goal.returns
returns g c =
    let same = c.in_ok-ino.ensures.same in
    let good : is_xattr_name c.args.name.now ≡ true = search rules in
    let there : has_xattr c.reach.new.self c.in_ok-ino.ino c.args.name.now ≡ true = search rules in
    remove_xattr_made c.args.self.now c.args.path.now c.args.name.now c.in_ok-ino.ino c.in_ok-ino.ensures.found good (subst (λ s. has_xattr s c.in_ok-ino.ino c.args.name.now ≡ true) same there)
    ∙ ap Ok (sym (c.in_ok-change.ensures ∙ ap (change_inode c.in_ok-ino.ino _) same))
