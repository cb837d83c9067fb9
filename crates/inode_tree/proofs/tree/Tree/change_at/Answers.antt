-- Each way out of the change.
use Rattle.std.proofs.Common.{Ok, ap, ◌∙◌, sym}
use Rattle.std.proofs.lemmas.Result.{err_from_is_err_and}
use Rattle.send_model.specs.Edit.{change_inode}
use Rattle.inode_tree.proofs.EditSteps.{change_lost, change_made}
use Rattle.inode_tree.proofs.Standing.{still_there}
use Rattle.inode_tree.proofs.tree.Tree.change_at.Goals as goal

pub returns-in_err-ino : goal.returns-in_err-ino
returns-in_err-ino g c =
    let p = err_from_is_err_and c.from_residual.result c.from_residual.ensures.1 in
    rw (p.1, p.2) (change_lost c.args.self.now c.args.path.now _ _ c.in_err-ino.ensures.found, c.in_err-ino.ensures.same)

pub change-requires : goal.change-requires
change-requires g c = still_there c.reach.new.self c.args.self.now c.in_ok-ino.ensures.same c.args.path.now c.in_ok-ino.ino c.in_ok-ino.ensures.found

pub returns : goal.returns
returns g c =
    change_made c.args.self.now c.args.path.now _ c.in_ok-ino.ino c.in_ok-ino.ensures.found
    ∙ ap Ok (sym (c.in_ok-change.ensures ∙ ap (change_inode c.in_ok-ino.ino _) c.in_ok-ino.ensures.same))
