-- Each way out of a FALLOCATE.
use Rattle.std.proofs.Common.{None, ◌∙◌, sym}
use Rattle.std.proofs.lemmas.Result.{err_from_is_err_and}
use Rattle.send_model.specs.Edit.{fallocated}
use Rattle.subvol.specs.Allocations.{meant_by}
use Rattle.subvol.proofs.FileSteps.{fallocate_lost, fallocate_bad, fallocate_big, fallocate_made, put_back_at}
use Rattle.subvol.proofs.subvol.Subvol.fallocate.Goals as goal

pub returns-in_err-ino : goal.returns-in_err-ino
returns-in_err-ino g c =
    let p = err_from_is_err_and c.from_residual.result c.from_residual.ensures.1 in
    rw (p.1, p.2) (fallocate_lost c.args.self.now c.args.path.now _ _ _ _ _ c.in_err-ino.ensures.found, c.in_err-ino.ensures.same)

pub returns-in_default : goal.returns-in_default
returns-in_default g c =
    let there = c.in_ok-ino.ensures.found in
    (fallocate_bad c.args.self.now c.args.path.now None c.args.at c.args.len c.args.mode c.in_ok-ino.ino there (sym c.in_default.ensures), c.in_ok-ino.ensures.same)

pub returns-in_err-check_end : goal.returns-in_err-check_end
returns-in_err-check_end g c =
    let p = err_from_is_err_and c.from_residual-in_err-check_end.result c.from_residual-in_err-check_end.ensures.1 in
    let there = c.in_ok-ino.ensures.found in
    rw (p.1, p.2) (fallocate_big c.args.self.now c.args.path.now _ _ _ _ c.in_ok-ino.ino there (meant_by c.in-Some.allocation) (sym c.in-Some.ensures) _ c.in_err-check_end.ensures.tested, c.in_ok-ino.ensures.same)

pub returns : goal.returns
returns g c =
    let s = c.args.self.now in
    let there = c.in_ok-ino.ensures.found in
    fallocate_made s c.args.path.now None c.args.at c.args.len c.args.mode c.in_ok-ino.ino there (meant_by c.in-Some.allocation) (sym c.in-Some.ensures) c.in_ok-check_end.ensures.tested
    ∙ put_back_at s c.args.path.now c.in_ok-ino.ino there _ c.in_ok-ino.ensures.same _ c.in_ok-contents.ensures.tree (fallocated None (meant_by c.in-Some.allocation) c.args.at c.args.len) _ _ c.in_ok-contents.ensures.contents c.in_ok-allocate.ensures _ c.in_ok-put_contents.ensures
