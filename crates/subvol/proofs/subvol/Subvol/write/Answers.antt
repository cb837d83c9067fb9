-- Each way out of a write.
use Rattle.std.proofs.Common.{None, ◌∙◌}
use Rattle.std.proofs.lemmas.Result.{err_from_is_err_and}
use Rattle.send_model.specs.Edit.{written_at}
use Rattle.extent_map.specs.Pieces.{run_cells}
use Rattle.subvol.proofs.CellLaws.{written_is}
use Rattle.subvol.proofs.FileSteps.{contents_lost, contents_big, contents_made, put_back_at}
use Rattle.subvol.proofs.subvol.Subvol.write.Goals as goal

pub returns-in_err-ino : goal.returns-in_err-ino
returns-in_err-ino g c =
    let p = err_from_is_err_and c.from_residual.result c.from_residual.ensures.1 in
    rw (p.1, p.2) (contents_lost c.args.self.now c.args.path.now _ _ _ c.in_err-ino.ensures.found, c.in_err-ino.ensures.same)

pub returns-in_err-check_end : goal.returns-in_err-check_end
returns-in_err-check_end g c =
    let p = err_from_is_err_and c.from_residual-in_err-check_end.result c.from_residual-in_err-check_end.ensures.1 in
    let there = c.in_ok-ino.ensures.found in
    rw (p.1, p.2) (contents_big c.args.self.now c.args.path.now _ _ c.in_ok-ino.ino _ there c.in_err-check_end.ensures.tested, c.in_ok-ino.ensures.same)

pub returns : goal.returns
returns g c =
    let s = c.args.self.now in
    let there = c.in_ok-ino.ensures.found in
    let run = run_cells g.O.Origin.advanced c.args.origin c.args.len in
    let made = c.in_ok-put_run.ensures ∙ written_is None c.args.at run c.in_ok-contents.contents in
    contents_made s c.args.path.now _ _ c.in_ok-ino.ino there c.in_ok-check_end.ensures.tested
    ∙ put_back_at s c.args.path.now c.in_ok-ino.ino there _ c.in_ok-ino.ensures.same _ c.in_ok-contents.ensures.tree (written_at None c.args.at run) _ _ c.in_ok-contents.ensures.contents made _ c.in_ok-put_contents.ensures
