-- Each way out of a truncation.
use Rattle.std.proofs.Common.{None, ap, ◌∙◌, sym, zero-add}
use Rattle.std.specs.Prelude.{nat_le}
use Rattle.std.proofs.lemmas.Result.{err_from_is_err_and}
use Rattle.send_model.specs.Refusal.{FileTooBig}
use Rattle.send_model.specs.Chain.{require}
use Rattle.send_model.specs.Edit.{greatest_end, resized}
use Rattle.subvol.proofs.CellLaws.{resized_is}
use Rattle.subvol.proofs.FileSteps.{contents_lost, contents_big, contents_made, put_back_at}
use Rattle.subvol.proofs.subvol.Subvol.truncate.Goals as goal

pub returns-in_err-ino : goal.returns-in_err-ino
returns-in_err-ino g c =
    let p = err_from_is_err_and c.from_residual.result c.from_residual.ensures.1 in
    rw (p.1, p.2) (contents_lost c.args.self.now c.args.path.now _ _ _ c.in_err-ino.ensures.found, c.in_err-ino.ensures.same)

pub returns-in_err-check_end : goal.returns-in_err-check_end
returns-in_err-check_end g c =
    let p = err_from_is_err_and c.from_residual-in_err-check_end.result c.from_residual-in_err-check_end.ensures.1 in
    let there = c.in_ok-ino.ensures.found in
    let big = ap (λ n. require (nat_le n greatest_end) FileTooBig) (sym (zero-add c.args.size)) ∙ c.in_err-check_end.ensures.tested in
    rw (p.1, p.2) (contents_big c.args.self.now c.args.path.now _ _ c.in_ok-ino.ino _ there big, c.in_ok-ino.ensures.same)

pub returns : goal.returns
returns g c =
    let s = c.args.self.now in
    let there = c.in_ok-ino.ensures.found in
    let fits = ap (λ n. require (nat_le n greatest_end) FileTooBig) (sym (zero-add c.args.size)) ∙ c.in_ok-check_end.ensures.tested in
    let made = c.in_ok-cut_to.ensures ∙ resized_is None c.args.size c.in_ok-contents.contents in
    contents_made s c.args.path.now _ _ c.in_ok-ino.ino there fits
    ∙ put_back_at s c.args.path.now c.in_ok-ino.ino there _ c.in_ok-ino.ensures.same _ c.in_ok-contents.ensures.tree (resized None c.args.size) _ _ c.in_ok-contents.ensures.contents made _ c.in_ok-put_contents.ensures
