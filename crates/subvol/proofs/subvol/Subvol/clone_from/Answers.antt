-- Each way out of a clone from another subvolume.
use Rattle.std.proofs.Common.{ℕ, ◌+◌, ◌≤◌, None, Ok, false, length, take, drop, refl, ap, ap₂, ◌∙◌, sym, arith}
use Rattle.std.proofs.lemmas.Result.{err_from_is_err_and}
use Rattle.send_model.specs.Subvolume.{is_file}
use Rattle.send_model.specs.Edit.{overwritten}
use Rattle.send_model.specs.Clone.{cells_of}
use Rattle.subvol.specs.Files.{clone_files, check_range}
use Rattle.subvol.proofs.CellLaws.{cloned_is}
use Rattle.subvol.proofs.FileSteps.{put_back}
use Rattle.subvol.proofs.CloneSteps.{files_there, clone_lost, clone_bad, clone_made}
use Rattle.subvol.proofs.subvol.Subvol.clone_from.Goals as goal

pub returns-in_err-ino : goal.returns-in_err-ino
returns-in_err-ino g c =
    let p = err_from_is_err_and c.from_residual.result c.from_residual.ensures.1 in
    let lost = ap₂ (λ s o. clone_files s c.args.path.now o c.args.range.now.path.now) (sym c.self.view_is) (sym c.source.view_is) ∙ c.in_err-ino.ensures in
    rw (p.1, p.2) (clone_lost None c.args.self.now c.args.source.now false c.args.path.now c.args.at c.args.range.now.path.now c.args.range.now.from c.args.range.now.len _ lost, refl)

pub contents_of-cells-requires : goal.contents_of-cells-requires
contents_of-cells-requires g c =
    let there = ap₂ (λ t u. clone_files t c.args.path.now u c.args.range.now.path.now) (sym c.self.view_is) (sym c.source.view_is) ∙ c.in_ok-ino.ensures in
    record { there = ap (λ u. is_file u c.in_ok-ino.source_ino) c.source.view_is ∙ (files_there None c.args.self.now c.args.source.now false c.args.path.now c.args.at c.args.range.now.path.now c.args.range.now.from c.args.range.now.len (c.in_ok-ino.ino, c.in_ok-ino.source_ino) there).1 }

pub returns-in_err-check_range : goal.returns-in_err-check_range
returns-in_err-check_range g c =
    let p = err_from_is_err_and c.from_residual-in_err-check_range.result c.from_residual-in_err-check_range.ensures.1 in
    let there = ap₂ (λ s o. clone_files s c.args.path.now o c.args.range.now.path.now) (sym c.self.view_is) (sym c.source.view_is) ∙ c.in_ok-ino.ensures in
    let cells = c.contents_of-cells.ensures ∙ ap (λ o. cells_of o c.in_ok-ino.source_ino) c.source.view_is in
    let bad = ap (λ n. check_range c.args.at c.args.range.now.from c.args.range.now.len n) (sym (c.size.ensures.count ∙ ap length cells)) ∙ c.in_err-check_range.ensures.tested in
    rw (p.1, p.2) (clone_bad None c.args.self.now c.args.source.now false c.args.path.now c.args.at c.args.range.now.path.now c.args.range.now.from c.args.range.now.len (c.in_ok-ino.ino, c.in_ok-ino.source_ino) there _ bad, refl)

pub returns : goal.returns
returns g c =
    let s = c.args.self.now in
    let o = c.args.source.now in
    let files : ℕ × ℕ = (c.in_ok-ino.ino, c.in_ok-ino.source_ino) in
    let there = ap₂ (λ t u. clone_files t c.args.path.now u c.args.range.now.path.now) (sym c.self.view_is) (sym c.source.view_is) ∙ c.in_ok-ino.ensures in
    let cells = c.contents_of-cells.ensures ∙ ap (λ u. cells_of u c.in_ok-ino.source_ino) c.source.view_is in
    let good = ap (λ n. check_range c.args.at c.args.range.now.from c.args.range.now.len n) (sym (c.size.ensures.count ∙ ap length cells)) ∙ c.in_ok-check_range.ensures.tested in
    let within : c.args.range.now.from + c.args.range.now.len ≤ length c.contents_of-cells.result.now = omega (arith, c.in_ok-check_range.ensures.within, c.size.ensures.count) in
    let made = c.in_ok-copy_range.ensures ∙ cloned_is None c.args.at c.args.range.now.from c.args.range.now.len c.contents_of-cells.result.now c.in_ok-contents.contents c.in_ok-check_range.ensures.some within
    ∙ ap (λ l. overwritten None c.args.at (take c.args.range.now.len (drop c.args.range.now.from l)) c.in_ok-contents.contents) cells in
    let file = (files_there None s o false c.args.path.now c.args.at c.args.range.now.path.now c.args.range.now.from c.args.range.now.len files there).0 in
    let same = put_back s c.in_ok-ino.ino file _ c.in_ok-contents.ensures.tree (overwritten None c.args.at (take c.args.range.now.len (drop c.args.range.now.from (cells_of o c.in_ok-ino.source_ino)))) _ _
    c.in_ok-contents.ensures.contents made _ c.in_ok-put_contents.ensures in
    clone_made None s o false c.args.path.now c.args.at c.args.range.now.path.now c.args.range.now.from c.args.range.now.len files there good refl ∙ ap Ok (sym same)
