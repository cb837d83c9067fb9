-- Each way out of a clone in one subvolume.
use Rattle.std.proofs.Common.{◌≡◌, ℕ, ◌+◌, ◌≤◌, ◌&&◌, None, Ok, true, false, length, take, drop, refl, ap, ◌∙◌, sym, arith, rules}
use Rattle.std.specs.Prelude.{◌==◌}
use Rattle.std.proofs.lemmas.Result.{err_from_is_err_and}
use Rattle.send_model.specs.Subvolume.{is_file}
use Rattle.send_model.specs.Edit.{overwritten}
use Rattle.send_model.specs.Clone.{cells_of, overlap}
use Rattle.subvol.specs.Files.{clone_files, check_range}
use Rattle.subvol.proofs.CellLaws.{part_cloned}
use Rattle.subvol.proofs.FileSteps.{put_back}
use Rattle.subvol.proofs.CloneSteps.{files_there, clone_lost, clone_bad, clone_overlaps, clone_made}
use Rattle.subvol.proofs.subvol.Subvol.clone_here.Goals as goal

pub returns-in_err-ino : goal.returns-in_err-ino
returns-in_err-ino g c =
    let p = err_from_is_err_and c.from_residual.result c.from_residual.ensures.1 in
    let lost = ap (λ s. clone_files s c.args.path.now s c.args.range.now.path.now) (sym c.self.view_is) ∙ c.in_err-ino.ensures in
    rw (p.1, p.2) (clone_lost None c.args.self.now c.args.self.now true c.args.path.now c.args.at c.args.range.now.path.now c.args.range.now.from c.args.range.now.len _ lost, refl)

pub contents_of-cells-requires : goal.contents_of-cells-requires
contents_of-cells-requires g c =
    let s = c.args.self.now in
    let there = ap (λ t. clone_files t c.args.path.now t c.args.range.now.path.now) (sym c.self.view_is) ∙ c.in_ok-ino.ensures in
    record { there = ap (λ t. is_file t c.in_ok-ino.source) c.self.view_is ∙ (files_there None s s true c.args.path.now c.args.at c.args.range.now.path.now c.args.range.now.from c.args.range.now.len (c.in_ok-ino.ino, c.in_ok-ino.source) there).1 }

pub returns-in_err-check_range : goal.returns-in_err-check_range
returns-in_err-check_range g c =
    let p = err_from_is_err_and c.from_residual-in_err-check_range.result c.from_residual-in_err-check_range.ensures.1 in
    let there = ap (λ s. clone_files s c.args.path.now s c.args.range.now.path.now) (sym c.self.view_is) ∙ c.in_ok-ino.ensures in
    let cells = c.contents_of-cells.ensures ∙ ap (λ o. cells_of o c.in_ok-ino.source) c.self.view_is in
    let bad = ap (λ n. check_range c.args.at c.args.range.now.from c.args.range.now.len n) (sym (c.size.ensures.count ∙ ap length cells)) ∙ c.in_err-check_range.ensures.tested in
    rw (p.1, p.2) (clone_bad None c.args.self.now c.args.self.now true c.args.path.now c.args.at c.args.range.now.path.now c.args.range.now.from c.args.range.now.len (c.in_ok-ino.ino, c.in_ok-ino.source) there _ bad, refl)

pub returns-then-share_place : goal.returns-then-share_place
returns-then-share_place g c =
    let s = c.args.self.now in
    let there = ap (λ t. clone_files t c.args.path.now t c.args.range.now.path.now) (sym c.self.view_is) ∙ c.in_ok-ino.ensures in
    let cells = c.contents_of-cells.ensures ∙ ap (λ o. cells_of o c.in_ok-ino.source) c.self.view_is in
    let good = ap (λ n. check_range c.args.at c.args.range.now.from c.args.range.now.len n) (sym (c.size.ensures.count ∙ ap length cells)) ∙ c.in_ok-check_range.ensures.tested in
    let share : ((c.in_ok-ino.source == c.in_ok-ino.ino) && overlap c.args.at c.args.range.now.from c.args.range.now.len) ≡ true = search rules in
    (clone_overlaps None s s true c.args.path.now c.args.at c.args.range.now.path.now c.args.range.now.from c.args.range.now.len (c.in_ok-ino.ino, c.in_ok-ino.source) there good share, refl)

pub returns : goal.returns
returns g c =
    let s = c.args.self.now in
    let files : ℕ × ℕ = (c.in_ok-ino.ino, c.in_ok-ino.source) in
    let there = ap (λ t. clone_files t c.args.path.now t c.args.range.now.path.now) (sym c.self.view_is) ∙ c.in_ok-ino.ensures in
    let cells = c.contents_of-cells.ensures ∙ ap (λ u. cells_of u c.in_ok-ino.source) c.self.view_is in
    let good = ap (λ n. check_range c.args.at c.args.range.now.from c.args.range.now.len n) (sym (c.size.ensures.count ∙ ap length cells)) ∙ c.in_ok-check_range.ensures.tested in
    let apart : ((c.in_ok-ino.source == c.in_ok-ino.ino) && overlap c.args.at c.args.range.now.from c.args.range.now.len) ≡ false = search rules in
    let within : c.args.range.now.from + c.args.range.now.len ≤ length c.contents_of-cells.result.now = omega (arith, c.in_ok-check_range.ensures.within, c.size.ensures.count) in
    let made = c.in_ok-copy_range.ensures ∙ part_cloned None c.args.at c.args.range.now.from c.args.range.now.len c.in_ok-part.part c.contents_of-cells.result.now c.in_ok-contents.contents c.in_ok-check_range.ensures.some within c.in_ok-part.ensures.cells
    ∙ ap (λ l. overwritten None c.args.at (take c.args.range.now.len (drop c.args.range.now.from l)) c.in_ok-contents.contents) cells in
    let file = (files_there None s s true c.args.path.now c.args.at c.args.range.now.path.now c.args.range.now.from c.args.range.now.len files there).0 in
    let same = put_back s c.in_ok-ino.ino file _ c.in_ok-contents.ensures.tree (overwritten None c.args.at (take c.args.range.now.len (drop c.args.range.now.from (cells_of s c.in_ok-ino.source)))) _ _
    c.in_ok-contents.ensures.contents made _ c.in_ok-put_contents.ensures in
    clone_made None s s true c.args.path.now c.args.at c.args.range.now.path.now c.args.range.now.from c.args.range.now.len files there good apart ∙ ap Ok (sym same)
