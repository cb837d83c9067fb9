-- Contents that began empty are the part.
use Rattle.std.proofs.Common.{None, length, ap, ◌∙◌}
use Rattle.extent_map.specs.Cells.{put_cells, cells_between}
use Rattle.extent_map.proofs.CellLists.{put_first, length-between}
use Rattle.subvol.proofs.cloning.part_of.Goals as goal

pub returns-clause-cells : goal.returns-clause-cells
returns-clause-cells g c =
    let part = cells_between c.args.from c.args.len c.args.cells.now in
    c.in_ok-copy_range.ensures ∙ ap (put_cells None 0 part) c.new-part.ensures ∙ put_first None part

pub returns-clause-count : goal.returns-clause-count
returns-clause-count g c =
    let part = cells_between c.args.from c.args.len c.args.cells.now in
    ap length (c.in_ok-copy_range.ensures ∙ ap (put_cells None 0 part) c.new-part.ensures ∙ put_first None part)
    ∙ length-between c.args.from c.args.len c.args.cells.now c.requires.within
