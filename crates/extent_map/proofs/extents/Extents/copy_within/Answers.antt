use Rattle.std.proofs.Common.{◌≡◌, None, length, ◌∙◌, ap, arith}
use Rattle.extent_map.specs.Cells.{put_cells, cells_between}
use Rattle.extent_map.proofs.CellLists.{put_first, between_all, length-between}
use Rattle.extent_map.proofs.extents.Extents.copy_within.Goals as goal

pub copy_range-requires-2-clause-source : goal.copy_range-requires-2-clause-source
copy_range-requires-2-clause-source g c =
    let e : c.copy_range.new.self ≡ cells_between c.args.from c.args.len c.args.self.now =
    c.in_ok-copy_range.ensures
    ∙ ap (put_cells None 0 (cells_between c.args.from c.args.len c.args.self.now)) c.new-part.ensures
    ∙ put_first None (cells_between c.args.from c.args.len c.args.self.now) in
    omega (arith, ap length e, length-between c.args.from c.args.len c.args.self.now c.requires.source)

pub returns : goal.returns
returns g c =
    let e : c.copy_range.new.self ≡ cells_between c.args.from c.args.len c.args.self.now =
    c.in_ok-copy_range.ensures
    ∙ ap (put_cells None 0 (cells_between c.args.from c.args.len c.args.self.now)) c.new-part.ensures
    ∙ put_first None (cells_between c.args.from c.args.len c.args.self.now) in
    let n : length c.copy_range.new.self ≡ c.args.len = ap length e ∙ length-between c.args.from c.args.len c.args.self.now c.requires.source in
    let same : cells_between 0 c.args.len c.copy_range.new.self ≡ cells_between c.args.from c.args.len c.args.self.now = between_all c.args.len c.copy_range.new.self n ∙ e in
    rw same at c.copy_range-2.ensures
