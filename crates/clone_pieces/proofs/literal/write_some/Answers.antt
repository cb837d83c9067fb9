use Rattle.std.specs.Prelude.{ℕ, ◌++◌, map, length, take, drop, Ok}
use Rattle.std.specs.String.{string_bytes}
use Rattle.std.proofs.Common.{rules, ◌≡◌, ◌∙◌, ap, subst}
use Rattle.std.proofs.Math.Seq.{take-append_seam}
use Rattle.sx_base.specs.Calls.{IfAllTold}
use Rattle.sx_base.proofs.Asking.{asked_nothing}
use Rattle.extent_map.specs.Cells.{cells_between}
use Rattle.clone_pieces.specs.Filling.{FillEnd}
use Rattle.clone_pieces.specs.Sending.{output}
use Rattle.clone_pieces.proofs.Literals.{unread_stops, row_put}
use Rattle.clone_pieces.proofs.literal.write_some.Goals as goal

pub returns-in_default-clause-asked : goal.returns-in_default-clause-asked
returns-in_default-clause-asked g c = asked_nothing g.I.Inputs c.args.inputs.now tt

pub returns-in-Ok-fill_cells-clause-written : goal.returns-in-Ok-fill_cells-clause-written
returns-in-Ok-fill_cells-clause-written g c tells =
    let range = c.args.range.now in
    let long : length c.as_mut_slice-buf.result.now ≡ range.len = search rules in
    let whole : c.in-Ok.row.len ≡ length c.fill_cells.new.buf = search rules in
    let same : c.as_slice.result.now ≡ c.fill_cells.new.buf =
    c.as_slice.ensures.value ∙ ap (λ (n : ℕ). take n (c.fill_cells.new.buf ++ drop (length c.fill_cells.new.buf) c.in-Ok.row.items)) whole ∙ take-append_seam c.fill_cells.new.buf (drop (length c.fill_cells.new.buf) c.in-Ok.row.items) in
    let filled = subst (λ (n : ℕ). IfAllTold (g.I.Inputs.told c.args.inputs.now) (map string_bytes c.args.sources.now.files.now) (FillEnd (g.B.OutsideBytes.held c.args.bytes.now) (cells_between range.from n range.contents.now) c.fill_cells.new.buf (Ok tt))) long (c.in-Ok-fill_cells.ensures.filled tells) in
    row_put (g.I.Inputs.told c.args.inputs.now) (map string_bytes c.args.sources.now.files.now) (g.B.OutsideBytes.held c.args.bytes.now) (cells_between range.from range.len range.contents.now) range.to.version range.to.path.now range.to.offset c.fill_cells.new.buf c.as_slice.result.now
    (output g.O.Sink c.args.out.now c.args.pending.now) (output g.O.Sink c.put_write.new.out c.put_write.new.pending) c.put_write.result same filled c.put_write.ensures.put

pub returns-clause-written : goal.returns-clause-written
returns-clause-written g c tells =
    let range = c.args.range.now in
    unread_stops (g.I.Inputs.told c.args.inputs.now) (map string_bytes c.args.sources.now.files.now) (g.B.OutsideBytes.held c.args.bytes.now) (cells_between range.from (length c.as_mut_slice-buf.result.now) range.contents.now) c.fill_cells.new.buf c.in-Err.stop _
    (g.O.Sink.taken c.args.out.now) c.args.pending.now (c.in-Err.ensures.filled tells)
