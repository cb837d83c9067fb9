use Rattle.std.proofs.Common.{◌+◌, ◌-◌, ◌<◌, ◌≤◌, ◌^◌, map, length, refl, sym, ◌∙◌, arith, rules}
use Rattle.std.specs.String.{string_bytes}
use Rattle.extent_map.specs.Cells.{cells_between}
use Rattle.extent_map.proofs.CellLists.{length-between}
use Rattle.extent_map.proofs.PieceByPiece.{next_within, left_after, filled_all, mid_length}
use Rattle.provenance.specs.Traces.{advanced_by}
use Rattle.clone_pieces.proofs.Told.{all_map}
use Rattle.clone_pieces.proofs.Lengths.{long_then}
use Rattle.sx_base.proofs.Asking.{asked_nothing}
use Rattle.clone_pieces.proofs.Asked.{again_more}
use Rattle.clone_pieces.proofs.Fills.{FilledTo, turn_had, turn_there, turn_filled}
use Rattle.clone_pieces.specs.Filling.{byte_in, FillEnd}
use Rattle.std.specs.Prelude.{Ok}
use Rattle.clone_pieces.proofs.filling.fill_cells.Given.{Over}
use Rattle.clone_pieces.proofs.filling.fill_cells.Goals.{In-Some}
use Rattle.clone_pieces.proofs.filling.fill_cells.Goals as goal

pub loop-origin-init : goal.loop-origin-init
loop-origin-init g c = record {
  can = search rules;
  finite = search rules;
  size = search rules;
  within = omega arith;
  left = search rules;
  same = refl;
  asked = asked_nothing g.I.Inputs c.args.inputs.now tt;
  sizes = λ key ino. refl;
  held = λ tells. refl;
  steady = refl;
  ends_steady = refl;
  bytes_steady = refl;
  filled = λ tells. search rules;
}

-- The piece ends within the buffer.
fits : (g : Over) (c : In-Some g) → c.loop-origin.have + c.in-Some.len ≤ length c.args.buf.now
fits g c =
    let s = c.in-Some.ensures.steps in
    next_within advanced_by c.args.contents.now c.args.from (length c.args.buf.now) c.loop-origin.have c.in-Some.len c.in-Some.origin c.next.new.self c.requires.within (c.loop-origin.invariant.left ∙ s.2) s.0

pub overflow_add-end : goal.overflow_add-end
overflow_add-end g c =
    let r = fits g (goal.at.overflow_add-end g c).In-Some in
    let small : length c.args.buf.now < 2 ^ 63 = search rules in
    omega (arith, r, small)

pub slice_bounds-fill_piece-end : goal.slice_bounds-fill_piece-end
slice_bounds-fill_piece-end g c =
    let r = fits g (goal.at.slice_bounds-fill_piece-end g c).In-Some in
    omega (arith, r, c.loop-origin.invariant.size)

pub fill_piece-requires-clause-had : goal.fill_piece-requires-clause-had
fill_piece-requires-clause-had g c =
    let s = c.in-Some.ensures.steps in
    let i = c.loop-origin.invariant in
    let whole = cells_between c.args.from (length c.args.buf.now) c.args.contents.now in
    let r = fits g (goal.at.fill_piece-requires-clause-had g c).In-Some in
    turn_had (g.I.Inputs.told c.args.inputs.now) (g.I.Inputs.told c.loop-origin.inputs) (map string_bytes c.args.files.now) (g.B.OutsideBytes.held c.args.bytes.now) (g.B.OutsideBytes.held c.loop-origin.bytes) i.same
    whole c.loop-origin.have c.in-Some.len c.in-Some.origin c.next.new.self (i.left ∙ s.2) s.0 _ (mid_length c.loop-origin.have c.in-Some.len c.loop-origin.buf (omega (arith, r, i.size))) i.sizes (length c.args.files.now) c.requires.had

pub fill_piece-requires-clause-there : goal.fill_piece-requires-clause-there
fill_piece-requires-clause-there g c =
    let s = c.in-Some.ensures.steps in
    let i = c.loop-origin.invariant in
    let whole = cells_between c.args.from (length c.args.buf.now) c.args.contents.now in
    let r = fits g (goal.at.fill_piece-requires-clause-there g c).In-Some in
    turn_there (g.I.Inputs.told c.args.inputs.now) (g.I.Inputs.told c.loop-origin.inputs) (map string_bytes c.args.files.now) (g.B.OutsideBytes.held c.args.bytes.now) (g.B.OutsideBytes.held c.loop-origin.bytes) i.same
    whole c.loop-origin.have c.in-Some.len c.in-Some.origin c.next.new.self (i.left ∙ s.2) s.0 _ (mid_length c.loop-origin.have c.in-Some.len c.loop-origin.buf (omega (arith, r, i.size))) c.requires.there

pub loop-origin-preserved : goal.loop-origin-preserved
loop-origin-preserved g c =
    let s = c.in-Some.ensures.steps in
    let i = c.loop-origin.invariant in
    let e = c.in-Ok.ensures in
    let whole = cells_between c.args.from (length c.args.buf.now) c.args.contents.now in
    let r = fits g (goal.at.loop-origin-preserved g c).In-Some in
    let mid = mid_length c.loop-origin.have c.in-Some.len c.loop-origin.buf (omega (arith, r, i.size)) in
    record {
      can = tt;
      finite = tt;
      size = search rules;
      within = r;
      left = left_after advanced_by whole c.loop-origin.have c.in-Some.len c.in-Some.origin c.next.new.self (i.left ∙ s.2);
      same = e.inputs.same ∙ i.same;
      asked = again_more g.I.Inputs (map string_bytes c.args.files.now) c.args.inputs.now c.loop-origin.inputs c.fill_piece.new.inputs i.same i.asked e.asked;
      sizes = long_then _ _ _ e.bytes.sizes i.sizes;
      held = λ tells. e.bytes.held tells ∙ i.held tells;
      steady = e.inputs.steady ∙ i.steady;
      ends_steady = e.inputs.ends_steady ∙ i.ends_steady;
      bytes_steady = e.bytes.steady ∙ i.bytes_steady;
      filled = λ tells. turn_filled (g.I.Inputs.told c.args.inputs.now) (g.I.Inputs.told c.loop-origin.inputs) (map string_bytes c.args.files.now) (g.B.OutsideBytes.held c.args.bytes.now) (g.B.OutsideBytes.held c.loop-origin.bytes) i.same
          whole c.loop-origin.have c.in-Some.len c.in-Some.origin c.next.new.self (i.left ∙ s.2) s.0 _ mid (i.held tells) (c.loop-origin.have + c.in-Some.len - c.loop-origin.have) (omega arith) c.loop-origin.buf c.fill_piece.new.buf
          (omega (arith, i.within, i.size)) (i.filled tells) (e.filled tells);
    }

pub returns-clause-filled : goal.returns-clause-filled
returns-clause-filled g c tells =
    let i = c.loop-origin.invariant in
    let whole = cells_between c.args.from (length c.args.buf.now) c.args.contents.now in
    let l = length-between c.args.from (length c.args.buf.now) c.args.contents.now c.requires.within in
    let held = g.B.OutsideBytes.held c.args.bytes.now in
    all_map (g.I.Inputs.told c.args.inputs.now) (map string_bytes c.args.files.now) (FilledTo held whole c.loop-origin.have c.loop-origin.buf) (FillEnd held whole c.loop-origin.buf (Ok tt))
    (λ files filled. filled_all (byte_in held files) whole c.loop-origin.have c.loop-origin.buf (i.left ∙ c.in-None.ensures.steps.0) (i.size ∙ sym l) filled) (i.filled tells)

pub returns-in-Err-clause-asked : goal.returns-in-Err-clause-asked
returns-in-Err-clause-asked g c =
    let i = c.loop-origin.invariant in
    again_more g.I.Inputs (map string_bytes c.args.files.now) c.args.inputs.now c.loop-origin.inputs c.fill_piece.new.inputs i.same i.asked c.in-Err.ensures.asked
