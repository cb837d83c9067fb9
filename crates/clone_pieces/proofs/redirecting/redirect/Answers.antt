use Rattle.std.specs.List.{AllByRecursion}
use Rattle.std.specs.String.{string_bytes}
use Rattle.std.proofs.Common.{◌≡◌, ℕ, List, ◌∷◌, ◌+◌, ◌<◌, ◌^◌, map, refl, sym, subst, ◌∙◌, arith, rules}
use Rattle.sx_base.specs.Calls.{IfAllTold}
use Rattle.extent_map.specs.Cells.{cells_between}
use Rattle.extent_map.proofs.CellLists.{length-between}
use Rattle.provenance.specs.Traces.{place_in}
use Rattle.provenance.specs.Plans.{planned}
use Rattle.provenance.specs.Cuts.{Cut}
use Rattle.clone_pieces.specs.Cutting.{cut_len, IsNamed}
use Rattle.sx_base.proofs.Asking.{asked_nothing}
use Rattle.clone_pieces.proofs.Asked.{again_more}
use Rattle.clone_pieces.proofs.Lengths.{long_then}
use Rattle.clone_pieces.proofs.Rows.{CutRow, cuts_row, cuts_named, row_next, row_fits, row_stands}
use Rattle.clone_pieces.proofs.Redirects.{plan_had, plan_there, Stands, stands_start, stands_more, stands_stop, stands_end}
use Rattle.clone_pieces.proofs.redirecting.redirect.Given.{Over}
use Rattle.clone_pieces.proofs.redirecting.redirect.Goals.{In-Some}
use Rattle.clone_pieces.proofs.redirecting.redirect.Goals as goal

pub loop-plan-init : goal.loop-plan-init
loop-plan-init g c =
    let E = g.E.Ends.ends c.args.sources.now.known.now in
    let base = g.E.Known.base c.args.sources.now.known.now in
    let right = g.met.E.Known.ends_are c.args.sources.now.known.now in
    let cells = cells_between c.args.range.now.from c.args.range.now.len c.args.range.now.contents.now in
    let cuts = c.cut_blocks-plan-items.result in
    let said = c.cut_blocks-plan-items.ensures in
    let is : c.into_iter-plan-iterator.result ≡ cuts = search rules in
    let long = length-between c.args.range.now.from c.args.range.now.len c.args.range.now.contents.now c.requires.within in
    let told = g.I.Inputs.told c.args.inputs.now in
    let names = map string_bytes c.args.sources.now.files.now in
    let held = g.B.OutsideBytes.held c.args.bytes.now in
    let out = g.O.Sink.taken c.args.out.now in
    record {
      can = tt;
      finite = tt;
      row = subst (λ (cs : List Cut). CutRow c.args.range.now.from 0 cs c.args.range.now.len) (sym is) (subst (λ (n : ℕ). CutRow c.args.range.now.from 0 cuts n) long (cuts_row base E right c.args.range.now.from cells cuts said.pieces));
      named = subst (λ (cs : List Cut). AllByRecursion (IsNamed E) cs) (sym (is ∙ said.cuts)) (cuts_named E c.args.range.now.from (map place_in cells));
      same = refl;
      asked = asked_nothing g.I.Inputs c.args.inputs.now tt;
      sizes = λ key ino. refl;
      held = λ tells. refl;
      steady = refl;
      ends_steady = refl;
      bytes_steady = refl;
      out_steady = refl;
      stands = λ tells. subst (λ (cs : List Cut). IfAllTold told names (Stands told names base held c.args.range.now.contents.now c.args.range.now.from c.args.range.now.len c.args.range.now.to.version c.args.range.now.to.path.now c.args.range.now.to.offset 0 cs out out c.args.pending.now c.args.pending.now)) (sym is)
          (stands_start told names base held c.args.range.now.contents.now c.args.range.now.from c.args.range.now.len c.args.range.now.to.version c.args.range.now.to.path.now c.args.range.now.to.offset E right (c.requires.held tells) cuts c.requires.within said.pieces out c.args.pending.now);
    }

-- The piece stands behind those that have gone out, and ends within the file.
standing : (g : Over) (c : In-Some g) → CutRow c.args.range.now.from c.loop-plan.done (planned c.in-Some.plan ∷ c.next.new.self) c.args.range.now.len
standing g c = subst (λ (cs : List Cut). CutRow c.args.range.now.from c.loop-plan.done cs c.args.range.now.len) c.in-Some.ensures.steps c.loop-plan.invariant.row

ends : (g : Over) (c : In-Some g) → c.args.range.now.to.offset + c.loop-plan.done + cut_len (planned c.in-Some.plan) < 2 ^ 63
ends g c =
    let fits = row_fits c.args.range.now.from c.loop-plan.done c.args.range.now.len (planned c.in-Some.plan) c.next.new.self (standing g c) in
    omega (arith, fits, c.requires.end)

pub overflow_add-piece : goal.overflow_add-piece
overflow_add-piece g c = let e = ends g (goal.at.overflow_add-piece g c).In-Some in omega (arith, e)

pub write_piece-requires-clause-end : goal.write_piece-requires-clause-end
write_piece-requires-clause-end g c = ends g (goal.at.write_piece-requires-clause-end g c).In-Some

pub write_piece-requires-clause-within : goal.write_piece-requires-clause-within
write_piece-requires-clause-within g c =
    row_stands c.args.range.now.from c.loop-plan.done c.args.range.now.len _ (planned c.in-Some.plan) c.next.new.self (standing g (goal.at.write_piece-requires-clause-within g c).In-Some) c.requires.within

pub write_piece-requires-clause-had : goal.write_piece-requires-clause-had
write_piece-requires-clause-had g c =
    let i = c.loop-plan.invariant in
    plan_had (g.I.Inputs.told c.args.inputs.now) (g.I.Inputs.told c.loop-plan.inputs) (map string_bytes c.args.sources.now.files.now) i.same
    c.args.range.now.contents.now c.args.range.now.from c.args.range.now.len c.loop-plan.done (planned c.in-Some.plan) c.loop-plan.plan-iterator c.next.new.self c.in-Some.ensures.steps i.row _ (g.E.Known.base c.args.sources.now.known.now) (g.B.OutsideBytes.held c.loop-plan.bytes) (long_then _ _ _ i.sizes c.requires.sized) c.requires.had

pub write_piece-requires-clause-there : goal.write_piece-requires-clause-there
write_piece-requires-clause-there g c =
    let i = c.loop-plan.invariant in
    plan_there (g.I.Inputs.told c.args.inputs.now) (g.I.Inputs.told c.loop-plan.inputs) (map string_bytes c.args.sources.now.files.now) i.same
    c.args.range.now.contents.now c.args.range.now.from c.args.range.now.len c.loop-plan.done (planned c.in-Some.plan) c.loop-plan.plan-iterator c.next.new.self c.in-Some.ensures.steps i.row c.requires.there

pub overflow_add-done : goal.overflow_add-done
overflow_add-done g c = let e = ends g (goal.at.overflow_add-done g c).In-Some in omega (arith, e, c.len_of-count.ensures)

pub loop-plan-preserved : goal.loop-plan-preserved
loop-plan-preserved g c =
    let i = c.loop-plan.invariant in
    let e = c.in-Ok.ensures in
    let step = c.in-Some.ensures.steps in
    let E = g.E.Ends.ends c.args.sources.now.known.now in
    let told = g.I.Inputs.told c.args.inputs.now in
    let names = map string_bytes c.args.sources.now.files.now in
    let base = g.E.Known.base c.args.sources.now.known.now in
    let held = g.B.OutsideBytes.held c.args.bytes.now in
    let out = g.O.Sink.taken c.args.out.now in
    let next_out = g.O.Sink.taken c.write_piece.new.out in
    let row = standing g (goal.at.loop-plan-preserved g c).In-Some in
    let long : cut_len (planned c.in-Some.plan) ≡ c.len_of-count.result = sym c.len_of-count.ensures in
    record {
      can = tt;
      finite = tt;
      row = subst (λ (n : ℕ). CutRow c.args.range.now.from (c.loop-plan.done + n) c.next.new.self c.args.range.now.len) long (row_next c.args.range.now.from c.loop-plan.done c.args.range.now.len (planned c.in-Some.plan) c.next.new.self row);
      named = (subst (λ (cs : List Cut). AllByRecursion (IsNamed E) cs) step i.named).1;
      same = e.inputs.same ∙ i.same;
      asked = again_more g.I.Inputs names c.args.inputs.now c.loop-plan.inputs c.write_piece.new.inputs i.same i.asked e.asked;
      sizes = long_then _ _ _ e.bytes.sizes i.sizes;
      held = λ tells. e.bytes.held tells ∙ i.held tells;
      steady = e.inputs.steady ∙ i.steady;
      ends_steady = e.inputs.ends_steady ∙ i.ends_steady;
      bytes_steady = e.bytes.steady ∙ i.bytes_steady;
      out_steady = e.out.steady ∙ i.out_steady;
      stands = λ tells. subst (λ (n : ℕ). IfAllTold told names (Stands told names base held c.args.range.now.contents.now c.args.range.now.from c.args.range.now.len c.args.range.now.to.version c.args.range.now.to.path.now c.args.range.now.to.offset (c.loop-plan.done + n) c.next.new.self out next_out c.args.pending.now c.write_piece.new.pending)) long
          (stands_more told names base held c.args.range.now.contents.now c.args.range.now.from c.args.range.now.len c.args.range.now.to.version c.args.range.now.to.path.now c.args.range.now.to.offset (g.I.Inputs.told c.loop-plan.inputs) (g.B.OutsideBytes.held c.loop-plan.bytes) i.same (i.held tells)
          c.loop-plan.done c.loop-plan.plan-iterator (planned c.in-Some.plan) c.next.new.self step out (g.O.Sink.taken c.loop-plan.out) next_out c.args.pending.now c.loop-plan.pending c.write_piece.new.pending (i.stands tells) (e.written tells));
    }

pub returns-in-Err-clause-redirected : goal.returns-in-Err-clause-redirected
returns-in-Err-clause-redirected g c tells =
    let i = c.loop-plan.invariant in
    stands_stop (g.I.Inputs.told c.args.inputs.now) (map string_bytes c.args.sources.now.files.now) (g.E.Known.base c.args.sources.now.known.now) (g.B.OutsideBytes.held c.args.bytes.now) c.args.range.now.contents.now c.args.range.now.from c.args.range.now.len c.args.range.now.to.version c.args.range.now.to.path.now c.args.range.now.to.offset
    (g.I.Inputs.told c.loop-plan.inputs) (g.B.OutsideBytes.held c.loop-plan.bytes) i.same (i.held tells) c.loop-plan.done c.loop-plan.plan-iterator (planned c.in-Some.plan) c.next.new.self c.in-Some.ensures.steps
    (g.O.Sink.taken c.args.out.now) (g.O.Sink.taken c.loop-plan.out) (g.O.Sink.taken c.write_piece.new.out) c.args.pending.now c.loop-plan.pending c.write_piece.new.pending c.in-Err.stop (i.stands tells) (c.in-Err.ensures.written tells)

pub returns-clause-redirected : goal.returns-clause-redirected
returns-clause-redirected g c tells =
    stands_end (g.I.Inputs.told c.args.inputs.now) (map string_bytes c.args.sources.now.files.now) (g.E.Known.base c.args.sources.now.known.now) (g.B.OutsideBytes.held c.args.bytes.now) c.args.range.now.contents.now c.args.range.now.from c.args.range.now.len c.args.range.now.to.version c.args.range.now.to.path.now c.args.range.now.to.offset
    c.loop-plan.done c.loop-plan.plan-iterator c.in-None.ensures.steps.0 (g.O.Sink.taken c.args.out.now) (g.O.Sink.taken c.loop-plan.out) c.args.pending.now c.loop-plan.pending (c.loop-plan.invariant.stands tells)

pub returns-in-Err-clause-asked : goal.returns-in-Err-clause-asked
returns-in-Err-clause-asked g c =
    let i = c.loop-plan.invariant in
    again_more g.I.Inputs (map string_bytes c.args.sources.now.files.now) c.args.inputs.now c.loop-plan.inputs c.write_piece.new.inputs i.same i.asked c.in-Err.ensures.asked
