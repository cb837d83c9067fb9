use Rattle.std.proofs.Common.{◌≡◌, ℕ, ◌+◌, ◌<◌, ◌++◌, min, List, [], Option, None, length, drop, sym, ◌∙◌, ap, arith}
use Rattle.std.proofs.lemmas.Bool.{eqb-true, eqb-false}
use Rattle.std.proofs.lemmas.List.{nil_from_length, take_rest, drop_min}
use Rattle.extent_map.specs.Cells.{put_cells, resize_cells}
use Rattle.extent_map.proofs.CellLists.{put_none, put_some}
use Rattle.tree_tests.proofs.plain.PlainCells.put.Goals as goal

pub returns-then-is_empty : goal.returns-then-is_empty
returns-then-is_empty g c =
    let e : c.args.new.now ≡ [] = nil_from_length c.args.new.now (eqb-true _ _ (sym c.is_empty.ensures ∙ c.if-is_empty.true)) in
    sym (put_none None c.args.at c.args.self.now) ∙ ap (λ (l : List (Option g.row.O.Denot)). put_cells None c.args.at l c.args.self.now) (sym e)

pub returns : goal.returns
returns g c =
    let all = c.deref.result.now in
    let end : ℕ = c.args.at + length c.args.new.now in
    let m : c.min.result ≡ min end (length c.deref.result.now) = omega (arith, c.min.ensures, c.len.ensures, c.deref.ensures.len) in
    let now : c.deref.result.now ≡ c.args.self.now = c.deref.ensures.value ∙ c.self.view_is in
    let some : 0 < length c.args.new.now = grind (arith, eqb-false _ _ (sym c.is_empty.ensures ∙ c.if-is_empty.false)) in
    let tail : c.in_ok-tail.tail.items ≡ drop end c.args.self.now =
    c.in_ok-tail.ensures.items
    ∙ take_rest c.deref.result.now c.min.result
    ∙ ap (λ (n : ℕ). drop n c.deref.result.now) m
    ∙ drop_min end c.deref.result.now
    ∙ ap (drop end) now in
    let front : c.extend_from_slice.new.self.items ≡ resize_cells None c.args.at c.args.self.now ++ c.args.new.now =
    c.in_ok-extend_from_slice.ensures.items ∙ ap (λ (l : List (Option g.row.O.Denot)). l ++ c.args.new.now) (c.self-2.view_is ∙ c.in_ok-cut_to.ensures) in
    c.in_ok-extend_from_slice-2.ensures.items
    ∙ ap (λ (l : List (Option g.row.O.Denot)). l ++ c.deref-2.result.now) front
    ∙ ap (λ (l : List (Option g.row.O.Denot)). resize_cells None c.args.at c.args.self.now ++ c.args.new.now ++ l) (c.deref-2.ensures.value ∙ tail)
    ∙ sym (put_some None c.args.at c.args.new.now c.args.self.now some)
