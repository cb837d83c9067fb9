use Rattle.std.proofs.Common.{◌≡◌, ◌∷◌, ◌++◌, length-set, ◌∙◌, sym, subst, arith, ℕ}
use Rattle.std.proofs.lemmas.Result.{IfOk-weaker}
use Rattle.extent_map.specs.Seen.{IsKid, IsTwo, joined, around, filled}
use Rattle.extent_map.specs.declared.making.Two.{Two}
use Rattle.extent_map.proofs.Makes.{fork_around, cells_around, filled_cells, filled_kids, set_with}
use Rattle.extent_map.proofs.joining.over_two.Goals as goal

pub overflow_add-index : goal.overflow_add-index
overflow_add-index g c = omega (arith, c.requires.open.within, c.args.kids.trees.ok, c.args.kids.trees.small)

pub put_at-requires : goal.put_at-requires
put_at-requires g c = omega (arith, c.requires.open.within, length-set c.args.kids.trees.items c.args.index c.args.two.first)

pub forks-requires-clause-fork : goal.forks-requires-clause-fork
forks-requires-clause-fork g c =
    let a = c.args.two.first in
    let b = c.args.two.second in
    let trees = c.args.kids.trees.items in
    fork_around c.args.kids.height c.args.index a.height trees c.requires.open (sym c.requires.high) c.args.len (a ∷ filled b) c.put_at.new.trees.items (a.cells ++ b.cells)
    (set_with trees c.put_at.new.trees.items c.args.index a (filled b) c.requires.open.within c.in_ok-put_at.ensures)
    (filled_kids a.height a b (c.height-low.ensures.kid c.requires.some) (λ h. subst (λ (n : ℕ). IsKid n b) (c.requires.two.same h) (c.height-more.ensures.kid h)))
    (omega arith)
    (filled_cells a b c.height-more.ensures.none)
    c.requires.count

pub forks-requires-clause-fits : goal.forks-requires-clause-fits
forks-requires-clause-fits g c = c.requires.fits

pub returns : goal.returns
returns g c =
    let a = c.args.two.first in
    let b = c.args.two.second in
    let trees = c.args.kids.trees.items in
    let e : joined c.put_at.new.trees.items ≡ around c.args.index c.args.kids.trees.items (c.args.two.first.cells ++ c.args.two.second.cells) =
    cells_around c.args.kids.height c.args.index a.height trees c.requires.open (sym c.requires.high) (a ∷ filled b) c.put_at.new.trees.items (a.cells ++ b.cells)
    (set_with trees c.put_at.new.trees.items c.args.index a (filled b) c.requires.open.within c.in_ok-put_at.ensures)
    (filled_cells a b c.height-more.ensures.none) in
    IfOk-weaker c.forks.result
    (λ (two : Two g.row.O.Denot). IsTwo (joined c.put_at.new.trees.items) c.args.kids.height two.first two.second)
    (λ (two : Two g.row.O.Denot). IsTwo (around c.args.index c.args.kids.trees.items (c.args.two.first.cells ++ c.args.two.second.cells)) c.args.kids.height two.first two.second)
    (λ two t. record { are = t.are ∙ e; height = t.height; same = t.same })
    c.forks.ensures
