use Rattle.std.proofs.Common.{◌≡◌, ℕ, true, nat_le, ◌-◌, ◌+◌, ◌<◌, ◌≤◌, ◌^◌, List, [], ◌∷◌, Some, None, Option, sym, ◌∙◌, arith, subst, rules, ap, refl}
use Rattle.std.specs.List.{AllByRecursion, filter}
use Rattle.std.specs.Option.{option_map}
use Rattle.std.specs.declared.ops.Bound.{Bound}
use Rattle.stand_index.specs.declared.slot.Slot.{Slot}
use Rattle.stand_index.specs.declared.blocks.Blocks.{Blocks}
use Rattle.stand_index.specs.Blocks.{IsAmong, IsNext}
use Rattle.stand_index.specs.Slots.{IsSlot, start_of, place_of, all_blocks, sought, has_cell}
use Rattle.std.specs.BTreeMap.Range.{range_contains}
use Rattle.stand_index.proofs.Orders.{slot_cmp}
use Rattle.stand_index.proofs.Numbers.{start_near}
use Rattle.stand_index.proofs.Found.{low, high, both, near_found, passed_on, found_here}
use Rattle.stand_index.proofs.slots.Slots.after.Goals as goal
use Rattle.stand_index.proofs.slots.Slots.after.Goals.{in-None, in-Some}

pub loop-slot-init : goal.loop-slot-init
loop-slot-init g c =
    near_found _ g.met.S.Ord.total g.met.S.Source.exact c.self.inside.width c.args.cell c.self.invariant.0.some c.args.source c.args.last c.self.inside.map.entries c.into_iter-slot-iterator.result
    c.self.invariant.1 c.range-slot-items.ensures.ordered
    (c.into_iter-slot-iterator.ensures.into_iter_gives ∙ c.range-slot-items.ensures.between tt
    ∙ ap (λ (b : Bound (Slot g.row.S.Denot)). filter (λ (e : Slot g.row.S.Denot × ℕ). range_contains (slot_cmp g.S.Ord.cmp) b the_high e.0) c.self.inside.map.entries) low_is)
  where
    the_low : Option (ℕ × ℕ) → Bound (Slot g.row.S.Denot)
    the_low last = low g.S.Ord.cmp g.met.S.Ord.total g.met.S.Source.exact c.self.inside.width c.args.cell c.self.invariant.0.some c.args.source last

    the_high : Bound (Slot g.row.S.Denot)
    the_high = high g.S.Ord.cmp g.met.S.Ord.total g.met.S.Source.exact c.self.inside.width c.args.cell c.self.invariant.0.some c.args.source

    low_is : c.match-last.low ≡ the_low c.args.last
    low_is = elim c.match-last.branch [ in-None w ↦ w.low-is ∙ ap the_low (sym w.in-None.is) | in-Some w ↦ w.low-is ∙ ap the_low (sym w.in-Some.is) ]

from_has : {S : Type 0} (slot : Slot S) (count cell : ℕ) → has_cell slot count cell ≡ true → slot.first ≤ cell
from_has slot count cell has = let p = both (nat_le slot.first cell) _ has in grind (arith, p.0)

-- What is kept of the entry.
low_enough : (width cell start shift first : ℕ) → start ≡ start_of width cell → start + width ≤ shift + first → first ≤ cell → 0 < width → width - (cell - start_of width cell) ≤ shift
low_enough width cell start shift first is enough from some = omega (arith, is, enough, from, start_near width cell some)

pub overflow_sub-result-then-has-2 : goal.overflow_sub-result-then-has-2
overflow_sub-result-then-has-2 g c =
    let all = subst (AllByRecursion (λ e. IsSlot c.self.inside.width e × (e.0.start ≡ start_of c.self.inside.width c.args.cell))) c.in-Some-2.ensures.steps c.loop-slot.invariant.0 in
    low_enough c.self.inside.width c.args.cell c.in-Some-2.slot.now.start c.in-Some-2.slot.now.shift c.in-Some-2.slot.now.first all.0.1 all.0.0.low (from_has c.in-Some-2.slot.now c.in-Some-2.count.now c.args.cell (sym c.if-has.ensures)) c.self.invariant.0.some

pub returns-then-has : goal.returns-then-has
returns-then-has g c =
    let all = subst (AllByRecursion (λ e. IsSlot c.self.inside.width e × (e.0.start ≡ start_of c.self.inside.width c.args.cell))) c.in-Some-2.ensures.steps c.loop-slot.invariant.0 in
    let there = c.loop-slot.invariant.1 (Some (c.in-Some-2.slot.now, c.in-Some-2.count.now)) (found_here c.args.cell (c.in-Some-2.slot.now, c.in-Some-2.count.now) c.loop-slot.slot-iterator c.next.new.self c.in-Some-2.ensures.steps (sym c.if-has.ensures)) in
    subst (λ (blocks : List (Blocks g.row.S.Denot)). IsNext (λ place. IsAmong c.args.source c.args.cell place.0 place.1 blocks) c.args.last
    (Some (c.in-Some-2.slot.now.ino, c.in-Some-2.slot.now.shift - (c.self.inside.width - (c.args.cell - start_of c.self.inside.width c.args.cell)))))
    c.self.view_is
    (subst (λ (start : ℕ). IsNext (λ place. IsAmong c.args.source c.args.cell place.0 place.1 (all_blocks c.self.inside.width c.self.inside.map.entries)) c.args.last
    (Some (c.in-Some-2.slot.now.ino, c.in-Some-2.slot.now.shift - (c.self.inside.width - (c.args.cell - start))))) all.0.1 there)

pub loop-slot-preserved : goal.loop-slot-preserved
loop-slot-preserved g c =
    let all = subst (AllByRecursion (λ e. IsSlot c.self.inside.width e × (e.0.start ≡ start_of c.self.inside.width c.args.cell))) c.in-Some-2.ensures.steps c.loop-slot.invariant.0 in
    (all.1, λ o is. c.loop-slot.invariant.1 o (passed_on c.args.cell (c.in-Some-2.slot.now, c.in-Some-2.count.now) c.loop-slot.slot-iterator c.next.new.self c.in-Some-2.ensures.steps (sym c.if-has.ensures) o is))

pub returns : goal.returns
returns g c = subst (λ (blocks : List (Blocks g.row.S.Denot)). IsNext (λ place. IsAmong c.args.source c.args.cell place.0 place.1 blocks) c.args.last None)
    c.self.view_is
    (c.loop-slot.invariant.1 None (ap (sought c.args.cell) c.in-None-2.ensures.steps.0))
