use Rattle.std.proofs.Common.{◌≡◌, ℕ, ◌≤◌, List, subst, sym, refl, arith}
use Rattle.stand_index.specs.declared.blocks.Blocks.{Blocks}
use Rattle.stand_index.specs.Blocks.{Adds}
use Rattle.stand_index.specs.Slots.{all_blocks}
use Rattle.stand_index.proofs.Adding.{front_of, adds_part}
use Rattle.stand_index.proofs.slots.Slots.add.Goals as goal

pub loop-done-preserved : goal.loop-done-preserved
loop-done-preserved g c = (
  omega (arith, c.min-count.ensures, c.loop-done.invariant.0, c.loop-done-test.true),
  c.in_ok-put.ensures.kept,
  c.loop-done.invariant.2,
  c.loop-done.invariant.3,
  adds_part c.args.blocks c.loop-done.done c.min-count.result (all_blocks c.self.inside.width c.self.inside.map.entries)
      (all_blocks c.loop-done.self-inside.width c.loop-done.self-inside.map.entries) (all_blocks c.loop-done.self-inside.width c.put.new.map.entries) c.loop-done.invariant.4 c.in_ok-put.ensures.added,
)

pub returns : goal.returns
returns g c =
    let all : c.loop-done.done ≡ c.args.blocks.count = omega (arith, c.loop-done.invariant.0, c.loop-done-test.false) in
    subst (λ (old : List (Blocks g.row.S.Denot)). Adds c.args.blocks old (all_blocks c.loop-done.self-inside.width c.loop-done.self-inside.map.entries)) c.self.view_is
    (subst (λ (n : ℕ). Adds (front_of c.args.blocks n) (all_blocks c.self.inside.width c.self.inside.map.entries) (all_blocks c.loop-done.self-inside.width c.loop-done.self-inside.map.entries)) all c.loop-done.invariant.4)
