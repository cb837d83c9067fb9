use Rattle.std.proofs.Common.{◌-◌, ◌≡◌, ℕ, ◌+◌, ◌*◌, ◌^◌, ◌<◌, ◌≤◌}
use Rattle.stand_index.specs.Blocks.{Adds}
use Rattle.stand_index.specs.Slots.{all_blocks, AreSlots, IsWidth}
use Rattle.stand_index.proofs.Adding.{front_of}
use Rattle.stand_index.proofs.slots.Slots.add.Given as goal

abbrev pub invariant-loop-done : goal.invariant-loop-done
invariant-loop-done g l =
    (l.done ≤ l.fn.blocks.count) × AreSlots l.self-inside.width l.self-inside.map.entries
    × (l.self-inside.width ≡ l.initial.self-inside.width) × IsWidth l.self-inside.width
    × Adds (front_of l.fn.blocks l.done) (all_blocks l.initial.self-inside.width l.initial.self-inside.map.entries) (all_blocks l.self-inside.width l.self-inside.map.entries)

abbrev pub decreases-loop-done : goal.decreases-loop-done
decreases-loop-done g l = l.fn.blocks.count - l.done
