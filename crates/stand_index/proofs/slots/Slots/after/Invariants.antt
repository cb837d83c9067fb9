use Rattle.std.proofs.Common.{◌≡◌, ℕ, ◌+◌, ◌-◌, ◌*◌, ◌^◌, ◌<◌, ◌≤◌, [], IfSome, OnOk, length, Option}
use Rattle.std.specs.List.{AllByRecursion}
use Rattle.std.specs.Option.{option_map}
use Rattle.stand_index.specs.declared.slot.Slot.{Slot}
use Rattle.stand_index.specs.Blocks.{Adds, IsAmong, IsNext}
use Rattle.stand_index.specs.Slots.{start_of, all_blocks, AreSlots, IsWidth, IsSlot, sought, place_of}
use Rattle.stand_index.proofs.slots.Slots.after.Given as goal

abbrev pub invariant-loop-slot : goal.invariant-loop-slot
invariant-loop-slot g l =
    AllByRecursion (λ e. IsSlot l.self-inside.width e × (e.0.start ≡ start_of l.self-inside.width l.cell)) l.slot-iterator
    × ((o : Option (Slot g.row.S.Denot × ℕ)) → sought l.cell l.slot-iterator ≡ o
    → IsNext (λ place. IsAmong l.fn.source l.cell place.0 place.1 (all_blocks l.self-inside.width l.self-inside.map.entries)) l.fn.last (option_map (λ e. place_of l.self-inside.width l.cell e.0) o))
