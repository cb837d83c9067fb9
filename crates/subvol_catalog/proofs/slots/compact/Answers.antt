use Rattle.std.proofs.Common.{length, ap, arith, ◌∙◌}
use Rattle.subvol_catalog.specs.Slots.{occupied}
use Rattle.subvol_catalog.proofs.Tombstones.{occupied_cleared, left_cleared, slots_cleared}
use Rattle.subvol_catalog.proofs.slots.compact.Goals as goal

pub returns-then-capacity-len-clause-same : goal.returns-then-capacity-len-clause-same
returns-then-capacity-len-clause-same g c = ap occupied c.clear_tombstones.ensures.left ∙ occupied_cleared c.args.slots.now.entries

pub returns-then-capacity-len-clause-slots : goal.returns-then-capacity-len-clause-slots
returns-then-capacity-len-clause-slots g c = λ next are. slots_cleared c.args.slots.now.entries c.args.count next are _ c.clear_tombstones.ensures.left c.clear_tombstones.ensures.apart

pub returns-then-capacity-len-clause-full : goal.returns-then-capacity-len-clause-full
returns-then-capacity-len-clause-full g c = omega (arith, ap length c.clear_tombstones.ensures.left, left_cleared c.args.slots.now.entries, c.requires.counted)
