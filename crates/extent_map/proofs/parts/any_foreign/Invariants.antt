use Rattle.std.proofs.Common.{◌≡◌, false, take}
use Rattle.std.specs.List.{list_any}
use Rattle.extent_map.proofs.parts.any_foreign.Given as goal

abbrev pub invariant-loop-part : goal.invariant-loop-part
invariant-loop-part g l = list_any g.T.Part.foreign (take l.part-index l.parts) ≡ false
