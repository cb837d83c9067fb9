use Rattle.std.proofs.Common.{map}
use Rattle.part_names.specs.Overriding.{key_of}
use Rattle.part_names.proofs.Places.{IsSought}
use Rattle.part_names.proofs.overrides.FileOverride.says_parent.Given as goal

abbrev pub invariant-loop-place : goal.invariant-loop-place
invariant-loop-place l = IsSought (map key_of l.self-inside.parents.items) l.uuid l.place
