-- The places reach over all contents that there can be.
use Rattle.std.proofs.Common.{ℕ, ◌-◌, ◌<◌, ◌≤◌, ◌^◌, ◌%◌, arith}
use Rattle.inode_tree.proofs.OtherContents.{all_reached}
use Rattle.tree_tests.specs.declared.marks.Mark.{Mark}
use Rattle.tree_tests.proofs.contents_tests.traced.Goals as goal

far : (ino len : ℕ) → len < 2 ^ 63 → len ≤ 2 ^ 64 - 1 - ino % 1024
far ino len small = omega arith

pub retraced-requires : goal.retraced-requires
retraced-requires c = all_reached {P = Mark} (λ m. 2 ^ 64 - 1 - m.place) (λ ino. record { place = ino % 1024 }) far _
