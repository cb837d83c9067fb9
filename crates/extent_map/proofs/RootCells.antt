-- The contents of a file as one piece or as a tree.
use Rattle.std.proofs.Common.{◌≡◌, ℕ, ◌^◌, ◌<◌, List, Option, length, subst, arith}
use Rattle.extent_map.specs.declared.extents.Root.{Root}
use Rattle.extent_map.specs.declared.extents.Root.TheVariants.{One, Many}
use Rattle.extent_map.specs.Roots.{root_cells, IsRoot}
use Rattle.extent_map.proofs.LeafEdits.{length-cells_in}

module _ {O : Type 0} (advanced : O → ℕ → O) (reach : O → ℕ) where
  pub root_fits : (r : Root O) → IsRoot advanced reach r → length (root_cells advanced r) < 2 ^ 63
  root_fits (One piece) h = omega (arith, h.1, length-cells_in advanced reach piece)
  root_fits (Many tree) h = h

  -- the same of what is seen of them
  pub seen_fits : (r : Root O) (cells : List (Option O)) → IsRoot advanced reach r → root_cells advanced r ≡ cells → length cells < 2 ^ 63
  seen_fits r cells h is = subst (λ (l : List (Option O)). length l < 2 ^ 63) is (root_fits r h)
