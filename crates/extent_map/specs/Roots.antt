-- The contents of a file as one piece or as a tree, and readers of them.
use Rattle.std.specs.Prelude.{◌≡◌, ℕ, ◌+◌, ◌<◌, ◌^◌, Option, List, ◌++◌, length}
use Rattle.extent_map.specs.declared.piece.Piece.{Piece}
use Rattle.extent_map.specs.declared.extents.Root.{Root}
use Rattle.extent_map.specs.declared.extents.Root.TheVariants.{One, Many}
use Rattle.extent_map.specs.Leaves.{cells_in, IsReached, IsPiece}

-- The cells.
abbrev pub root_cells : {O : Type 0} → (O → ℕ → O) → Root O → List (Option O)
root_cells advanced (One piece) = cells_in advanced piece
root_cells advanced (Many tree) = tree.cells

-- One piece has cells, and there are fewer cells than 2^63.
abbrev pub IsRoot : {O : Type 0} → (O → ℕ → O) → (O → ℕ) → Root O → Type 0
IsRoot advanced reach (One piece) = IsPiece reach piece × (piece.len < 2 ^ 63)
IsRoot advanced reach (Many tree) = length tree.cells < 2 ^ 63

-- A piece that the cells are, with those of another put in at their end, which is `at`.
pub record IsPut {O : Type 0} (advanced : O → ℕ → O) (reach : O → ℕ) (cells : List (Option O))
    (at : ℕ) (piece both : Piece O) : Type 0 where
  pub end : length cells ≡ at
  pub cells_are : cells_in advanced both ≡ cells ++ cells_in advanced piece
  pub len : both.len ≡ at + piece.len
  pub reaches : IsReached reach both
