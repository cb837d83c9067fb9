-- Trees that are taken apart.
use Rattle.std.specs.Prelude.{◌≡◌, ℕ, ◌<◌, ◌≤◌, List, length}
use Rattle.extent_map.specs.declared.piece.Piece.{Piece}
use Rattle.extent_map.specs.Leaves.{HaveCells}
use Rattle.extent_map.specs.Seen.{Seen, joined, AreBelow}

-- The trees that a tree is over.
pub record AreKidsOf {O : Type 0} (tree : Seen O) (high : ℕ) (kids : List (Seen O)) : Type 0 where
  pub below : AreBelow high kids
  pub as_high : tree.height ≡ high
  pub two : 2 ≤ length kids
  pub are : joined kids ≡ tree.cells

-- The pieces that a tree has.
pub record ArePiecesOf {O : Type 0} (advanced : O → ℕ → O) (reach : O → ℕ) (tree : Seen O)
    (pieces : List (Piece O)) : Type 0 where
  pub have : HaveCells advanced reach tree.cells pieces
  pub height : tree.height ≡ 1
  pub some : 0 < length tree.cells
