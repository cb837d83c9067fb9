-- Pieces that are read from a place on.
use Rattle.std.specs.Prelude.{◌≡◌, ℕ, ◌+◌, ◌-◌, ◌<◌, Option, List, [], ◌∷◌, length, take, drop}
use Rattle.extent_map.specs.declared.piece.Piece.{Piece}
use Rattle.extent_map.specs.Leaves.{all_cells, cells_in, ArePieces, IsPiece}
use Rattle.extent_map.specs.Pieces.{IsRange}

-- The first piece has more cells than are passed over.
abbrev pub FirstHas : {O : Type 0} → ℕ → List (Piece O) → Type 0
FirstHas skip [] = Unit {0}
FirstHas skip (p ∷ ps) = skip < p.len

-- Pieces that have the cells from `at` on, as far as they go, but for the first `skip` cells of the
-- first piece.
pub record AreAhead {O : Type 0} (advanced : O → ℕ → O) (reach : O → ℕ) (cells : List (Option O))
    (at : ℕ) (pieces : List (Piece O)) (skip : ℕ) : Type 0 where
  pub each : ArePieces reach pieces
  pub first : FirstHas skip pieces
  pub are : drop skip (all_cells advanced pieces)
      ≡ take (length (all_cells advanced pieces) - skip) (drop at cells)

-- A piece that has the cells from `at` on, as far as it goes, and the pieces that come behind it,
-- if any.
pub record IsNext {O : Type 0} (advanced : O → ℕ → O) (reach : O → ℕ) (cells : List (Option O))
    (at : ℕ) (piece : Piece O) (pieces : List (Piece O)) : Type 0 where
  pub good : IsPiece reach piece
  pub are : cells_in advanced piece ≡ take piece.len (drop at cells)
  pub ahead : AreAhead advanced reach cells (at + piece.len) pieces 0

-- A reader of the cells from `at` up to `end`.
pub record IsReader {O : Type 0} (advanced : O → ℕ → O) (reach : O → ℕ) (cells : List (Option O))
    (at end : ℕ) (pieces : List (Piece O)) : Type 0 where
  pub range : IsRange cells at end
  pub ahead : at < end → AreAhead advanced reach cells at pieces 0
