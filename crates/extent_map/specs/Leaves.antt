-- Lists of pieces: what a leaf of a tree of runs has. Source: this project.
use Rattle.std.specs.Prelude.{◌≡◌, ℕ, ◌+◌, ◌<◌, ◌≤◌, Option, IfSome, All, List, ◌++◌, length, take, drop}
use Rattle.std.specs.List.{flat_map}
use Rattle.extent_map.specs.declared.piece.Piece.{Piece}
use Rattle.extent_map.specs.Pieces.{piece_cells}
use Rattle.extent_map.specs.Seen.{Seen}

-- The cells of a piece, and of pieces one after the other.
abbrev pub cells_in : {O : Type 0} → (O → ℕ → O) → Piece O → List (Option O)
cells_in advanced piece = piece_cells advanced piece.origin piece.len

abbrev pub all_cells : {O : Type 0} → (O → ℕ → O) → List (Piece O) → List (Option O)
all_cells advanced pieces = flat_map (cells_in advanced) pieces

-- The origin of a piece reaches all of its cells.
abbrev pub IsReached : {O : Type 0} → (O → ℕ) → Piece O → Type 0
IsReached reach piece = IfSome piece.origin (λ origin. piece.len ≤ reach origin)

-- Each piece has a cell at least, and its origin reaches them all.
pub record IsPiece {O : Type 0} (reach : O → ℕ) (piece : Piece O) : Type 0 where
  pub some : 0 < piece.len
  pub reaches : IsReached reach piece

abbrev pub ArePieces : {O : Type 0} → (O → ℕ) → List (Piece O) → Type 0
ArePieces reach pieces = All (IsPiece reach) pieces

-- A piece that has the cells of two others.
pub record IsBoth {O : Type 0} (advanced : O → ℕ → O) (reach : O → ℕ)
    (first second both : Piece O) : Type 0 where
  pub cells : cells_in advanced both ≡ cells_in advanced first ++ cells_in advanced second
  pub len : both.len ≡ first.len + second.len
  pub reaches : IsReached reach both

-- Pieces, and how many of them stand before a place.
pub record PiecesAt (O : Type 0) : Type 0 where
  pub pieces : List (Piece O)
  pub at : ℕ

abbrev pub pieces_at : {O : Type 0} → List (Piece O) → ℕ → PiecesAt O
pieces_at pieces at = record { pieces = pieces; at = at }

-- A piece was put in at the place of the old pieces, or joined to the one before it: before the
-- place of the new ones stand those that stood before it, and the piece itself.
pub record IsAdded {O : Type 0} (advanced : O → ℕ → O) (reach : O → ℕ) (old : PiecesAt O)
    (piece : Piece O) (new : PiecesAt O) : Type 0 where
  pub front : all_cells advanced (take new.at new.pieces)
      ≡ all_cells advanced (take old.at old.pieces) ++ cells_in advanced piece
  pub back : drop new.at new.pieces ≡ drop old.at old.pieces
  pub within : new.at ≤ length new.pieces
  pub pieces : ArePieces reach new.pieces

-- Pieces that have some cells.
pub record HaveCells {O : Type 0} (advanced : O → ℕ → O) (reach : O → ℕ) (cells : List (Option O))
    (pieces : List (Piece O)) : Type 0 where
  pub are : all_cells advanced pieces ≡ cells
  pub each : ArePieces reach pieces

-- The cells with some in place of as many from `at` on.
abbrev pub overwritten : {C : Type 0} → ℕ → List C → List C → List C
overwritten at new cells = take at cells ++ new ++ drop (at + length new) cells

-- A tree that is one piece.
pub record IsOnly {O : Type 0} (advanced : O → ℕ → O) (reach : O → ℕ) (tree : Seen O)
    (piece : Piece O) : Type 0 where
  pub cells : cells_in advanced piece ≡ tree.cells
  pub good : IsPiece reach piece
