-- The cells of runs and of holes, and what the pieces of a range are. Source: this project; a piece
-- is what a reader of a file's extents takes at a time.
use Rattle.std.specs.Prelude.{◌≡◌, ℕ, ◌+◌, ◌<◌, ◌≤◌, Bool, false, Option, Some, None, MatchOption, IfSome, List, [], ◌++◌, map, length, ◌^◌}
use Rattle.std.specs.List.{range_with_len, list_any}
use lib.ListN.{replicate}

-- The cells of a run of `len` cells from an origin.
unfoldable pub run_cells : {O : Type 0} → (O → ℕ → O) → O → ℕ → List (Option O)
run_cells advanced origin len = map (λ k. Some (advanced origin k)) (range_with_len 0 len)

-- So many empty cells.
unfoldable pub zero_cells : {O : Type 0} → ℕ → List (Option O)
zero_cells len = replicate len None

-- The cells of a piece: of a run, or empty.
unfoldable pub piece_cells : {O : Type 0} → (O → ℕ → O) → Option O → ℕ → List (Option O)
piece_cells advanced None len = zero_cells len
piece_cells advanced (Some origin) len = run_cells advanced origin len

-- Whether a cell is foreign: one whose origin is.
abbrev pub foreign_cell : {O : Type 0} → (O → Bool) → Option O → Bool
foreign_cell foreign None = false
foreign_cell foreign (Some origin) = foreign origin

-- Whether one of some cells is foreign.
abbrev pub have_foreign : {O : Type 0} → (O → Bool) → List (Option O) → Bool
have_foreign foreign cells = list_any (foreign_cell foreign) cells

-- A call of `next` where the cells `left` are left: it gives the piece that they begin with, of a
-- cell at least, and leaves the others, or there are none.
abbrev pub TakesPiece : {O : Type 0} → (O → ℕ → O) → (O → ℕ) → List (Option O)
    → Option (Option O × ℕ) → List (Option O) → Type 0
TakesPiece advanced reach left given rest =
    MatchOption given ((left ≡ []) × (rest ≡ []))
    (λ piece. (0 < piece.1) × IfSome piece.0 (λ origin. piece.1 ≤ reach origin)
    × (left ≡ piece_cells advanced piece.0 piece.1 ++ rest))

-- A run of `len` cells goes on in one of `more` cells from `next`: both are one run, which its
-- origin reaches.
pub record RunsOn {O : Type 0} (advanced : O → ℕ → O) (reach : O → ℕ) (origin : O) (len : ℕ)
    (next : O) (more : ℕ) : Type 0 where
  pub follows : next ≡ advanced origin len
  pub reaches : len + more ≤ reach origin

-- Two pieces that are one.
abbrev pub AreOne : {O : Type 0} → (O → ℕ → O) → (O → ℕ) → Option O → ℕ → Option O → ℕ → Type 0
AreOne advanced reach None len None more = Unit {0}
AreOne advanced reach (Some origin) len (Some next) more =
    RunsOn advanced reach origin len next more
AreOne advanced reach None len (Some next) more = ⊥
AreOne advanced reach (Some origin) len None more = ⊥

-- A range of cells.
pub record IsRange {C : Type 0} (cells : List C) (from to : ℕ) : Type 0 where
  pub order : from ≤ to
  pub within : to ≤ length cells
  pub fits : length cells < 2 ^ 63
