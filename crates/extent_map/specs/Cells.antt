-- The contents of a file as a list of cells, and what writing, truncating and copying make of it. A
-- cell is of any type, and `empty` is the cell of a hole. Source: the btrfs-receive manual's WRITE,
-- TRUNCATE and CLONE, as this program reads them.
use Rattle.std.specs.Prelude.{◌≡◌, ℕ, ◌+◌, ◌-◌, ◌<◌, ◌≤◌, Bool, true, false, List, [], ◌∷◌, ◌++◌, length, take, drop, get_or}
use lib.ListN.{replicate}

-- The first `size` cells, and where there are fewer, empty cells after them.
unfoldable pub resize_cells : {C : Type 0} → C → ℕ → List C → List C
resize_cells empty size cells = take size cells ++ replicate (size - length cells) empty

-- The cells with `new` in place of those from `at` on, as many as `new` has, and with a gap before
-- `at` filled by empty cells. No new cells change nothing.
unfoldable pub put_cells : {C : Type 0} → C → ℕ → List C → List C → List C
put_cells empty at [] cells = cells
put_cells empty at (c ∷ cs) cells =
    resize_cells empty at cells ++ (c ∷ cs) ++ drop (at + length (c ∷ cs)) cells

-- The `len` cells from `from` on.
unfoldable pub cells_between : {C : Type 0} → ℕ → ℕ → List C → List C
cells_between from len cells = take len (drop from cells)

-- None of the cells from one place up to another passes a test.
abbrev pub NonePass : {C : Type 0} → (C → Bool) → C → ℕ → ℕ → List C → Type 0
NonePass test empty from to cells =
    (k : ℕ) → from ≤ k → k < to → test (get_or cells k empty) ≡ false

-- The first place from `at` on whose cell passes a test, or the number of cells, where none does.
pub record IsFirstFrom {C : Type 0} (test : C → Bool) (empty : C) (at : ℕ) (cells : List C)
    (place : ℕ) : Type 0 where
  pub from : at ≤ place
  pub within : place ≤ length cells
  pub before : NonePass test empty at place cells
  pub there : place < length cells → test (get_or cells place empty) ≡ true
