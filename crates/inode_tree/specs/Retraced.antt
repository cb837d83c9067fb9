-- A subvolume whose contents come from origins of their own. Source: this program's own; where the
-- cells of a complete subvolume come from is said by the definitions of provenance in the same way.
use Rattle.std.specs.Prelude.{ℕ, ◌<◌, ◌≤◌, ◌^◌, Option, length}
use Rattle.std.specs.List.{AllByRecursion}
use Rattle.extent_map.specs.Pieces.{run_cells}
use Rattle.send_model.specs.Map.{Map}
use Rattle.send_model.specs.Subvolume.{Inode, Subvolume}
use Rattle.send_model.specs.Provenance.{inode_with, with_cells}

-- The same inode with one run of the old size of its contents, from the start of its number.
abbrev pub retraced_inode : {C P : Type 0} → (P → ℕ → P) → (ℕ → P) → ℕ → Inode C → Inode (Option P)
retraced_inode advanced start ino inode =
    inode_with inode (run_cells advanced (start ino) (length inode.cells))

-- The same inodes, names and next number; the contents of each inode are one run of their old size
-- from the start of its number.
abbrev pub retraced : {C P : Type 0} → (P → ℕ → P) → (ℕ → P) → Subvolume C → Subvolume (Option P)
retraced advanced start s =
    with_cells (λ ino cells. run_cells advanced (start ino) (length cells)) s

-- A start reaches over the contents of an inode, which never have more than 2^63 - 1 cells.
abbrev pub IsReached : {C P : Type 0} → (P → ℕ) → (ℕ → P) → ℕ × Inode C → Type 0
IsReached reach start e = length e.1.cells < 2 ^ 63 → length e.1.cells ≤ reach (start e.0)

-- So it is of each inode.
abbrev pub AreReached : {C P : Type 0} → (P → ℕ) → (ℕ → P) → Map ℕ (Inode C) → Type 0
AreReached reach start inodes = AllByRecursion (IsReached reach start) inodes
