-- What stands in a subvolume, path by path and without inode numbers. Two subvolumes with the same
-- listing cannot be told apart by any path. Files here have cells that are a byte or a zero cell:
-- one that zero filling, a punched hole or a zeroed range made. This program's own.
use Rattle.std.specs.Prelude.{ℕ, List, [], ◌∷◌, map, Option, None, Some}
use Rattle.std.specs.Option.{unwrap_or}
use Rattle.send_model.specs.Reading.{Item}
use Rattle.send_model.specs.Map.{Map, bytes_cmp, with_value}
use Rattle.send_model.specs.Subvolume.{Inode, Subvolume, Reached, all_paths, first_path, inode_at, new_directory}
use Rattle.send_model.specs.Receive.{bytes_of}

-- ---- cells that are a byte or zero

-- The byte of a cell: that of a zero cell, which is no byte that was written, is 0.
abbrev pub byte_of : Option ℕ → ℕ
byte_of None = 0
byte_of (Some byte) = byte

-- Cells that bytes put when they are written: also a written 0 is no zero cell.
abbrev pub held : List ℕ → List (Option ℕ)
held bytes = map (λ byte. Some byte) bytes

abbrev pub held_cells : Item → List (Option ℕ)
held_cells item = held (bytes_of item.command)

-- ---- the listing

-- Paths with the inodes that they lead to, in order of their bytes, each once.
abbrev pub in_order : List Reached → Map (List ℕ) ℕ
in_order [] = []
in_order (r ∷ rest) = with_value bytes_cmp r.path r.ino (in_order rest)

-- All paths of at most 4,095 bytes that name an inode.
unfoldable pub paths_of : {C : Type 0} → Subvolume C → Map (List ℕ) ℕ
paths_of s = in_order (all_paths s)

-- What a path leads to: the first path of the inode, and all fields of it: kind, mode, owners,
-- times, device number, flags, target, extended attributes by name, and cells.
pub record Listed (C : Type 0) : Type 0 where
  pub first : List ℕ
  pub inode : Inode C

-- An inode of a subvolume. In a sound one each inode that a path leads to is there and has a first
-- path.
unfoldable pub listed : {C : Type 0} → Subvolume C → ℕ → Listed C
listed s ino =
    record {
      first = unwrap_or (first_path s ino) [];
      inode = unwrap_or (inode_at s ino) new_directory;
    }

-- All paths with what they lead to, the empty path first.
unfoldable pub listing : {C : Type 0} → Subvolume C → Map (List ℕ) (Listed C)
listing s = map (λ e. (e.0, listed s e.1)) (paths_of s)
