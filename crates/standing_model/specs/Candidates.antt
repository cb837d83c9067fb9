-- How a stand may be found without a look at all files: among places that are enough, those that an
-- index keeps of where cells were put. It may keep more places than there are, since each is looked
-- at; it must have all. This program's own.
use Rattle.std.specs.Prelude.{◌≡◌, ◌⊎◌, ℕ, ◌-◌, ◌%◌, ◌<◌, ◌≤◌, Bool, true, List, [], ◌∷◌, drop, Option, Ok}
use Rattle.std.specs.List.{AllByRecursion}
use Rattle.std.specs.Ordering.{nat_cmp}
use Rattle.send_model.specs.Command.{Command, Subvol, Snapshot, MkFile, MkDir, MkNod, MkFifo, MkSock, Symlink, Rename, Link, Unlink, Rmdir, SetXattr, RemoveXattr, Write, Clone, Truncate, Chmod, Chown, Utimes, End, UpdateExtent, Fallocate, FileAttr}
use Rattle.send_model.specs.Map.{IsMap}
use Rattle.send_model.specs.Subvolume.{Subvolume, walk}
use Rattle.send_model.specs.Edit.{edit}
use Rattle.send_model.specs.Clone.{block_len, cells_of, CloneValues, Cloned, cloned, clone}
use Rattle.send_model.specs.Store.{Key}
use Rattle.send_model.specs.Provenance.{Place}
use Rattle.standing_model.specs.Births.{Tagged, untagged}
use Rattle.standing_model.specs.Standing.{begin_with, place_in, first_such, stands_at, stand_of}

-- By inode number and then by place.
abbrev pub IsBefore : Place → Place → Type 0
IsBefore p q = (p.ino < q.ino) ⊎ ((p.ino ≡ q.ino) × (p.offset < q.offset))

abbrev pub AreRising : List Place → Type 0
AreRising [] = Unit {0}
AreRising (p ∷ places) = AllByRecursion (IsBefore p) places × AreRising places

abbrev pub IsOneOf : Place → List Place → Type 0
IsOneOf place [] = ⊥
IsOneOf place (p ∷ places) = (p ≡ place) ⊎ IsOneOf place places

-- Places are enough to look for blocks that begin with a cell: they rise, and each place of the
-- part at which a block begins with that cell's tag is one of them. They need not be such places.
pub record AreEnough (key : Key) (s : Subvolume Tagged) (cell : Tagged)
    (places : List Place) : Type 0 where
  pub own : AllByRecursion (λ p. p.key ≡ key) places
  pub rising : AreRising places
  pub complete : (u o : ℕ) → o % block_len ≡ 0
      → begin_with (drop o (cells_of s u)) (cell ∷ []) ≡ true → IsOneOf (place_in key u o) places

-- The first of them at which a block stands is its stand.
abbrev pub EnoughFindStand : Type 0
EnoughFindStand =
    (key : Key) (s : Subvolume Tagged) (target : ℕ) (cell : Tagged) (rest : List Tagged)
    (places : List Place) → IsMap nat_cmp s.inodes
    → AreEnough key s cell places
    → first_such (stands_at s target (cell ∷ rest)) places ≡ stand_of key s target (cell ∷ rest)

-- ---- what keeps places enough

-- A cell with the tag of another stands at a place of a file of a part.
abbrev pub StandsIn : Tagged → Subvolume Tagged → ℕ → ℕ → Type 0
StandsIn cell s u o = begin_with (drop o (cells_of s u)) (cell ∷ []) ≡ true

-- It is put there by a WRITE of these cells.
abbrev pub IsPutBy : List Tagged → Command → Subvolume Tagged → Tagged → ℕ → ℕ → Type 0
IsPutBy put (Write path offset bytes) s cell u o =
    (walk s path ≡ Ok u) × (offset ≤ o) × (begin_with (drop (o - offset) put) (cell ∷ []) ≡ true)
IsPutBy put (Subvol uuid ctransid path) s cell u o = ⊥
IsPutBy put (Snapshot uuid ctransid path clone_uuid clone_ctransid) s cell u o = ⊥
IsPutBy put (MkFile path) s cell u o = ⊥
IsPutBy put (MkDir path) s cell u o = ⊥
IsPutBy put (MkNod mode rdev path) s cell u o = ⊥
IsPutBy put (MkFifo path) s cell u o = ⊥
IsPutBy put (MkSock path) s cell u o = ⊥
IsPutBy put (Symlink path path_link) s cell u o = ⊥
IsPutBy put (Rename path path_to) s cell u o = ⊥
IsPutBy put (Link path path_link) s cell u o = ⊥
IsPutBy put (Unlink path) s cell u o = ⊥
IsPutBy put (Rmdir path) s cell u o = ⊥
IsPutBy put (SetXattr name value path) s cell u o = ⊥
IsPutBy put (RemoveXattr name path) s cell u o = ⊥
IsPutBy put (Clone path offset clone_uuid clone_ctransid clone_path clone_offset clone_len) s cell u
    o = ⊥
IsPutBy put (Truncate size path) s cell u o = ⊥
IsPutBy put (Chmod mode path) s cell u o = ⊥
IsPutBy put (Chown uid gid path) s cell u o = ⊥
IsPutBy put (Utimes mtime atime path) s cell u o = ⊥
IsPutBy put End s cell u o = ⊥
IsPutBy put (UpdateExtent size path offset) s cell u o = ⊥
IsPutBy put (Fallocate size path offset mode) s cell u o = ⊥
IsPutBy put (FileAttr path flags) s cell u o = ⊥

-- An edit but a WRITE puts no cell with a tag where it did not stand, and a WRITE puts its own in
-- its range. Nor does a CLONE put any but those of its range. So places stay enough where those of
-- a WRITE and of a CLONE are added, and nothing is ever taken out.
abbrev pub EditsPutTheirs : Type 0
EditsPutTheirs =
    (put : List Tagged) (c : Command) (s t : Subvolume Tagged) → edit (untagged 0) put c s ≡ Ok t
    → (cell : Tagged) (u o : ℕ) → StandsIn cell t u o
    → StandsIn cell s u o ⊎ IsPutBy put c s cell u o

pub record IsPutByClone (s : Subvolume Tagged) (source : Option (Subvolume Tagged)) (own : Bool)
    (values : CloneValues) (cell : Tagged) (u o : ℕ) : Type 0 where
  pub range : Cloned Tagged
  pub made : cloned s source own values ≡ Ok range
  pub file : range.ino ≡ u
  pub low : values.offset ≤ o
  pub there : begin_with (drop (o - values.offset) range.cells) (cell ∷ []) ≡ true

abbrev pub ClonesPutTheirs : Type 0
ClonesPutTheirs =
    (s : Subvolume Tagged) (source : Option (Subvolume Tagged)) (own : Bool) (values : CloneValues)
    (t : Subvolume Tagged) → clone (untagged 0) s source own values ≡ Ok t
    → (cell : Tagged) (u o : ℕ) → StandsIn cell t u o
    → StandsIn cell s u o ⊎ IsPutByClone s source own values cell u o
