-- What files need of a store beside their own parts: the subvolumes that they name as parents and
-- as sources of clones.
use Rattle.std.specs.Prelude.{◌≡◌, ◌⊎◌, ℕ, Bool, ◌≤◌, not, List, [], ◌∷◌, map, length, Some}
use Rattle.std.specs.List.{list_any, filter, flat_map, AllByRecursion}
use Rattle.std.specs.Str.{bytes_eq}
use Rattle.send_model.specs.Attribute.{IsBytes}
use Rattle.send_model.specs.Command.{Command, Subvol, Snapshot, MkFile, MkDir, MkNod, MkFifo, MkSock, Symlink, Rename, Link, Unlink, Rmdir, SetXattr, RemoveXattr, Write, Clone, Truncate, Chmod, Chown, Utimes, End, UpdateExtent, Fallocate, FileAttr}
use Rattle.send_model.specs.Reading.{Item, input}
use Rattle.send_model.specs.Subvolume.{Subvolume, IsLawful}
use Rattle.send_model.specs.Edit.{greatest_end}
use Rattle.send_model.specs.Store.{Key, Entry, Store, find}
use Rattle.send_model.specs.Order.{heads, commands_of}

-- The uuids of the parts.
abbrev pub part_uuids : List Item → List (List ℕ)
part_uuids items = map (λ head. head.key.uuid) (heads items)

abbrev pub is_among : List (List ℕ) → List ℕ → Bool
is_among uuids uuid = list_any (λ u. bytes_eq u uuid) uuids

-- A store without the subvolumes that have one of the uuids.
abbrev pub store_without : {S : Type 0} → List (List ℕ) → List (Entry S) → List (Entry S)
store_without uuids store = filter (λ e. not (is_among uuids e.key.uuid)) store

-- The base of items: the store without their own parts, which it may have already.
abbrev pub base_of : {C : Type 0} → Store C → List Item → Store C
base_of store items = store_without (part_uuids items) store

-- The base of files.
abbrev pub base : {C : Type 0} → Store C → List (List ℕ) → Store C
base store files = base_of store (input files).items

-- The key that a command names beside its own: a parent or the source of a clone.
abbrev pub keys_named : Command → List Key
keys_named (Snapshot uuid ctransid path clone_uuid clone_ctransid) =
    record { uuid = clone_uuid; ctransid = clone_ctransid } ∷ []
keys_named (Clone path offset clone_uuid clone_ctransid clone_path clone_offset clone_len) =
    record { uuid = clone_uuid; ctransid = clone_ctransid } ∷ []
keys_named (Subvol uuid ctransid path) = []
keys_named (MkFile path) = []
keys_named (MkDir path) = []
keys_named (MkNod mode rdev path) = []
keys_named (MkFifo path) = []
keys_named (MkSock path) = []
keys_named (Symlink path path_link) = []
keys_named (Rename path path_to) = []
keys_named (Link path path_link) = []
keys_named (Unlink path) = []
keys_named (Rmdir path) = []
keys_named (SetXattr name value path) = []
keys_named (RemoveXattr name path) = []
keys_named (Write path offset bytes) = []
keys_named (Truncate size path) = []
keys_named (Chmod mode path) = []
keys_named (Chown uid gid path) = []
keys_named (Utimes mtime atime path) = []
keys_named End = []
keys_named (UpdateExtent size path offset) = []
keys_named (Fallocate size path offset mode) = []
keys_named (FileAttr path flags) = []

abbrev pub all_keys_named : List Command → List Key
all_keys_named commands = flat_map keys_named commands

-- The keys that items name and that are no part's, and of files.
abbrev pub keys_outside : List Item → List Key
keys_outside items =
    filter (λ key. not (is_among (part_uuids items) key.uuid)) (all_keys_named (commands_of items))

abbrev pub outside : List (List ℕ) → List Key
outside files = keys_outside (input files).items

-- A key is one of some keys.
abbrev pub IsAmong : Key → List Key → Type 0
IsAmong key [] = ⊥
IsAmong key (k ∷ keys) = (k ≡ key) ⊎ IsAmong key keys

-- Two stores find the same under each of the keys.
abbrev pub SameOn : {C : Type 0} → Store C → Store C → List Key → Type 0
SameOn s t keys = AllByRecursion (λ key. find s key ≡ find t key) keys

-- Each complete subvolume that a store finds under one of the keys is lawful.
abbrev pub FindsLawful : Store ℕ → List Key → Type 0
FindsLawful store keys =
    (key : Key) (s : Subvolume ℕ) → IsAmong key keys → find store key ≡ Some s → IsLawful s

-- What the format can say of a subvolume: it is lawful, its names and its contents are bytes, and
-- no file is too big.
pub record IsSayable (s : Subvolume ℕ) : Type 0 where
  pub lawful : IsLawful s
  pub byte_names : AllByRecursion (λ e. IsBytes e.0.1) s.names
  pub byte_cells : AllByRecursion (λ e. IsBytes e.1.cells) s.inodes
  pub sizes : AllByRecursion (λ e. length e.1.cells ≤ greatest_end) s.inodes

abbrev pub FindsSayable : Store ℕ → List Key → Type 0
FindsSayable store keys =
    (key : Key) (s : Subvolume ℕ) → IsAmong key keys → find store key ≡ Some s → IsSayable s

-- Each complete subvolume of a store is one that the format can say.
abbrev pub AllSayable : Store ℕ → Type 0
AllSayable store = (key : Key) (s : Subvolume ℕ) → find store key ≡ Some s → IsSayable s
