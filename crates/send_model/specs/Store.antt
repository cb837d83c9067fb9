-- A store: the subvolumes that were received, in the order in which they began, and one command's
-- step on it. Source: the btrfs-receive manual, and process_subvol, process_snapshot and
-- process_clone in cmds/receive.c.
use Rattle.std.specs.Prelude.{◌≡◌, ℕ, ◌==◌, Bool, false, ◌&&◌, List, [], ◌∷◌, ◌++◌, Option, None, Some, Result, Ok, Err, if◌then◌else◌}
use Rattle.std.specs.List.{list_any}
use Rattle.std.specs.Str.{bytes_eq}
use Rattle.send_model.specs.Refusal.{Refusal, NoSubvolume, BadName, NameThere, UuidThere, NoParent}
use Rattle.send_model.specs.Chain.{◌>>◌, require, refuse_if, found}
use Rattle.send_model.specs.Path.{is_name}
use Rattle.send_model.specs.Command.{Command, Subvol, Snapshot, MkFile, MkDir, MkNod, MkFifo, MkSock, Symlink, Rename, Link, Unlink, Rmdir, SetXattr, RemoveXattr, Write, Clone, Truncate, Chmod, Chown, Utimes, End, UpdateExtent, Fallocate, FileAttr}
use Rattle.send_model.specs.Subvolume.{Subvolume, root_alone}
use Rattle.send_model.specs.Edit.{edit}
use Rattle.send_model.specs.Clone.{clone, clone_values}

-- What names a complete subvolume: the sender's uuid and transaction number.
pub record Key : Type 0 where
  pub uuid : List ℕ
  pub ctransid : ℕ

abbrev pub same_key : Key → Key → Bool
same_key a b = bytes_eq a.uuid b.uuid && (a.ctransid == b.ctransid)

-- A subvolume of a store, with its contents of any kind. It has none while it is unfinished.
pub record Entry (S : Type 0) : Type 0 where
  pub name : List ℕ
  pub key : Key
  pub parent : Option Key
  pub contents : Option S

-- A store has an entry for each subvolume, in the order in which they began.
abbrev pub Store : Type 0 → Type 0
Store C = List (Entry (Subvolume C))

abbrev pub has_name : {S : Type 0} → List ℕ → List (Entry S) → Bool
has_name name store = list_any (λ e. bytes_eq e.name name) store

abbrev pub has_uuid : {S : Type 0} → List ℕ → List (Entry S) → Bool
has_uuid uuid store = list_any (λ e. bytes_eq e.key.uuid uuid) store

-- No name and no uuid stands twice.
abbrev pub IsStore : {S : Type 0} → List (Entry S) → Type 0
IsStore [] = Unit {0}
IsStore (e ∷ store) =
    (has_name e.name store ≡ false) × (has_uuid e.key.uuid store ≡ false) × IsStore store

-- The contents of the complete subvolume that a key finds, if any.
unfoldable pub find : {S : Type 0} → List (Entry S) → Key → Option S
find [] key = None
find (e ∷ store) key =
    if same_key e.key key then elim e.contents [
      | None ↦ find store key
      | Some s ↦
          Some s
    ] else find store key

-- ---- a part: a head and the commands up to the next head or END

-- The part that is being received: its key and its subvolume so far.
pub record Part (C : Type 0) : Type 0 where
  pub key : Key
  pub subvolume : Subvolume C

pub record State (C : Type 0) : Type 0 where
  pub store : Store C
  pub part : Option (Part C)

-- The first entry of a uuid gets these contents, in place of any that it has.
unfoldable pub with_contents : {S : Type 0} → List ℕ → S → List (Entry S) → List (Entry S)
with_contents uuid s [] = []
with_contents uuid s (e ∷ store) =
    if bytes_eq e.key.uuid uuid then record e { contents = Some s } ∷ store else e
    ∷ with_contents uuid s store

-- A part that is complete.
unfoldable pub completed : {C : Type 0} → State C → Store C
completed state =
    elim state.part [
      | None ↦ state.store
      | Some part ↦
          with_contents part.key.uuid part.subvolume state.store
    ]

-- The name, the key and the parent's key of a head.
pub record Head : Type 0 where
  pub name : List ℕ
  pub key : Key
  pub parent : Option Key

abbrev pub key_of : (uuid : List ℕ) (ctransid : ℕ) → Key
key_of uuid ctransid = record { uuid = uuid; ctransid = ctransid }

-- The heads of a full stream and of a snapshot.
abbrev pub full_head : (uuid : List ℕ) (ctransid : ℕ) (name : List ℕ) → Head
full_head uuid ctransid name = record { name = name; key = key_of uuid ctransid; parent = None }

abbrev pub snapshot_head : (uuid : List ℕ) (ctransid : ℕ) (name clone_uuid : List ℕ)
    (clone_ctransid : ℕ) → Head
snapshot_head uuid ctransid name clone_uuid clone_ctransid =
    record {
      name = name;
      key = key_of uuid ctransid;
      parent = Some (key_of clone_uuid clone_ctransid);
    }

-- The head that a command is, if it is one.
abbrev pub head_of : Command → Option Head
head_of (Subvol uuid ctransid path) = Some (full_head uuid ctransid path)
head_of (Snapshot uuid ctransid path clone_uuid clone_ctransid) =
    Some (snapshot_head uuid ctransid path clone_uuid clone_ctransid)
head_of (MkFile path) = None
head_of (MkDir path) = None
head_of (MkNod mode rdev path) = None
head_of (MkFifo path) = None
head_of (MkSock path) = None
head_of (Symlink path path_link) = None
head_of (Rename path path_to) = None
head_of (Link path path_link) = None
head_of (Unlink path) = None
head_of (Rmdir path) = None
head_of (SetXattr name value path) = None
head_of (RemoveXattr name path) = None
head_of (Write path offset bytes) = None
head_of (Clone path offset clone_uuid clone_ctransid clone_path clone_offset clone_len) = None
head_of (Truncate size path) = None
head_of (Chmod mode path) = None
head_of (Chown uid gid path) = None
head_of (Utimes mtime atime path) = None
head_of End = None
head_of (UpdateExtent size path offset) = None
head_of (Fallocate size path offset mode) = None
head_of (FileAttr path flags) = None

-- The subvolume that a part starts from: a root alone, or its parent's.
abbrev pub start_from : {C : Type 0} → Store C → Option Key → Result (Subvolume C) Refusal
start_from store None = Ok root_alone
start_from store (Some parent) = found (find store parent) NoParent

-- What a head begins, or its refusal: a bad name, a name or a uuid that is there, no parent.
unfoldable pub begun : {C : Type 0} → Store C → Head → Result (Subvolume C) Refusal
begun store head = do
  require (is_name head.name) BadName
  refuse_if (has_name head.name store) NameThere
  refuse_if (has_uuid head.key.uuid store) UuidThere
  start_from store head.parent

-- ---- the step

-- What an item leaves of a state of any kind, and its refusal if there is one.
pub record After (S : Type 0) : Type 0 where
  pub state : S
  pub refusal : Option Refusal

-- What a step leaves.
abbrev pub Stepped : Type 0 → Type 0
Stepped C = After (State C)

-- A new entry, unfinished.
abbrev pub unfinished : {S : Type 0} → Head → Entry S
unfinished head = record { name = head.name; key = head.key; parent = head.parent; contents = None }

-- What stands after a head: a new part that starts from a subvolume, or no part and the refusal.
abbrev pub entered : {C : Type 0} → Store C → Head → Result (Subvolume C) Refusal → Stepped C
entered store head (Err refusal) =
    record { state = record { store = store; part = None }; refusal = Some refusal }
entered store head (Ok start) = record {
  state = record {
    store = store ++ unfinished head ∷ [];
    part = Some (record { key = head.key; subvolume = start });
  };
  refusal = None;
}

-- A head completes the part before it; then it begins the new one, or is refused and there is no
-- part.
unfoldable pub step_head : {C : Type 0} → State C → Head → Stepped C
step_head state head = entered (completed state) head (begun (completed state) head)

-- The subvolume that a clone reads: the part as it is, where it names the part's own uuid, else the
-- complete one of the key.
abbrev pub clone_source : {C : Type 0} → Store C → Part C → Key → Option (Subvolume C)
clone_source store part key =
    if bytes_eq key.uuid part.key.uuid then Some part.subvolume else find store key

-- The edit of a part by a command that is neither a head nor END. Only a CLONE looks at the store.
unfoldable pub edit_part : {C : Type 0} → C → List C → Store C → Part C → Command
    → Result (Subvolume C) Refusal
edit_part zero_cell put store part
    (Clone path offset clone_uuid clone_ctransid clone_path clone_offset clone_len) =
    clone zero_cell part.subvolume
    (clone_source store part (record { uuid = clone_uuid; ctransid = clone_ctransid }))
    (bytes_eq clone_uuid part.key.uuid) (clone_values path offset clone_path clone_offset clone_len)
edit_part zero_cell put store part (Subvol uuid ctransid path) =
    edit zero_cell put (Subvol uuid ctransid path) part.subvolume
edit_part zero_cell put store part (Snapshot uuid ctransid path clone_uuid clone_ctransid) =
    edit zero_cell put (Snapshot uuid ctransid path clone_uuid clone_ctransid) part.subvolume
edit_part zero_cell put store part (MkFile path) = edit zero_cell put (MkFile path) part.subvolume
edit_part zero_cell put store part (MkDir path) = edit zero_cell put (MkDir path) part.subvolume
edit_part zero_cell put store part (MkNod mode rdev path) =
    edit zero_cell put (MkNod mode rdev path) part.subvolume
edit_part zero_cell put store part (MkFifo path) = edit zero_cell put (MkFifo path) part.subvolume
edit_part zero_cell put store part (MkSock path) = edit zero_cell put (MkSock path) part.subvolume
edit_part zero_cell put store part (Symlink path path_link) =
    edit zero_cell put (Symlink path path_link) part.subvolume
edit_part zero_cell put store part (Rename path path_to) =
    edit zero_cell put (Rename path path_to) part.subvolume
edit_part zero_cell put store part (Link path path_link) =
    edit zero_cell put (Link path path_link) part.subvolume
edit_part zero_cell put store part (Unlink path) = edit zero_cell put (Unlink path) part.subvolume
edit_part zero_cell put store part (Rmdir path) = edit zero_cell put (Rmdir path) part.subvolume
edit_part zero_cell put store part (SetXattr name value path) =
    edit zero_cell put (SetXattr name value path) part.subvolume
edit_part zero_cell put store part (RemoveXattr name path) =
    edit zero_cell put (RemoveXattr name path) part.subvolume
edit_part zero_cell put store part (Write path offset bytes) =
    edit zero_cell put (Write path offset bytes) part.subvolume
edit_part zero_cell put store part (Truncate size path) =
    edit zero_cell put (Truncate size path) part.subvolume
edit_part zero_cell put store part (Chmod mode path) =
    edit zero_cell put (Chmod mode path) part.subvolume
edit_part zero_cell put store part (Chown uid gid path) =
    edit zero_cell put (Chown uid gid path) part.subvolume
edit_part zero_cell put store part (Utimes mtime atime path) =
    edit zero_cell put (Utimes mtime atime path) part.subvolume
edit_part zero_cell put store part End = edit zero_cell put End part.subvolume
edit_part zero_cell put store part (UpdateExtent size path offset) =
    edit zero_cell put (UpdateExtent size path offset) part.subvolume
edit_part zero_cell put store part (Fallocate size path offset mode) =
    edit zero_cell put (Fallocate size path offset mode) part.subvolume
edit_part zero_cell put store part (FileAttr path flags) =
    edit zero_cell put (FileAttr path flags) part.subvolume

-- What stands after an edit: the part with another subvolume, or as it was, and the refusal.
abbrev pub edited : {C : Type 0} → Store C → Part C → Result (Subvolume C) Refusal → Stepped C
edited store part (Err refusal) =
    record { state = record { store = store; part = Some part }; refusal = Some refusal }
edited store part (Ok s) =
    record {
      state = record {
        store = store;
        part = Some (record { key = part.key; subvolume = s });
      };
      refusal = None;
    }

unfoldable pub step_edit : {C : Type 0} → C → List C → State C → Command → Stepped C
step_edit zero_cell put state command = elim state.part [
  | None ↦ record { state = state; refusal = Some NoSubvolume }
  | Some part ↦ edited state.store part (edit_part zero_cell put state.store part command)
]

-- One command, where a WRITE puts the given cells: a head, END, or an edit of the part.
unfoldable pub step : {C : Type 0} → C → List C → State C → Command → Stepped C
step zero_cell put state End =
    record { state = record { store = completed state; part = None }; refusal = None }
step zero_cell put state (Subvol uuid ctransid path) =
    step_head state (full_head uuid ctransid path)
step zero_cell put state (Snapshot uuid ctransid path clone_uuid clone_ctransid) =
    step_head state (snapshot_head uuid ctransid path clone_uuid clone_ctransid)
step zero_cell put state (MkFile path) = step_edit zero_cell put state (MkFile path)
step zero_cell put state (MkDir path) = step_edit zero_cell put state (MkDir path)
step zero_cell put state (MkNod mode rdev path) =
    step_edit zero_cell put state (MkNod mode rdev path)
step zero_cell put state (MkFifo path) = step_edit zero_cell put state (MkFifo path)
step zero_cell put state (MkSock path) = step_edit zero_cell put state (MkSock path)
step zero_cell put state (Symlink path path_link) =
    step_edit zero_cell put state (Symlink path path_link)
step zero_cell put state (Rename path path_to) = step_edit zero_cell put state (Rename path path_to)
step zero_cell put state (Link path path_link) = step_edit zero_cell put state (Link path path_link)
step zero_cell put state (Unlink path) = step_edit zero_cell put state (Unlink path)
step zero_cell put state (Rmdir path) = step_edit zero_cell put state (Rmdir path)
step zero_cell put state (SetXattr name value path) =
    step_edit zero_cell put state (SetXattr name value path)
step zero_cell put state (RemoveXattr name path) =
    step_edit zero_cell put state (RemoveXattr name path)
step zero_cell put state (Write path offset bytes) =
    step_edit zero_cell put state (Write path offset bytes)
step zero_cell put state
    (Clone path offset clone_uuid clone_ctransid clone_path clone_offset clone_len) =
    step_edit zero_cell put state
    (Clone path offset clone_uuid clone_ctransid clone_path clone_offset clone_len)
step zero_cell put state (Truncate size path) = step_edit zero_cell put state (Truncate size path)
step zero_cell put state (Chmod mode path) = step_edit zero_cell put state (Chmod mode path)
step zero_cell put state (Chown uid gid path) = step_edit zero_cell put state (Chown uid gid path)
step zero_cell put state (Utimes mtime atime path) =
    step_edit zero_cell put state (Utimes mtime atime path)
step zero_cell put state (UpdateExtent size path offset) =
    step_edit zero_cell put state (UpdateExtent size path offset)
step zero_cell put state (Fallocate size path offset mode) =
    step_edit zero_cell put state (Fallocate size path offset mode)
step zero_cell put state (FileAttr path flags) = step_edit zero_cell put state (FileAttr path flags)
