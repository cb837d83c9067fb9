-- The one list of commands that stands for several parts: the first part's head with the name and
-- the key of the last, the commands of all parts in order, and END. A clone inside a part names the
-- new part; one from an earlier part gives way to clones of the outside places that carry its
-- blocks, and to writes of its other bytes. This program's own; the kernel sends at most so many
-- bytes in one WRITE of version 1 (BTRFS_SEND_READ_SIZE).
use Rattle.std.specs.Prelude.{ℕ, zero, suc, ◌==◌, ◌+◌, List, [], ◌∷◌, ◌++◌, take, drop, length, Option, None, Some, if◌then◌else◌}
use Rattle.std.specs.List.{flat_map, list_any}
use Rattle.std.specs.Option.{unwrap_or}
use Rattle.send_model.specs.Command.{Command, Subvol, Snapshot, MkFile, MkDir, MkNod, MkFifo, MkSock, Symlink, Rename, Link, Unlink, Rmdir, SetXattr, RemoveXattr, Write, Clone, Truncate, Chmod, Chown, Utimes, End, UpdateExtent, Fallocate, FileAttr}
use Rattle.send_model.specs.Reading.{Item, input}
use Rattle.send_model.specs.Subvolume.{first_path}
use Rattle.send_model.specs.Store.{Key, Head, Store, State, find}
use Rattle.send_model.specs.Receive.{start_of}
use Rattle.send_model.specs.Order.{heads, lawful_of}
use Rattle.send_model.specs.Outside.{part_uuids}
use Rattle.send_model.specs.Provenance.{Place, Traced, Piece, Carried, Literal, traced_store, uuid_after, is_own, is_redirected, clone_range, pieces_of, traced_after}

abbrev pub first_head : List Head → Option Head
first_head [] = None
first_head (head ∷ rest) = Some head

abbrev pub last_head : List Head → Option Head
last_head [] = None
last_head (head ∷ []) = Some head
last_head (head ∷ more ∷ rest) = last_head (more ∷ rest)

-- The head of a part with a name and a key, a full stream's or a snapshot's.
abbrev pub head_command : List ℕ → Key → Option Key → Command
head_command name key None = Subvol key.uuid key.ctransid name
head_command name key (Some parent) =
    Snapshot key.uuid key.ctransid name parent.uuid parent.ctransid

-- ---- the pieces of a redirected clone

-- The greatest number of bytes that one WRITE carries.
abbrev pub write_len : ℕ
write_len = 49_152

-- Bytes as WRITE commands; the first number bounds how many there are.
abbrev pub writes_from : ℕ → List ℕ → ℕ → List ℕ → List Command
writes_from zero path offset bytes = []
writes_from (suc n) path offset [] = []
writes_from (suc n) path offset (b ∷ bytes) =
    Write path offset (take write_len (b ∷ bytes))
    ∷ writes_from n path (offset + write_len) (drop write_len (b ∷ bytes))

-- The first path of an inode of a store's subvolume.
abbrev pub path_of : Store ℕ → Place → List ℕ
path_of store place =
    elim (find store place.key) [ None ↦ [] | Some s ↦ unwrap_or (first_path s place.ino) [] ]

-- The commands of one piece of a clone to a path and an offset.
abbrev pub piece_commands : Store ℕ → List ℕ → ℕ → Piece → List Command
piece_commands store path offset (Literal at bytes) =
    writes_from (length bytes) path (offset + at) bytes
piece_commands store path offset (Carried at place len) =
    Clone path (offset + at) place.key.uuid place.key.ctransid
    (path_of store place) place.offset len ∷ []

-- ---- the list

-- The version of the stream that stands for items: 2 where one of them has it, else 1.
unfoldable pub version_of : List Item → ℕ
version_of items = if list_any (λ item. item.version == 2) items then 2 else 1

-- What stands for a CLONE: itself, itself with the new part's key, or what it gives way to where it
-- is redirected, which is given.
abbrev pub clone_commands_by : {S : Type 0} → (S → Command → List Command) → List (List ℕ) → Key → S
    → Option (List ℕ) → Command → List Command
clone_commands_by instead parts last state current
    (Clone path offset clone_uuid clone_ctransid clone_path clone_offset clone_len) =
    let command : Command =
    Clone path offset clone_uuid clone_ctransid clone_path clone_offset clone_len in
    if is_own current clone_uuid then Clone path offset last.uuid last.ctransid clone_path
    clone_offset clone_len ∷ []
    else (if is_redirected parts current command then instead state command
    else command ∷ [])
clone_commands_by instead parts last state current (Subvol uuid ctransid path) =
    Subvol uuid ctransid path ∷ []
clone_commands_by instead parts last state current
    (Snapshot uuid ctransid path clone_uuid clone_ctransid) =
    Snapshot uuid ctransid path clone_uuid clone_ctransid ∷ []
clone_commands_by instead parts last state current (MkFile path) = MkFile path ∷ []
clone_commands_by instead parts last state current (MkDir path) = MkDir path ∷ []
clone_commands_by instead parts last state current (MkNod mode rdev path) =
    MkNod mode rdev path ∷ []
clone_commands_by instead parts last state current (MkFifo path) = MkFifo path ∷ []
clone_commands_by instead parts last state current (MkSock path) = MkSock path ∷ []
clone_commands_by instead parts last state current (Symlink path path_link) =
    Symlink path path_link ∷ []
clone_commands_by instead parts last state current (Rename path path_to) = Rename path path_to ∷ []
clone_commands_by instead parts last state current (Link path path_link) = Link path path_link ∷ []
clone_commands_by instead parts last state current (Unlink path) = Unlink path ∷ []
clone_commands_by instead parts last state current (Rmdir path) = Rmdir path ∷ []
clone_commands_by instead parts last state current (SetXattr name value path) =
    SetXattr name value path ∷ []
clone_commands_by instead parts last state current (RemoveXattr name path) =
    RemoveXattr name path ∷ []
clone_commands_by instead parts last state current (Write path offset bytes) =
    Write path offset bytes ∷ []
clone_commands_by instead parts last state current (Truncate size path) = Truncate size path ∷ []
clone_commands_by instead parts last state current (Chmod mode path) = Chmod mode path ∷ []
clone_commands_by instead parts last state current (Chown uid gid path) = Chown uid gid path ∷ []
clone_commands_by instead parts last state current (Utimes mtime atime path) =
    Utimes mtime atime path ∷ []
clone_commands_by instead parts last state current End = End ∷ []
clone_commands_by instead parts last state current (UpdateExtent size path offset) =
    UpdateExtent size path offset ∷ []
clone_commands_by instead parts last state current (Fallocate size path offset mode) =
    Fallocate size path offset mode ∷ []
clone_commands_by instead parts last state current (FileAttr path flags) = FileAttr path flags ∷ []

-- What stands for a command: nothing for a head or END.
abbrev pub commands_by : {S : Type 0} → (S → Command → List Command) → List (List ℕ) → Key → S
    → Option (List ℕ) → Command → List Command
commands_by instead parts last state current End = []
commands_by instead parts last state current (Subvol uuid ctransid path) = []
commands_by instead parts last state current
    (Snapshot uuid ctransid path clone_uuid clone_ctransid) = []
commands_by instead parts last state current
    (Clone path offset clone_uuid clone_ctransid clone_path clone_offset clone_len) =
    clone_commands_by instead parts last state current
    (Clone path offset clone_uuid clone_ctransid clone_path clone_offset clone_len)
commands_by instead parts last state current (MkFile path) = MkFile path ∷ []
commands_by instead parts last state current (MkDir path) = MkDir path ∷ []
commands_by instead parts last state current (MkNod mode rdev path) = MkNod mode rdev path ∷ []
commands_by instead parts last state current (MkFifo path) = MkFifo path ∷ []
commands_by instead parts last state current (MkSock path) = MkSock path ∷ []
commands_by instead parts last state current (Symlink path path_link) = Symlink path path_link ∷ []
commands_by instead parts last state current (Rename path path_to) = Rename path path_to ∷ []
commands_by instead parts last state current (Link path path_link) = Link path path_link ∷ []
commands_by instead parts last state current (Unlink path) = Unlink path ∷ []
commands_by instead parts last state current (Rmdir path) = Rmdir path ∷ []
commands_by instead parts last state current (SetXattr name value path) =
    SetXattr name value path ∷ []
commands_by instead parts last state current (RemoveXattr name path) = RemoveXattr name path ∷ []
commands_by instead parts last state current (Write path offset bytes) =
    Write path offset bytes ∷ []
commands_by instead parts last state current (Truncate size path) = Truncate size path ∷ []
commands_by instead parts last state current (Chmod mode path) = Chmod mode path ∷ []
commands_by instead parts last state current (Chown uid gid path) = Chown uid gid path ∷ []
commands_by instead parts last state current (Utimes mtime atime path) =
    Utimes mtime atime path ∷ []
commands_by instead parts last state current (UpdateExtent size path offset) =
    UpdateExtent size path offset ∷ []
commands_by instead parts last state current (Fallocate size path offset mode) =
    Fallocate size path offset mode ∷ []
commands_by instead parts last state current (FileAttr path flags) = FileAttr path flags ∷ []

-- The pieces of a clone that gives way, as commands at its place.
abbrev pub pieces_commands : Store ℕ → Command → List Piece → List Command
pieces_commands store
    (Clone path offset clone_uuid clone_ctransid clone_path clone_offset clone_len) pieces =
    flat_map (piece_commands store path offset) pieces
pieces_commands store (Subvol uuid ctransid path) pieces = []
pieces_commands store (Snapshot uuid ctransid path clone_uuid clone_ctransid) pieces = []
pieces_commands store (MkFile path) pieces = []
pieces_commands store (MkDir path) pieces = []
pieces_commands store (MkNod mode rdev path) pieces = []
pieces_commands store (MkFifo path) pieces = []
pieces_commands store (MkSock path) pieces = []
pieces_commands store (Symlink path path_link) pieces = []
pieces_commands store (Rename path path_to) pieces = []
pieces_commands store (Link path path_link) pieces = []
pieces_commands store (Unlink path) pieces = []
pieces_commands store (Rmdir path) pieces = []
pieces_commands store (SetXattr name value path) pieces = []
pieces_commands store (RemoveXattr name path) pieces = []
pieces_commands store (Write path offset bytes) pieces = []
pieces_commands store (Truncate size path) pieces = []
pieces_commands store (Chmod mode path) pieces = []
pieces_commands store (Chown uid gid path) pieces = []
pieces_commands store (Utimes mtime atime path) pieces = []
pieces_commands store End pieces = []
pieces_commands store (UpdateExtent size path offset) pieces = []
pieces_commands store (Fallocate size path offset mode) pieces = []
pieces_commands store (FileAttr path flags) pieces = []

-- A redirected clone gives way to the pieces of its range.
abbrev pub redirected_commands : Store ℕ → State Traced → Command → List Command
redirected_commands store state command =
    pieces_commands store command (pieces_of store (clone_range state command))

abbrev pub clone_commands : Store ℕ → List (List ℕ) → Key → State Traced → Option (List ℕ) → Command
    → List Command
clone_commands store parts last state current command =
    clone_commands_by (redirected_commands store) parts last state current command

abbrev pub commands_for : Store ℕ → List (List ℕ) → Key → State Traced → Option (List ℕ) → Command
    → List Command
commands_for store parts last state current command =
    commands_by (redirected_commands store) parts last state current command

-- What stands for items, one after the other. It is given what an item makes of a state, and what
-- stands for a command there.
unfoldable pub list_by : {S : Type 0} → (S → Item → S)
    → (S → Option (List ℕ) → Command → List Command) → S → Option (List ℕ) → List Item
    → List Command
list_by does stands state current [] = []
list_by does stands state current (item ∷ items) =
    stands state current item.command
    ++ list_by does stands (does state item) (uuid_after current item.command) items

unfoldable pub composed_from : Store ℕ → List (List ℕ) → Key → State Traced → Option (List ℕ)
    → List Item → List Command
unfolding list_by
composed_from store parts last state current items =
    list_by traced_after (commands_for store parts last) state current items

-- The composed commands of items received into a base, as the part that the last head names;
-- without END.
unfoldable pub composed_edits : Store ℕ → Key → List Item → List Command
composed_edits store last items =
    composed_from store (part_uuids items) last (start_of (traced_store store)) None items

-- The whole list of commands for a first and a last head: the new part's head, the edits, and END.
abbrev pub whole_list : Head → Head → List Command → List Command
whole_list first last edits = head_command last.name last.key first.parent ∷ (edits ++ End ∷ [])

unfoldable pub composed_with : Store ℕ → Head → Head → List Item → List Command
composed_with store first last items = whole_list first last (composed_edits store last.key items)

-- A list of commands for the first and the last head, if there are parts; else none.
abbrev pub for_parts : (Head → Head → List Command) → Option Head → Option Head → List Command
for_parts list (Some first) (Some last) = list first last
for_parts list None last = []
for_parts list (Some first) None = []

-- The composed commands of items received into a base, and of files; none where they hold no part.
abbrev pub composed_for : Store ℕ → Option Head → Option Head → List Item → List Command
composed_for store first last items =
    for_parts (λ first last. composed_with store first last items) first last

abbrev pub composed_of : Store ℕ → List Item → List Command
composed_of store items =
    composed_for store (first_head (heads items)) (last_head (heads items)) items

abbrev pub composed : Store ℕ → List (List ℕ) → List Command
composed store files = composed_of store (input files).items

-- ---- what stands for the commands before the first unlawful one

-- The composed commands of some first items, for the first head among them and the last head of
-- all, without END; none before the first head.
abbrev pub composed_part : Store ℕ → Option Head → Option Head → List Item → List Command
composed_part store first last items =
    for_parts
    (λ first last. head_command last.name last.key first.parent
    ∷ composed_edits store last.key items) first last

abbrev pub composed_before_of : Store ℕ → List Item → List Command
composed_before_of store items =
    composed_part store (first_head (heads (lawful_of store items))) (last_head (heads items))
    (lawful_of store items)
