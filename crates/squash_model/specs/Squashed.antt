-- Commands without the bytes that nothing in the end has. The bytes that WRITE commands put are
-- numbered in order through all the commands: each is born with its number, and edits and clones
-- carry the number with the cell. Zero cells, and cells of subvolumes that were there before, have
-- none. A byte stands where some cell has its number in the end. Each WRITE gives way to one WRITE
-- for each stretch of its bytes that stand, and to a TRUNCATE where the file is to be as long as it
-- made it. This program's own.
use Rattle.std.specs.Prelude.{ℕ, ◌+◌, ◌-◌, ◌==◌, Bool, not, ◌&&◌, List, [], ◌∷◌, ◌++◌, map, length, Option, None, Some, Ok, Err, nat_lt, if◌then◌else◌}
use Rattle.std.specs.List.{list_any, list_all, flat_map, range_with_len}
use Rattle.send_model.specs.Command.{Command, Subvol, Snapshot, MkFile, MkDir, MkNod, MkFifo, MkSock, Symlink, Rename, Link, Unlink, Rmdir, SetXattr, RemoveXattr, Write, Clone, Truncate, Chmod, Chown, Utimes, End, UpdateExtent, Fallocate, FileAttr}
use Rattle.send_model.specs.Reading.{Item}
use Rattle.send_model.specs.Subvolume.{Subvolume, walk}
use Rattle.send_model.specs.Clone.{cells_of}
use Rattle.send_model.specs.Store.{Store, State, Stepped, step}
use Rattle.send_model.specs.Receive.{bytes_of, start_of}
use Rattle.send_model.specs.Order.{commands_of}
use Rattle.send_model.specs.Cells.{recelled_store}

-- ---- births

-- What stands at a place of a file: the number of the byte that was written, or nothing.
abbrev pub Birth : Type 0
Birth = Option ℕ

-- The births of bytes, from a number on.
abbrev pub births_from : ℕ → List ℕ → List Birth
births_from count bytes = map (λ birth. Some birth) (range_with_len count (length bytes))

-- A command, where so many bytes were written before it.
abbrev pub born_step : ℕ → State Birth → Command → Stepped Birth
born_step count state command = step None (births_from count (bytes_of command)) state command

-- Where commands lead that are all taken.
unfoldable pub born_by : ℕ → State Birth → List Command → State Birth
born_by count state [] = state
born_by count state (command ∷ commands) =
    born_by (count + length (bytes_of command)) (born_step count state command).state commands

-- A store of which no cell was born.
abbrev pub unborn : Store ℕ → State Birth
unborn store = start_of (recelled_store (λ byte. None) store)

abbrev pub births_of : List Birth → List ℕ
births_of [] = []
births_of (None ∷ cells) = births_of cells
births_of (Some birth ∷ cells) = birth ∷ births_of cells

abbrev pub births_in : Subvolume Birth → List ℕ
births_in s = flat_map (λ e. births_of e.1.cells) s.inodes

abbrev pub births_inside : Option (Subvolume Birth) → List ℕ
births_inside None = []
births_inside (Some s) = births_in s

abbrev pub part_births : State Birth → List ℕ
part_births state = elim state.part [ None ↦ [] | Some part ↦ births_in part.subvolume ]

-- All births that cells of a state have: of complete subvolumes, and of the part.
unfoldable pub births_left : State Birth → List ℕ
births_left state = flat_map (λ e. births_inside e.contents) state.store ++ part_births state

-- The bytes that stand: those whose births are left where commands lead that are received into a
-- store.
unfoldable pub stands : Store ℕ → List Command → ℕ → Bool
stands store commands birth =
    list_any (λ b. b == birth) (births_left (born_by 0 (unborn store) commands))

-- ---- what stands for a WRITE

-- Bytes in a row, and where they go.
pub record Stretch : Type 0 where
  pub at : ℕ
  pub bytes : List ℕ

-- A byte in front of stretches behind it.
abbrev pub in_front : ℕ → ℕ → List Stretch → List Stretch
in_front at byte [] = record { at = at; bytes = byte ∷ [] } ∷ []
in_front at byte (first ∷ rest) =
    if first.at == at + 1 then record { at = at; bytes = byte ∷ first.bytes } ∷ rest
    else record { at = at; bytes = byte ∷ [] } ∷ first ∷ rest

-- The longest stretches of bytes that stand, of those from a birth and an offset on.
abbrev pub stretches : (ℕ → Bool) → ℕ → ℕ → List ℕ → List Stretch
stretches standing count at [] = []
stretches standing count at (byte ∷ bytes) =
    let rest = stretches standing (count + 1) (at + 1) bytes in
    if standing count then in_front at byte rest else rest

abbrev pub all_stand : (ℕ → Bool) → ℕ → List ℕ → Bool
all_stand standing count bytes = list_all standing (range_with_len count (length bytes))

abbrev pub write_of : List ℕ → Stretch → Command
write_of path stretch = Write path stretch.at stretch.bytes

-- The end of a WRITE, where its file was shorter and its last byte does not stand.
abbrev pub lengthened : (last_stands : Bool) → (size end : ℕ) → List ℕ → List Command
lengthened last_stands size end path =
    if nat_lt size end && not last_stands then Truncate end path ∷ [] else []

-- A WRITE of which all bytes stand stays, one of no bytes too. The size is that of its file.
abbrev pub write_commands : (ℕ → Bool)
    → (count size : ℕ) (path : List ℕ) (offset : ℕ) (bytes : List ℕ) → List Command
write_commands standing count size path offset bytes =
    if all_stand standing count bytes then Write path offset bytes ∷ []
    else map (write_of path) (stretches standing count offset bytes)
    ++ lengthened (standing (count + length bytes - 1)) size (offset + length bytes) path

-- How long the file is that a path leads to in the part.
unfoldable pub size_at : {C : Type 0} → State C → List ℕ → ℕ
size_at state path = elim state.part [
  | None ↦ 0
  | Some part ↦
      elim (walk part.subvolume path) [
        | Err refusal ↦ 0
        | Ok ino ↦
            length (cells_of part.subvolume ino)
      ]
]

-- ---- the list

abbrev pub squash_for : (ℕ → Bool) → ℕ → State Birth → Command → List Command
squash_for standing count state (Write path offset bytes) =
    write_commands standing count (size_at state path) path offset bytes
squash_for standing count state (Subvol uuid ctransid path) = Subvol uuid ctransid path ∷ []
squash_for standing count state (Snapshot uuid ctransid path clone_uuid clone_ctransid) =
    Snapshot uuid ctransid path clone_uuid clone_ctransid ∷ []
squash_for standing count state (MkFile path) = MkFile path ∷ []
squash_for standing count state (MkDir path) = MkDir path ∷ []
squash_for standing count state (MkNod mode rdev path) = MkNod mode rdev path ∷ []
squash_for standing count state (MkFifo path) = MkFifo path ∷ []
squash_for standing count state (MkSock path) = MkSock path ∷ []
squash_for standing count state (Symlink path path_link) = Symlink path path_link ∷ []
squash_for standing count state (Rename path path_to) = Rename path path_to ∷ []
squash_for standing count state (Link path path_link) = Link path path_link ∷ []
squash_for standing count state (Unlink path) = Unlink path ∷ []
squash_for standing count state (Rmdir path) = Rmdir path ∷ []
squash_for standing count state (SetXattr name value path) = SetXattr name value path ∷ []
squash_for standing count state (RemoveXattr name path) = RemoveXattr name path ∷ []
squash_for standing count state
    (Clone path offset clone_uuid clone_ctransid clone_path clone_offset clone_len) =
    Clone path offset clone_uuid clone_ctransid clone_path clone_offset clone_len ∷ []
squash_for standing count state (Truncate size path) = Truncate size path ∷ []
squash_for standing count state (Chmod mode path) = Chmod mode path ∷ []
squash_for standing count state (Chown uid gid path) = Chown uid gid path ∷ []
squash_for standing count state (Utimes mtime atime path) = Utimes mtime atime path ∷ []
squash_for standing count state End = End ∷ []
squash_for standing count state (UpdateExtent size path offset) = UpdateExtent size path offset ∷ []
squash_for standing count state (Fallocate size path offset mode) =
    Fallocate size path offset mode ∷ []
squash_for standing count state (FileAttr path flags) = FileAttr path flags ∷ []

unfoldable pub squashed_from : (ℕ → Bool) → ℕ → State Birth → List Command → List Command
squashed_from standing count state [] = []
squashed_from standing count state (command ∷ commands) =
    squash_for standing count state command
    ++ squashed_from standing (count + length (bytes_of command))
    (born_step count state command).state commands

-- Commands that are received into a store, without the bytes that do not stand.
abbrev pub squashed : Store ℕ → List Command → List Command
squashed store commands = squashed_from (stands store commands) 0 (unborn store) commands

-- And so of items.
abbrev pub squashed_of : Store ℕ → List Item → List Command
squashed_of store items = squashed store (commands_of items)

-- ---- the bytes

-- The bytes that commands put, in order.
abbrev pub all_bytes : List Command → List ℕ
all_bytes commands = flat_map bytes_of commands

-- Those that stand, of bytes from a birth on.
abbrev pub standing_bytes : (ℕ → Bool) → ℕ → List ℕ → List ℕ
standing_bytes standing count [] = []
standing_bytes standing count (byte ∷ bytes) =
    if standing count then byte
    ∷ standing_bytes standing (count + 1) bytes else standing_bytes standing (count + 1) bytes
