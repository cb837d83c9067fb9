-- Which bytes stand, found from the end: a place of a file lives before a command where what stands
-- there goes to a place that lives after it. In the end each place of each file of the part lives.
-- No byte is numbered here: it is looked at names, sizes and ranges alone. This program's own.
use Rattle.std.specs.Prelude.{◌≡◌, ℕ, ◌+◌, ◌-◌, ◌==◌, Bool, false, not, ◌&&◌, ◌||◌, List, [], ◌∷◌, ◌++◌, length, Option, None, Some, Ok, Err, nat_le, nat_lt, is_some, if◌then◌else◌}
use Rattle.std.specs.Str.{bytes_eq}
use Rattle.send_model.specs.Command.{Command, Subvol, Snapshot, MkFile, MkDir, MkNod, MkFifo, MkSock, Symlink, Rename, Link, Unlink, Rmdir, SetXattr, RemoveXattr, Write, Clone, Truncate, Chmod, Chown, Utimes, End, UpdateExtent, Fallocate, FileAttr}
use Rattle.send_model.specs.Reading.{Item}
use Rattle.send_model.specs.Subvolume.{Subvolume, inode_at, walk}
use Rattle.send_model.specs.Edit.{Allocation, Lengthen, KeepSize, PunchHole, ZeroRange, ZeroWithin, allocation_of}
use Rattle.send_model.specs.Clone.{cells_of}
use Rattle.send_model.specs.Store.{Head, Store, Part, State}
use Rattle.send_model.specs.Receive.{bytes_of, byte_cells, start_of, run_items, IsAccepted}
use Rattle.send_model.specs.Order.{heads, commands_of}
use Rattle.send_model.specs.Outside.{keys_outside, FindsLawful}
use Rattle.send_model.specs.Cells.{recelled_part}
use Rattle.squash_model.specs.Squashed.{Birth, born_step, unborn, squash_for, squashed_of}

-- Whether a place of an inode lives.
abbrev pub Living : Type 0
Living = ℕ → ℕ → Bool

abbrev pub covers : (offset len place : ℕ) → Bool
covers offset len place = nat_le offset place && nat_lt place (offset + len)

-- A range of a file is new: of its other places those live that were there.
abbrev pub live_beside : (ino size offset len : ℕ) → Living → Living
live_beside ino size offset len after i place =
    if i == ino then (nat_lt place size && not (covers offset len place)) && after i place
    else after i place

-- A file is cut to a size, or is longer.
abbrev pub live_cut : (ino size new : ℕ) → Living → Living
live_cut ino size new after i place =
    if i == ino then (nat_lt place size && nat_lt place new) && after i place else after i place

-- A range of a file that goes to a place of another, or of the same.
abbrev pub live_copied : (ino offset source from len : ℕ) → Living → Living
live_copied ino offset source from len after i place =
    ((i == source) && covers from len place) && after ino (offset + (place - from))

abbrev pub live_allocated : Option Allocation → (ino size offset len : ℕ) → Living → Living
live_allocated None ino size offset len after = after
live_allocated (Some Lengthen) ino size offset len after = live_beside ino size 0 0 after
live_allocated (Some KeepSize) ino size offset len after = live_beside ino size 0 0 after
live_allocated (Some PunchHole) ino size offset len after = live_beside ino size offset len after
live_allocated (Some ZeroRange) ino size offset len after = live_beside ino size offset len after
live_allocated (Some ZeroWithin) ino size offset len after = live_beside ino size offset len after

-- Of the file that a path leads to, by its number.
abbrev pub at_file : {C A : Type 0} → Subvolume C → List ℕ → (ℕ → A) → A → A
at_file s path of_file otherwise =
    elim (walk s path) [ Err refusal ↦ otherwise | Ok ino ↦ of_file ino ]

abbrev pub size_of : {C : Type 0} → Subvolume C → ℕ → ℕ
size_of s ino = length (cells_of s ino)

-- What lives before a command, by what lives after it. No head and no END stands here.
unfoldable pub live_before : {C : Type 0} → Part C → Command → Living → Living
live_before part (Write path offset bytes) after =
    at_file part.subvolume path
    (λ ino. live_beside ino (size_of part.subvolume ino) offset (length bytes) after) after
live_before part (Truncate size path) after =
    at_file part.subvolume path (λ ino. live_cut ino (size_of part.subvolume ino) size after) after
live_before part (Fallocate size path offset mode) after =
    at_file part.subvolume path
    (λ ino. live_allocated (allocation_of mode) ino
    (size_of part.subvolume ino) offset size after) after
live_before part
    (Clone path offset clone_uuid clone_ctransid clone_path clone_offset clone_len) after =
    at_file part.subvolume path
    (λ ino i place. live_beside ino (size_of part.subvolume ino) offset clone_len after i place
    || (bytes_eq clone_uuid part.key.uuid
    && at_file part.subvolume clone_path
    (λ source. live_copied ino offset source clone_offset clone_len after i place) false)) after
live_before part (Subvol uuid ctransid path) after = after
live_before part (Snapshot uuid ctransid path clone_uuid clone_ctransid) after = after
live_before part (MkFile path) after = after
live_before part (MkDir path) after = after
live_before part (MkNod mode rdev path) after = after
live_before part (MkFifo path) after = after
live_before part (MkSock path) after = after
live_before part (Symlink path path_link) after = after
live_before part (Rename path path_to) after = after
live_before part (Link path path_link) after = after
live_before part (Unlink path) after = after
live_before part (Rmdir path) after = after
live_before part (SetXattr name value path) after = after
live_before part (RemoveXattr name path) after = after
live_before part (Chmod mode path) after = after
live_before part (Chown uid gid path) after = after
live_before part (Utimes mtime atime path) after = after
live_before part End after = after
live_before part (UpdateExtent size path offset) after = after
live_before part (FileAttr path flags) after = after

-- In the end each place of each inode lives.
abbrev pub all_live : {C : Type 0} → Option (Part C) → Living
all_live None i place = false
all_live (Some part) i place = is_some (inode_at part.subvolume i)

abbrev pub live_at : {C : Type 0} → Option (Part C) → Command → Living → Living
live_at None command after = after
live_at (Some part) command after = live_before part command after

-- What lives before commands of one part, up to END.
unfoldable pub live_from : ℕ → State Birth → List Command → Living
live_from count state [] = all_live state.part
live_from count state (End ∷ commands) = all_live state.part
live_from count state (command ∷ commands) =
    live_at state.part command
    (live_from (count + length (bytes_of command))
    (born_step count state command).state commands)

-- ---- squashing by it

-- Whether a byte of a WRITE lives, by what lives after it.
abbrev pub byte_lives : State Birth → Living → Command → ℕ → Bool
byte_lives state after (Write path offset bytes) i =
    elim state.part [
      | None ↦ false
      | Some part ↦
          at_file part.subvolume path (λ ino. after ino (offset + i)) false
    ]
byte_lives state after command i = false

unfoldable pub squashed_live : ℕ → State Birth → List Command → List Command
squashed_live count state [] = []
squashed_live count state (command ∷ commands) =
    let next = (born_step count state command).state in
    let later = count + length (bytes_of command) in
    squash_for (λ birth. byte_lives state (live_from later next commands) command
    (birth - count)) count state command ++ squashed_live later next commands

-- ---- laws

-- Of one part, what is squashed by what lives is what is squashed by what stands.
abbrev pub LivenessSquashesTheSame : Type 0
LivenessSquashesTheSame =
    (base : Store ℕ) (items : List Item) (last : Head) → heads items ≡ last ∷ []
    → FindsLawful base (keys_outside items)
    → IsAccepted (run_items 0 byte_cells (start_of base) items)
    → squashed_live 0 (unborn base) (commands_of items) ≡ squashed_of base items

-- It looks at no cells: it is the same over a part that carries nothing in them.
abbrev pub LivenessLooksAtNoCells : Type 0
LivenessLooksAtNoCells = (part : Part Birth) (command : Command) (after : Living)
    → live_before (recelled_part {D = Unit {0}} (λ birth. tt) part) command after
    ≡ live_before part command after
