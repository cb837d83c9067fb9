-- What the commands of one part were resolved to, and what stands for them by the fates of their
-- WRITE commands. This program's own.
use Rattle.std.specs.Prelude.{◌≡◌, ℕ, ◌+◌, Bool, false, List, [], ◌∷◌, ◌++◌, map, length, take, drop, Option, None, Some, if◌then◌else◌}
use Rattle.std.specs.List.{list_any}
use Rattle.std.specs.Str.{bytes_eq}
use Rattle.send_model.specs.Command.{Command, Subvol, Snapshot, MkFile, MkDir, MkNod, MkFifo, MkSock, Symlink, Rename, Link, Unlink, Rmdir, SetXattr, RemoveXattr, Write, Clone, Truncate, Chmod, Chown, Utimes, End, UpdateExtent, Fallocate, FileAttr}
use Rattle.send_model.specs.Subvolume.{Subvolume}
use Rattle.send_model.specs.Edit.{Allocation, Lengthen, KeepSize, PunchHole, ZeroRange, ZeroWithin, allocation_of}
use Rattle.send_model.specs.Reading.{Item}
use Rattle.send_model.specs.Store.{Head, Store, Part, State, Stepped, step}
use Rattle.send_model.specs.Receive.{bytes_of, start_of, byte_cells, run_items, IsAccepted}
use Rattle.send_model.specs.Order.{heads, commands_of}
use Rattle.send_model.specs.Counts.{is_end}
use Rattle.send_model.specs.Outside.{keys_outside, FindsLawful}
use Rattle.send_model.specs.Cells.{recelled_store}
use Rattle.squash_model.specs.Squashed.{squashed_of}
use Rattle.squash_model.specs.Liveness.{at_file, size_of, all_live}
use Rattle.squash_log.specs.declared.change.FileRange.{FileRange}
use Rattle.squash_log.specs.declared.change.Change.{Change}
use Rattle.squash_log.specs.declared.change.Change.TheVariants as made
use Rattle.squash_log.specs.declared.fate.Span.{Span}
use Rattle.squash_log.specs.Fates.{Fate, Whole, Parts, fates_of}

-- ---- what a command did

abbrev pub range_of : {C : Type 0} → Subvolume C → (ino at len : ℕ) → FileRange
range_of s ino at len = record { ino = ino; at = at; len = len; size = size_of s ino }

-- What FALLOCATE did to a range of a file.
abbrev pub allocated_changes : {C : Type 0} → Subvolume C → Option Allocation → (ino at len : ℕ)
    → List Change
allocated_changes s None ino at len = []
allocated_changes s (Some Lengthen) ino at len = made.Replaced (range_of s ino 0 0) ∷ []
allocated_changes s (Some KeepSize) ino at len = made.Replaced (range_of s ino 0 0) ∷ []
allocated_changes s (Some PunchHole) ino at len = made.Replaced (range_of s ino at len) ∷ []
allocated_changes s (Some ZeroRange) ino at len = made.Replaced (range_of s ino at len) ∷ []
allocated_changes s (Some ZeroWithin) ino at len = made.Replaced (range_of s ino at len) ∷ []

-- What CLONE did to a range of a file: it copied cells of a file of the part, or others.
abbrev pub cloned_changes : {C : Type 0} → Subvolume C → (own : Bool) → (ino at : ℕ)
    → (clone_path : List ℕ) → (from len : ℕ) → List Change
cloned_changes s own ino at clone_path from len =
    if own then at_file s clone_path
    (λ source. made.Cloned (range_of s ino at len) source from ∷ [])
    (made.Replaced (range_of s ino at len) ∷ [])
    else made.Replaced (range_of s ino at len) ∷ []

-- What a command did to the contents of a file of a part, if it did anything.
unfoldable pub changes_for : {C : Type 0} → Part C → Command → List Change
changes_for part (Write path offset bytes) =
    at_file part.subvolume path
    (λ ino. made.Wrote (range_of part.subvolume ino offset (length bytes)) ∷ []) []
changes_for part (Truncate size path) =
    at_file part.subvolume path
    (λ ino. made.Resized ino (size_of part.subvolume ino) size ∷ []) []
changes_for part (Fallocate size path offset mode) =
    at_file part.subvolume path
    (λ ino. allocated_changes part.subvolume (allocation_of mode) ino offset size) []
changes_for part
    (Clone path offset clone_uuid clone_ctransid clone_path clone_offset clone_len) =
    at_file part.subvolume path
    (λ ino. cloned_changes part.subvolume (bytes_eq clone_uuid part.key.uuid) ino offset clone_path
    clone_offset clone_len) []
changes_for part (Subvol uuid ctransid path) = []
changes_for part (Snapshot uuid ctransid path clone_uuid clone_ctransid) = []
changes_for part (MkFile path) = []
changes_for part (MkDir path) = []
changes_for part (MkNod mode rdev path) = []
changes_for part (MkFifo path) = []
changes_for part (MkSock path) = []
changes_for part (Symlink path path_link) = []
changes_for part (Rename path path_to) = []
changes_for part (Link path path_link) = []
changes_for part (Unlink path) = []
changes_for part (Rmdir path) = []
changes_for part (SetXattr name value path) = []
changes_for part (RemoveXattr name path) = []
changes_for part (Chmod mode path) = []
changes_for part (Chown uid gid path) = []
changes_for part (Utimes mtime atime path) = []
changes_for part End = []
changes_for part (UpdateExtent size path offset) = []
changes_for part (FileAttr path flags) = []

abbrev pub changes_at : {C : Type 0} → Option (Part C) → Command → List Change
changes_at None command = []
changes_at (Some part) command = changes_for part command

-- ---- commands over cells that carry nothing

abbrev pub blank_step : State (Unit {0}) → Command → Stepped (Unit {0})
blank_step state command = step tt (map (λ byte. tt) (bytes_of command)) state command

-- Where commands lead that are all taken.
abbrev pub blank_end : State (Unit {0}) → List Command → State (Unit {0})
blank_end state [] = state
blank_end state (command ∷ commands) = blank_end (blank_step state command).state commands

-- What they did.
abbrev pub changes_by : State (Unit {0}) → List Command → List Change
changes_by state [] = []
changes_by state (command ∷ commands) =
    changes_at state.part command ++ changes_by (blank_step state command).state commands

abbrev pub blank_start : Store ℕ → State (Unit {0})
blank_start store = start_of (recelled_store (λ byte. tt) store)

-- ---- what stands for commands

abbrev pub span_write : List ℕ → ℕ → List ℕ → Span → Command
span_write path offset bytes span =
    Write path (offset + span.at) (take span.len (drop span.at bytes))

-- What stands for a WRITE.
abbrev pub by_fate : Fate → (path : List ℕ) → ℕ → (bytes : List ℕ) → List Command
by_fate Whole path offset bytes = Write path offset bytes ∷ []
by_fate (Parts spans lengthens) path offset bytes =
    map (span_write path offset bytes) spans
    ++ (if lengthens then Truncate (offset + length bytes) path ∷ [] else [])

-- The next fate; a WRITE without one stays.
abbrev pub next_fate : List Fate → Fate
next_fate [] = Whole
next_fate (fate ∷ fates) = fate

-- What stands for commands, of whose WRITE commands these are the fates.
abbrev pub by_fates : List Fate → List Command → List Command
by_fates fates [] = []
by_fates fates (Write path offset bytes ∷ commands) =
    by_fate (next_fate fates) path offset bytes ++ by_fates (drop 1 fates) commands
by_fates fates (command ∷ commands) = command ∷ by_fates fates commands

-- ---- the law

-- The fates of all that the commands of one part did, over a base that takes them, are those by
-- which the commands become the squashed ones.
abbrev pub FatesSquashTheSame : Type 0
FatesSquashTheSame =
    (base : Store ℕ) (items : List Item) (commands : List Command) (last : Head)
    → commands_of items ≡ commands ++ End ∷ [] → list_any is_end commands ≡ false
    → heads items ≡ last ∷ [] → FindsLawful base (keys_outside items)
    → IsAccepted (run_items 0 byte_cells (start_of base) items)
    → by_fates
    (fates_of (changes_by (blank_start base) commands)
    (all_live (blank_end (blank_start base) commands).part)) commands ++ End ∷ []
    ≡ squashed_of base items
