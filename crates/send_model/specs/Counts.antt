-- The literal bytes and the clones among commands. This program's own.
use Rattle.std.specs.Prelude.{ℕ, ◌+◌, Bool, true, false, not, ◌&&◌, List, [], ◌∷◌, length, Option, None, if◌then◌else◌}
use Rattle.std.specs.List.{sum_by, count_by}
use Rattle.send_model.specs.Command.{Command, Subvol, Snapshot, MkFile, MkDir, MkNod, MkFifo, MkSock, Symlink, Rename, Link, Unlink, Rmdir, SetXattr, RemoveXattr, Write, Clone, Truncate, Chmod, Chown, Utimes, End, UpdateExtent, Fallocate, FileAttr}
use Rattle.send_model.specs.Reading.{Item, input}
use Rattle.send_model.specs.Receive.{bytes_of}
use Rattle.send_model.specs.Order.{commands_of}
use Rattle.send_model.specs.Outside.{part_uuids}
use Rattle.send_model.specs.Provenance.{uuid_after, is_redirected}

-- The bytes that WRITE commands carry.
unfoldable pub literal : List Command → ℕ
literal commands = sum_by (λ command. length (bytes_of command)) commands

abbrev pub is_clone : Command → Bool
is_clone (Clone path offset clone_uuid clone_ctransid clone_path clone_offset clone_len) = true
is_clone (Subvol uuid ctransid path) = false
is_clone (Snapshot uuid ctransid path clone_uuid clone_ctransid) = false
is_clone (MkFile path) = false
is_clone (MkDir path) = false
is_clone (MkNod mode rdev path) = false
is_clone (MkFifo path) = false
is_clone (MkSock path) = false
is_clone (Symlink path path_link) = false
is_clone (Rename path path_to) = false
is_clone (Link path path_link) = false
is_clone (Unlink path) = false
is_clone (Rmdir path) = false
is_clone (SetXattr name value path) = false
is_clone (RemoveXattr name path) = false
is_clone (Write path offset bytes) = false
is_clone (Truncate size path) = false
is_clone (Chmod mode path) = false
is_clone (Chown uid gid path) = false
is_clone (Utimes mtime atime path) = false
is_clone End = false
is_clone (UpdateExtent size path offset) = false
is_clone (Fallocate size path offset mode) = false
is_clone (FileAttr path flags) = false

unfoldable pub clones : List Command → ℕ
clones commands = count_by is_clone commands

abbrev pub is_end : Command → Bool
is_end End = true
is_end (Subvol uuid ctransid path) = false
is_end (Snapshot uuid ctransid path clone_uuid clone_ctransid) = false
is_end (MkFile path) = false
is_end (MkDir path) = false
is_end (MkNod mode rdev path) = false
is_end (MkFifo path) = false
is_end (MkSock path) = false
is_end (Symlink path path_link) = false
is_end (Rename path path_to) = false
is_end (Link path path_link) = false
is_end (Unlink path) = false
is_end (Rmdir path) = false
is_end (SetXattr name value path) = false
is_end (RemoveXattr name path) = false
is_end (Write path offset bytes) = false
is_end (Clone path offset clone_uuid clone_ctransid clone_path clone_offset clone_len) = false
is_end (Truncate size path) = false
is_end (Chmod mode path) = false
is_end (Chown uid gid path) = false
is_end (Utimes mtime atime path) = false
is_end (UpdateExtent size path offset) = false
is_end (Fallocate size path offset mode) = false
is_end (FileAttr path flags) = false

-- How many streams the commands make: each ends with one END.
unfoldable pub streams : List Command → ℕ
streams commands = count_by is_end commands

-- The clones that are not redirected, where the current part has the given uuid.
unfoldable pub kept_from : List (List ℕ) → Option (List ℕ) → List Command → ℕ
kept_from parts current [] = 0
kept_from parts current (command ∷ commands) =
    (if is_clone command
    && not (is_redirected parts current command) then 1 else 0) + kept_from parts
    (uuid_after current command) commands

-- Those of all items, and of files.
abbrev pub kept_of : List Item → ℕ
kept_of items = kept_from (part_uuids items) None (commands_of items)

abbrev pub kept : List (List ℕ) → ℕ
kept files = kept_of (input files).items
