-- What a command leaves of the core and of the part, by the definition of a step. Source: this
-- program's own.
use Rattle.std.specs.Prelude.{◌≡◌, ℕ, Bool, true, false, ◌&&◌, List, length, Option, None, Some, Result, Ok, Err, IsTrue, is_none}
use Rattle.std.specs.List.{list_any}
use Rattle.send_model.specs.Command as meant
use Rattle.send_model.specs.Receive.{bytes_of}
use Rattle.send_model.specs.Store.{Key, same_key, Entry, Store, Part, State, Stepped}
use Rattle.extent_map.specs.Pieces.{run_cells}
use Rattle.sx_base.specs.declared.stop.Stop.{Stop}
use Rattle.sx_base.specs.declared.stop.Stop.TheVariants as stop
use Rattle.sx_base.specs.Refusals.{refusal_of}
use Rattle.clone_resolve.specs.declared.done.Done.{Done}
use Rattle.clone_resolve.specs.declared.done.Done.TheVariants as done

-- How many bytes of data a command puts.
abbrev pub data_len : meant.Command → ℕ
data_len command = length (bytes_of command)

-- The cells that a command puts: a run from an origin, as long as its data.
abbrev pub cells_put : {O : Type 0} → (O → ℕ → O) → O → meant.Command → List (Option O)
cells_put advanced origin command = run_cells advanced origin (data_len command)

-- What was done: a head begins a part, END ends one, and any other command edits one.
abbrev pub done_by : meant.Command → Done
done_by (meant.Subvol uuid ctransid path) = done.Began
done_by (meant.Snapshot uuid ctransid path clone_uuid clone_ctransid) = done.Began
done_by (meant.MkFile path) = done.Edited
done_by (meant.MkDir path) = done.Edited
done_by (meant.MkNod mode rdev path) = done.Edited
done_by (meant.MkFifo path) = done.Edited
done_by (meant.MkSock path) = done.Edited
done_by (meant.Symlink path path_link) = done.Edited
done_by (meant.Rename path path_to) = done.Edited
done_by (meant.Link path path_link) = done.Edited
done_by (meant.Unlink path) = done.Edited
done_by (meant.Rmdir path) = done.Edited
done_by (meant.SetXattr name value path) = done.Edited
done_by (meant.RemoveXattr name path) = done.Edited
done_by (meant.Write path offset bytes) = done.Edited
done_by (meant.Clone path offset clone_uuid clone_ctransid clone_path clone_offset clone_len) =
    done.Edited
done_by (meant.Truncate size path) = done.Edited
done_by (meant.Chmod mode path) = done.Edited
done_by (meant.Chown uid gid path) = done.Edited
done_by (meant.Utimes mtime atime path) = done.Edited
done_by meant.End = done.Ended
done_by (meant.UpdateExtent size path offset) = done.Edited
done_by (meant.Fallocate size path offset mode) = done.Edited
done_by (meant.FileAttr path flags) = done.Edited

-- An unfinished entry of a key.
abbrev pub is_open : {S : Type 0} → Key → Entry S → Bool
is_open key e = same_key e.key key && is_none e.contents

-- An unfinished entry has the key of the part, if there is a part.
abbrev pub Fits : {C : Type 0} → Store C → Option (Part C) → Type 0
Fits store None = Unit {0}
Fits store (Some part) = IsTrue (list_any (is_open part.key) store)

-- An answer is that of a step: it is taken, or it is refused for the step's reason. Nothing is said
-- where there is no memory.
abbrev pub Answers : {A C : Type 0} → Result A Stop → State C → Stepped C → Type 0
Answers (Ok _) new stepped = stepped ≡ record { state = new; refusal = None }
Answers (Err (stop.Refused refusal)) new stepped =
    stepped ≡ record { state = new; refusal = Some (refusal_of refusal) }
Answers (Err stop.NoMemory) new stepped = Unit {0}

-- A command that changes the contents of one file by its own values alone.
abbrev pub is_of_contents : meant.Command → Bool
is_of_contents (meant.Write path offset bytes) = true
is_of_contents (meant.Truncate size path) = true
is_of_contents (meant.Fallocate size path offset mode) = true
is_of_contents (meant.Subvol uuid ctransid path) = false
is_of_contents (meant.Snapshot uuid ctransid path clone_uuid clone_ctransid) = false
is_of_contents (meant.MkFile path) = false
is_of_contents (meant.MkDir path) = false
is_of_contents (meant.MkNod mode rdev path) = false
is_of_contents (meant.MkFifo path) = false
is_of_contents (meant.MkSock path) = false
is_of_contents (meant.Symlink path path_link) = false
is_of_contents (meant.Rename path path_to) = false
is_of_contents (meant.Link path path_link) = false
is_of_contents (meant.Unlink path) = false
is_of_contents (meant.Rmdir path) = false
is_of_contents (meant.SetXattr name value path) = false
is_of_contents (meant.RemoveXattr name path) = false
is_of_contents
    (meant.Clone path offset clone_uuid clone_ctransid clone_path clone_offset clone_len) = false
is_of_contents (meant.Chmod mode path) = false
is_of_contents (meant.Chown uid gid path) = false
is_of_contents (meant.Utimes mtime atime path) = false
is_of_contents meant.End = false
is_of_contents (meant.UpdateExtent size path offset) = false
is_of_contents (meant.FileAttr path flags) = false
