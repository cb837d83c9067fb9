-- Receiving files into a store: each command's step in order, up to the first refusal or fault of
-- reading. Source: the btrfs-receive manual, and do_receive in cmds/receive.c of btrfs-progs.
use Rattle.std.specs.Prelude.{◌≡◌, ℕ, List, [], ◌∷◌, Option, None, Some}
use Rattle.send_model.specs.Refusal.{Refusal}
use Rattle.send_model.specs.Command.{Command, Subvol, Snapshot, MkFile, MkDir, MkNod, MkFifo, MkSock, Symlink, Rename, Link, Unlink, Rmdir, SetXattr, RemoveXattr, Write, Clone, Truncate, Chmod, Chown, Utimes, End, UpdateExtent, Fallocate, FileAttr}
use Rattle.send_model.specs.Reading.{Item, Verdict, Ending, Whole, Faulty, Reading, input}
use Rattle.send_model.specs.Store.{Store, State, After, step}

-- The bytes that a WRITE carries; no other command carries any.
abbrev pub bytes_of : Command → List ℕ
bytes_of (Write path offset bytes) = bytes
bytes_of (Subvol uuid ctransid path) = []
bytes_of (Snapshot uuid ctransid path clone_uuid clone_ctransid) = []
bytes_of (MkFile path) = []
bytes_of (MkDir path) = []
bytes_of (MkNod mode rdev path) = []
bytes_of (MkFifo path) = []
bytes_of (MkSock path) = []
bytes_of (Symlink path path_link) = []
bytes_of (Rename path path_to) = []
bytes_of (Link path path_link) = []
bytes_of (Unlink path) = []
bytes_of (Rmdir path) = []
bytes_of (SetXattr name value path) = []
bytes_of (RemoveXattr name path) = []
bytes_of (Clone path offset clone_uuid clone_ctransid clone_path clone_offset clone_len) = []
bytes_of (Truncate size path) = []
bytes_of (Chmod mode path) = []
bytes_of (Chown uid gid path) = []
bytes_of (Utimes mtime atime path) = []
bytes_of End = []
bytes_of (UpdateExtent size path offset) = []
bytes_of (Fallocate size path offset mode) = []
bytes_of (FileAttr path flags) = []

-- What an item's WRITE puts into a file of bytes.
abbrev pub byte_cells : Item → List ℕ
byte_cells item = bytes_of item.command

abbrev pub verdict_of : Item → Refusal → Verdict
verdict_of item refusal =
    record { file = item.file; command = item.number; offset = item.offset; refusal = refusal }

-- Where items lead: the state after the last that was taken, and the verdict on the first that was
-- refused.
pub record Ran (S : Type 0) : Type 0 where
  pub state : S
  pub refused : Option Verdict

-- What follows an item: the run of the rest, or the verdict on the item that was refused.
abbrev pub then_run : {S : Type 0} → Item → After S → Ran S → Ran S
then_run item after rest = elim after.refusal [
  | Some refusal ↦ record { state = after.state; refused = Some (verdict_of item refusal) }
  | None ↦ rest
]

-- Items in order, where it is given what an item does to a state.
unfoldable pub run_by : {S : Type 0} → (S → Item → After S) → S → List Item → Ran S
run_by does state [] = record { state = state; refused = None }
run_by does state (item ∷ items) = let after =
    does state item in then_run item after (run_by does after.state items)

-- The run of a store and a part.
abbrev pub Run : Type 0 → Type 0
Run C = Ran (State C)

-- The commands of items in order, where each WRITE puts the cells of its item.
unfoldable pub run_items : {C : Type 0} → C → (Item → List C) → State C → List Item → Run C
run_items zero_cell cells state items =
    run_by (λ s item. step zero_cell (cells item) s item.command) state items

-- The fault with which reading ended, if any.
abbrev pub fault_of : Ending → Option Verdict
fault_of Whole = None
fault_of (Faulty verdict) = Some verdict

abbrev pub first_of : {A : Type 0} → Option A → Option A → Option A
first_of None other = other
first_of (Some x) other = Some x

abbrev pub start_of : {C : Type 0} → Store C → State C
start_of store = record { store = store; part = None }

-- The run, with the fault that ended the reading where no command was refused.
abbrev pub with_fault : {S : Type 0} → Ran S → Ending → Ran S
with_fault r ending = record { state = r.state; refused = first_of r.refused (fault_of ending) }

-- Receiving what was read into a store.
unfoldable pub receive_items : {C : Type 0} → C → (Item → List C) → Store C → Reading → Run C
receive_items zero_cell cells store reading =
    with_fault (run_items zero_cell cells (start_of store) reading.items) reading.end

-- The same into a store of bytes, and of files.
abbrev pub receive_of : Store ℕ → Reading → Run ℕ
receive_of store reading = receive_items 0 byte_cells store reading

abbrev pub receive : Store ℕ → List (List ℕ) → Run ℕ
receive store files = receive_of store (input files)

abbrev pub IsAccepted : {C : Type 0} → Run C → Type 0
IsAccepted r = r.refused ≡ None
