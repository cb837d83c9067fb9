-- Where the cells of cloned ranges come from: a byte of a subvolume outside the files stands at a
-- place there, and edits carry this with the byte. Bytes that commands write, and zero bytes that
-- they make, come from nowhere outside. Which blocks of a redirected clone are carried by an
-- outside subvolume is decided by these places alone. This program's own.
use Rattle.std.specs.Prelude.{ℕ, zero, suc, ◌+◌, ◌%◌, ◌==◌, Bool, true, false, not, ◌&&◌, ◌||◌, List, [], ◌∷◌, ◌++◌, map, length, take, drop, Option, None, Some, Ok, Err, if◌then◌else◌}
use Rattle.std.specs.List.{sum_by, count_by}
use Rattle.std.specs.Str.{bytes_eq}
use Rattle.send_model.specs.Command.{Command, Subvol, Snapshot, MkFile, MkDir, MkNod, MkFifo, MkSock, Symlink, Rename, Link, Unlink, Rmdir, SetXattr, RemoveXattr, Write, Clone, Truncate, Chmod, Chown, Utimes, End, UpdateExtent, Fallocate, FileAttr}
use Rattle.send_model.specs.Reading.{Item, input}
use Rattle.send_model.specs.Subvolume.{Inode, Subvolume, is_file, is_nameable}
use Rattle.send_model.specs.Clone.{block_len, cells_of, cloned, clone_values}
use Rattle.send_model.specs.Store.{Key, same_key, Entry, Store, State, Stepped, step, find, clone_source}
use Rattle.send_model.specs.Receive.{bytes_of, start_of}
use Rattle.send_model.specs.Outside.{is_among, part_uuids}

-- ---- tags

-- A place in a file of a complete subvolume.
pub record Place : Type 0 where
  pub key : Key
  pub ino : ℕ
  pub offset : ℕ

-- A byte and the outside place that it comes from, if any.
pub record Traced : Type 0 where
  pub byte : ℕ
  pub place : Option Place

-- A byte that comes from no outside place.
abbrev pub fresh : ℕ → Traced
fresh byte = record { byte = byte; place = None }

-- The cells of a file of a complete subvolume, each at its own place.
abbrev pub traced_from : Key → ℕ → ℕ → List ℕ → List Traced
traced_from key ino offset [] = []
traced_from key ino offset (byte ∷ bytes) =
    record { byte = byte; place = Some (record { key = key; ino = ino; offset = offset }) }
    ∷ traced_from key ino (offset + 1) bytes

abbrev pub inode_with : {C D : Type 0} → Inode C → List D → Inode D
inode_with inode cells = record {
  kind = inode.kind;
  mode = inode.mode;
  uid = inode.uid;
  gid = inode.gid;
  atime = inode.atime;
  mtime = inode.mtime;
  rdev = inode.rdev;
  flags = inode.flags;
  target = inode.target;
  xattrs = inode.xattrs;
  cells = cells;
}

-- A subvolume with other cells in its files, by their inode numbers.
abbrev pub with_cells : {C D : Type 0} → (ℕ → List C → List D) → Subvolume C → Subvolume D
with_cells change s =
    record {
      inodes = map (λ e. (e.0, inode_with e.1 (change e.0 e.1.cells))) s.inodes;
      names = s.names;
      next = s.next;
    }

unfoldable pub traced_subvolume : Key → Subvolume ℕ → Subvolume Traced
traced_subvolume key s = with_cells (λ ino cells. traced_from key ino 0 cells) s

abbrev pub traced_entry : Entry (Subvolume ℕ) → Entry (Subvolume Traced)
traced_entry e = record {
  name = e.name;
  key = e.key;
  parent = e.parent;
  contents = elim e.contents [ None ↦ None | Some s ↦ Some (traced_subvolume e.key s) ];
}

-- A store whose bytes are traced to their own places.
unfoldable pub traced_store : Store ℕ → Store Traced
traced_store store = map traced_entry store

-- The written bytes of an item come from nowhere outside.
abbrev pub fresh_cells : Item → List Traced
fresh_cells item = map fresh (bytes_of item.command)

-- ---- redirected clones

-- The uuid of the part after a command.
abbrev pub uuid_after : Option (List ℕ) → Command → Option (List ℕ)
uuid_after current End = None
uuid_after current (Subvol uuid ctransid path) = Some uuid
uuid_after current (Snapshot uuid ctransid path clone_uuid clone_ctransid) = Some uuid
uuid_after current (MkFile path) = current
uuid_after current (MkDir path) = current
uuid_after current (MkNod mode rdev path) = current
uuid_after current (MkFifo path) = current
uuid_after current (MkSock path) = current
uuid_after current (Symlink path path_link) = current
uuid_after current (Rename path path_to) = current
uuid_after current (Link path path_link) = current
uuid_after current (Unlink path) = current
uuid_after current (Rmdir path) = current
uuid_after current (SetXattr name value path) = current
uuid_after current (RemoveXattr name path) = current
uuid_after current (Write path offset bytes) = current
uuid_after current (Clone path offset clone_uuid clone_ctransid clone_path clone_offset clone_len) =
    current
uuid_after current (Truncate size path) = current
uuid_after current (Chmod mode path) = current
uuid_after current (Chown uid gid path) = current
uuid_after current (Utimes mtime atime path) = current
uuid_after current (UpdateExtent size path offset) = current
uuid_after current (Fallocate size path offset mode) = current
uuid_after current (FileAttr path flags) = current

abbrev pub is_own : Option (List ℕ) → List ℕ → Bool
is_own None uuid = false
is_own (Some own) uuid = bytes_eq own uuid

-- A clone is redirected where its source is another part of the same files.
abbrev pub is_redirected : List (List ℕ) → Option (List ℕ) → Command → Bool
is_redirected parts current
    (Clone path offset clone_uuid clone_ctransid clone_path clone_offset clone_len) =
    is_among parts clone_uuid && not (is_own current clone_uuid)
is_redirected parts current (Subvol uuid ctransid path) = false
is_redirected parts current (Snapshot uuid ctransid path clone_uuid clone_ctransid) = false
is_redirected parts current (MkFile path) = false
is_redirected parts current (MkDir path) = false
is_redirected parts current (MkNod mode rdev path) = false
is_redirected parts current (MkFifo path) = false
is_redirected parts current (MkSock path) = false
is_redirected parts current (Symlink path path_link) = false
is_redirected parts current (Rename path path_to) = false
is_redirected parts current (Link path path_link) = false
is_redirected parts current (Unlink path) = false
is_redirected parts current (Rmdir path) = false
is_redirected parts current (SetXattr name value path) = false
is_redirected parts current (RemoveXattr name path) = false
is_redirected parts current (Write path offset bytes) = false
is_redirected parts current (Truncate size path) = false
is_redirected parts current (Chmod mode path) = false
is_redirected parts current (Chown uid gid path) = false
is_redirected parts current (Utimes mtime atime path) = false
is_redirected parts current End = false
is_redirected parts current (UpdateExtent size path offset) = false
is_redirected parts current (Fallocate size path offset mode) = false
is_redirected parts current (FileAttr path flags) = false

-- The cells that a CLONE puts at its place in the current part; none where it is refused.
unfoldable pub clone_range : {C : Type 0} → State C → Command → List C
clone_range state (Clone path offset clone_uuid clone_ctransid clone_path clone_offset clone_len) =
    elim state.part [
      | None ↦ []
      | Some part ↦
          elim (cloned part.subvolume
          (clone_source state.store part (record { uuid = clone_uuid; ctransid = clone_ctransid }))
          (bytes_eq clone_uuid part.key.uuid)
          (clone_values path offset clone_path clone_offset clone_len)) [
            | Err refusal ↦ []
            | Ok range ↦ range.cells
          ]
    ]
clone_range state (Subvol uuid ctransid path) = []
clone_range state (Snapshot uuid ctransid path clone_uuid clone_ctransid) = []
clone_range state (MkFile path) = []
clone_range state (MkDir path) = []
clone_range state (MkNod mode rdev path) = []
clone_range state (MkFifo path) = []
clone_range state (MkSock path) = []
clone_range state (Symlink path path_link) = []
clone_range state (Rename path path_to) = []
clone_range state (Link path path_link) = []
clone_range state (Unlink path) = []
clone_range state (Rmdir path) = []
clone_range state (SetXattr name value path) = []
clone_range state (RemoveXattr name path) = []
clone_range state (Write path offset bytes) = []
clone_range state (Truncate size path) = []
clone_range state (Chmod mode path) = []
clone_range state (Chown uid gid path) = []
clone_range state (Utimes mtime atime path) = []
clone_range state End = []
clone_range state (UpdateExtent size path offset) = []
clone_range state (Fallocate size path offset mode) = []
clone_range state (FileAttr path flags) = []

abbrev pub traced_step : State Traced → Item → Stepped Traced
traced_step state item = step (fresh 0) (fresh_cells item) state item.command

-- What is asked of each redirected clone among items, in order, from the state before it; it is
-- given what an item makes of a state.
unfoldable pub redirected_by : {S R : Type 0} → (S → Item → S) → (S → Command → R) → List (List ℕ)
    → S → Option (List ℕ) → List Item → List R
redirected_by does asked parts state current [] = []
redirected_by does asked parts state current (item ∷ items) =
    let others = redirected_by does asked parts (does state item)
    (uuid_after current item.command) items in
    if is_redirected parts current item.command then asked state item.command ∷ others else others

-- What an item makes of a traced state.
abbrev pub traced_after : State Traced → Item → State Traced
traced_after state item = (traced_step state item).state

-- The ranges of the redirected clones among items, in order.
unfoldable pub ranges_from : List (List ℕ) → State Traced → Option (List ℕ) → List Item
    → List (List Traced)
unfolding redirected_by
ranges_from parts state current items =
    redirected_by traced_after clone_range parts state current items

-- The ranges of all redirected clones of items, received into a base, and of files.
abbrev pub ranges_of : Store ℕ → List Item → List (List Traced)
ranges_of store items = ranges_from (part_uuids items) (start_of (traced_store store)) None items

-- ---- blocks

-- The blocks of a range from its start; the last may be short. The first number bounds how many
-- there are.
abbrev pub blocks_from : {A : Type 0} → ℕ → List A → List (List A)
blocks_from zero cells = []
blocks_from (suc n) [] = []
blocks_from (suc n) (c ∷ cells) =
    take block_len (c ∷ cells) ∷ blocks_from n (drop block_len (c ∷ cells))

unfoldable pub blocks : {A : Type 0} → List A → List (List A)
blocks cells = blocks_from (length cells) cells

abbrev pub same_place : Place → Place → Bool
same_place a b = same_key a.key b.key && (a.ino == b.ino) && (a.offset == b.offset)

abbrev pub is_at : Option Place → Place → Bool
is_at None place = false
is_at (Some own) place = same_place own place

abbrev pub next_place : Place → Place
next_place place = record place { offset = place.offset + 1 }

-- The cells come from successive places, from the given one on.
abbrev pub come_from : Place → List Traced → Bool
come_from place [] = true
come_from place (c ∷ cells) = is_at c.place place && come_from (next_place place) cells

-- A block of a length may be cloned from a place: it begins a block of a file that a path names,
-- and is whole or ends where that file ends.
abbrev pub can_serve : {C : Type 0} → Option (Subvolume C) → Place → ℕ → Bool
can_serve None place len = false
can_serve (Some s) place len =
    (place.offset % block_len == 0) && (is_file s place.ino && is_nameable s place.ino)
    && ((len == block_len) || (place.offset + len == length (cells_of s place.ino)))

-- The outside place from which a block is carried, if it is.
unfoldable pub carried_from : Store ℕ → List Traced → Option Place
carried_from store [] = None
carried_from store (c ∷ cells) = elim c.place [
  | None ↦ None
  | Some place ↦
      if come_from place (c ∷ cells)
      && can_serve (find store place.key) place (length (c ∷ cells)) then Some place else None
]

-- ---- pieces

-- A piece of a redirected range: carried from an outside place, or literal bytes; with its place in
-- the range.
pub data Piece : Type 0 where
  Carried : (at : ℕ) (place : Place) (len : ℕ) → Piece
  Literal : (at : ℕ) (bytes : List ℕ) → Piece

-- The piece of one block of any cells, by the bytes that they have and the place from which a block
-- can be cloned, if there is one.
abbrev pub piece_by : {C : Type 0} → (C → ℕ) → (List C → Option Place) → ℕ → List C → Piece
piece_by byte_in source at block =
    elim (source block) [
      | None ↦ Literal at (map byte_in block)
      | Some place ↦
          Carried at place (length block)
    ]

abbrev pub piece_of : Store ℕ → ℕ → List Traced → Piece
piece_of store at block = piece_by (λ c. c.byte) (carried_from store) at block

-- A place that many places further on.
abbrev pub place_after : Place → ℕ → Place
place_after place len = record place { offset = place.offset + len }

-- A piece before others: literal bytes join, and so do carried blocks that follow each other in one
-- file.
abbrev pub join_piece : Piece → List Piece → List Piece
join_piece (Literal at bytes) [] = Literal at bytes ∷ []
join_piece (Literal at bytes) (Literal at' bytes' ∷ rest) = Literal at (bytes ++ bytes') ∷ rest
join_piece (Literal at bytes) (Carried at' place' len' ∷ rest) =
    Literal at bytes ∷ Carried at' place' len' ∷ rest
join_piece (Carried at place len) [] = Carried at place len ∷ []
join_piece (Carried at place len) (Literal at' bytes' ∷ rest) =
    Carried at place len ∷ Literal at' bytes' ∷ rest
join_piece (Carried at place len) (Carried at' place' len' ∷ rest) =
    if same_place (place_after place len) place' then Carried at place (len + len') ∷ rest
    else Carried at place len ∷ Carried at' place' len' ∷ rest

abbrev pub pieces_by : {C : Type 0} → (C → ℕ) → (List C → Option Place) → ℕ → List (List C)
    → List Piece
pieces_by byte_in source at [] = []
pieces_by byte_in source at (block ∷ others) =
    join_piece (piece_by byte_in source at block)
    (pieces_by byte_in source (at + length block) others)

abbrev pub pieces_from : Store ℕ → ℕ → List (List Traced) → List Piece
pieces_from store at cut = pieces_by (λ c. c.byte) (carried_from store) at cut

-- The pieces of a range: the maximal runs of carried blocks, and the stretches of other bytes
-- between them.
unfoldable pub pieces_of : Store ℕ → List Traced → List Piece
pieces_of store range = pieces_from store 0 (blocks range)

abbrev pub literal_len : Piece → ℕ
literal_len (Literal at bytes) = length bytes
literal_len (Carried at place len) = 0

abbrev pub is_run : Piece → Bool
is_run (Carried at place len) = true
is_run (Literal at bytes) = false

-- How many bytes the pieces of some ranges write, and how many runs they clone.
abbrev pub literal_in : List (List Piece) → ℕ
literal_in ranges = sum_by (λ pieces. sum_by literal_len pieces) ranges

abbrev pub runs_among : List (List Piece) → ℕ
runs_among ranges = sum_by (λ pieces. count_by is_run pieces) ranges

-- How many cells of some ranges stand in no carried block, and how many runs of carried blocks
-- there are.
abbrev pub uncarried_in : Store ℕ → List (List Traced) → ℕ
uncarried_in store ranges = literal_in (map (pieces_of store) ranges)

abbrev pub runs_in : Store ℕ → List (List Traced) → ℕ
runs_in store ranges = runs_among (map (pieces_of store) ranges)

-- The same of the redirected ranges of items, and of files.
abbrev pub uncarried_cells : Store ℕ → List Item → ℕ
uncarried_cells store items = uncarried_in store (ranges_of store items)

abbrev pub uncarried : Store ℕ → List (List ℕ) → ℕ
uncarried store files = uncarried_cells store (input files).items

abbrev pub carried_runs : Store ℕ → List Item → ℕ
carried_runs store items = runs_in store (ranges_of store items)

abbrev pub runs : Store ℕ → List (List ℕ) → ℕ
runs store files = carried_runs store (input files).items
