-- Composing with the subvolume that is being composed as a source: a block of a redirected clone
-- that no outside subvolume carries, but whose cells stand in another file there, is cloned from
-- that file. This program's own.
use Rattle.std.specs.Prelude.{◌≡◌, ◌⊎◌, ◌↔◌, ℕ, ◌+◌, ◌%◌, ◌<◌, ◌≤◌, ◌==◌, Bool, true, false, not, ◌&&◌, List, [], ◌∷◌, map, length, take, drop, Option, None, Some, Ok, Err, MatchOption, IsTrue, if◌then◌else◌}
use Rattle.std.specs.List.{flat_map}
use Rattle.send_model.specs.Command.{Command, Subvol, Snapshot, MkFile, MkDir, MkNod, MkFifo, MkSock, Symlink, Rename, Link, Unlink, Rmdir, SetXattr, RemoveXattr, Write, Clone, Truncate, Chmod, Chown, Utimes, End, UpdateExtent, Fallocate, FileAttr}
use Rattle.send_model.specs.Reading.{Item}
use Rattle.std.specs.Ordering.{nat_cmp}
use Rattle.send_model.specs.Map.{IsMap}
use Rattle.send_model.specs.Subvolume.{Subvolume, walk, is_file, is_nameable}
use Rattle.send_model.specs.Clone.{block_len, cells_of}
use Rattle.send_model.specs.Store.{Key, Head, Store, State}
use Rattle.send_model.specs.Receive.{start_of, first_of}
use Rattle.send_model.specs.Order.{heads, lawful_of}
use Rattle.send_model.specs.Outside.{part_uuids}
use Rattle.send_model.specs.Provenance.{Place, same_place, Piece, blocks, can_serve, carried_from, pieces_by, clone_range, redirected_by, literal_in, runs_among}
use Rattle.send_model.specs.Composed.{first_head, last_head, head_command, pieces_commands, commands_by, list_by, whole_list, for_parts}
use Rattle.send_model.specs.Cells.{recelled}
use Rattle.standing_model.specs.Births.{Birth, Tag, CameFrom, BornAt, Tagged, byte_in, traced_of, tagged_store, tagged_after}

-- ---- the stand of a block

abbrev pub same_birth : Birth → Birth → Bool
same_birth a b = (a.file == b.file) && (a.at == b.at)

abbrev pub same_tag : Tag → Tag → Bool
same_tag (CameFrom a) (CameFrom b) = same_place a b
same_tag (CameFrom a) (BornAt b) = false
same_tag (BornAt a) (CameFrom b) = false
same_tag (BornAt a) (BornAt b) = same_birth a b

-- A cell has a tag, and it is that of another cell.
abbrev pub tags_alike : Option Tag → Option Tag → Bool
tags_alike None other = false
tags_alike (Some own) None = false
tags_alike (Some own) (Some other) = same_tag own other

-- All cells of a block have tags, and with these the other cells begin.
abbrev pub begin_with : List Tagged → List Tagged → Bool
begin_with cells [] = true
begin_with [] (c ∷ block) = false
begin_with (d ∷ cells) (c ∷ block) = tags_alike c.tag d.tag && begin_with cells block

-- A block stands at a place of the part: that is a whole block of a file that a path names, or
-- begins a last one as short as this; the file is not the one that is written to; and its cells
-- from there on begin with the block's tags.
abbrev pub stands_at : Subvolume Tagged → ℕ → List Tagged → Place → Bool
stands_at s target block place =
    can_serve (Some s) place (length block) && not (place.ino == target)
    && begin_with (drop place.offset (cells_of s place.ino)) block

-- The places at which the blocks of cells begin.
abbrev pub starts_from : {A : Type 0} → ℕ → List (List A) → List ℕ
starts_from at [] = []
starts_from at (block ∷ others) = at ∷ starts_from (at + length block) others

abbrev pub place_in : Key → ℕ → ℕ → Place
place_in key ino offset = record { key = key; ino = ino; offset = offset }

-- Those of all inodes of a part, by inode number and then by place; a key names the part.
abbrev pub block_places : {C : Type 0} → Key → Subvolume C → List Place
block_places key s =
    flat_map (λ e. map (λ at. place_in key e.0 at) (starts_from 0 (blocks e.1.cells))) s.inodes

abbrev pub first_such : (Place → Bool) → List Place → Option Place
first_such test [] = None
first_such test (place ∷ places) = if test place then Some place else first_such test places

-- The stand of a block is the least place at which it stands.
unfoldable pub stand_of : Key → Subvolume Tagged → ℕ → List Tagged → Option Place
stand_of key s target block = first_such (stands_at s target block) (block_places key s)

-- ---- sources

-- A block is cloned from the outside place that carries it, or else from its stand, if there is
-- one.
abbrev pub source_of : Store ℕ → Key → Subvolume Tagged → ℕ → List Tagged → Option Place
source_of base last s target block =
    first_of (carried_from base (map traced_of block)) (stand_of last s target block)

-- The inode that a CLONE writes to; 0 is no file's.
abbrev pub clone_target : {C : Type 0} → Subvolume C → Command → ℕ
clone_target s (Clone path offset clone_uuid clone_ctransid clone_path clone_offset clone_len) =
    elim (walk s path) [ Err refusal ↦ 0 | Ok ino ↦ ino ]
clone_target s (Subvol uuid ctransid path) = 0
clone_target s (Snapshot uuid ctransid path clone_uuid clone_ctransid) = 0
clone_target s (MkFile path) = 0
clone_target s (MkDir path) = 0
clone_target s (MkNod mode rdev path) = 0
clone_target s (MkFifo path) = 0
clone_target s (MkSock path) = 0
clone_target s (Symlink path path_link) = 0
clone_target s (Rename path path_to) = 0
clone_target s (Link path path_link) = 0
clone_target s (Unlink path) = 0
clone_target s (Rmdir path) = 0
clone_target s (SetXattr name value path) = 0
clone_target s (RemoveXattr name path) = 0
clone_target s (Write path offset bytes) = 0
clone_target s (Truncate size path) = 0
clone_target s (Chmod mode path) = 0
clone_target s (Chown uid gid path) = 0
clone_target s (Utimes mtime atime path) = 0
clone_target s End = 0
clone_target s (UpdateExtent size path offset) = 0
clone_target s (Fallocate size path offset mode) = 0
clone_target s (FileAttr path flags) = 0

-- The pieces of a redirected clone, where the last part's key names what is being composed: the
-- maximal runs of blocks that follow each other in one source, and the stretches of other bytes
-- between them.
unfoldable pub standing_pieces : Store ℕ → Key → State Tagged → Command → List Piece
standing_pieces base last state command = elim state.part [
  | None ↦ []
  | Some part ↦
      pieces_by byte_in (source_of base last part.subvolume (clone_target part.subvolume command)) 0
      (blocks (clone_range state command))
]

-- ---- counts

-- The pieces of the redirected clones of items, in order, with the last part's key.
abbrev pub pieces_standing : Store ℕ → Key → List Item → List (List Piece)
pieces_standing base last items =
    redirected_by tagged_after (standing_pieces base last) (part_uuids items)
    (start_of (tagged_store base)) None items

-- The key of the last part; where there is none, no clone is redirected.
abbrev pub last_key_of : List Item → Key
last_key_of items =
    elim (last_head (heads items)) [
      | None ↦ record { uuid = []; ctransid = 0 }
      | Some head ↦
          head.key
    ]

-- How many cells of redirected ranges are in blocks that are neither carried nor stand, and how
-- many runs there are.
abbrev pub unstanding_cells : Store ℕ → List Item → ℕ
unstanding_cells base items = literal_in (pieces_standing base (last_key_of items) items)

abbrev pub standing_runs : Store ℕ → List Item → ℕ
standing_runs base items = runs_among (pieces_standing base (last_key_of items) items)

-- ---- the list

-- The bytes of the part as it is, under the last part's key, before the base: where the sources of
-- pieces are found.
abbrev pub with_part : Key → Subvolume Tagged → Store ℕ → Store ℕ
with_part last s base =
    record { name = []; key = last; parent = None; contents = Some (recelled byte_in s) } ∷ base

-- What stands for a redirected clone.
unfoldable pub standing_commands : Store ℕ → Key → State Tagged → Command → List Command
standing_commands base last state command = elim state.part [
  | None ↦ []
  | Some part ↦
      pieces_commands (with_part last part.subvolume base) command
      (standing_pieces base last state command)
]

-- What stands for items, from a state on; for all items; and the whole list for a first and a last
-- head.
unfoldable pub selfed_from : Store ℕ → List (List ℕ) → Key → State Tagged → Option (List ℕ)
    → List Item → List Command
unfolding list_by
selfed_from base parts last state current items =
    list_by tagged_after (commands_by (standing_commands base last) parts last) state current items

unfoldable pub selfed_edits : Store ℕ → Key → List Item → List Command
selfed_edits base last items =
    selfed_from base (part_uuids items) last (start_of (tagged_store base)) None items

unfoldable pub selfed_with : Store ℕ → Head → Head → List Item → List Command
selfed_with base first last items = whole_list first last (selfed_edits base last.key items)

-- The composed commands of items received into a base; none where they hold no part.
abbrev pub selfed_of : Store ℕ → List Item → List Command
selfed_of base items =
    for_parts (λ first last. selfed_with base first last items) (first_head (heads items))
    (last_head (heads items))

-- Those of the items before the first unlawful one, without END.
abbrev pub selfed_before_of : Store ℕ → List Item → List Command
selfed_before_of base items =
    for_parts
    (λ first last. head_command last.name last.key first.parent
    ∷ selfed_edits base last.key (lawful_of base items))
    (first_head (heads (lawful_of base items))) (last_head (heads items))

-- ---- what a stand means

-- A stand that was found is a place where the block stands, and the least such by inode number and
-- then by place. Where none was found, it stands nowhere. So it is of blocks that have cells, and
-- of parts whose inodes are in order.
pub record IsLeastStand (key : Key) (s : Subvolume Tagged) (target : ℕ) (block : List Tagged)
    (place : Place) : Type 0 where
  pub own : place.key ≡ key
  pub stands : stands_at s target block place ≡ true
  pub least : (u o : ℕ) → stands_at s target block (place_in key u o) ≡ true
      → (place.ino < u) ⊎ ((place.ino ≡ u) × (place.offset ≤ o))

abbrev pub StandIsLeast : Type 0
StandIsLeast =
    (key : Key) (s : Subvolume Tagged) (target : ℕ) (block : List Tagged) → 1 ≤ length block
    → IsMap nat_cmp s.inodes
    → MatchOption (stand_of key s target block)
    ((u o : ℕ) → stands_at s target block (place_in key u o) ≡ false)
    (IsLeastStand key s target block)

-- A block of at most 4,096 cells stands at a place exactly where the file's own block there has
-- just its tags.
abbrev pub same_block : List Tagged → List Tagged → Bool
same_block there block = (length there == length block) && begin_with there block

abbrev pub StandIsBlock : Type 0
StandIsBlock =
    (s : Subvolume Tagged) (target : ℕ) (block : List Tagged) (place : Place) → 1 ≤ length block
    → length block ≤ block_len
    → IsTrue (stands_at s target block place)
    ↔ IsTrue ((place.offset % block_len == 0)
    && (is_file s place.ino && is_nameable s place.ino) && not (place.ino == target)
    && same_block (take block_len (drop place.offset (cells_of s place.ino))) block)
