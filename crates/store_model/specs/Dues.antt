-- The one answer that is due to a word, where no device fails and memory is there: over a store by
-- its image, the word's name and path, and the files. The order of answers is this program's own.
use Rattle.std.specs.Prelude.{◌≡◌, ℕ, ◌+◌, ◌-◌, ◌==◌, List, [], ◌∷◌, ◌++◌, length, map, Option, None, Some, Ok, Err, nat_lt, is_some, if◌then◌else◌}
use Rattle.std.specs.Str.{bytes_eq}
use Rattle.send_model.specs.Command.{Command}
use Rattle.send_model.specs.Spelling.{canonical}
use Rattle.send_model.specs.Reading.{Item}
use Rattle.send_model.specs.Subvolume.{Inode, Subvolume, inode_at, is_file, walk}
use Rattle.send_model.specs.Store.{Entry, Store, Part, State, After, has_name, head_of, completed, step}
use Rattle.send_model.specs.Receive.{verdict_of, byte_cells, start_of}
use Rattle.send_model.specs.Guards.{Guard, Watched, watched_step}
use Rattle.send_model.specs.Counts.{is_end}
use Rattle.send_model.specs.Due as dues
use Rattle.send_model.specs.Due.{DoneWhole, RefusedAt, stop_due}
use Rattle.store_model.specs.Image.{limit_of, reserve, front_of, HasGroups}
use Rattle.store_model.specs.Stored.{Group, body_bytes, is_edit, StandsFor, StandsForNone}
use Rattle.store_model.specs.NamedFiles.{NamedFiles, read_of}
use Rattle.store_model.specs.States.{lines_behind}
use Rattle.store_model.specs.Written.{groups_of}
use Rattle.store_model.specs.StoreLines.{shown}
use Rattle.store_model.specs.Scrub.{IsScrubbed, IsDamagedAt, IsNoStoreAt, scrub_line}

-- An answer: one that files decide alone, or that there is no store, no such entry or file, no
-- room, a store already, or a group whose checksum is that of other bytes.
pub data Due : Type 0 where
  Ends : dues.Due → Due
  NotStore : (group : ℕ) → Due
  Missing : (what : List ℕ) → Due
  LogFull : (end wanted limit : ℕ) → Due
  StoreThere : (size : ℕ) → Due
  Damaged : (group stored computed : ℕ) → Due

-- ---- words that open the store

-- Opening comes first: what is due over the store that the image stands for, or that it stands for
-- none.
abbrev pub OverStore : List ℕ → (Store ℕ → Due → Type 0) → Due → Type 0
OverStore image over (NotStore group) = StandsForNone image group
OverStore image over (Ends due) = (store : Store ℕ) × StandsFor image store × over store (Ends due)
OverStore image over (Missing what) =
    (store : Store ℕ) × StandsFor image store × over store (Missing what)
OverStore image over (LogFull end wanted limit) =
    (store : Store ℕ) × StandsFor image store × over store (LogFull end wanted limit)
OverStore image over (StoreThere size) = ⊥
OverStore image over (Damaged group stored computed) = ⊥

-- The contents of the entry of a name, if there is one and it is complete.
unfoldable pub complete_named : {S : Type 0} → List ℕ → List (Entry S) → Option (Entry S × S)
complete_named name [] = None
complete_named name (e ∷ store) =
    if bytes_eq e.name name then elim e.contents [
      | None ↦ None
      | Some s ↦
          Some (e, s)
    ] else complete_named name store

-- The bytes of the file that a path leads to, if it leads to one.
abbrev pub file_of : {C : Type 0} → Subvolume C → Option (Inode C) → Option (List C)
file_of s None = None
file_of s (Some inode) = Some inode.cells

unfoldable pub file_at : {C : Type 0} → List ℕ → Subvolume C → Option (List C)
file_at path s =
    elim (walk s path) [
      | Err refusal ↦ None
      | Ok ino ↦
          if is_file s ino then file_of s (inode_at s ino) else None
    ]

-- Where something is missing, that; else all was done.
abbrev pub unless_missing : {A : Type 0} → List ℕ → Option A → Due
unless_missing what None = Missing what
unless_missing what (Some found) = Ends DoneWhole

abbrev pub list_due : Store ℕ → Due
list_due store = Ends DoneWhole

abbrev pub show_due : List ℕ → Store ℕ → Due
show_due name store = unless_missing name (complete_named name store)

abbrev pub cat_due : List ℕ → List ℕ → Store ℕ → Due
cat_due name path store =
    elim (complete_named name store) [
      | None ↦ Missing name
      | Some found ↦
          unless_missing path (file_at path found.1)
    ]

-- What they print.
abbrev pub show_output : List ℕ → Store ℕ → List ℕ
show_output name store =
    elim (complete_named name store) [
      | None ↦ []
      | Some found ↦
          shown found.0.name found.0.key found.1
    ]

abbrev pub cat_output : List ℕ → List ℕ → Store ℕ → List ℕ
cat_output name path store = elim (complete_named name store) [
  | None ↦ []
  | Some found ↦ elim (file_at path found.1) [ None ↦ [] | Some cells ↦ cells ]
]

-- ---- room

-- The first of some pieces, each of so many bytes at a place, behind which there is no room for a
-- checksum and a gate.
unfoldable pub first_full : ℕ → List (ℕ × ℕ) → Option Due
first_full limit [] = None
first_full limit (piece ∷ pieces) =
    if nat_lt limit (piece.0 + piece.1 + reserve) then Some
    (LogFull piece.0 piece.1 limit) else first_full limit pieces

-- Where the last of some pieces ends.
abbrev pub end_behind : ℕ → List (ℕ × ℕ) → ℕ
end_behind end [] = end
end_behind end (piece ∷ pieces) = end_behind (piece.0 + piece.1) pieces

-- A group that is put behind a gate in pieces of these lengths: its gate with its length, and the
-- pieces.
abbrev pub pieces_from : ℕ → List ℕ → List (ℕ × ℕ)
pieces_from place [] = []
pieces_from place (len ∷ lens) = (place, len) ∷ pieces_from (place + len) lens

-- The checksum of a group: the gate of the next one stands behind it.
abbrev pub seal_len : ℕ
seal_len = reserve - 1

-- What a head puts behind a gate: its Mark, and the start of its Body behind that.
abbrev pub head_pieces : ℕ → ℕ → List (ℕ × ℕ)
head_pieces gate frame =
    pieces_from gate (9 ∷ (1 + frame) ∷ [])
    ++ pieces_from (gate + 9 + (1 + frame) + seal_len) (9 ∷ 18 ∷ [])

-- What an item puts at a place.
abbrev pub item_pieces : ℕ → Item → List (ℕ × ℕ)
item_pieces place item =
    if is_some (head_of item.command) then head_pieces place (length (canonical 1 item.command))
    else (if is_end item.command then [] else (place, length (canonical item.version item.command))
    ∷ [])

-- A head and END complete the part that is there: its checksum stands behind it.
abbrev pub place_after : Option (Part ℕ) → Command → ℕ → ℕ
place_after None command place = place
place_after (Some part) command place = if is_edit command then place else place + seal_len

-- ---- receive

-- The first item that ends receiving under guards, where the next bytes come at a place: it is
-- refused, or there is no room for it.
unfoldable pub receive_from : ℕ → ℕ → Watched (State ℕ) → List Item → Option Due
receive_from limit place w [] = None
receive_from limit place w (item ∷ items) =
    let after : After (Watched (State ℕ)) =
    watched_step (λ s i. step 0 (byte_cells i) s i.command) w item in
    let pieces : List (ℕ × ℕ) = item_pieces (place_after w.state.part item.command place) item in
    elim after.refusal [
      | Some refusal ↦ Some (Ends (RefusedAt (verdict_of item refusal)))
      | None ↦ elim (first_full limit pieces) [
        | Some full ↦ Some full
        | None ↦ receive_from limit
            (end_behind (place_after w.state.part item.command place) pieces) after.state items
      ]
    ]

-- What a head leaves where there is no room for its groups: the part before it is complete, and its
-- own entry is there if there was room for its Mark.
abbrev pub left_full : ℕ → ℕ → Item → (before after : State ℕ) → Store ℕ
left_full limit place item before after = if is_some (head_of item.command)
    then elim (first_full limit
    (pieces_from place (9 ∷ (1 + length (canonical 1 item.command)) ∷ []))) [
      | Some full ↦
          completed before
      | None ↦ after.store
    ]
    else after.store

-- The store that is left where receiving ends.
unfoldable pub left_from : ℕ → ℕ → Watched (State ℕ) → List Item → Store ℕ
left_from limit place w [] = w.state.store
left_from limit place w (item ∷ items) =
    let after : After (Watched (State ℕ)) =
    watched_step (λ s i. step 0 (byte_cells i) s i.command) w item in
    let pieces : List (ℕ × ℕ) = item_pieces (place_after w.state.part item.command place) item in
    elim after.refusal [
      | Some refusal ↦ after.state.state.store
      | None ↦ elim (first_full limit pieces) [
        | Some full ↦
            left_full limit
            (place_after w.state.part item.command place) item w.state after.state.state
        | None ↦ left_from limit
            (end_behind (place_after w.state.part item.command place) pieces) after.state items
      ]
    ]

abbrev pub or_due : Option Due → Due → Due
or_due None other = other
or_due (Some due) other = due

-- Files, received under guards into a store whose closed gate stands at a place: each command as it
-- is read, and last the end of reading.
unfoldable pub receive_due : ℕ → ℕ → Store ℕ → List Guard → NamedFiles → Due
receive_due limit gate store guards files = let read = (read_of files).limited in
    or_due (receive_from limit gate (record { guards = guards; state = start_of store }) read.items)
    (Ends (stop_due read.stop))

-- The store that it leaves.
unfoldable pub receive_left : ℕ → ℕ → Store ℕ → List Guard → NamedFiles → Store ℕ
receive_left limit gate store guards files =
    left_from limit gate (record { guards = guards; state = start_of store })
    (read_of files).limited.items

-- The same by the image of the store.
abbrev pub IsReceiveDue : List ℕ → List Guard → NamedFiles → Store ℕ → Due → Type 0
IsReceiveDue image guards files store due = (stands : StandsFor image store)
    × (due ≡ receive_due (limit_of stands.header)
    (length (front_of stands.header (map body_bytes stands.groups))) store guards files)

-- What stands on standard output, and what the image stands for, after any answer of receiving: the
-- lines of the parts that are complete, and the store that is left. Behind the groups that were
-- there it has the first of those that receiving writes, which make that store.
abbrev pub ReceiveSays : List ℕ → List Guard → NamedFiles → Store ℕ → (written image : List ℕ)
    → Type 0
ReceiveSays before guards files store written image = (stands : StandsFor before store)
    × (let left = receive_left (limit_of stands.header)
    (length (front_of stands.header (map body_bytes stands.groups))) store guards files in
    (written ≡ lines_behind store left) × StandsFor image left)
    × ((first : List Group) × (more : List Group)
    × (groups_of store guards (read_of files).reading.items ≡ first ++ more)
    × HasGroups stands.header (map body_bytes (stands.groups ++ first)) image)

-- ---- drop

-- No entry has the name, or there is no room for the group.
unfoldable pub drop_due : ℕ → ℕ → List ℕ → Store ℕ → Due
drop_due limit gate name store =
    if has_name name store then or_due
    (first_full limit (pieces_from gate (9 ∷ (1 + length name) ∷ [])))
    (Ends DoneWhole) else Missing name

abbrev pub IsDropDue : List ℕ → List ℕ → Store ℕ → Due → Type 0
IsDropDue image name store due = (stands : StandsFor image store)
    × (due ≡ drop_due (limit_of stands.header)
    (length (front_of stands.header (map body_bytes stands.groups))) name store)

-- ---- words that do not open it

-- A new store is made where there is nothing.
unfoldable pub init_due : List ℕ → Due
init_due image = if length image == 0 then Ends DoneWhole else StoreThere (length image)

-- Scrub finds the groups whole, or one at fault.
abbrev pub IsScrubDue : List ℕ → Due → List ℕ → Type 0
IsScrubDue image (Ends due) written =
    (due ≡ DoneWhole)
    × ((groups : ℕ) × (plain : ℕ) × IsScrubbed image groups plain
    × (written ≡ scrub_line groups plain))
IsScrubDue image (NotStore group) written = IsNoStoreAt image group × (written ≡ [])
IsScrubDue image (Damaged group stored computed) written =
    IsDamagedAt image group stored computed × (written ≡ [])
IsScrubDue image (Missing what) written = ⊥
IsScrubDue image (LogFull end wanted limit) written = ⊥
IsScrubDue image (StoreThere size) written = ⊥
