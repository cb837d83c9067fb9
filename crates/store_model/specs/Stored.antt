-- The store that an image stands for: what its groups say, and what they make one after the other,
-- starting from no entries. The format is this program's own.
use Rattle.std.specs.Prelude.{◌≡◌, ◌⊎◌, ℕ, zero, suc, ◌+◌, Bool, true, false, not, ◌&&◌, List, [], ◌∷◌, ◌++◌, length, map, get_or, Option, None, Some, Ok, Err, is_none, if◌then◌else◌}
use Rattle.std.specs.List.{AllByRecursion, filter, range_with_len}
use Rattle.std.specs.Option.{option_map}
use Rattle.std.specs.Str.{bytes_eq}
use Rattle.send_model.specs.Command.{Command}
use Rattle.send_model.specs.Spelling.{attributes_of, canonical, canonical_all, IsSpellable}
use Rattle.send_model.specs.Reading.{is_version, data_place}
use Rattle.send_model.specs.Subvolume.{Subvolume}
use Rattle.send_model.specs.Store.{Entry, Store, State, Stepped, has_name, start_from, completed, head_of, step_head, step_edit}
use Rattle.send_model.specs.Receive.{bytes_of, start_of}
use Rattle.send_model.specs.Counts.{is_end}
use Rattle.store_model.specs.Image.{Header, IsHeader, HasHeader, HasGroups, IsCutShort, IsShort, front_of, group_of, sealed}

-- ---- what a group says

-- A head that begins an entry; the edits of the unfinished entry of a uuid, in a version, which
-- complete it; or the name of an entry that is dropped.
pub data Content : Type 0 where
  Mark : (head : Command) → Content
  Body : (uuid : List ℕ) (version : ℕ) (commands : List Command) → Content
  Drop : (name : List ℕ) → Content

-- What a group says, and whether it has a checksum.
pub record Group : Type 0 where
  pub content : Content
  pub is_sealed : Bool

-- The number of a group's kind, its first byte: groups with a checksum have numbers of their own.
abbrev pub number_of : Bool → Content → ℕ
number_of is_sealed (Mark head) = if is_sealed then 4 else 1
number_of is_sealed (Body uuid version commands) = if is_sealed then 5 else 2
number_of is_sealed (Drop name) = if is_sealed then 6 else 3

-- What stands behind it: the frame of a head, the frames of the edits behind the uuid and one byte
-- for their version, or a name.
abbrev pub content_bytes : Content → List ℕ
content_bytes (Mark head) = canonical 1 head
content_bytes (Body uuid version commands) = uuid ++ version ∷ canonical_all version commands
content_bytes (Drop name) = name

-- The body of a group.
abbrev pub body_bytes : Group → List ℕ
body_bytes group = let bytes : List ℕ =
    number_of group.is_sealed group.content ∷ content_bytes group.content in
    if group.is_sealed then sealed bytes else bytes

-- A command that changes a part: neither a head nor END.
abbrev pub is_edit : Command → Bool
is_edit command = is_none (head_of command) && not (is_end command)

abbrev pub IsEdit : ℕ → Command → Type 0
IsEdit version command = (is_edit command ≡ true) × IsSpellable version command

-- What can be said: commands that the version has a spelling for, and a uuid of 16 bytes. A head is
-- spelled in version 1.
abbrev pub IsContent : Content → Type 0
IsContent (Mark head) = IsSpellable 1 head
IsContent (Body uuid version commands) =
    (length uuid ≡ 16) × (is_version version ≡ true) × AllByRecursion (IsEdit version) commands
IsContent (Drop name) = Unit {0}

-- A group of an image of a format. Groups without a checksum stand in images of format 1 alone.
pub record IsGroup (format : ℕ) (group : Group) : Type 0 where
  pub content : IsContent group.content
  pub old : group.is_sealed ≡ false → format ≡ 1

-- ---- what a group makes of a store

-- The cells that a WRITE puts, by the place of its first byte in the image and its bytes.
abbrev pub Putting : Type 0 → Type 0
Putting C = ℕ → List ℕ → List C

-- The bytes themselves, or, of each byte, the place where it stands; a cell without a place is a
-- zero cell.
abbrev pub as_bytes : Putting ℕ
as_bytes place bytes = bytes

abbrev pub as_places : Putting (Option ℕ)
as_places place bytes = map (λ k. Some (place + k)) (range_with_len 0 (length bytes))

-- The byte of an image that a cell stands for.
abbrev pub byte_of : List ℕ → Option ℕ → ℕ
byte_of image None = 0
byte_of image (Some place) = get_or image place 0

-- What an item leaves, unless it was refused.
abbrev pub taken : {C : Type 0} → Stepped C → Option (State C)
taken stepped = elim stepped.refusal [ None ↦ Some stepped.state | Some refusal ↦ None ]

-- A store with the entry that a head begins; none where the command is no head or is refused.
unfoldable pub marked : {C : Type 0} → Store C → Command → Option (Store C)
marked store command = elim (head_of command) [
  | None ↦ None
  | Some head ↦ option_map (λ state. state.store) (taken (step_head (start_of store) head))
]

-- The unfinished entry of a uuid.
abbrev pub is_unfinished : {S : Type 0} → List ℕ → Entry S → Bool
is_unfinished uuid e = bytes_eq e.key.uuid uuid && is_none e.contents

unfoldable pub unfinished_at : {S : Type 0} → List ℕ → List (Entry S) → Option (Entry S)
unfinished_at uuid [] = None
unfinished_at uuid (e ∷ store) = if is_unfinished uuid e then Some e else unfinished_at uuid store

-- The part of an unfinished entry as it starts: with a root alone, or as its parent is now; none
-- where that is there no more.
abbrev pub started : {C : Type 0} → Store C → Entry (Subvolume C) → Option (State C)
started store e = elim (start_from store e.parent) [
  | Err refusal ↦ None
  | Ok start ↦ Some
      (record { store = store; part = Some (record { key = e.key; subvolume = start }) })
]

unfoldable pub resumed : {C : Type 0} → Store C → List ℕ → Option (State C)
resumed store uuid = elim (unfinished_at uuid store) [ None ↦ None | Some e ↦ started store e ]

-- The edits of a part one after the other, the first of whose frames stands at a place; none where
-- one of them is refused.
unfoldable pub edits_made : {C : Type 0} → C → Putting C → ℕ → ℕ → State C → List Command
    → Option (State C)
edits_made zero_cell put version place state [] = Some state
edits_made zero_cell put version place state (c ∷ commands) =
    elim (taken (step_edit zero_cell
    (put (data_place version place (attributes_of c)) (bytes_of c)) state c)) [
      | None ↦ None
      | Some next ↦
          edits_made zero_cell put version (place + length (canonical version c)) next commands
    ]

-- A store without the entry of a name, finished or not.
unfoldable pub dropped : {S : Type 0} → List (Entry S) → List ℕ → Option (List (Entry S))
dropped store name =
    if has_name name store then Some (filter (λ e. not (bytes_eq e.name name)) store) else None

-- The frames of a Body begin behind its number, its uuid and its version.
abbrev pub frames_at : ℕ → ℕ
frames_at place = place + 18

-- What a group makes of a store whose body stands at a place; none where it is at fault.
unfoldable pub made : {C : Type 0} → C → Putting C → ℕ → Store C → Content → Option (Store C)
made zero_cell put place store (Mark head) = marked store head
made zero_cell put place store (Body uuid version commands) = elim (resumed store uuid) [
  | None ↦ None
  | Some state ↦
      option_map completed (edits_made zero_cell put version (frames_at place) state commands)
]
made zero_cell put place store (Drop name) = dropped store name

-- The body of a group stands behind its gate and eight bytes for its length.
abbrev pub body_at : ℕ → ℕ
body_at gate = gate + 9

-- Groups one after the other, the gate of the first of which stands at a place.
unfoldable pub made_all : {C : Type 0} → C → Putting C → ℕ → Store C → List Group → Option (Store C)
made_all zero_cell put gate store [] = Some store
made_all zero_cell put gate store (group ∷ groups) =
    elim (made zero_cell put (body_at gate) store group.content) [
      | None ↦ None
      | Some next ↦ made_all zero_cell put (body_at gate + length (body_bytes group)) next groups
    ]

-- ---- what an image stands for

-- The first gate stands behind the header.
abbrev pub first_gate : ℕ
first_gate = 20

-- Groups of an image of a format that make a store, starting from no entries.
pub record Makes {C : Type 0} (zero_cell : C) (put : Putting C) (format : ℕ) (groups : List Group)
    (store : Store C) : Type 0 where
  pub lawful : AllByRecursion (IsGroup format) groups
  pub made : made_all zero_cell put first_gate [] groups ≡ Some store

-- An image stands for a store over any type of cell where its groups make this store.
pub record Stands {C : Type 0} (zero_cell : C) (put : Putting C) (image : List ℕ)
    (store : Store C) : Type 0 where
  pub header : Header
  pub groups : List Group
  pub has : HasGroups header (map body_bytes groups) image
  pub makes : Makes zero_cell put header.format groups store

abbrev pub StandsFor : List ℕ → Store ℕ → Type 0
StandsFor image store = Stands 0 as_bytes image store

-- A group is there whole, and whatever it says, if anything, is at fault over the store of the
-- groups before it.
pub record IsBadGroup (format gate : ℕ) (store : Store ℕ) (rest : List ℕ) : Type 0 where
  pub body : List ℕ
  pub others : List ℕ
  pub short : IsShort body
  pub bytes : rest ≡ group_of body ++ others
  pub refused : (group : Group) → IsGroup format group → body_bytes group ≡ body
      → made 0 as_bytes (body_at gate) store group.content ≡ None

-- Behind so many groups that make a store stands the first one at fault: it is cut short, or it is
-- bad.
pub record FailsBehind (image : List ℕ) (count : ℕ) : Type 0 where
  pub header : Header
  pub lawful : IsHeader header
  pub groups : List Group
  pub are : length groups ≡ count
  pub lengths_fit : AllByRecursion IsShort (map body_bytes groups)
  pub store : Store ℕ
  pub makes : Makes 0 as_bytes header.format groups store
  pub rest : List ℕ
  pub bytes : image ≡ front_of header (map body_bytes groups) ++ rest
  pub fault : IsCutShort rest
      ⊎ IsBadGroup header.format (length (front_of header (map body_bytes groups))) store rest

-- An image stands for no store, and the first fault is that of this group; the header counts as
-- group 0, and groups are numbered from 1.
abbrev pub StandsForNone : List ℕ → ℕ → Type 0
StandsForNone image zero = HasHeader image → ⊥
StandsForNone image (suc count) = FailsBehind image count
