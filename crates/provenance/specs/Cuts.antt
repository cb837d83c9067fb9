-- How a range of cells is cut into runs of carried blocks and stretches of other bytes, where all
-- that is known of a cell is its outside place, and all that is known of an outside file is its
-- end. With a store and its bytes it is what the definitions of provenance cut a range into. This
-- program's own.
use Rattle.std.specs.Prelude.{◌≡◌, ℕ, ◌+◌, ◌-◌, ◌<◌, ◌≤◌, get_or, IfSome, ◌%◌, ◌==◌, Bool, true, false, ◌&&◌, ◌||◌, List, [], ◌∷◌, map, length, Option, None, Some, if◌then◌else◌}
use Rattle.send_model.specs.Subvolume.{Subvolume, is_file, is_nameable}
use Rattle.send_model.specs.Clone.{block_len, cells_of}
use Rattle.send_model.specs.Store.{Key, Store, find}
use Rattle.send_model.specs.Provenance.{Traced, pieces_of, Place, same_place, is_at, next_place, place_after, blocks, Piece, Carried, Literal}
use Rattle.extent_map.specs.Cells.{cells_between}
use Rattle.provenance.specs.declared.trace.Trace.{Trace}
use Rattle.provenance.specs.Traces.{place_in}

-- The size of a file of a subvolume, if a path names it.
abbrev pub file_end : Option (Subvolume ℕ) → ℕ → Option ℕ
file_end None ino = None
file_end (Some s) ino =
    if is_file s ino && is_nameable s ino then Some (length (cells_of s ino)) else None

-- The ends of outside files are those of the files of a store.
abbrev pub AreEndsOf : Store ℕ → (Key → ℕ → Option ℕ) → Type 0
AreEndsOf store ends = (key : Key) (ino : ℕ) → ends key ino ≡ file_end (find store key) ino

-- The cells come from successive places, from the given one on.
abbrev pub succeed : Place → List (Option Place) → Bool
succeed place [] = true
succeed place (c ∷ cells) = is_at c place && succeed (next_place place) cells

-- A block of a length may be cloned from a place of a file with an end: it begins a block there,
-- and is whole or ends there too.
abbrev pub may_serve : Option ℕ → Place → ℕ → Bool
may_serve None place len = false
may_serve (Some end) place len =
    (place.offset % block_len == 0) && ((len == block_len) || (place.offset + len == end))

-- The place from which a block is carried, if it is.
unfoldable pub carrier : (Key → ℕ → Option ℕ) → List (Option Place) → Option Place
carrier ends [] = None
carrier ends (None ∷ cells) = None
carrier ends (Some place ∷ cells) =
    if succeed place (Some place ∷ cells)
    && may_serve (ends place.key place.ino) place
    (length (Some place ∷ cells)) then Some place else None

-- A run of carried blocks, or a stretch of other bytes from a place of the contents on.
pub data Cut : Type 0 where
  Run : (place : Place) (len : ℕ) → Cut
  Rest : (at len : ℕ) → Cut

abbrev pub cut_of : (Key → ℕ → Option ℕ) → ℕ → List (Option Place) → Cut
cut_of ends at block =
    elim (carrier ends block) [
      | None ↦ Rest at (length block)
      | Some place ↦
          Run place (length block)
    ]

-- Stretches join, and so do runs that follow each other in one file.
unfoldable pub join_cut : Cut → List Cut → List Cut
join_cut (Rest at len) (Rest at' len' ∷ rest) = Rest at (len + len') ∷ rest
join_cut (Run place len) (Run place' len' ∷ rest) =
    if same_place (place_after place len) place' then Run place (len + len')
    ∷ rest else Run place len ∷ Run place' len' ∷ rest
join_cut cut rest = cut ∷ rest

abbrev pub cuts_from : (Key → ℕ → Option ℕ) → ℕ → List (List (Option Place)) → List Cut
cuts_from ends at [] = []
cuts_from ends at (block ∷ others) =
    join_cut (cut_of ends at block) (cuts_from ends (at + length block) others)

-- What cells are cut into, the first of which stands at a place of the contents.
unfoldable pub cuts_of : (Key → ℕ → Option ℕ) → ℕ → List (Option Place) → List Cut
cuts_of ends at cells = cuts_from ends at (blocks cells)

-- What the cells of contents from one place up to another are cut into.
abbrev pub cuts_between : (Key → ℕ → Option ℕ) → List (Option Trace) → ℕ → ℕ → List Cut
cuts_between ends contents at end =
    cuts_of ends at (map place_in (cells_between at (end - at) contents))

-- The place of a cell so many cells after one with a place. After one without a place there is
-- none.
abbrev pub later : Option Place → ℕ → Option Place
later None k = None
later (Some place) k = Some (place_after place k)

-- The first cells come from successive places, or none of them has a place.
abbrev pub Follows : Option Place → ℕ → List (Option Place) → Type 0
Follows first len cells = (i : ℕ) → i < len → get_or cells i None ≡ later first i

-- The next cell, if there is one, does not go on from a place.
abbrev pub Stops : Option Place → ℕ → List (Option Place) → Type 0
Stops first len cells =
    IfSome first
    (λ place. len < length cells → get_or cells len None ≡ Some (place_after place len) → ⊥)

-- How many of so many cells from successive places, which begin at a block of the range, stand in
-- carried blocks. The last number is how many cells the range has from the first of them on.
abbrev pub served : Option ℕ → Place → ℕ → ℕ → ℕ
served None place len left = 0
served (Some end) place len left =
    if place.offset % block_len == 0 then
    (if (len == left) && (place.offset + len == end) then len else len - len % block_len) else 0

abbrev pub carried_len : (Key → ℕ → Option ℕ) → Option Place → ℕ → ℕ → ℕ
carried_len ends None len left = 0
carried_len ends (Some place) len left = served (ends place.key place.ino) place len left

-- A piece of a range that begins at a place of the contents, without its bytes.
abbrev pub shown : ℕ → Piece → Cut
shown from (Carried at place len) = Run place len
shown from (Literal at bytes) = Rest (from + at) (length bytes)

-- Cells of contents, from a place on, are cut into what the definitions of provenance cut a range
-- into that has their places, over each store whose files have these ends.
abbrev pub IsCutAsMeant : (Key → ℕ → Option ℕ) → ℕ → List (Option Trace) → List Cut → Type 0
IsCutAsMeant ends from cells cuts =
    (store : Store ℕ) (range : List Traced) → AreEndsOf store ends
    → map (λ (c : Traced). c.place) range ≡ map place_in cells
    → cuts ≡ map (shown from) (pieces_of store range)

-- What is cut from cells that stand from one place up to another: it has a cell, and a stretch of
-- other bytes lies among them.
abbrev pub LiesIn : ℕ → ℕ → Cut → Type 0
LiesIn from to (Run place len) = (0 < len) × (from + len ≤ to)
LiesIn from to (Rest at len) = (0 < len) × (from ≤ at) × (at + len ≤ to)
