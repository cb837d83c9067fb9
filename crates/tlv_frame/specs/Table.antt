-- A table of the attributes of a frame's body, by their numbers.
use Rattle.std.specs.Prelude.{◌≡◌, ℕ, ◌+◌, ◌≤◌, ◌==◌, ⊤, if◌then◌else◌, List, length, map, take, drop, replicate, Option, None, Some, Result, Ok, Err, slice_index_or, option_map}
use Rattle.std.specs.List.{AllByRecursion}
use Rattle.send_model.specs.Refusal as meant
use Rattle.send_model.specs.Attribute.{HasRoom}
use Rattle.send_model.specs.Spelling.{Attribute, value_of}
use Rattle.send_model.specs.Reading.{place_of}
use Rattle.sx_base.specs.declared.refusal.Refusal.{Refusal}
use Rattle.sx_base.specs.Refusals.{refusal_of}
use Rattle.tlv_frame.specs.declared.attribute_table.Slot as made

-- An attribute's bytes, and the place of the first of them in the body.
pub record Slot : Type 0 where
  pub place : ℕ
  pub bytes : List ℕ

-- The version of the stream, and for each attribute number from 0 on what the body has of it.
pub record Table : Type 0 where
  pub version : ℕ
  pub slots : List (Option Slot)

abbrev pub slot_at : List (Option Slot) → ℕ → Option Slot
slot_at slots kind = slice_index_or slots kind None

abbrev pub value_in : Option Slot → Option (List ℕ)
value_in slot = option_map (λ s. s.bytes) slot

abbrev pub place_in : Option Slot → Option ℕ
place_in slot = option_map (λ s. s.place) slot

-- The bytes of the attribute of a number, and their place.
abbrev pub value_at : Table → ℕ → Option (List ℕ)
value_at table kind = value_in (slot_at table.slots kind)

abbrev pub place_at : Table → ℕ → Option ℕ
place_at table kind = place_in (slot_at table.slots kind)

-- The table has what the attributes have.
pub record StandsFor (table : Table) (attributes : List Attribute) : Type 0 where
  pub values : (kind : ℕ) → value_at table kind ≡ value_of kind attributes
  pub places : (kind : ℕ) → place_at table kind ≡ place_of table.version kind attributes

-- The answer is a table that stands for the attributes that are read, or the refusal of these.
abbrev pub ReadsTable : Result Table Refusal → Result (List Attribute) meant.Refusal → Type 0
ReadsTable (Ok table) read =
    (attributes : List Attribute) × (read ≡ Ok attributes) × StandsFor table attributes
ReadsTable (Err refusal) read = read ≡ Err (refusal_of refusal)

-- A table of no attributes.
abbrev pub no_attributes : ℕ → Table
no_attributes version = record { version = version; slots = replicate 32 None }

-- A table of this version stands for the attributes that are read, or it has none and the answer is
-- the refusal of these.
abbrev pub TakesBody : (version : ℕ) → Table → Result ⊤ Refusal
    → Result (List Attribute) meant.Refusal → Type 0
TakesBody version table (Ok done) read = (table.version ≡ version) × ReadsTable (Ok table) read
TakesBody version table (Err refusal) read =
    (table ≡ no_attributes version) × ReadsTable (Err refusal) read

-- ---- slots as the code has them

-- The slot of an attribute that the body does not have.
abbrev pub absent : made.Slot
absent = record { place = 0; len = 0 }

-- A slot as the definitions see it.
abbrev pub slot_in : List ℕ → made.Slot → Option Slot
slot_in body slot =
    if slot.place == 0 then None else Some
    (record { place = slot.place; bytes = take slot.len (drop slot.place body) })

-- The bytes of all slots stand in the body.
abbrev pub AreIn : List ℕ → List made.Slot → Type 0
AreIn body slots = AllByRecursion (λ (s : made.Slot). s.place + s.len ≤ length body) slots

-- An attribute that has a length has one that its header can say.
abbrev pub IsShort : ℕ → ℕ → Option Slot → Type 0
IsShort version kind None = Unit {0}
IsShort version kind (Some slot) = HasRoom version kind (length slot.bytes)

-- One slot for each attribute number up to the last, and lengths that an attribute's header can
-- say.
pub record IsWhole (version : ℕ) (slots : List (Option Slot)) : Type 0 where
  pub count : length slots ≡ 32
  pub short : (kind : ℕ) → IsShort version kind (slot_at slots kind)

-- Slots are those of the attributes that are read in a body, or the answer is the refusal of these.
abbrev pub FillsSlots : (version : ℕ) (body : List ℕ) → List made.Slot → Result ⊤ Refusal
    → Result (List Attribute) meant.Refusal → Type 0
FillsSlots version body slots (Ok done) read =
    IsWhole version (map (slot_in body) slots) × AreIn body slots
    × ReadsTable (Ok (record { version = version; slots = map (slot_in body) slots })) read
FillsSlots version body slots (Err refusal) read = ReadsTable (Err refusal) read
