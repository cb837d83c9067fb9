-- Where each cell of the parts was born: a written cell is known by the place in a file that was
-- read from which its WRITE took it, and a cell that came from outside by its place there, as for
-- composing over a base. A zero cell that a command made comes from nowhere. This program's own.
use Rattle.std.specs.Prelude.{ℕ, ◌+◌, List, [], ◌∷◌, Option, None, Some}
use Rattle.std.specs.Option.{option_map}
use Rattle.send_model.specs.Reading.{Item}
use Rattle.send_model.specs.Receive.{bytes_of}
use Rattle.send_model.specs.Store.{Store, State, Stepped, step}
use Rattle.send_model.specs.Provenance.{Place, Traced, traced_store}
use Rattle.send_model.specs.Cells.{recelled_store}

-- A place in a file that was read.
pub record Birth : Type 0 where
  pub file : ℕ
  pub at : ℕ

pub data Tag : Type 0 where
  CameFrom : (place : Place) → Tag
  BornAt : (birth : Birth) → Tag

-- A byte and where it was born, if anywhere.
pub record Tagged : Type 0 where
  pub byte : ℕ
  pub tag : Option Tag

abbrev pub byte_in : Tagged → ℕ
byte_in c = c.byte

-- A byte from nowhere.
abbrev pub untagged : ℕ → Tagged
untagged byte = record { byte = byte; tag = None }

-- ---- outside places alone

abbrev pub place_of : Tag → Option Place
place_of (CameFrom place) = Some place
place_of (BornAt birth) = None

abbrev pub outside_place : Option Tag → Option Place
outside_place None = None
outside_place (Some tag) = place_of tag

-- The cell as composing over a base has it, without its birth.
abbrev pub traced_of : Tagged → Traced
traced_of c = record { byte = c.byte; place = outside_place c.tag }

-- ---- what cells the base and items have

abbrev pub tagged_of : Traced → Tagged
tagged_of c = record { byte = c.byte; tag = option_map CameFrom c.place }

-- A store whose bytes are tagged with their own places.
abbrev pub tagged_store : Store ℕ → Store Tagged
tagged_store store = recelled_store tagged_of (traced_store store)

-- Bytes of a file that was read, from a place on.
abbrev pub born_from : ℕ → ℕ → List ℕ → List Tagged
born_from file at [] = []
born_from file at (byte ∷ bytes) =
    record { byte = byte; tag = Some (BornAt (record { file = file; at = at })) }
    ∷ born_from file (at + 1) bytes

-- The written bytes of an item are born where its data stand.
abbrev pub born_cells : Item → List Tagged
born_cells item = born_from item.file item.data_at (bytes_of item.command)

abbrev pub tagged_step : State Tagged → Item → Stepped Tagged
tagged_step state item = step (untagged 0) (born_cells item) state item.command

abbrev pub tagged_after : State Tagged → Item → State Tagged
tagged_after state item = (tagged_step state item).state
