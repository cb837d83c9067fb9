-- The same by places: each byte of a WRITE has in place of its birth the place where it stands in
-- the file that was read.
use Rattle.std.specs.Prelude.{◌≡◌, ℕ, ◌+◌, ◌≤◌, ◌==◌, Bool, List, [], ◌∷◌, ◌++◌, map, length, Some, None}
use Rattle.std.specs.List.{list_any, range_with_len}
use Rattle.send_model.specs.Attribute.{IsBytes}
use Rattle.send_model.specs.Command.{Command}
use Rattle.send_model.specs.Reading.{Item, input}
use Rattle.send_model.specs.Store.{Store, State, Stepped, step}
use Rattle.send_model.specs.Receive.{bytes_of}
use Rattle.squash_model.specs.Squashed.{Birth, unborn, births_left, squash_for, squashed_of}

abbrev pub data_len : Item → ℕ
data_len item = length (bytes_of item.command)

-- The places of an item's bytes.
abbrev pub placed_cells : Item → List Birth
placed_cells item = map (λ place. Some place) (range_with_len item.data_at (data_len item))

abbrev pub placed_step : State Birth → Item → Stepped Birth
placed_step state item = step None (placed_cells item) state item.command

-- Where items lead that are all taken.
unfoldable pub placed_by : State Birth → List Item → State Birth
placed_by state [] = state
placed_by state (item ∷ items) = placed_by (placed_step state item).state items

-- The places of bytes that stand in the end.
unfoldable pub lives : Store ℕ → List Item → ℕ → Bool
lives store items place = list_any (λ p. p == place) (births_left (placed_by (unborn store) items))

-- What stands for items, by which places live.
unfoldable pub placed_from : (ℕ → Bool) → State Birth → List Item → List Command
placed_from living state [] = []
placed_from living state (item ∷ items) =
    squash_for living item.data_at state item.command
    ++ placed_from living (placed_step state item).state items

-- Bytes stand behind a place, and where they end; no bytes stand nowhere.
abbrev pub IsBehind : ℕ → ℕ → List ℕ → Type 0
IsBehind from at [] = Unit {0}
IsBehind from at (byte ∷ bytes) = from ≤ at

abbrev pub end_behind : ℕ → ℕ → List ℕ → ℕ
end_behind from at [] = from
end_behind from at (byte ∷ bytes) = at + length (byte ∷ bytes)

-- The bytes of items stand one behind the other, from a place on.
abbrev pub ArePlaced : ℕ → List Item → Type 0
ArePlaced from [] = Unit {0}
ArePlaced from (item ∷ items) =
    IsBehind from item.data_at (bytes_of item.command)
    × ArePlaced (end_behind from item.data_at (bytes_of item.command)) items

-- ---- laws

-- Where the bytes of items stand one behind the other, what stands for them by places is what
-- stands for their commands.
abbrev pub PlacesSquashTheSame : Type 0
PlacesSquashTheSame = (store : Store ℕ) (items : List Item) → ArePlaced 0 items
    → placed_from (lives store items) (unborn store) items ≡ squashed_of store items

-- So they do in what is read of a file of bytes.
abbrev pub FilesArePlaced : Type 0
FilesArePlaced = (file : List ℕ) → IsBytes file → ArePlaced 0 (input (file ∷ [])).items
