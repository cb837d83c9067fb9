-- What the states of a receive mean together. This program's own.
use Rattle.std.specs.Prelude.{◌≡◌, ℕ, ◌≤◌, false, List, [], ◌∷◌, ◌++◌, length, take, drop, None}
use Rattle.std.specs.List.{filter, flat_map}
use Rattle.send_model.specs.Reading.{Item}
use Rattle.send_model.specs.Store.{Store, completed}
use Rattle.send_model.specs.Receive.{byte_cells}
use Rattle.send_model.specs.Guards.{Guard, guarded}
use Rattle.store_model.specs.Stored.{is_edit}
use Rattle.store_model.specs.NamedFiles.{NamedFiles, read_of, AreGiven}
use Rattle.store_model.specs.States.{IsBetween, is_complete, complete_behind, received, left_by, complete_line, HasNumbers, received_lines, lines_in}

-- What receiving items passes through, receiving more items does.
abbrev pub MoreItemsPassMore : Type 0 → Type 0
MoreItemsPassMore C =
    (zero_cell : C) (cells : Item → List C) (least : ℕ) (store : Store C) (guards : List Guard)
    (items more : List Item) (now : Store C)
    → IsBetween least store (received zero_cell cells store guards items).state.state.store now
    → IsBetween least store
    (received zero_cell cells store guards (items ++ more)).state.state.store now

-- It begins with the store itself.
abbrev pub BeginsWithTheStore : Type 0 → Type 0
BeginsWithTheStore C =
    (zero_cell : C) (cells : Item → List C) (store : Store C) (guards : List Guard)
    (items : List Item)
    → IsBetween 0 store (received zero_cell cells store guards items).state.state.store store

-- It passes through what it leaves, with all parts complete that are complete there.
abbrev pub PassesWhatItLeaves : Type 0 → Type 0
PassesWhatItLeaves C =
    (zero_cell : C) (cells : Item → List C) (store : Store C) (guards : List Guard)
    (items : List Item)
    → let after =
    (received zero_cell cells store guards items).state.state.store in
    IsBetween (complete_behind store after) store after after

-- And through what a head or END completes that no guard refuses, before this item does anything
-- else.
abbrev pub PassesWhatIsCompleted : Type 0 → Type 0
PassesWhatIsCompleted C =
    (zero_cell : C) (cells : Item → List C) (store : Store C) (guards : List Guard)
    (items : List Item) (item : Item)
    → let before =
    (received zero_cell cells store guards items).state in
    (received zero_cell cells store guards items).refused ≡ None
    → guarded before.guards item.command ≡ None → is_edit item.command ≡ false
    → IsBetween (complete_behind store (completed before.state)) store
    (received zero_cell cells store guards (items ++ item ∷ [])).state.state.store
    (completed before.state)

-- So it is of files.
abbrev pub FilesAreItems : Type 0
FilesAreItems = (store : Store ℕ) (guards : List Guard) (files : NamedFiles)
    → left_by store guards files
    ≡ (received 0 byte_cells store guards (read_of files).reading.items).state.state.store

-- What is read of files up to the limit of their lengths are the first items of all that stand in
-- them.
abbrev pub LimitedIsFront : Type 0
LimitedIsFront =
    (files : NamedFiles) → AreGiven files
    → (rest : List Item) × ((read_of files).reading.items ≡ (read_of files).limited.items ++ rest)

-- Of a store on the way: it begins with the entries at the start, as they were; so many of those
-- behind them are complete; and these are the first of those that are complete at the end, as they
-- are there.
abbrev pub BetweenHasThem : Type 0 → Type 0
BetweenHasThem C = (least : ℕ) (start end now : Store C) → IsBetween least start end now
    → (now ≡ start ++ drop (length start) now) × (least ≤ complete_behind start now)
    × ((more : Store C)
    × (filter is_complete (drop (length start) end)
    ≡ filter is_complete (drop (length start) now) ++ more))

-- Lines end with a line end, and have none within: so many stand whole as there are line ends.
abbrev pub LinesAreParts : Type 0 → Type 0
LinesAreParts C =
    (parts : Store C) → HasNumbers parts → lines_in (flat_map complete_line parts) ≡ length parts

-- Of what stands in front of all lines, the first ones stand whole, as many as there are line ends.
abbrev pub FirstLinesStandWhole : Type 0 → Type 0
FirstLinesStandWhole C = (parts : Store C) (written rest : List ℕ) → HasNumbers parts
    → flat_map complete_line parts ≡ written ++ rest
    → (part : List ℕ) × (written ≡ flat_map complete_line (take (lines_in written) parts) ++ part)
    × (lines_in part ≡ 0)

-- What files of bytes leave, with names that an attribute has room for, has numbers of eight bytes,
-- if the store has.
abbrev pub ReceivedHasNumbers : Type 0
ReceivedHasNumbers =
    (store : Store ℕ) (guards : List Guard) (files : NamedFiles) → HasNumbers store → AreGiven files
    → HasNumbers (left_by store guards files)

-- So what receiving them prints has one line for each part that is complete.
abbrev pub PrintedAreParts : Type 0
PrintedAreParts =
    (store : Store ℕ) (guards : List Guard) (files : NamedFiles) → HasNumbers store → AreGiven files
    → lines_in (received_lines store guards files)
    ≡ complete_behind store (left_by store guards files)
