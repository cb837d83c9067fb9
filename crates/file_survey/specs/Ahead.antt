-- How far a loop over the commands of files has come: the items that were read, and what is ahead
-- of it.
use Rattle.std.specs.Prelude.{◌≡◌, ℕ, ◌+◌, List, ◌++◌}
use Rattle.send_model.specs.Reading.{Item, Reading, joined, input, input_from}

-- Items, and then what a reading has.
abbrev pub then_reading : List Item → Reading → Reading
then_reading items r = record { items = items ++ r.items; end = r.end }

-- All that the files are read as is these items, then what is left of the file with this number,
-- then the files after it. Before the first file nothing is left of a file with the number 0.
abbrev pub IsAhead : List (List ℕ) → List Item → Reading → ℕ → List (List ℕ) → Type 0
IsAhead files items left number after =
    input files ≡ then_reading items (joined left (input_from (number + 1) after))
