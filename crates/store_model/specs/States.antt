-- The stores that receiving files passes through, any of which a crash may leave; and the lines
-- that say which parts are complete. They are this program's own.
use Rattle.std.specs.Prelude.{◌≡◌, ◌⊎◌, ℕ, ◌==◌, ◌≤◌, ◌<◌, ◌^◌, Bool, true, List, [], ◌∷◌, ◌++◌, length, drop, None, codes, is_some}
use Rattle.std.specs.List.{AllByRecursion, filter, flat_map, count_by}
use Rattle.send_model.specs.Reading.{Item}
use Rattle.send_model.specs.Store.{Entry, Store, State, step}
use Rattle.send_model.specs.Receive.{Ran, run_by, byte_cells, start_of}
use Rattle.send_model.specs.Guards.{Guard, Watched, watched_step, receive_watched}
use Rattle.send_model.specs.Printed.{escaped, uuid_text}
use Rattle.send_model.specs.Answer.{and_field, and_number, line}
use Rattle.store_model.specs.NamedFiles.{NamedFiles, read_of}

-- ---- on the way from one store to another

abbrev pub is_complete : {S : Type 0} → Entry S → Bool
is_complete e = is_some e.contents

-- An entry as it was when it began.
abbrev pub as_begun : {S : Type 0} → Entry S → Entry S
as_begun e = record { name = e.name; key = e.key; parent = e.parent; contents = None }

-- Behind some entries the first of others has begun, and nothing more is there.
abbrev pub HasBegun : {S : Type 0} → List (Entry S) → List (Entry S) → List (Entry S) → Type 0
HasBegun before [] store = ⊥
HasBegun before (e ∷ others) store = store ≡ before ++ as_begun e ∷ []

-- A store on the way from one to another, which has entries more behind its own: some of these are
-- complete, at least so many, and the next one is unfinished or not there.
pub record IsBetween {S : Type 0} (least : ℕ) (start end store : List (Entry S)) : Type 0 where
  pub complete : List (Entry S)
  pub others : List (Entry S)
  pub all : end ≡ start ++ (complete ++ others)
  pub are : AllByRecursion (λ e. is_complete e ≡ true) complete
  pub enough : least ≤ length complete
  pub is : (store ≡ start ++ complete) ⊎ HasBegun (start ++ complete) others store

-- How many entries behind those of a store are complete.
abbrev pub complete_behind : {S : Type 0} → List (Entry S) → List (Entry S) → ℕ
complete_behind start store = length (filter is_complete (drop (length start) store))

-- ---- receiving

-- What items leave of a store and guards, each WRITE putting the cells of its item.
unfoldable pub received : {C : Type 0} → C → (Item → List C) → Store C → List Guard → List Item
    → Ran (Watched (State C))
received zero_cell cells store guards items =
    run_by (watched_step (λ s item. step zero_cell (cells item) s item.command))
    (record { guards = guards; state = start_of store }) items

-- The store that receiving files leaves, each part under the name that is given for it, whether or
-- not they are accepted.
abbrev pub left_by : Store ℕ → List Guard → NamedFiles → Store ℕ
left_by store guards files =
    (receive_watched 0 byte_cells store guards (read_of files).reading).state.state.store

-- A store that receiving files passes through, with at least so many parts complete.
abbrev pub IsStateOf : ℕ → Store ℕ → List Guard → NamedFiles → Store ℕ → Type 0
IsStateOf least store guards files now = IsBetween least store (left_by store guards files) now

-- ---- the lines

-- What is printed once a part is complete.
unfoldable pub complete_line : {S : Type 0} → Entry S → List ℕ
complete_line e =
    line (codes "complete" ++ and_field (escaped e.name) ++ and_field (uuid_text e.key.uuid)
    ++ and_number e.key.ctransid)

-- Each ctransid is a number of eight bytes, as the format has it.
abbrev pub HasNumbers : {S : Type 0} → List (Entry S) → Type 0
HasNumbers store = AllByRecursion (λ e. e.key.ctransid < 2 ^ 64) store

-- The lines of the complete entries that a store has behind those of another.
unfoldable pub lines_behind : {S : Type 0} → List (Entry S) → List (Entry S) → List ℕ
lines_behind start end = flat_map complete_line (filter is_complete (drop (length start) end))

-- All that receiving files prints.
abbrev pub received_lines : Store ℕ → List Guard → NamedFiles → List ℕ
received_lines store guards files = lines_behind store (left_by store guards files)

-- How many whole lines stand in what was written.
abbrev pub lines_in : List ℕ → ℕ
lines_in written = count_by (λ byte. byte == 10) written

-- Each part whose line stands whole is complete: so many of them are.
abbrev pub IsAcknowledged : Store ℕ → List Guard → NamedFiles → List ℕ → Store ℕ → Type 0
IsAcknowledged store guards files written now = IsStateOf (lines_in written) store guards files now
