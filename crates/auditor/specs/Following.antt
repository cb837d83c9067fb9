-- The commands of files followed under guards, over subvolumes whose cells carry nothing: no step
-- looks at cells, so whatever they are, the same command is refused. This program's own.
use Rattle.std.specs.Prelude.{◌≡◌, ℕ, List, [], ◌∷◌, ◌++◌, map, Option, None, Some}
use Rattle.send_model.specs.Command.{Command}
use Rattle.send_model.specs.Reading.{Item}
use Rattle.send_model.specs.Store.{Store, State, After, Stepped, step}
use Rattle.send_model.specs.Receive.{Ran, run_by, bytes_of}
use Rattle.send_model.specs.Guards.{Guard, Watched, watched_step}
use Rattle.send_model.specs.Cells.{recelled_store}
use Rattle.send_model.specs.Due.{Due, RefusedAt, Limited, AtEnd, limited_from, stop_due}
use Rattle.send_model.specs.Overridden.{Override, overridden_as}

-- A store whose cells carry nothing.
abbrev pub blank : {C : Type 0} → Store C → Store (Unit {0})
blank store = recelled_store (λ _. tt) store

-- Two stores that differ in their cells alone.
abbrev pub HaveSameShape : {C D : Type 0} → Store C → Store D → Type 0
HaveSameShape a b = blank a ≡ blank b

-- What a command does to a state whose cells carry nothing.
abbrev pub blank_step : State (Unit {0}) → Command → Stepped (Unit {0})
blank_step state c = step tt (map (λ _. tt) (bytes_of c)) state c

-- Guards with what they have counted, and beside them a state whose cells carry nothing.
abbrev pub Followed : Type 0
Followed = Watched (State (Unit {0}))

-- Guards beside a state.
abbrev pub beside : List Guard → State (Unit {0}) → Followed
beside guards state = record { guards = guards; state = state }

-- What an item does: each guard looks at it before its step.
abbrev pub follow : Followed → Item → After Followed
follow now item = watched_step (λ state item. blank_step state item.command) now item

-- Where items lead.
abbrev pub follow_all : Followed → List Item → Ran Followed
follow_all now items = run_by follow now items

-- All of the items are accepted.
abbrev pub AreAccepted : Followed → List Item → Followed → Type 0
AreAccepted old items new = follow_all old items ≡ record { state = new; refused = None }

-- The answer that is due for what is read from here on.
abbrev pub due_from_here : Followed → Limited → Due
due_from_here now read =
    elim (follow_all now read.items).refused [
      | Some verdict ↦ RefusedAt verdict
      | None ↦
          stop_due read.stop
    ]

-- Items, and after them what else is read.
abbrev pub then_read : List Item → Limited → Limited
then_read items more = record { items = items ++ more.items; stop = more.stop }

-- What is read of one file, which is the given one of several.
abbrev pub file_read : ℕ → List ℕ → Limited
file_read number bytes = limited_from number (bytes ∷ [])

-- Items of a file, with what is said in front of it.
abbrev pub items_with : Override → List Item → List Item
items_with said items = map (overridden_as said) items

-- The same of what is read of the file.
abbrev pub read_with : Override → Limited → Limited
read_with said read = record { items = items_with said read.items; stop = read.stop }

-- A file of these items, which is read to its end.
abbrev pub read_whole : List Item → Limited
read_whole items = record { items = items; stop = AtEnd }
