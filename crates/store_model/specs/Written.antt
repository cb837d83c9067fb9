-- The groups that receiving items into a store puts behind those that are there: one Mark for each
-- part that begins, and one Body for each part that is complete. This program's own.
use Rattle.std.specs.Prelude.{◌≡◌, ℕ, true, List, [], ◌∷◌, ◌++◌, Option, None, Some, if◌then◌else◌}
use Rattle.std.specs.List.{AllByRecursion}
use Rattle.std.specs.Option.{option_map}
use Rattle.send_model.specs.Command.{Command}
use Rattle.send_model.specs.Reading.{Item}
use Rattle.send_model.specs.Store.{Store, State, After, head_of, step}
use Rattle.send_model.specs.Receive.{byte_cells, start_of}
use Rattle.send_model.specs.Guards.{Guard, Watched, watched_step, guarded}
use Rattle.send_model.specs.Counts.{is_end}
use Rattle.store_model.specs.NamedFiles.{NamedFiles, read_of, AreGiven}
use Rattle.store_model.specs.Stored.{IsGroup, Mark, Body, Group, is_edit, made_all, as_bytes}
use Rattle.store_model.specs.States.{IsBetween, complete_behind, received}

-- The part that is being received, as its Body will say it.
pub record Begun : Type 0 where
  pub uuid : List ℕ
  pub version : ℕ
  pub commands : List Command

-- The groups that are written have a checksum: a Mark, and a Body.
abbrev pub mark_of : Command → Group
mark_of head = record { content = Mark head; is_sealed = true }

abbrev pub body_of : Begun → Group
body_of begun = record { content = Body begun.uuid begun.version begun.commands; is_sealed = true }

abbrev pub closed : Option Begun → List Group
closed None = []
closed (Some begun) = body_of begun ∷ []

-- A head and END close the part that is open, where no guard refuses them.
abbrev pub closed_by : List Guard → Command → Option Begun → List Group
closed_by guards command begun =
    if is_edit command then [] else elim
    (guarded guards command) [ Some refusal ↦ [] | None ↦ closed begun ]

-- A head begins a part.
abbrev pub begun_by : Command → List Group
begun_by command = elim (head_of command) [ None ↦ [] | Some head ↦ mark_of command ∷ [] ]

abbrev pub and_command : Command → Begun → Begun
and_command command begun =
    record { uuid = begun.uuid; version = begun.version; commands = begun.commands ++ command ∷ [] }

-- The part that is open behind an edit or END, and behind any item.
abbrev pub begun_after_edit : Item → Option Begun → Option Begun
begun_after_edit item begun =
    if is_end item.command then None else option_map (and_command item.command) begun

abbrev pub begun_after : Option Begun → Item → Option Begun
begun_after begun item = elim (head_of item.command) [
  | Some head ↦ Some (record { uuid = head.key.uuid; version = item.version; commands = [] })
  | None ↦ begun_after_edit item begun
]

-- Items in order, up to the first that is refused.
unfoldable pub groups_from : Watched (State ℕ) → Option Begun → List Item → List Group
groups_from w begun [] = []
groups_from w begun (item ∷ items) =
    let after : After (Watched (State ℕ)) =
    watched_step (λ s i. step 0 (byte_cells i) s i.command) w item in
    closed_by w.guards item.command begun ++ (elim after.refusal [
      | Some refusal ↦ []
      | None ↦ begun_by item.command ++ groups_from after.state (begun_after begun item) items
    ])

-- The groups of items that are received into a store under guards.
abbrev pub groups_of : Store ℕ → List Guard → List Item → List Group
groups_of store guards items =
    groups_from (record { guards = guards; state = start_of store }) None items

-- ---- laws

-- They make of the store what receiving leaves, wherever they stand.
abbrev pub WrittenIsReceived : Type 0
WrittenIsReceived = (gate : ℕ) (store : Store ℕ) (guards : List Guard) (items : List Item)
    → made_all 0 as_bytes gate store (groups_of store guards items)
    ≡ Some (received 0 byte_cells store guards items).state.state.store

-- The first of them, however many, make a state on the way, with all parts complete that are
-- complete in it.
abbrev pub FirstGroupsAreStates : Type 0
FirstGroupsAreStates =
    (gate : ℕ) (store : Store ℕ) (guards : List Guard) (items : List Item) (first more : List Group)
    → groups_of store guards items ≡ first ++ more
    → (now : Store ℕ) × (made_all 0 as_bytes gate store first ≡ Some now)
    × IsBetween (complete_behind store now) store
    (received 0 byte_cells store guards items).state.state.store now

-- Those of files of bytes, with names that an attribute has room for, can stand in an image of
-- either format.
abbrev pub WrittenIsLawful : Type 0
WrittenIsLawful =
    (format : ℕ) (store : Store ℕ) (guards : List Guard) (files : NamedFiles) → AreGiven files
    → AllByRecursion (IsGroup format) (groups_of store guards (read_of files).reading.items)
