-- The order of parts that compose asks for: each part but the first is a snapshot of the part
-- before it. And the verdict on files: the first command that is refused, by its step or by this
-- order, or the fault with which their reading ended. The order is this program's own: `btrfs
-- receive` takes parts in any order that their parents allow.
use Rattle.std.specs.Prelude.{◌≡◌, ◌≢◌, ℕ, Bool, false, not, List, [], ◌∷◌, map, Option, None, Some, if◌then◌else◌}
use Rattle.send_model.specs.Refusal.{NotConsecutive}
use Rattle.send_model.specs.Command.{Command}
use Rattle.send_model.specs.Reading.{Item, Verdict, Reading, input}
use Rattle.send_model.specs.Store.{Key, same_key, Head, head_of, Store, State, Stepped, step}
use Rattle.send_model.specs.Receive.{byte_cells, verdict_of, fault_of, first_of, start_of}

abbrev pub onto_heads : Option Head → List Head → List Head
onto_heads None heads = heads
onto_heads (Some head) heads = head ∷ heads

-- The heads among commands, in order: one for each part.
unfoldable pub heads_of : List Command → List Head
heads_of [] = []
heads_of (command ∷ commands) = onto_heads (head_of command) (heads_of commands)

abbrev pub commands_of : List Item → List Command
commands_of items = map (λ item. item.command) items

abbrev pub heads : List Item → List Head
heads items = heads_of (commands_of items)

-- Each head but the first names the one before it as its parent, by uuid and transaction number.
abbrev pub EachFollows : List Head → Type 0
EachFollows [] = Unit {0}
EachFollows (head ∷ []) = Unit {0}
EachFollows (head ∷ next ∷ rest) = (next.parent ≡ Some head.key) × EachFollows (next ∷ rest)

-- Consecutive parts: there is one, and each but the first is a snapshot of the part before it.
abbrev pub IsConsecutive : List Item → Type 0
IsConsecutive items = (heads items ≢ []) × EachFollows (heads items)

-- ---- the verdict

-- A head after another part that does not name that part as its parent.
abbrev pub is_parent : Key → Option Key → Bool
is_parent key None = false
is_parent key (Some parent) = same_key parent key

abbrev pub breaks_order : Option Key → Option Head → Bool
breaks_order None head = false
breaks_order (Some key) None = false
breaks_order (Some key) (Some head) = not (is_parent key head.parent)

-- The part to which the next head has to be the next one.
abbrev pub part_after : Option Key → Option Head → Option Key
part_after previous None = previous
part_after previous (Some head) = Some head.key

-- The verdict on an item and those after it: its step is refused, or its head breaks the order, or
-- the verdict on the rest.
abbrev pub then_judge : {C : Type 0} → Item → Stepped C → Bool → Option Verdict → Option Verdict
then_judge item stepped breaks rest = elim stepped.refusal [
  | Some refusal ↦ Some (verdict_of item refusal)
  | None ↦ if breaks then Some (verdict_of item NotConsecutive) else rest
]

-- The first item that its step refuses or, else, whose head breaks the order.
unfoldable pub judge_items : {C : Type 0} → C → (Item → List C) → State C → Option Key → List Item
    → Option Verdict
judge_items zero_cell cells state previous [] = None
judge_items zero_cell cells state previous (item ∷ items) = let stepped =
    step zero_cell (cells item) state item.command in
    then_judge item stepped (breaks_order previous (head_of item.command))
    (judge_items zero_cell cells stepped.state (part_after previous (head_of item.command)) items)

abbrev pub last_item : List Item → Option Item
last_item [] = None
last_item (item ∷ []) = Some item
last_item (item ∷ more ∷ items) = last_item (more ∷ items)

-- Where files read as whole and hold no part, the breach stands at their last END.
abbrev pub without_parts : List Item → List Head → Option Verdict
without_parts items [] =
    elim (last_item items) [ None ↦ None | Some item ↦ Some (verdict_of item NotConsecutive) ]
without_parts items (head ∷ rest) = None

-- The verdict on what was read, received into a store: nothing where all of it is taken in order.
unfoldable pub judge_reading : {C : Type 0} → C → (Item → List C) → Store C → Reading
    → Option Verdict
judge_reading zero_cell cells store reading =
    first_of (judge_items zero_cell cells (start_of store) None reading.items)
    (first_of (fault_of reading.end) (without_parts reading.items (heads reading.items)))

-- The same into a store of bytes.
abbrev pub judge_of : Store ℕ → Reading → Option Verdict
judge_of store reading = judge_reading 0 byte_cells store reading

-- ---- what is taken before the verdict

-- An item and those after it, up to the first whose step is refused or whose head breaks the order.
abbrev pub then_lawful : {C : Type 0} → Item → Stepped C → Bool → List Item → List Item
then_lawful item stepped breaks rest = elim stepped.refusal [
  | Some refusal ↦ []
  | None ↦ if breaks then [] else item ∷ rest
]

-- The items before the first that its step refuses or whose head breaks the order; all of them,
-- where there is none.
unfoldable pub lawful_items : {C : Type 0} → C → (Item → List C) → State C → Option Key → List Item
    → List Item
lawful_items zero_cell cells state previous [] = []
lawful_items zero_cell cells state previous (item ∷ items) = let stepped =
    step zero_cell (cells item) state item.command in
    then_lawful item stepped (breaks_order previous (head_of item.command))
    (lawful_items zero_cell cells stepped.state (part_after previous (head_of item.command)) items)

-- The same of items that are received into a store of bytes, and of files.
abbrev pub lawful_of : Store ℕ → List Item → List Item
lawful_of store items = lawful_items 0 byte_cells (start_of store) None items

abbrev pub lawful : Store ℕ → List (List ℕ) → List Item
lawful store files = lawful_of store (input files).items
