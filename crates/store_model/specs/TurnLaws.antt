-- What turns leave, against receiving one part after the other. This program's own.
use Rattle.std.specs.Prelude.{◌≡◌, ◌⊎◌, ◌↔◌, ◌≤◌, ◌||◌, ℕ, true, false, List, [], ◌∷◌, ◌++◌, length, map, replicate, None, Some, is_some}
use Rattle.std.specs.List.{AllByRecursion, slice_get}
use Rattle.send_model.specs.Attribute.{IsBytes}
use Rattle.send_model.specs.Command.{End}
use Rattle.send_model.specs.Spelling.{IsSpellable}
use Rattle.send_model.specs.Reading.{Item, Whole, Reading}
use Rattle.send_model.specs.Subvolume.{Subvolume}
use Rattle.send_model.specs.Store.{Head, Entry, Store, IsStore, head_of}
use Rattle.send_model.specs.Receive.{bytes_of, byte_cells, start_of, receive}
use Rattle.send_model.specs.Guards.{Guard, receive_watched}
use Rattle.send_model.specs.Counts.{is_end}
use Rattle.send_model.specs.Laws.{stream_of}
use Rattle.store_model.specs.Turns.{Taken, Session, Event, Begins, Turns, new_session, at_entry, after_turns, interleaved, sessions_from, turns_of, IsHalfway, completed_parts, turn_groups, left_open, one_by_one}
use Rattle.store_model.specs.Stored.{Group, IsGroup, Putting, as_bytes, made_all, Makes}

-- An element stands in a list.
abbrev pub IsIn : {A : Type 0} → A → List A → Type 0
IsIn a [] = ⊥
IsIn a (x ∷ xs) = (a ≡ x) ⊎ IsIn a xs

abbrev pub IsComplete : {S : Type 0} → Entry S → Type 0
IsComplete e = is_some e.contents ≡ true

abbrev pub IsUnfinished : {S : Type 0} → Entry S → Type 0
IsUnfinished e = e.contents ≡ None

-- Complete entries, one for each part in order, with the name, the key and the parent of its head.
abbrev pub AreEntriesOf : {S : Type 0} → List Taken → List (Entry S) → Type 0
AreEntriesOf [] [] = Unit {0}
AreEntriesOf [] (e ∷ entries) = ⊥
AreEntriesOf (part ∷ parts) [] = ⊥
AreEntriesOf (part ∷ parts) (e ∷ entries) =
    (head_of part.head.command ≡ Some (record { name = e.name; key = e.key; parent = e.parent }))
    × IsComplete e × AreEntriesOf parts entries

-- A head, and behind it neither heads nor END.
pub record IsPart (part : Taken) : Type 0 where
  pub head : Head
  pub is_head : head_of part.head.command ≡ Some head
  pub edits : AllByRecursion
      (λ item. (head_of item.command ≡ None) × (is_end item.command ≡ false)) part.edits

-- What a WRITE puts, wherever its bytes stand in an image, is what it put when its item came. So it
-- is of bytes.
abbrev pub PutsCells : {C : Type 0} → Putting C → (Item → List C) → Type 0
PutsCells put cells = (place : ℕ) (item : Item) → put place (bytes_of item.command) ≡ cells item

-- Of a store that events made of one at entry: receiving the completed parts one after the other,
-- in the order of their completion, on the store at entry, is accepted, and adds an entry for each
-- of them in this order. The complete entries are these and those of the store at entry. The
-- unfinished ones are those of the store at entry, and one for each part that began and did not
-- complete. Groups behind those of the store at entry, one for each of the events, make it.
pub record AreOneByOne {C : Type 0} (zero_cell : C) (cells : Item → List C) (entry : Store C)
    (events : List Event) (store : Store C) : Type 0 where
  pub new : Store C
  pub accepted : one_by_one zero_cell cells entry events
      ≡ record { state = start_of (entry ++ new); refused = None }
  pub parts : AreEntriesOf (completed_parts events) new
  pub shaped : AllByRecursion IsPart (completed_parts events)
  pub complete : (e : Entry (Subvolume C)) → IsComplete e → IsIn e store ↔ IsIn e (entry ++ new)
  pub unfinished : (e : Entry (Subvolume C)) → IsUnfinished e
      → IsIn e store ↔ IsIn e (entry ++ left_open events)
  pub groups : (put : Putting C) → PutsCells put cells → (gate : ℕ)
      → made_all zero_cell put gate entry (turn_groups events) ≡ Some store
  pub distinct : IsStore store × IsStore (entry ++ new)

-- So it is after any turns of sessions that have no part at entry.
abbrev pub TurnsAreOneByOne : Type 0 → Type 0
TurnsAreOneByOne C =
    (zero_cell : C) (cells : Item → List C) (store : Store C) (sessions : List (Session C))
    (turns : List ℕ)
    → IsStore store → AllByRecursion (λ s. s.part ≡ None) sessions
    → let end = after_turns zero_cell cells (at_entry store sessions) turns in
    AreOneByOne zero_cell cells store end.events end.store

-- A part stands in what a session reads, from its head up to the next head or END.
pub record IsReadBy {C : Type 0} (sessions : List (Session C)) (part : Taken) : Type 0 where
  pub number : ℕ
  pub session : Session C
  pub there : slice_get sessions number ≡ Some session
  pub before : List Item
  pub next : Item
  pub after : List Item
  pub items : session.items ≡ before ++ ((part.head ∷ part.edits) ++ next ∷ after)
  pub ends : (is_some (head_of next.command) || is_end next.command) ≡ true

-- A head stands in what a session reads.
pub record IsHeadOf {C : Type 0} (sessions : List (Session C)) (item : Item) : Type 0 where
  pub number : ℕ
  pub session : Session C
  pub there : slice_get sessions number ≡ Some session
  pub stands : IsIn item session.items
  pub is_head : is_some (head_of item.command) ≡ true

-- Each completed part is a part of what a session reads, and each part that began began with a head
-- that one reads.
abbrev pub PartsAreRead : Type 0 → Type 0
PartsAreRead C =
    (zero_cell : C) (cells : Item → List C) (store : Store C) (sessions : List (Session C))
    (turns : List ℕ)
    → AllByRecursion (λ s. s.part ≡ None) sessions → let end =
    after_turns zero_cell cells (at_entry store sessions) turns in
    ((part : Taken) → IsIn part (completed_parts end.events) → IsReadBy sessions part)
    × ((head : Item) → IsIn (Begins head) end.events → IsHeadOf sessions head)

-- The bytes of a part as a stream of its own, in version 2, which can say what version 1 can.
abbrev pub part_file : Taken → List ℕ
part_file part = stream_of 2 (part.head.command ∷ map (λ item. item.command) part.edits)

-- Of sessions of commands that the format can say: the files of the completed parts, in the order
-- of their completion, are accepted one after the other on the store at entry, and leave the same
-- entries.
abbrev pub FilesAreOneByOne : Type 0
FilesAreOneByOne =
    (store : Store ℕ) (sessions : List (Session ℕ)) (turns : List ℕ) → IsStore store
    → AllByRecursion (λ s. s.part ≡ None) sessions
    → AllByRecursion (λ s. AllByRecursion (λ item. IsSpellable 2 item.command) s.items) sessions
    → let end = after_turns 0 byte_cells (at_entry store sessions) turns in
    (is : AreOneByOne 0 byte_cells store end.events end.store)
    × (receive store (map part_file (completed_parts end.events))
    ≡ record { state = start_of (store ++ is.new); refused = None })

-- Files of bytes that take turns, by any schedule, under any guards: after all turns, the completed
-- parts were read from the files, and receiving them one after the other, in the order of their
-- completion and as files of their own, leaves the complete entries that the turns left; each
-- session is over; and the groups that the turns wrote make the store.
pub record AreInTurn (store : Store ℕ) (sessions : List (Session ℕ)) (end : Turns ℕ) : Type 0 where
  pub order : AreOneByOne 0 byte_cells store end.events end.store
  pub received : receive store (map part_file (completed_parts end.events))
      ≡ record { state = start_of (store ++ order.new); refused = None }
  pub read : (part : Taken) → IsIn part (completed_parts end.events) → IsReadBy sessions part
  pub begun : (head : Item) → IsIn (Begins head) end.events → IsHeadOf sessions head
  pub over : AllByRecursion (λ s. s.is_over ≡ true) end.sessions
  pub groups : (gate : ℕ) → made_all 0 as_bytes gate store (turn_groups end.events) ≡ Some end.store

abbrev pub FilesAreInTurn : Type 0
FilesAreInTurn =
    (store : Store ℕ) (schedule : List ℕ) (files : List (List ℕ)) (guards : List Guard)
    (shares : List ℕ)
    → IsStore store → AllByRecursion IsBytes files
    → AreInTurn store (sessions_from 1 files guards shares)
    (turns_of store schedule files guards shares)

-- One session alone, whatever the schedule says before, is receiving under its guards.
abbrev pub OneIsReceiving : Type 0 → Type 0
OneIsReceiving C =
    (zero_cell : C) (cells : Item → List C) (store : Store C) (guards : List Guard)
    (reading : Reading) (turns : ℕ)
    → let end = interleaved zero_cell cells store (replicate turns 0)
    (new_session reading guards ∷ []) in let run =
    receive_watched zero_cell cells store guards reading in
    (end.store ≡ run.state.state.store) × (end.refused ≡ run.refused)

-- After the schedule and the turns behind it each session is over.
abbrev pub AllAreOver : Type 0 → Type 0
AllAreOver C =
    (zero_cell : C) (cells : Item → List C) (store : Store C) (schedule : List ℕ)
    (sessions : List (Session C))
    → AllByRecursion (λ s. s.is_over ≡ true)
    (interleaved zero_cell cells store schedule sessions).sessions

-- The last of items is END.
abbrev pub LastIsEnd : List Item → Type 0
LastIsEnd [] = ⊥
LastIsEnd (item ∷ []) = item.command ≡ End
LastIsEnd (item ∷ next ∷ items) = LastIsEnd (next ∷ items)

-- Where no session is refused, and each one's reading, if it is whole, ends with END, each part
-- that began is complete.
abbrev pub NoneIsLeftOpen : Type 0 → Type 0
NoneIsLeftOpen C =
    (zero_cell : C) (cells : Item → List C) (store : Store C) (schedule : List ℕ)
    (sessions : List (Session C))
    → IsStore store → AllByRecursion (λ s. s.part ≡ None) sessions
    → AllByRecursion (λ s. s.end ≡ Whole → LastIsEnd s.items) sessions
    → (interleaved zero_cell cells store schedule sessions).refused ≡ None
    → (e : Entry (Subvolume C))
    → IsIn e (left_open (interleaved zero_cell cells store schedule sessions).events) → ⊥

-- So it is of files: with no refusal the unfinished entries are those that were there.
abbrev pub FilesLeaveNoneOpen : Type 0
FilesLeaveNoneOpen =
    (store : Store ℕ) (schedule : List ℕ) (files : List (List ℕ)) (guards : List Guard)
    (shares : List ℕ)
    → IsStore store → let end = turns_of store schedule files guards shares in end.refused ≡ None
    → (e : Entry (Subvolume ℕ)) → IsUnfinished e → IsIn e end.store ↔ IsIn e store

-- ---- what a crash may leave

-- The store after some first turns, or after these and the completion of the next one, without the
-- head that completed it.
pub record IsTurnState {C : Type 0} (zero_cell : C) (cells : Item → List C) (w : Turns C)
    (turns : List ℕ) (now : Store C) : Type 0 where
  pub first : List ℕ
  pub rest : List ℕ
  pub turns_are : turns ≡ first ++ rest
  pub is : (now ≡ (after_turns zero_cell cells w first).store)
      ⊎ IsHalfway (after_turns zero_cell cells w first) rest now

-- The store after each number of first turns is among them.
abbrev pub FrontsAreStates : Type 0 → Type 0
FrontsAreStates C = (zero_cell : C) (cells : Item → List C) (w : Turns C) (first rest : List ℕ)
    → IsTurnState zero_cell cells w (first ++ rest) (after_turns zero_cell cells w first).store

-- So is what a crash may leave during the first turns.
abbrev pub FrontStatesAreStates : Type 0 → Type 0
FrontStatesAreStates C =
    (zero_cell : C) (cells : Item → List C) (w : Turns C) (first rest : List ℕ) (now : Store C)
    → IsTurnState zero_cell cells w first now → IsTurnState zero_cell cells w (first ++ rest) now

-- What a crash may leave is what the first of the events made: each part that completed among them
-- is there as if it had been received alone in the order of completion, and no other.
abbrev pub StatesAreOneByOne : Type 0 → Type 0
StatesAreOneByOne C =
    (zero_cell : C) (cells : Item → List C) (store : Store C) (sessions : List (Session C))
    (turns : List ℕ) (now : Store C)
    → IsStore store → AllByRecursion (λ s. s.part ≡ None) sessions
    → IsTurnState zero_cell cells (at_entry store sessions) turns now
    → (events more : List Event)
    × ((after_turns zero_cell cells (at_entry store sessions) turns).events ≡ events ++ more)
    × AreOneByOne zero_cell cells store events now

-- And whatever the first of the groups of the turns make of the store at entry is among them: since
-- the groups that were there before stay, an image that a crash leaves stands for one of these.
abbrev pub FrontGroupsAreStates : Type 0 → Type 0
FrontGroupsAreStates C =
    (zero_cell : C) (cells : Item → List C) (put : Putting C) (gate : ℕ) (store : Store C)
    (sessions : List (Session C)) (turns : List ℕ)
    (groups more : List Group) (now : Store C) → PutsCells put cells → IsStore store
    → AllByRecursion (λ s. s.part ≡ None) sessions
    → turn_groups (after_turns zero_cell cells (at_entry store sessions) turns).events ≡ groups
    ++ more
    → made_all zero_cell put gate store groups ≡ Some now
    → IsTurnState zero_cell cells (at_entry store sessions) turns now

-- A state of turns with at least so many parts complete that were not there before: what stands
-- after an answer, where so many whole lines were printed.
pub record IsStateWith {C : Type 0} (least : ℕ) (zero_cell : C) (cells : Item → List C)
    (w : Turns C) (turns : List ℕ) (now : Store C) : Type 0 where
  pub state : IsTurnState zero_cell cells w turns now
  pub events : List Event
  pub more : List Event
  pub all : (after_turns zero_cell cells w turns).events ≡ events ++ more
  pub made : AreOneByOne zero_cell cells w.store events now
  pub enough : least ≤ length (completed_parts events)

-- Whatever was done first, there is a state that it made, with as many parts complete as lines were
-- due until then.
abbrev pub LinesAreComplete : Type 0 → Type 0
LinesAreComplete C =
    (zero_cell : C) (cells : Item → List C) (store : Store C) (sessions : List (Session C))
    (turns : List ℕ) (events more : List Event)
    → IsStore store → AllByRecursion (λ s. s.part ≡ None) sessions
    → (after_turns zero_cell cells (at_entry store sessions) turns).events ≡ events ++ more
    → (now : Store C)
    × (state : IsStateWith (length (completed_parts events)) zero_cell cells
    (at_entry store sessions) turns now) × (state.events ≡ events)

-- ---- groups are lawful

-- Of files of bytes, what is written are groups that an image may have: heads that version 1 can
-- say, and bodies of edits that the version of their head can say.
abbrev pub GroupsAreLawful : Type 0
GroupsAreLawful =
    (format : ℕ) (store : Store ℕ) (schedule : List ℕ) (files : List (List ℕ)) (guards : List Guard)
    (shares : List ℕ)
    → IsStore store → AllByRecursion IsBytes files
    → AllByRecursion (IsGroup format)
    (turn_groups (turns_of store schedule files guards shares).events)

-- Behind the groups that make the store at entry they make the store that the turns leave: an image
-- with these groups stands for it.
abbrev pub GroupsStand : Type 0
GroupsStand =
    (format : ℕ) (old : List Group) (store : Store ℕ) (schedule : List ℕ) (files : List (List ℕ))
    (guards : List Guard) (shares : List ℕ)
    → IsStore store → AllByRecursion IsBytes files → Makes 0 as_bytes format old store
    → let end = turns_of store schedule files guards shares in
    Makes 0 as_bytes format (old ++ turn_groups end.events) end.store
