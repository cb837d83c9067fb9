-- Sessions that receive into one store in turns: each turn is one command of one session. This
-- program's own.
use Rattle.std.specs.Prelude.{◌≡◌, ℕ, zero, suc, ◌+◌, ◌-◌, Bool, true, false, not, ◌&&◌, ◌||◌, List, [], ◌∷◌, ◌++◌, length, map, take, drop, replicate, Option, None, Some, nat_lt, nat_le, is_some, is_none, if◌then◌else◌}
use Rattle.std.specs.List.{slice_get, flat_map, filter, list_all}
use Rattle.std.specs.Option.{option_map}
use Rattle.send_model.specs.Refusal.{Refusal}
use Rattle.send_model.specs.Command.{Command, End}
use Rattle.send_model.specs.Reading.{Item, Verdict, Ending, Reading, reads}
use Rattle.send_model.specs.Store.{Entry, Store, Part, Stepped, head_of, unfinished, completed, step}
use Rattle.send_model.specs.Receive.{Run, verdict_of, run_items, fault_of, first_of, byte_cells, start_of}
use Rattle.send_model.specs.Guards.{Guard, guarded, looked}
use Rattle.send_model.specs.Counts.{is_end}
use Rattle.send_model.specs.Outside.{is_among}
use Rattle.store_model.specs.Stored.{Group}
use Rattle.store_model.specs.States.{complete_line}
use Rattle.store_model.specs.Written.{mark_of, body_of}
use Rattle.send_model.specs.Subvolume.{Subvolume}

-- ---- sessions

-- The items of a part that were taken so far: its head and the edits behind it.
pub record Taken : Type 0 where
  pub head : Item
  pub edits : List Item

-- A part that a session is receiving: its items so far, and what they made.
pub record Receiving (C : Type 0) : Type 0 where
  pub taken : Taken
  pub part : Part C

-- A session: the items that it has not read yet, how their reading ends, its guards, its current
-- part, and whether it is over.
pub record Session (C : Type 0) : Type 0 where
  pub items : List Item
  pub end : Ending
  pub guards : List Guard
  pub part : Option (Receiving C)
  pub is_over : Bool

-- What turns do to the store, in order: a head began a part; a part of these items is complete.
pub data Event : Type 0 where
  Begins : (head : Item) → Event
  Completes : (part : Taken) → Event

-- ---- one turn of one session

-- What a turn leaves: the store, the session, the verdict if it is refused now, and what was done
-- to the store.
pub record Turn (C : Type 0) : Type 0 where
  pub store : Store C
  pub session : Session C
  pub refused : Option Verdict
  pub events : List Event

-- The session's own part, as a step sees it.
abbrev pub part_of : {C : Type 0} → Option (Receiving C) → Option (Part C)
part_of part = option_map (λ r. r.part) part

-- The items of the current part after one that was taken: a head stands alone, an edit stands
-- behind those before it.
abbrev pub taken_after : {C : Type 0} → Item → Option (Receiving C) → Taken
taken_after item None = record { head = item; edits = [] }
taken_after item (Some r) =
    if is_some
    (head_of item.command) then record {
      head = item;
      edits = [];
    } else record { head = r.taken.head; edits = r.taken.edits ++ item ∷ [] }

-- The current part after an item, if there is one.
abbrev pub receiving_after : {C : Type 0} → Item → Option (Receiving C) → Option (Part C)
    → Option (Receiving C)
receiving_after item old None = None
receiving_after item old (Some part) = Some (record { taken = taken_after item old; part = part })

-- A head and END complete the part before them, if there is one.
abbrev pub completions : {C : Type 0} → Command → Option (Receiving C) → List Event
completions command None = []
completions command (Some r) =
    if is_some (head_of command) || is_end command then Completes r.taken ∷ [] else []

-- A head that is not refused begins a part.
abbrev pub beginnings : Item → Option Refusal → List Event
beginnings item refusal =
    if is_some (head_of item.command) && is_none refusal then Begins item ∷ [] else []

-- After a step: a session that is refused is over, and its part stays as it is.
abbrev pub turned : {C : Type 0} → Session C → Item → List Item → Stepped C → Turn C
turned s item items after = record {
  store = after.state.store;
  session = record {
    items = items;
    end = s.end;
    guards = looked s.guards item.command;
    part = receiving_after item s.part after.state.part;
    is_over = is_some after.refusal;
  };
  refused = option_map (verdict_of item) after.refusal;
  events = completions item.command s.part ++ beginnings item after.refusal;
}

-- A turn reads the next item. At the end of what is read the session is over, with the fault if
-- there is one; an item that a guard refuses changes nothing; else it does its step.
abbrev pub next_turn : {C : Type 0} → C → (Item → List C) → Store C → Session C → List Item → Turn C
next_turn zero_cell cells store s [] =
    record {
      store = store;
      session = record s { is_over = true };
      refused = fault_of s.end;
      events = [];
    }
next_turn zero_cell cells store s (item ∷ items) = elim (guarded s.guards item.command) [
  | Some refusal ↦ record {
    store = store;
    session = record s { items = items; guards = looked s.guards item.command; is_over = true };
    refused = Some (verdict_of item refusal);
    events = [];
  }
  | None ↦ turned s item items
      (step zero_cell (cells item) (record { store = store; part = part_of s.part }) item.command)
]

-- A session that is over does nothing.
unfoldable pub session_turn : {C : Type 0} → C → (Item → List C) → Store C → Session C → Turn C
session_turn zero_cell cells store s =
    if s.is_over then record {
      store = store;
      session = s;
      refused = None;
      events = [];
    } else next_turn zero_cell cells store s s.items

-- ---- turns of all sessions

-- The store that all receive into, the sessions, the verdict of the session that was refused first,
-- and what was done.
pub record Turns (C : Type 0) : Type 0 where
  pub store : Store C
  pub sessions : List (Session C)
  pub refused : Option Verdict
  pub events : List Event

-- A list with another element at a place.
unfoldable pub with_at : {A : Type 0} → ℕ → A → List A → List A
with_at n a [] = []
with_at zero a (x ∷ xs) = a ∷ xs
with_at (suc n) a (x ∷ xs) = x ∷ with_at n a xs

abbrev pub after_turn : {C : Type 0} → Turns C → ℕ → Turn C → Turns C
after_turn w n t =
    record {
      store = t.store;
      sessions = with_at n t.session w.sessions;
      refused = first_of w.refused t.refused;
      events = w.events ++ t.events;
    }

-- A turn of the session of a number, counted from 0.
unfoldable pub one_turn : {C : Type 0} → C → (Item → List C) → Turns C → ℕ → Turns C
one_turn zero_cell cells w n =
    elim (slice_get w.sessions n) [
      | None ↦ w
      | Some s ↦
          after_turn w n (session_turn zero_cell cells w.store s)
    ]

-- Any number of turns.
unfoldable pub after_turns : {C : Type 0} → C → (Item → List C) → Turns C → List ℕ → Turns C
after_turns zero_cell cells w [] = w
after_turns zero_cell cells w (n ∷ ns) =
    after_turns zero_cell cells (one_turn zero_cell cells w n) ns

-- Before the first turn: no session has a part.
abbrev pub new_session : {C : Type 0} → Reading → List Guard → Session C
new_session reading guards =
    record {
      items = reading.items;
      end = reading.end;
      guards = guards;
      part = None;
      is_over = false;
    }

abbrev pub at_entry : {C : Type 0} → Store C → List (Session C) → Turns C
at_entry store sessions = record { store = store; sessions = sessions; refused = None; events = [] }

-- Each session to its end, the first one, which has the given number, first: one turn for each
-- item, and one for the end.
unfoldable pub to_the_end : {C : Type 0} → ℕ → List (Session C) → List ℕ
to_the_end n [] = []
to_the_end n (s ∷ sessions) = replicate (suc (length s.items)) n ++ to_the_end (n + 1) sessions

-- The schedule, and then each session to its end.
unfoldable pub interleaved : {C : Type 0} → C → (Item → List C) → Store C → List ℕ
    → List (Session C) → Turns C
interleaved zero_cell cells store schedule sessions =
    after_turns zero_cell cells (at_entry store sessions) (schedule ++ to_the_end 0 sessions)

-- The sessions of files, the first of which has the given number; each has as many of the guards as
-- its share says, in their order.
unfoldable pub sessions_from : ℕ → List (List ℕ) → List Guard → List ℕ → List (Session ℕ)
sessions_from n [] guards shares = []
sessions_from n (file ∷ files) guards [] =
    new_session (reads n file) [] ∷ sessions_from (n + 1) files guards []
sessions_from n (file ∷ files) guards (share ∷ shares) =
    new_session (reads n file) (take share guards)
    ∷ sessions_from (n + 1) files (drop share guards) shares

-- Receiving files that take turns into a store of bytes.
unfoldable pub turns_of : Store ℕ → List ℕ → List (List ℕ) → List Guard → List ℕ → Turns ℕ
turns_of store schedule files guards shares =
    interleaved 0 byte_cells store schedule (sessions_from 1 files guards shares)

-- One or more decimal digits, each below the number of files, say whose turn it is.
abbrev pub is_turn : ℕ → ℕ → Bool
is_turn files letter = nat_le 48 letter && nat_lt letter (48 + files) && nat_le letter 57

unfoldable pub schedule_of : ℕ → List ℕ → Option (List ℕ)
schedule_of files word =
    if nat_le 1 (length word)
    && list_all (is_turn files) word then Some (map (λ letter. letter - 48) word) else None

-- Between the completion of a part and the head that completed it: the store where the next item,
-- which no guard refuses, is a head or END, and the part before it is complete.
abbrev pub halfway_of : {C : Type 0} → Store C → Session C → List Item → Store C
halfway_of store s [] = store
halfway_of store s (item ∷ items) =
    if is_none (guarded s.guards item.command)
    && (is_some (head_of item.command) || is_end item.command) then completed
    (record { store = store; part = part_of s.part }) else store

abbrev pub halfway : {C : Type 0} → Turns C → ℕ → Store C
halfway w n =
    elim (slice_get w.sessions n) [
      | None ↦ w.store
      | Some s ↦
          if s.is_over then w.store else halfway_of w.store s s.items
    ]

abbrev pub IsHalfway : {C : Type 0} → Turns C → List ℕ → Store C → Type 0
IsHalfway w [] now = ⊥
IsHalfway w (n ∷ turns) now = now ≡ halfway w n

-- ---- what the turns did

-- The parts that completed, in the order of their completion.
unfoldable pub completed_parts : List Event → List Taken
completed_parts [] = []
completed_parts (Begins head ∷ events) = completed_parts events
completed_parts (Completes part ∷ events) = part ∷ completed_parts events

-- What is printed: a line for each part that completed, in the order of their completion.
unfoldable pub part_line : Taken → List ℕ
part_line part = elim (head_of part.head.command) [
  | None ↦ []
  | Some h ↦ complete_line (unfinished {S = Subvolume ℕ} h)
]

unfoldable pub lines_of : List Event → List ℕ
lines_of events = flat_map part_line (completed_parts events)

-- The uuid of a part.
abbrev pub part_uuid : Taken → List ℕ
part_uuid part = elim (head_of part.head.command) [ None ↦ [] | Some h ↦ h.key.uuid ]

-- The groups that are written: a Mark for each part that began, and a Body for each that is
-- complete, in the order of turns.
abbrev pub group_of_event : Event → Group
group_of_event (Begins head) = mark_of head.command
group_of_event (Completes part) =
    body_of (record {
      uuid = part_uuid part;
      version = part.head.version;
      commands = map (λ item. item.command) part.edits;
    })

unfoldable pub turn_groups : List Event → List Group
turn_groups events = map group_of_event events

-- The entries of the parts that began, unfinished.
unfoldable pub begun_entries : {S : Type 0} → List Event → List (Entry S)
begun_entries [] = []
begun_entries (Begins head ∷ events) =
    elim (head_of head.command) [
      | None ↦ begun_entries events
      | Some h ↦
          unfinished h ∷ begun_entries events
    ]
begun_entries (Completes part ∷ events) = begun_entries events

-- The uuids of parts.
unfoldable pub uuids_of : List Taken → List (List ℕ)
uuids_of [] = []
uuids_of (part ∷ parts) = part_uuid part ∷ uuids_of parts

-- The entries of the parts that began and did not complete.
unfoldable pub left_open : {S : Type 0} → List Event → List (Entry S)
left_open events =
    filter (λ e. not (is_among (uuids_of (completed_parts events)) e.key.uuid))
    (begun_entries events)

-- A part as a stream of its own: its head, its edits and END.
abbrev pub as_stream : Taken → List Item
as_stream part = part.head ∷ (part.edits ++ record part.head { command = End } ∷ [])

-- Receiving the completed parts one after the other, in the order of their completion.
unfoldable pub one_by_one : {C : Type 0} → C → (Item → List C) → Store C → List Event → Run C
one_by_one zero_cell cells store events =
    run_items zero_cell cells (start_of store) (flat_map as_stream (completed_parts events))
