-- What is due to files that take turns: the answer, and what is done until then, with the room that
-- a store has and the limit of a file's length. This program's own.
use Rattle.std.specs.Prelude.{ℕ, ◌+◌, Bool, true, false, not, ◌&&◌, List, [], ◌∷◌, ◌++◌, length, map, take, drop, Option, None, Some, if◌then◌else◌}
use Rattle.std.specs.List.{slice_get}
use Rattle.send_model.specs.Spelling.{canonical}
use Rattle.send_model.specs.Reading.{Item}
use Rattle.send_model.specs.Lengths.{limit, is_too_long}
use Rattle.send_model.specs.Store.{Store}
use Rattle.send_model.specs.Receive.{byte_cells}
use Rattle.send_model.specs.Guards.{Guard}
use Rattle.send_model.specs.Due.{TooLong, refused_due}
use Rattle.store_model.specs.Dues.{Due, Ends, first_full, end_behind, pieces_from, seal_len}
use Rattle.store_model.specs.Turns.{Event, Begins, Completes, Session, session_turn, Turns, one_turn, at_entry, to_the_end, sessions_from}

-- Files that take turns: the places of the schedule, the bytes of each file, all guards in their
-- order, and how many of them each session has.
pub record InTurns : Type 0 where
  pub schedule : List ℕ
  pub files : List (List ℕ)
  pub guards : List Guard
  pub shares : List ℕ

abbrev pub in_turns : List ℕ → List (List ℕ) → List Guard → List ℕ → InTurns
in_turns schedule files guards shares =
    record { schedule = schedule; files = files; guards = guards; shares = shares }

-- ---- how far files are read

-- The bytes of a file that are read: of one that is too long, those before the limit.
abbrev pub bytes_read : ℕ → List ℕ → List ℕ
bytes_read number file = if is_too_long number file then take limit file else file

-- The same of files, the first of which has the given number; and which of them are too long.
unfoldable pub files_read : ℕ → List (List ℕ) → List (List ℕ)
files_read number [] = []
files_read number (file ∷ files) = bytes_read number file ∷ files_read (number + 1) files

unfoldable pub which_long : ℕ → List (List ℕ) → List Bool
which_long number [] = []
which_long number (file ∷ files) = is_too_long number file ∷ which_long (number + 1) files

-- Each session's own guards, of all guards in their order, by its share.
unfoldable pub shared : List Guard → List ℕ → List (List Guard)
shared guards [] = []
shared guards (share ∷ shares) = take share guards ∷ shared (drop share guards) shares

-- The sessions of files, up to the limit of their lengths.
abbrev pub sessions_of : List (List ℕ) → List Guard → List ℕ → List (Session ℕ)
sessions_of files guards shares = sessions_from 1 (files_read 1 files) guards shares

-- A turn comes to the limit of a file that is too long: the session is not over, and all before the
-- limit was taken.
abbrev pub is_empty : {A : Type 0} → List A → Bool
is_empty [] = true
is_empty (x ∷ xs) = false

abbrev pub is_long : Option Bool → Bool
is_long None = false
is_long (Some long) = long

abbrev pub at_limit : {C : Type 0} → List Bool → Turns C → ℕ → Bool
at_limit long w n =
    elim (slice_get w.sessions n) [
      | None ↦ false
      | Some s ↦
          is_long (slice_get long n) && (not s.is_over && is_empty s.items)
    ]

-- ---- room

-- The lengths of what the group of an event puts behind a gate, call by call: its gate with its
-- length, and then a head, or what stands in front of edits and their frames.
abbrev pub event_lens : Event → List ℕ
event_lens (Begins head) = 9 ∷ (1 + length (canonical 1 head.command)) ∷ []
event_lens (Completes part) =
    9 ∷ 18 ∷ map (λ item. length (canonical part.head.version item.command)) part.edits

abbrev pub event_pieces : ℕ → Event → List (ℕ × ℕ)
event_pieces gate event = pieces_from gate (event_lens event)

-- Where the next gate stands then: behind the checksum.
abbrev pub gate_behind : ℕ → Event → ℕ
gate_behind gate event = end_behind gate (event_pieces gate event) + seal_len

abbrev pub gate_after : ℕ → List Event → ℕ
gate_after gate [] = gate
gate_after gate (event ∷ events) = gate_after (gate_behind gate event) events

-- The first of some events that have room, and where there is none for the next one.
pub record Fitting : Type 0 where
  pub events : List Event
  pub full : Option Due

unfoldable pub fitting : ℕ → ℕ → List Event → Fitting
fitting most gate [] = record { events = []; full = None }
fitting most gate (event ∷ events) = elim (first_full most (event_pieces gate event)) [
  | Some full ↦ record { events = []; full = Some full }
  | None ↦ let rest : Fitting =
      fitting most (gate_behind gate event) events in
      record { events = event ∷ rest.events; full = rest.full }
]

-- ---- the end of all turns

-- The answer that is due, and the events until then.
pub record TurnsEnd : Type 0 where
  pub due : Due
  pub events : List Event

-- The events of one turn.
abbrev pub turn_events : {C : Type 0} → C → (Item → List C) → Turns C → ℕ → List Event
turn_events zero_cell cells w n =
    elim (slice_get w.sessions n) [
      | None ↦ []
      | Some s ↦
          (session_turn zero_cell cells w.store s).events
    ]

-- The room in the log of a store: the greatest size that it may have, and where its next gate
-- stands.
pub record Room : Type 0 where
  pub most : ℕ
  pub gate : ℕ

abbrev pub room_of : (most gate : ℕ) → Room
room_of most gate = record { most = most; gate = gate }

-- Turns in order: the first one that comes to the limit of a file, or has no room, ends all of
-- them. Else the answer is the verdict on the session that was refused first, if one was.
unfoldable pub turns_end : {C : Type 0} → C → (Item → List C) → Room → List Bool → Turns C → List ℕ
    → TurnsEnd
turns_end zero_cell cells room long w [] =
    record { due = Ends (refused_due w.refused); events = w.events }
turns_end zero_cell cells room long w (n ∷ turns) =
    if at_limit long w n then record { due = Ends (TooLong (n + 1)); events = w.events }
    else (let new : List Event = turn_events zero_cell cells w n in
    elim (fitting room.most room.gate new).full [
      | Some full ↦
          record { due = full; events = w.events ++ (fitting room.most room.gate new).events }
      | None ↦ turns_end zero_cell cells (room_of room.most (gate_after room.gate new)) long
          (one_turn zero_cell cells w n) turns
    ])

-- All turns: the schedule, and then each session to its end.
abbrev pub all_turns : {C : Type 0} → List ℕ → List (Session C) → List ℕ
all_turns schedule sessions = schedule ++ to_the_end 0 sessions

-- Files that take turns into a store with this room, whose gate is closed.
unfoldable pub interleave_end : Room → Store ℕ → InTurns → TurnsEnd
interleave_end room store turns = let sessions : List (Session ℕ) =
    sessions_of turns.files turns.guards turns.shares in
    turns_end 0 byte_cells room (which_long 1 turns.files) (at_entry store sessions)
    (all_turns turns.schedule sessions)
