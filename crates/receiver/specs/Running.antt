-- Where receiving is between two commands, by the definitions, and how it ends. This program's own.
use Rattle.std.specs.Prelude.{◌≡◌, ⊤, ℕ, ◌<◌, List, [], ◌++◌, length, Option, None}
use Rattle.send_model.specs.Reading.{Item}
use Rattle.send_model.specs.Store.{Store, State, After, step}
use Rattle.send_model.specs.Receive.{run_by, byte_cells, start_of}
use Rattle.send_model.specs.Guards.{Guard, Watched, watched_step}
use Rattle.send_model.specs.Cells.{recelled_state}
use Rattle.send_model.specs.Due.{Limited, stop_due, RefusedAt, TooLong}
use Rattle.store_model.specs.States.{lines_behind}
use Rattle.store_model.specs.Stored.{Group}
use Rattle.store_model.specs.Written.{Begun, groups_from}
use Rattle.store_model.proofs.PassedStates.{IsOn}
use Rattle.store_model.specs.Dues.{Due, Ends, LogFull, receive_from, left_from, or_due}
use Rattle.auditor.specs.Following.{Followed, beside, blank}
use Rattle.sx_base.specs.Refusals.{verdict_meant}
use Rattle.sx_base.specs.declared.outcome.Outcome.{Outcome}
use Rattle.sx_base.specs.declared.outcome.Outcome.TheVariants as ended
use Rattle.group_replay.specs.declared.place.Place.{Place}
use Rattle.store_journal.specs.Shown.{StoreState}
use Rattle.receiver.specs.declared.opened.Opened.{Opened}
use Rattle.receiver.specs.declared.outcome.Received.{Received}
use Rattle.receiver.specs.declared.outcome.Received.TheVariants as how
use Rattle.receiver.specs.Standing.{place_of}
use Rattle.receiver.specs.Steps.{blank_of}

-- What an item does to a store of bytes under guards.
abbrev pub byte_step : Watched (State ℕ) → Item → After (Watched (State ℕ))
byte_step w item = watched_step (λ s i. step 0 (byte_cells i) s i.command) w item

-- Guards and a state, where the next bytes come, and what the Body of the open part would say now.
pub record Spot : Type 0 where
  pub watched : Watched (State ℕ)
  pub place : ℕ
  pub begun : Option Begun

-- Before the first item.
abbrev pub first_spot : ℕ → Store ℕ → List Guard → Spot
first_spot gate base guards =
    record {
      watched = record { guards = guards; state = start_of base };
      place = gate;
      begun = None;
    }

abbrev pub without_cells : Watched (State ℕ) → Followed
without_cells w = record { guards = w.guards; state = recelled_state (λ _. tt) w.state }

-- The guards and the store are there, but for what the cells carry.
pub record IsAt (spot : Spot) (guards : List Guard) (store : StoreState)
    (current : Option Opened) : Type 0 where
  pub seen : without_cells spot.watched ≡ beside guards (blank_of store current)
  pub place : spot.place ≡ place_of store current

-- From where receiving goes on: the greatest size of the store, the store behind whose parts lines
-- are printed, and the spot.
pub record Start : Type 0 where
  pub limit : ℕ
  pub base : Store ℕ
  pub spot : Spot

abbrev pub start : ℕ → Store ℕ → Spot → Start
start limit base spot = record { limit = limit; base = base; spot = spot }

-- What was due from the first spot on is due from the second on, behind these groups and lines.
pub record Leads (from : Start) (new : Spot) (items : List Item) (groups : List Group)
    (lines : List ℕ) : Type 0 where
  pub due : (rest : List Item)
      → receive_from from.limit from.spot.place from.spot.watched (items ++ rest)
      ≡ receive_from from.limit new.place new.watched rest
  pub left : (rest : List Item)
      → left_from from.limit from.spot.place from.spot.watched (items ++ rest)
      ≡ left_from from.limit new.place new.watched rest
  pub ran : (rest : List Item)
      → run_by byte_step from.spot.watched (items ++ rest) ≡ run_by byte_step new.watched rest
  pub written : (rest : List Item)
      → groups_from from.spot.watched from.spot.begun (items ++ rest) ≡ groups
      ++ groups_from new.watched new.begun rest
  pub printed : lines_behind from.base new.watched.state.store
      ≡ lines_behind from.base from.spot.watched.state.store ++ lines
  pub on : IsOn from.base new.watched.state.store new.watched.state.part

-- ---- how it ends

-- The answer that is due from a spot on.
abbrev pub due_from : ℕ → Spot → Limited → Due
due_from limit spot read =
    or_due (receive_from limit spot.place spot.watched read.items) (Ends (stop_due read.stop))

-- The lines are those of the parts that are complete in the store that is left.
abbrev pub LinesLeft : ℕ → Store ℕ → Spot → Limited → List ℕ → Type 0
LinesLeft limit base spot read lines =
    lines_behind base (left_from limit spot.place spot.watched read.items)
    ≡ lines_behind base spot.watched.state.store ++ lines

-- The store has what is left, but for what the cells carry.
abbrev pub CoreLeft : ℕ → Spot → Limited → Store (Option Place) → Type 0
CoreLeft limit spot read core =
    blank core ≡ blank (left_from limit spot.place spot.watched read.items)

-- The lines, and others behind them, are those of the parts that are complete once all was
-- received.
pub record IsLineFront (base : Store ℕ) (spot : Spot) (read : Limited)
    (lines unwritten : List ℕ) : Type 0 where
  pub all : lines_behind base (run_by byte_step spot.watched read.items).state.state.store
      ≡ lines_behind base spot.watched.state.store ++ (lines ++ unwritten)

-- Where receiving ends early, the answer is due, with the lines that are due; or some of the lines
-- were written.
abbrev pub OutcomeStops : Outcome → Start → Limited → List ℕ → Store (Option Place) → Type 0
OutcomeStops (ended.Refused verdict) from read lines core =
    (due_from from.limit from.spot read ≡ Ends (RefusedAt (verdict_meant verdict)))
    × LinesLeft from.limit from.base from.spot read lines × CoreLeft from.limit from.spot read core
OutcomeStops (ended.InputTooLong file) from read lines core =
    (due_from from.limit from.spot read ≡ Ends (TooLong file))
    × LinesLeft from.limit from.base from.spot read lines × CoreLeft from.limit from.spot read core
OutcomeStops ended.InputFault from read lines core =
    (unwritten : List ℕ) × IsLineFront from.base from.spot read lines unwritten
OutcomeStops ended.NoMemory from read lines core =
    (unwritten : List ℕ) × IsLineFront from.base from.spot read lines unwritten
OutcomeStops ended.OutputFault from read lines core =
    (unwritten : List ℕ) × IsLineFront from.base from.spot read lines unwritten
    × (0 < length unwritten)
OutcomeStops ended.Done from read lines core = ⊥
OutcomeStops (ended.TooMuch sum) from read lines core = ⊥
OutcomeStops (ended.InputChanged file place) from read lines core = ⊥

abbrev pub Stops : Received → Start → Limited → List ℕ → Store (Option Place) → Type 0
Stops (how.Files outcome) from read lines core = OutcomeStops outcome from read lines core
Stops how.StoreFault from read lines core =
    (unwritten : List ℕ) × IsLineFront from.base from.spot read lines unwritten
Stops (how.LogFull end wanted most) from read lines core =
    (due_from from.limit from.spot read ≡ LogFull end wanted most)
    × LinesLeft from.limit from.base from.spot read lines

-- ---- the groups that are left

-- All that was read was received or refused.
abbrev pub IfRead : Outcome → Type 0 → Type 0
IfRead ended.Done P = P
IfRead (ended.Refused verdict) P = P
IfRead (ended.InputTooLong file) P = P
IfRead ended.InputFault P = ⊤
IfRead ended.OutputFault P = ⊤
IfRead ended.NoMemory P = ⊤
IfRead (ended.TooMuch sum) P = ⊤
IfRead (ended.InputChanged file place) P = ⊤

abbrev pub IfAllRead : Received → Type 0 → Type 0
IfAllRead (how.Files outcome) P = IfRead outcome P
IfAllRead how.StoreFault P = ⊤
IfAllRead (how.LogFull end wanted limit) P = ⊤

-- Or there was no room for the rest: the answer is one that is due.
abbrev pub IfDecided : Received → Type 0 → Type 0
IfDecided (how.Files outcome) P = IfRead outcome P
IfDecided how.StoreFault P = ⊤
IfDecided (how.LogFull end wanted limit) P = P

-- H holds of the first of the groups that are due from a spot on. They make what some items leave,
-- and each part is complete there of whose line something was written. Where the answer is due,
-- that is what is left; and where all was read, these are all groups.
pub record IsLeft (why : Received) (from : Start) (read : Limited) (lines : List ℕ)
    (H : List Group → Type 0) : Type 0 where
  pub items : List Item
  pub more : List Group
  pub all : groups_from from.spot.watched from.spot.begun read.items
      ≡ groups_from from.spot.watched from.spot.begun items ++ more
  pub has : H (groups_from from.spot.watched from.spot.begun items)
  pub unwritten : List ℕ
  pub printed : lines_behind from.base (run_by byte_step from.spot.watched items).state.state.store
      ≡ lines_behind from.base from.spot.watched.state.store ++ (lines ++ unwritten)
  pub left : IfDecided why
      ((run_by byte_step from.spot.watched items).state.state.store
      ≡ left_from from.limit from.spot.place from.spot.watched read.items)
  pub whole : IfAllRead why (more ≡ [])
