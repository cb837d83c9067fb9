-- What stands between two commands that are received: the store, and the part that is open with its
-- line. This program's own.
use Rattle.std.specs.Prelude.{◌≡◌, ℕ, ◌+◌, List, [], ◌∷◌, ◌++◌, Option, None, Some, if◌then◌else◌}
use Rattle.std.specs.Option.{option_map}
use Rattle.send_model.specs.Command.{Command}
use Rattle.send_model.specs.Store.{Entry, State, completed}
use Rattle.store_model.specs.Stored.{is_edit}
use Rattle.store_model.specs.States.{complete_line}
use Rattle.store_model.specs.Dues.{seal_len}
use Rattle.group_replay.specs.declared.place.Place.{Place}
use Rattle.store_journal.specs.Shown.{StoreState, IsIdle, IsOpen}
use Rattle.receiver.specs.declared.opened.Opened.{Opened}

-- The state of the definitions.
abbrev pub state_of : StoreState → Option Opened → State (Option Place)
state_of store current = record { store = store.core; part = option_map (λ c. c.part) current }

-- Where the next bytes come: behind those of the open part, or at the gate.
abbrev pub place_of : StoreState → Option Opened → ℕ
place_of store None = store.log.gate
place_of store (Some current) = store.log.size

-- The line that is due once the open part is complete; none where no part is open.
abbrev pub line_due : Option Opened → List ℕ
line_due None = []
line_due (Some current) = current.line

-- The line is that of the last entry.
pub record IsLastLine {S : Type 0} (line : List ℕ) (store : List (Entry S)) : Type 0 where
  pub before : List (Entry S)
  pub last : Entry S
  pub is : store ≡ before ++ last ∷ []
  pub line_is : line ≡ complete_line last

-- A part is open, and its entry is the last one.
pub record IsReceiving (len : ℕ) (current : Opened) (store : StoreState) : Type 0 where
  pub is_open : IsOpen len current.part store
  pub last : IsLastLine current.line store.core

-- The store can take the next command; a disk of this size fits it.
abbrev pub IsReady : ℕ → Option Opened → StoreState → Type 0
IsReady len None store = IsIdle len store
IsReady len (Some current) store = IsReceiving len current store

-- Where the bytes of an item come: behind the checksum of the part that it completes.
abbrev pub behind_part : {A : Type 0} → Option A → ℕ → ℕ
behind_part None place = place
behind_part (Some part) place = place + seal_len

abbrev pub behind_close : {A : Type 0} → Option A → Command → ℕ → ℕ
behind_close part command place = if is_edit command then place else behind_part part place

-- The open part, if there is one, is complete, and the store is idle.
pub record IsClosedAs (len : ℕ) (current : Option Opened) (old new : StoreState) : Type 0 where
  pub core : new.core ≡ completed (state_of old current)
  pub idle : IsIdle len new
  pub gate : new.log.gate ≡ behind_part current (place_of old current)

-- The line that a command brings: a head and END complete the part.
abbrev pub line_by : Option Opened → Command → List ℕ
line_by current command = if is_edit command then [] else line_due current
