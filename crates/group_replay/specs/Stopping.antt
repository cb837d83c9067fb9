-- What holds of an answer by why a call of the store stops.
use Rattle.std.specs.Prelude.{Result, Ok, Err, ⊤}
use Rattle.group_log.specs.declared.stops.LogStop.{LogStop}
use Rattle.sx_base.specs.declared.refusal.Refusal.{Refusal}
use Rattle.group_replay.specs.declared.stops.StoreStop.{StoreStop}
use Rattle.group_replay.specs.declared.stops.StoreStop.TheVariants as stop

-- What holds of a refusal, and of a stop of the journal.
abbrev pub IfRefused : {T : Type 0} → Result T StoreStop → (Refusal → Type 0) → Type 0
IfRefused (Ok x) P = ⊤
IfRefused (Err (stop.Refused refusal)) P = P refusal
IfRefused (Err stop.NoMemory) P = ⊤
IfRefused (Err (stop.Log why)) P = ⊤

abbrev pub IfLog : {T : Type 0} → Result T StoreStop → (LogStop → Type 0) → Type 0
IfLog (Ok x) P = ⊤
IfLog (Err (stop.Refused refusal)) P = ⊤
IfLog (Err stop.NoMemory) P = ⊤
IfLog (Err (stop.Log why)) P = P why

-- What holds of each other stop than a refusal.
abbrev pub IfEnded : {T : Type 0} → Result T StoreStop → Type 0 → Type 0
IfEnded (Ok x) P = ⊤
IfEnded (Err (stop.Refused refusal)) P = ⊤
IfEnded (Err stop.NoMemory) P = P
IfEnded (Err (stop.Log why)) P = P

-- A stop that is no refusal.
abbrev pub IsNoRefusal : StoreStop → Type 0
IsNoRefusal (stop.Refused refusal) = ⊥
IsNoRefusal stop.NoMemory = ⊤
IsNoRefusal (stop.Log why) = ⊤
