-- What holds of the counts of the inputs unless an answer says that they failed: no call tries
-- again where they did, and goes on.
use Rattle.std.specs.Prelude.{Option, None, Some, Result, Ok, Err, ⊤}
use Rattle.cmd_reader.specs.declared.fault.Fault.{Fault}
use Rattle.cmd_reader.specs.declared.fault.Fault.TheVariants as fault
use Rattle.cmd_reader.specs.declared.item.ReadStop.{ReadStop}
use Rattle.cmd_reader.specs.declared.item.ReadStop.TheVariants as stop

abbrev pub UnlessFault : Fault → Type 0 → Type 0
UnlessFault (fault.Refused refusal) P = P
UnlessFault fault.InputFault P = ⊤
UnlessFault fault.InputTooLong P = P

-- The same of an answer.
abbrev pub UnlessErr : {T : Type 0} → Result T Fault → Type 0 → Type 0
UnlessErr (Ok x) P = P
UnlessErr (Err fault) P = UnlessFault fault P

abbrev pub UnlessStop : ReadStop → Type 0 → Type 0
UnlessStop (stop.Refused verdict) P = P
UnlessStop stop.InputFault P = ⊤
UnlessStop stop.InputTooLong P = P

-- The same of an answer.
abbrev pub UnlessFailed : {T : Type 0} → Result T ReadStop → Type 0 → Type 0
UnlessFailed (Ok x) P = P
UnlessFailed (Err stop) P = UnlessStop stop P

-- The same after one step.
abbrev pub UnlessStepFailed : {T : Type 0} → Option (Result T ReadStop) → Type 0 → Type 0
UnlessStepFailed None P = P
UnlessStepFailed (Some answer) P = UnlessFailed answer P
