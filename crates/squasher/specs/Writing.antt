-- What is written for a file that was judged. This program's own.
use Rattle.std.specs.Prelude.{◌≡◌, ◌≢◌, ⊤, ℕ, List, [], ◌∷◌, ◌++◌, drop, Result, Ok, Err}
use Rattle.std.specs.List.{AllByRecursion}
use Rattle.std.specs.Io.KnownBytes.{Appends}
use Rattle.send_model.specs.Command.{Command, Write, End}
use Rattle.send_model.specs.Spelling.{stream_header, canonical, canonical_all}
use Rattle.send_model.specs.Laws.{CanWrite}
use Rattle.send_model.specs.Reading.{Item}
use Rattle.send_model.specs.Order.{commands_of}
use Rattle.send_model.specs.Headline.{IsProperFrontOf}
use Rattle.sx_base.specs.Causes.{Rose}
use Rattle.sx_base.specs.Outside.{AppendsPart}
use Rattle.sx_base.specs.declared.outcome.Outcome.{Outcome}
use Rattle.sx_base.specs.declared.outcome.Outcome.TheVariants as ended
use Rattle.sx_base.specs.declared.refusal.Refusal.TheVariants as reason
use Rattle.clone_pieces.specs.Sending.{GoesOut, GoesPart, BreaksOff, Output}
use Rattle.clone_pieces.specs.Stopping.{outcome_with}
use Rattle.clone_pieces.specs.declared.stops.SendStop.{SendStop}
use Rattle.clone_pieces.specs.declared.stops.SendStop.TheVariants as stop
use Rattle.squash_log.specs.Fates.{Fate}
use Rattle.squash_log.specs.Resolved.{next_fate, by_fate, by_fates}
use Rattle.squasher.specs.declared.judging.Judged.{Judged}
use Rattle.squasher.specs.declared.writing.WriteStop.{WriteStop}
use Rattle.squasher.specs.declared.writing.WriteStop.TheVariants as why

-- All that is written for items by what was found of their file.
abbrev pub output_by : Judged → List Item → List ℕ
output_by found items =
    stream_header found.version
    ++ canonical_all found.version (by_fates found.fates (commands_of items))

-- ---- commands

-- What is written for a command before the stream ends: END is held back.
abbrev pub written_for : List Fate → Command → List Command
written_for fates (Write path offset bytes) = by_fate (next_fate fates) path offset bytes
written_for fates End = []
written_for fates command = command ∷ []

-- The fates that are left behind it.
abbrev pub fates_behind : List Fate → Command → List Fate
fates_behind fates (Write path offset bytes) = drop 1 fates
fates_behind fates command = fates

abbrev pub written_by : List Fate → List Command → List Command
written_by fates [] = []
written_by fates (command ∷ commands) =
    written_for fates command ++ written_by (fates_behind fates command) commands

-- ---- where they go

-- A front part of the bytes went out, where the output failed or there is no memory.
abbrev pub SendEnds : (old new : Output) (bytes : List ℕ) → SendStop → Type 0
SendEnds old new bytes stop.OutputFault =
    Rose old.faults new.faults × BreaksOff old.taken new.taken old.pending new.pending bytes
SendEnds old new bytes stop.NoMemory =
    GoesPart old.taken new.taken old.pending new.pending bytes
SendEnds old new bytes stop.InputFault = ⊥
SendEnds old new bytes (stop.InputChanged file place) = ⊥

-- Commands go out; or a front part of them; or not all of them can be said in the version.
abbrev pub Puts : (version : ℕ) (old new : Output) (commands : List Command)
    → Result (Unit {0}) WriteStop → Type 0
Puts version old new commands (Ok done) =
    GoesOut old.taken new.taken old.pending new.pending (canonical_all version commands)
Puts version old new commands (Err (why.Send s)) =
    SendEnds old new (canonical_all version commands) s
Puts version old new commands (Err why.Changed) = AllByRecursion (CanWrite version) commands → ⊥

-- The file is not as it was judged.
abbrev pub changed_at : (file command offset : ℕ) → Outcome
changed_at file command offset =
    ended.Refused (record {
      file = file;
      command = command;
      offset = offset;
      refusal = reason.NotConsecutive;
    })

abbrev pub end_by : Outcome → WriteStop → Outcome
end_by changed (why.Send s) = outcome_with s
end_by changed why.Changed = changed

-- A file that was read to its end has as many commands as were judged.
abbrev pub Counts : (last commands : ℕ) (changed : Outcome) → Result (Unit {0}) Outcome → Type 0
Counts last commands changed (Ok done) = last ≡ commands
Counts last commands changed (Err outcome) = (last ≢ commands) × (outcome ≡ changed)

-- Only the outside can keep the rest of the output from being written.
abbrev pub IsOfOutside : Outcome → Type 0
IsOfOutside ended.InputFault = ⊤
IsOfOutside ended.OutputFault = ⊤
IsOfOutside ended.NoMemory = ⊤
IsOfOutside ended.Done = ⊥
IsOfOutside (ended.Refused verdict) = ⊥
IsOfOutside (ended.InputTooLong file) = ⊥
IsOfOutside (ended.TooMuch sum) = ⊥
IsOfOutside (ended.InputChanged file place) = ⊥

-- A front part of the bytes went out, where the outside failed.
abbrev pub PartEnds : (old new : Output) (bytes : List ℕ) → Outcome → Type 0
PartEnds old new bytes ended.OutputFault =
    BreaksOff old.taken new.taken old.pending new.pending bytes
PartEnds old new bytes ended.InputFault = GoesPart old.taken new.taken old.pending new.pending bytes
PartEnds old new bytes ended.NoMemory = GoesPart old.taken new.taken old.pending new.pending bytes
PartEnds old new bytes ended.Done = ⊥
PartEnds old new bytes (ended.Refused verdict) = ⊥
PartEnds old new bytes (ended.InputTooLong file) = ⊥
PartEnds old new bytes (ended.TooMuch sum) = ⊥
PartEnds old new bytes (ended.InputChanged file place) = ⊥

-- All commands before END went out, or a front part of them.
abbrev pub CommandsEnd : Judged → List Item → (old new : Output) → Result (Unit {0}) Outcome
    → Type 0
CommandsEnd found items old new (Ok done) =
    GoesOut old.taken new.taken old.pending new.pending
    (canonical_all found.version (written_by found.fates (commands_of items)))
CommandsEnd found items old new (Err outcome) =
    PartEnds old new (canonical_all found.version (written_by found.fates (commands_of items)))
    outcome

-- END was written behind what was pending; or a proper front part of both.
abbrev pub EndGoesOut : (version : ℕ) (old new : Output) → Result (Unit {0}) Outcome → Type 0
EndGoesOut version old new (Ok done) =
    Appends old.taken new.taken (old.pending ++ canonical version End)
EndGoesOut version old new (Err outcome) =
    IsOfOutside outcome
    × AppendsPart old.taken new.taken (old.pending ++ canonical version End)

-- All was written, or a proper front part of it, where the outside failed.
abbrev pub WriteEnds : Judged → List Item → Result (Unit {0}) Outcome → List ℕ → Type 0
WriteEnds found items (Ok done) written = written ≡ output_by found items
WriteEnds found items (Err outcome) written =
    IsOfOutside outcome × IsProperFrontOf (output_by found items) written
