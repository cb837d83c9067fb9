-- The steps of writing a file: what is gathered, what is written of it, and how the writing ends.
use Rattle.std.specs.Prelude.{◌≡◌, ◌⊎◌, ⊤, ℕ, Bool, List, [], ◌++◌, Option, Result, Ok, Err}
use Rattle.std.specs.Io.KnownBytes.{Appends}
use Rattle.send_model.specs.Reading.{Item}
use Rattle.send_model.specs.Counts.{is_end}
use Rattle.send_model.specs.Headline.{IsFrontOf}
use Rattle.sx_base.specs.Calls.{Wrote}
use Rattle.sx_base.specs.Causes.{Rose}
use Rattle.sx_base.specs.Outside.{AppendsPart}
use Rattle.sx_base.specs.declared.outcome.Outcome.{Outcome}
use Rattle.sx_base.specs.declared.outcome.Outcome.TheVariants as ended
use Rattle.sx_base.specs.declared.sink.Sink as writing
use Rattle.stream_dump.specs.declared.gathering.Gathered.{Gathered}

-- An output: the bytes that it took, where it tells, and the count of its faults.
pub record Output : Type 0 where
  pub taken : Option (List ℕ)
  pub faults : ℕ

abbrev pub output : {O : Type 0} → writing.Ghosts O → O → Output
output out now = record { taken = out.taken now; faults = out.faults now }

-- The bytes of an item are added.
abbrev pub with_item : (Bool → Item → List ℕ) → Gathered → Item → Gathered
with_item piece old item =
    record { bytes = old.bytes ++ piece old.begins item; begins = is_end item.command }

-- What was gathered is written, or the output failed in the middle.
abbrev pub Sends : (old new : Gathered) (before now : Output) → Result (Unit {0}) Outcome → Type 0
Sends old new before now (Ok done) =
    Appends before.taken now.taken old.bytes × (new ≡ record { bytes = []; begins = old.begins })
Sends old new before now (Err outcome) =
    (outcome ≡ ended.OutputFault) × Rose before.faults now.faults
    × AppendsPart before.taken now.taken old.bytes

-- The bytes of an item were added, and of all that was gathered then some is written, and the rest
-- is gathered now.
pub record ItemAdded (all new : Gathered) (taken_old taken_now : Option (List ℕ)) : Type 0 where
  pub sent : List ℕ
  pub appends : Appends taken_old taken_now sent
  pub bytes_are : sent ++ new.bytes ≡ all.bytes
  pub begins_is : new.begins ≡ all.begins

-- Why writing ends within an item: there is no memory, or the output failed.
abbrev pub StopsWriting : (before now : ℕ) → Outcome → Type 0
StopsWriting before now ended.NoMemory = ⊤
StopsWriting before now ended.OutputFault = Rose before now
StopsWriting before now ended.Done = ⊥
StopsWriting before now (ended.Refused verdict) = ⊥
StopsWriting before now ended.InputFault = ⊥
StopsWriting before now (ended.InputTooLong file) = ⊥
StopsWriting before now (ended.TooMuch sum) = ⊥
StopsWriting before now (ended.InputChanged file place) = ⊥

-- What is gathered with an item is gathered or written, or a front part of it was written where
-- writing ends there.
abbrev pub ItemEnds : (all new : Gathered) (before now : Output) → Result (Unit {0}) Outcome
    → Type 0
ItemEnds all new before now (Ok done) = ItemAdded all new before.taken now.taken
ItemEnds all new before now (Err outcome) =
    StopsWriting before.faults now.faults outcome
    × Wrote before.taken now.taken (IsFrontOf all.bytes)

-- What is written of the gathered bytes where the writing ends so.
abbrev pub last_bytes : Outcome → List ℕ → List ℕ
last_bytes ended.InputFault bytes = []
last_bytes ended.NoMemory bytes = []
last_bytes ended.Done bytes = bytes
last_bytes (ended.Refused verdict) bytes = bytes
last_bytes ended.OutputFault bytes = []
last_bytes (ended.InputTooLong file) bytes = bytes
last_bytes (ended.TooMuch sum) bytes = bytes
last_bytes (ended.InputChanged file place) bytes = bytes

-- They are written, or the output failed in the middle.
abbrev pub EndsWith : (bytes : List ℕ) (outcome : Outcome) (before now : Output) → Outcome → Type 0
EndsWith bytes outcome before now result =
    ((result ≡ outcome) × Appends before.taken now.taken (last_bytes outcome bytes))
    ⊎ ((result ≡ ended.OutputFault) × Rose before.faults now.faults
    × AppendsPart before.taken now.taken (last_bytes outcome bytes))
