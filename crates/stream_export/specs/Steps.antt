-- What the calls of an export answer: of one command, of one file and of all files.
use Rattle.std.specs.Prelude.{◌≡◌, ⊤, ℕ, List, [], ◌++◌, Option, None, Some, Result, Ok, Err}
use Rattle.std.specs.Io.KnownBytes.{Appends}
use Rattle.send_model.specs.Refusal as meant
use Rattle.send_model.specs.Reading.{Item, input}
use Rattle.send_model.specs.Receive.{verdict_of}
use Rattle.send_model.specs.Counts.{is_end}
use Rattle.send_model.specs.Exported.{Exporting, exporting_after}
use Rattle.send_model.specs.Separated.{IsSmall}
use Rattle.send_model.specs.Headline.{IsFrontOf}
use Rattle.send_model.specs.Due.{DoneWhole, RefusedAt, TooLong, Limited, AtEnd, AtFault, AtLimit, limited_from}
use Rattle.send_model.specs.Overridden.{Override, Overrides, overridden, overridden_limited}
use Rattle.sx_base.specs.Calls.{Wrote}
use Rattle.sx_base.specs.Causes.{Rose}
use Rattle.sx_base.specs.Refusals.{refusal_of, verdict_meant}
use Rattle.sx_base.specs.declared.outcome.Outcome.{Outcome}
use Rattle.sx_base.specs.declared.outcome.Outcome.TheVariants as ended
use Rattle.sx_base.specs.declared.outcome.Verdict.{Verdict}
use Rattle.sx_base.specs.declared.sink.Sink as writing
use Rattle.sx_base.specs.declared.stop.Stop.{Stop}
use Rattle.sx_base.specs.declared.stop.Stop.TheVariants as why
use Rattle.stream_dump.specs.declared.gathering.Gathered.{Gathered}
use Rattle.auditor.specs.Following.{beside, due_from_here, then_read, read_with, file_read, read_whole}
use Rattle.stream_export.specs.Exporting.{Blank, blank_does, export_bytes, Point, written_from, SmallFrom, Goes}

-- What an export knows between two commands.
abbrev pub point_at : Exporting Blank → Gathered → Point
point_at now gathered = record { now = now; begins = gathered.begins }

-- Where an export stands: what it knows, the bytes that are gathered, and those that the output
-- took, where it tells.
pub record Spot : Type 0 where
  pub point : Point
  pub bytes : List ℕ
  pub taken : Option (List ℕ)

abbrev pub spot_at : {O : Type 0} → writing.Ghosts O → Exporting Blank → Gathered → O → Spot
spot_at out now gathered to =
    record { point = point_at now gathered; bytes = gathered.bytes; taken = out.taken to }

-- ---- one command

-- A command is taken, and its bytes are appended, or it is refused and nothing is. Without memory
-- nothing is said.
abbrev pub Takes : (old : Point) (new : Exporting Blank) → Item → (bytes_old bytes_new : List ℕ)
    → Result (Unit {0}) Stop → Type 0
Takes old new item bytes_old bytes_new (Ok done) =
    (blank_does old.now.state item ≡ record { state = new.state; refusal = None })
    × (new ≡ exporting_after old.now item.command new.state)
    × (bytes_new ≡ bytes_old ++ export_bytes old.begins old.now item.version item.command)
Takes old new item bytes_old bytes_new (Err (why.Refused refusal)) =
    ((blank_does old.now.state item).refusal ≡ Some (refusal_of refusal)) × (bytes_new ≡ bytes_old)
Takes old new item bytes_old bytes_new (Err why.NoMemory) = ⊤

-- Bytes are gathered behind others, and some of all that is gathered is written.
pub record Passes (old new text : List ℕ) (taken_old taken_now : Option (List ℕ)) : Type 0 where
  pub sent : List ℕ
  pub appends : Appends taken_old taken_now sent
  pub bytes_are : sent ++ new ≡ old ++ text

-- A command is taken: where it leads, and that the part was small before it.
pub record OneTaken (old new : Point) (item : Item) : Type 0 where
  pub stepped : blank_does old.now.state item ≡ record { state = new.now.state; refusal = None }
  pub after : new.now ≡ exporting_after old.now item.command new.now.state
  pub begins_is : new.begins ≡ is_end item.command
  pub small : IsSmall old.now.state.part

-- It is refused, at its place.
abbrev pub IsRefused : Point → Item → Verdict → Type 0
IsRefused old item verdict =
    (refusal : meant.Refusal) × ((blank_does old.now.state item).refusal ≡ Some refusal)
    × (verdict_meant verdict ≡ verdict_of item refusal)

-- The bytes of a command from a point on.
abbrev pub bytes_at : Point → Item → List ℕ
bytes_at old item = export_bytes old.begins old.now item.version item.command

-- Why a command ends an export: it is refused, there is no memory, or the output failed.
abbrev pub ItemStops : (old new : Spot) → Item → (before now : ℕ) → Outcome → Type 0
ItemStops old new item before now (ended.Refused verdict) =
    IsRefused old.point item verdict × Passes old.bytes new.bytes [] old.taken new.taken
ItemStops old new item before now ended.NoMemory = Wrote old.taken new.taken (λ w. w ≡ [])
ItemStops old new item before now ended.OutputFault =
    OneTaken old.point new.point item × Rose before now
    × Wrote old.taken new.taken (IsFrontOf (old.bytes ++ bytes_at old.point item))
ItemStops old new item before now ended.Done = ⊥
ItemStops old new item before now ended.InputFault = ⊥
ItemStops old new item before now (ended.InputTooLong file) = ⊥
ItemStops old new item before now (ended.TooMuch sum) = ⊥
ItemStops old new item before now (ended.InputChanged file place) = ⊥

abbrev pub ItemEnds : (old new : Spot) → Item → (before now : ℕ) → Result (Unit {0}) Outcome
    → Type 0
ItemEnds old new item before now (Ok done) =
    OneTaken old.point new.point item
    × Passes old.bytes new.bytes (bytes_at old.point item) old.taken new.taken
ItemEnds old new item before now (Err outcome) = ItemStops old new item before now outcome

-- ---- what is read from a point on

-- An outcome that ends an export early is the answer that is due, and all that is written from the
-- point on was gathered or written. Where an object of the outside failed or there is no memory, a
-- front part of it was written.
abbrev pub Stops : (old : Spot) → Limited → (bytes : List ℕ) (taken : Option (List ℕ)) → Outcome
    → Type 0
Stops old read bytes taken (ended.Refused verdict) =
    (due_from_here (beside [] old.point.now.state) read ≡ RefusedAt (verdict_meant verdict))
    × Passes old.bytes bytes (written_from old.point read.items) old.taken taken
Stops old read bytes taken (ended.InputTooLong file) =
    (due_from_here (beside [] old.point.now.state) read ≡ TooLong file)
    × Passes old.bytes bytes (written_from old.point read.items) old.taken taken
Stops old read bytes taken ended.InputFault =
    Wrote old.taken taken (IsFrontOf (old.bytes ++ written_from old.point read.items))
Stops old read bytes taken ended.OutputFault =
    Wrote old.taken taken (IsFrontOf (old.bytes ++ written_from old.point read.items))
Stops old read bytes taken ended.NoMemory =
    Wrote old.taken taken (IsFrontOf (old.bytes ++ written_from old.point read.items))
Stops old read bytes taken ended.Done = ⊥
Stops old read bytes taken (ended.TooMuch sum) = ⊥
Stops old read bytes taken (ended.InputChanged file place) = ⊥

-- What is read of a file, and what is read of the others if that is all of it.
abbrev pub then_others : Limited → Limited → Limited
then_others first more = elim first.stop [
  | AtEnd ↦ then_read first.items more
  | AtFault verdict ↦ first
  | AtLimit file ↦ first
]

-- All commands of a file are taken, with what is said in front of it.
pub record FileTaken (said : Override) (file : ℕ) (old new : Spot) (bytes : List ℕ) : Type 0 where
  pub items : List Item
  pub text : List ℕ
  pub read : read_with said (file_read file bytes) ≡ read_whole items
  pub goes : Goes old.point items new.point text
  pub passes : Passes old.bytes new.bytes text old.taken new.taken

-- A file is exported, or it ends the export, whatever is read of the files that come after it.
abbrev pub FileEnds : (said : Override) (file : ℕ) (old new : Spot) → Result (Unit {0}) Outcome
    → (bytes : List ℕ) → Type 0
FileEnds said file old new (Ok done) bytes = FileTaken said file old new bytes
FileEnds said file old new (Err outcome) bytes =
    (more : Limited)
    → Stops old
    (then_others (read_with said (file_read file bytes)) more) new.bytes new.taken outcome

-- ---- all files

-- All commands of the files are taken, with what is said in front of them.
pub record AllTaken (overrides : Overrides) (old : Spot) (bytes : List ℕ) (taken : Option (List ℕ))
    (files : List (List ℕ)) : Type 0 where
  pub done : due_from_here (beside [] old.point.now.state)
      (overridden_limited overrides (limited_from 1 files)) ≡ DoneWhole
  pub passes : Passes old.bytes bytes
      (written_from old.point
      (overridden_limited overrides (limited_from 1 files)).items) old.taken taken
  pub small : SmallFrom old.point (overridden overrides (input files)).items

abbrev pub AllEnd : Overrides → (old : Spot) (bytes : List ℕ) (taken : Option (List ℕ))
    → Result (Unit {0}) Outcome → (files : List (List ℕ)) → Type 0
AllEnd overrides old bytes taken (Ok done) files = AllTaken overrides old bytes taken files
AllEnd overrides old bytes taken (Err outcome) files =
    Stops old (overridden_limited overrides (limited_from 1 files)) bytes taken outcome
