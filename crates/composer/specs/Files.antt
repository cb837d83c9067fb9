-- What is said of whole files: what composing one file and all files ends with, and why it stops.
use Rattle.std.specs.Prelude.{◌≡◌, ◌⊎◌, ⊤, ℕ, ◌<◌, true, false, List, [], map, Option, None, Some, Result, Ok, Err}
use Rattle.std.specs.Io.KnownBytes.{Appends}
use Rattle.send_model.specs.Reading.{Item, Reading, Whole, Faulty, reads, with_item, input}
use Rattle.send_model.specs.Store.{Store}
use Rattle.send_model.specs.Receive.{first_of}
use Rattle.send_model.specs.Order.{heads, last_item}
use Rattle.send_model.specs.Composed.{last_head}
use Rattle.send_model.specs.Due.{RefusedAt}
use Rattle.send_model.specs.Lengths.{is_too_long}
use Rattle.send_model.specs.Headline.{IsComposedOf, whole_output_of}
use Rattle.send_model.specs.Overridden.{Override, Overrides, overridden_as, overridden}
use Rattle.sx_base.specs.Refusals.{verdict_meant}
use Rattle.sx_base.specs.declared.outcome.Verdict.{Verdict}
use Rattle.sx_base.specs.declared.outcome.Outcome.{Outcome}
use Rattle.sx_base.specs.declared.outcome.Outcome.TheVariants as ended
use Rattle.send_model.specs.Words.{Compose}
use Rattle.part_names.specs.Overriding.{sources_with, EndsOf}
use Rattle.file_survey.specs.Findings.{Surveyed}
use Rattle.file_survey.specs.Ahead.{then_reading}
use Rattle.file_survey.specs.declared.places.Place.{Place}
use Rattle.clone_pieces.specs.Sending.{AppendsFront}
use Rattle.composer.specs.OverBase.{Plan, Composing, Halt, Exceeds, halt_due, advance, advance_all, unsent}
use Rattle.composer.specs.Kept.{composing_of}
use Rattle.composer.specs.Reached.{Over, OneFile, Reached}
use Rattle.composer.specs.Taking.{AllWhereEnded}

-- The plan over a base, as the survey of the files has it.
abbrev pub plan_with : Store ℕ → Surveyed → Plan
plan_with base s = record { base = base; parts = s.parts; version = s.version; last = s.last }

-- ---- one file

-- An item stands at this place.
pub record IsPlace (place : Place) (item : Item) : Type 0 where
  pub file : place.file ≡ item.file
  pub command : place.command ≡ item.number
  pub offset : place.offset ≡ item.offset

-- The last of the items stands at this place; where there are none, it is the place before.
abbrev pub IsLastPlace : Place → Place → Option Item → Type 0
IsLastPlace before place None = place ≡ before
IsLastPlace before place (Some item) = IsPlace place item

-- All items of a file were taken, with the name that is given for it, and of the bytes that are
-- then to be written some were. The file is not too long.
pub record FileTaken (o : Over) (file : OneFile) (old new : Reached)
    (before place : Place) : Type 0 where
  pub items : List Item
  pub sent : List ℕ
  pub read : reads file.number file.bytes ≡ record { items = items; end = Whole }
  pub all : advance_all o.plan (composing_of o.files o.plan.base old.kept)
      (map (overridden_as file.given) items)
      ≡ Ok (unsent sent (composing_of o.files o.plan.base new.kept))
  pub appends : Appends old.taken new.taken sent
  pub last : IsLastPlace before place (last_item items)
  pub latest : new.kept.latest
      ≡ first_of (last_head (heads (map (overridden_as file.given) items))) old.kept.latest
  pub fits : is_too_long file.number file.bytes ≡ false

-- The next item that is read is not taken, with the name that is given.
pub record NextHalts (plan : Plan) (given : Override) (now : Composing) (rest : Reading)
    (halt : Halt) (item : Item) : Type 0 where
  pub more : Reading
  pub front : rest ≡ with_item item more
  pub halted : advance plan now (overridden_as given item) ≡ Err halt

-- The next item that is read has a version above that of the stream that is written.
pub record NextAbove (plan : Plan) (rest : Reading) : Type 0 where
  pub item : Item
  pub more : Reading
  pub front : rest ≡ with_item item more
  pub above : plan.version < item.version

-- Why composing a file stopped before what is left of it.
abbrev pub FileWhy : Plan → OneFile → Composing → Reading → Outcome → Type 0
FileWhy plan file now rest (ended.Refused verdict) =
    (rest ≡ record { items = []; end = Faulty (verdict_meant verdict) })
    ⊎ (((item : Item) × (halt : Halt) × NextHalts plan file.given now rest halt item
    × (halt_due (overridden_as file.given item) halt ≡ RefusedAt (verdict_meant verdict)))
    ⊎ NextAbove plan rest)
FileWhy plan file now rest (ended.TooMuch sum) =
    (item : Item) × NextHalts plan file.given now rest (Exceeds sum) item
FileWhy plan file now rest (ended.InputTooLong number) =
    (number ≡ file.number) × (is_too_long file.number file.bytes ≡ true)
FileWhy plan file now rest ended.Done = ⊥
FileWhy plan file now rest (ended.InputChanged number place) = ⊥
FileWhy plan file now rest ended.InputFault = ⊤
FileWhy plan file now rest ended.OutputFault = ⊤
FileWhy plan file now rest ended.NoMemory = ⊤

-- Some items of the file were taken, and a front part of the bytes was written that were then to be
-- written; all of them, where an object of the outside did not fail and there was memory.
pub record FileStops (o : Over) (file : OneFile) (old : Reached) (out_new : Option (List ℕ))
    (outcome : Outcome) : Type 0 where
  pub items : List Item
  pub rest : Reading
  pub next : Composing
  pub read : reads file.number file.bytes ≡ then_reading items rest
  pub all : advance_all o.plan (composing_of o.files o.plan.base old.kept)
      (map (overridden_as file.given) items) ≡ Ok next
  pub front : AppendsFront old.taken out_new next.pending
  pub whole : AllWhereEnded outcome old.taken out_new next.pending
  pub why : FileWhy o.plan file next rest outcome

-- Composing a file that comes after the place before it.
abbrev pub FileEnd : Over → OneFile → (before : Place) → (old new : Reached) → Result Place Outcome
    → Type 0
FileEnd o file before old new (Ok place) = FileTaken o file old new before place
FileEnd o file before old new (Err outcome) = FileStops o file old new.taken outcome

-- ---- all files

-- Composing all files over a base, with the names that are given, ends as is due, and the headline
-- holds of what was written where all was done. Where a command is refused, all was written that
-- stands for those before it.
pub record ComposeEnds (base : Store ℕ) (given : Overrides) (files : List (List ℕ))
    (outcome : Outcome) (written : List ℕ) : Type 0 where
  pub ends : EndsOf (Compose 1 2) base (sources_with given files) outcome written
  pub composed : outcome ≡ ended.Done → IsComposedOf base (overridden given (input files)) written
  pub refused : (verdict : Verdict) → outcome ≡ ended.Refused verdict
      → written ≡ whole_output_of base (overridden given (input files))

abbrev pub outcome_in : Result (Unit {0}) Outcome → Outcome
outcome_in (Ok done) = ended.Done
outcome_in (Err outcome) = outcome
