-- The steps of packing: a line is taken, the text ends, or the call does.
use Rattle.std.specs.Prelude.{◌≡◌, ⊤, ◌⊎◌, ℕ, ◌+◌, ◌<◌, List, ◌++◌, length, Option, None, Result, Ok, Err}
use Rattle.std.specs.Io.KnownBytes.{Appends}
use Rattle.send_model.specs.Lengths.{limit}
use Rattle.sx_base.specs.Calls.{Wrote}
use Rattle.sx_base.specs.Causes.{Rose}
use Rattle.sx_base.specs.Outside.{AppendsPart}
use Rattle.sx_base.specs.declared.failed.Failed.{Failed}
use Rattle.sx_base.specs.declared.outcome.Outcome.{Outcome}
use Rattle.sx_base.specs.declared.outcome.Outcome.TheVariants as ended
use Rattle.sx_base.specs.declared.refusal.Refusal.TheVariants as made
use Rattle.stream_dump.specs.Steps.{Output}
use Rattle.stream_text.specs.declared.line_reader.Front.{Front}
use Rattle.stream_text.specs.declared.line_reader.Front.TheVariants as front
use Rattle.stream_text.specs.declared.line_reader.LineFault.{LineFault}
use Rattle.stream_text.specs.declared.line_reader.LineFault.TheVariants as fault
use Rattle.stream_text.specs.declared.line_reader.LineReader.{LineReader}
use Rattle.stream_text.specs.declared.packing.Step.{Step}
use Rattle.stream_text.specs.declared.packing.Step.TheVariants as step
use Rattle.stream_text.specs.declared.text_line.Packed.{Packed}
use Rattle.stream_text.specs.Lines.{HasNoLine, IsHeld, IsLineIn}
use Rattle.stream_text.specs.Reading.{held}
use Rattle.stream_text.specs.Packed.{PackEnds}
use Rattle.stream_text.specs.PackSteps.{IsPackedTo}

-- The next line is named.
abbrev pub bad_line : LineReader → Outcome
bad_line r =
    ended.Refused (record {
      file = 1;
      command = r.number + 1;
      offset = r.at;
      refusal = made.BadText;
    })

-- What is known of what stands in front, and of the file where it ends.
abbrev pub FrontFits : Front → List ℕ → Type 0
FrontFits (front.Line len) bytes = IsLineIn bytes len
FrontFits front.Long bytes = HasNoLine bytes × (length bytes ≡ 2_097_153)
FrontFits front.End bytes = HasNoLine bytes

abbrev pub FrontThere : Front → ℕ → (file : List ℕ) → Type 0
FrontThere (front.Line len) place file = ⊤
FrontThere front.Long place file = ⊤
FrontThere front.End place file = (place < limit) × (length file ≡ place)

-- How the call ends where more of the file can't be read.
abbrev pub outcome_of : LineFault → Outcome
outcome_of fault.InputFault = ended.InputFault
outcome_of fault.InputTooLong = ended.InputTooLong 1

-- What was kept is written, or the output failed in the middle.
abbrev pub Finishes : (bytes : List ℕ) (outcome : Outcome) (before now : Output) → Outcome → Type 0
Finishes bytes outcome before now result =
    ((result ≡ outcome) × Appends before.taken now.taken bytes)
    ⊎ ((result ≡ ended.OutputFault) × Rose before.faults now.faults
    × AppendsPart before.taken now.taken bytes)

-- Some of what was kept is written and the rest is kept, or the output failed in the middle.
abbrev pub SendsSome : (old new : List ℕ) (before now : Option (List ℕ)) → Result (Unit {0}) Failed
    → Type 0
SendsSome old new before now (Ok done) =
    (sent : List ℕ) × Appends before now sent × (sent ++ new ≡ old)
SendsSome old new before now (Err failed) = AppendsPart before now old

-- A step that went on went on in the file.
abbrev pub IsFurther : (old new : LineReader) → Result Step Outcome → Type 0
IsFurther old new (Ok step.Line) = old.at < new.at
IsFurther old new (Ok step.End) = ⊤
IsFurther old new (Err outcome) = ⊤

-- The lines so far are packed, with what was written before and in the step.
abbrev pub ArePacked : LineReader → Packed → (written file : List ℕ) → Type 0
ArePacked r packed written file =
    IsPackedTo r.at r.number packed.due packed.bytes written file

-- A text may end with these lines, and the file ends.
pub record IsEnd (r : LineReader) (packed : Packed) (file : List ℕ) : Type 0 where
  pub ends : length file ≡ r.at
  pub early : r.at < limit
  pub none : packed.due ≡ None
  pub some : 0 < r.number

-- What a step leaves, and what it answers where the call ends.
abbrev pub StepAnswers : LineReader → Packed → (file written : List ℕ) → Result Step Outcome
    → Type 0
StepAnswers r packed file written (Ok step.Line) =
    IsHeld r.at (held r) file × ArePacked r packed written file
StepAnswers r packed file written (Ok step.End) =
    IsEnd r packed file × ArePacked r packed written file
StepAnswers r packed file written (Err outcome) = PackEnds file outcome written

-- The same of what the step wrote behind what was written before.
abbrev pub StepSays : (old : LineReader) (before : Packed) (new : LineReader) (now : Packed)
    → (taken_old taken_now : Option (List ℕ)) → Result Step Outcome → (file : List ℕ) → Type 0
StepSays old before new now taken_old taken_now result file =
    (written : List ℕ) → ArePacked old before written file
    → Wrote taken_old taken_now (λ more. StepAnswers new now file (written ++ more) result)
