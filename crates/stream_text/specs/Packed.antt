-- What `pack` answers, in the words of calls, and how far it has come with a text.
use Rattle.std.specs.Prelude.{ℕ, List}
use Rattle.send_model.specs.Due.{DoneWhole, RefusedAt, TooLong}
use Rattle.sx_base.specs.Refusals.{verdict_meant}
use Rattle.sx_base.specs.declared.outcome.Outcome.{Outcome}
use Rattle.sx_base.specs.declared.outcome.Outcome.TheVariants as ended
use Rattle.text_model.specs.Packing.{IsPackDue, PackSays, IsPackedPart}

-- An outcome that the text decides is the one that is due, and what was written is what it says.
-- With every other one a part of that was written: of a lawful text never all.
abbrev pub PackEnds : List ℕ → Outcome → List ℕ → Type 0
PackEnds bytes ended.Done written = IsPackDue bytes DoneWhole × PackSays bytes DoneWhole written
PackEnds bytes (ended.Refused verdict) written =
    IsPackDue bytes (RefusedAt (verdict_meant verdict))
    × PackSays bytes (RefusedAt (verdict_meant verdict)) written
PackEnds bytes (ended.InputTooLong file) written =
    IsPackDue bytes (TooLong file) × PackSays bytes (TooLong file) written
PackEnds bytes ended.InputFault written = IsPackedPart bytes written
PackEnds bytes ended.OutputFault written = IsPackedPart bytes written
PackEnds bytes ended.NoMemory written = IsPackedPart bytes written
PackEnds bytes (ended.TooMuch sum) written = ⊥
PackEnds bytes (ended.InputChanged file place) written = ⊥
