-- Text that is printed line by line: what is gathered, what is written of it, and how printing
-- ends.
use Rattle.std.specs.Prelude.{◌≡◌, ⊤, ℕ, List, [], ◌∷◌, ◌++◌, codes, Option, None, Some, Result, Ok, Err}
use Rattle.std.specs.Ordering.{nat_cmp}
use Rattle.std.specs.Io.KnownBytes.{Appends}
use Rattle.send_model.specs.Map.{Map, value_at}
use Rattle.send_model.specs.Store.{Key}
use Rattle.send_model.specs.Answer.{and_field, and_number, line}
use Rattle.send_model.specs.Printed.{escaped, uuid_text}
use Rattle.send_model.specs.Headline.{IsFrontOf, IsProperFrontOf}
use Rattle.sx_base.specs.Calls.{Wrote}
use Rattle.sx_base.specs.Causes.{Rose}
use Rattle.sx_base.specs.declared.outcome.Outcome.{Outcome}
use Rattle.sx_base.specs.declared.outcome.Outcome.TheVariants as ended
use Rattle.sx_base.specs.declared.sink.Sink as writing
use Rattle.stream_dump.specs.Steps.{StopsWriting}

-- ---- text that is added

-- Text is added to what is gathered, and some of all that was gathered is written.
pub record TextAdded (text old new : List ℕ) (taken_old taken_now : Option (List ℕ)) : Type 0 where
  pub sent : List ℕ
  pub appends : Appends taken_old taken_now sent
  pub bytes_are : sent ++ new ≡ old ++ text

-- What is written of some bytes where printing ends so: a front part, and not all where the output
-- failed.
abbrev pub IsCut : Outcome → List ℕ → List ℕ → Type 0
IsCut ended.OutputFault all written = IsProperFrontOf all written
IsCut ended.NoMemory all written = IsFrontOf all written
IsCut ended.Done all written = ⊥
IsCut (ended.Refused verdict) all written = ⊥
IsCut ended.InputFault all written = ⊥
IsCut (ended.InputTooLong file) all written = ⊥
IsCut (ended.TooMuch sum) all written = ⊥
IsCut (ended.InputChanged file place) all written = ⊥

-- An output: the bytes that it took, where it tells, the text that is gathered for it, and the
-- count of its faults.
pub record Output : Type 0 where
  pub taken : Option (List ℕ)
  pub gathered : List ℕ
  pub faults : ℕ

abbrev pub output : {O : Type 0} → writing.Ghosts O → O → List ℕ → Output
output out now gathered =
    record { taken = out.taken now; gathered = gathered; faults = out.faults now }

-- So it is, or the output failed or there is no memory, and a front part of what was gathered with
-- the text is written.
abbrev pub AddsText : (text : List ℕ) (old new : Output) → Result (Unit {0}) Outcome → Type 0
AddsText text old new (Ok done) = TextAdded text old.gathered new.gathered old.taken new.taken
AddsText text old new (Err outcome) =
    StopsWriting old.faults new.faults outcome
    × Wrote old.taken new.taken (IsCut outcome (old.gathered ++ text))

-- ---- how printing ends

-- All of the text is written, or a front part of it where there was no memory, and not all of it
-- where the output failed. Printing ends in no other way.
abbrev pub Prints : (text : List ℕ) → Outcome → List ℕ → Type 0
Prints text ended.Done written = written ≡ text
Prints text ended.OutputFault written = IsCut ended.OutputFault text written
Prints text ended.NoMemory written = IsCut ended.NoMemory text written
Prints text (ended.Refused verdict) written = ⊥
Prints text ended.InputFault written = ⊥
Prints text (ended.InputTooLong file) written = ⊥
Prints text (ended.TooMuch sum) written = ⊥
Prints text (ended.InputChanged file place) written = ⊥

-- The output failed only where its count of faults rose.
abbrev pub PrintCaused : (before now : ℕ) → Outcome → Type 0
PrintCaused before now ended.OutputFault = Rose before now
PrintCaused before now ended.Done = ⊤
PrintCaused before now ended.NoMemory = ⊤
PrintCaused before now (ended.Refused verdict) = ⊥
PrintCaused before now ended.InputFault = ⊥
PrintCaused before now (ended.InputTooLong file) = ⊥
PrintCaused before now (ended.TooMuch sum) = ⊥
PrintCaused before now (ended.InputChanged file place) = ⊥

-- ---- parts of what is shown

-- The line of a subvolume: its name, its key, and the number that its next inode would get.
unfoldable pub subvol_line : List ℕ → Key → ℕ → List ℕ
subvol_line name key next =
    line (codes "subvol" ++ and_field (escaped name) ++ and_field (uuid_text key.uuid)
    ++ and_number key.ctransid ++ and_number next)

-- The entry of a map at the number 0, if it has one.
abbrev pub entry_if : {X : Type 0} → Option X → Map ℕ X
entry_if None = []
entry_if (Some x) = (0, x) ∷ []

abbrev pub at_zero : {X : Type 0} → Map ℕ X → Map ℕ X
at_zero m = entry_if (value_at nat_cmp 0 m)
