-- What it means that bytes stand on standard output: laws that begin with such a promise and end in
-- plain words. This program's own.
use Rattle.std.specs.Prelude.{◌≡◌, ◌≢◌, ℕ, List, [], ◌++◌}
use Rattle.send_model.specs.Reading.{Verdict, Reading, Whole, reads}
use Rattle.send_model.specs.Store.{Store}
use Rattle.send_model.specs.Guards.{GuardSpec}
use Rattle.send_model.specs.Lines.{dump_of}
use Rattle.send_model.specs.Generated.{chain_of, trial_line}
use Rattle.send_model.specs.Exported.{exported_of}
use Rattle.send_model.specs.Headline.{IsFrontOf, IsProperFrontOf, IsComposedOf, IsStoppedOf, whole_output_of}
use Rattle.send_model.specs.Due.{DoneWhole, RefusedAt, accepted_line_of}
use Rattle.send_model.specs.Words.{Compose, Audit, Dump, Export, Gen, Trial}
use Rattle.send_model.specs.Sources.{Sources, StandsBeforeOf, StandsCutOf, EndSaysOf}

-- ---- front parts

-- Behind a front part stands what is missing, and behind a proper one that is something.
abbrev pub FrontHasARest : Type 0
FrontHasARest =
    (all written : List ℕ) → IsFrontOf all written → (rest : List ℕ) × (all ≡ written ++ rest)

abbrev pub ProperFrontLacksSome : Type 0
ProperFrontLacksSome =
    (all written : List ℕ) → IsProperFrontOf all written
    → ((rest : List ℕ) × (all ≡ written ++ rest) × (rest ≢ [])) × (written ≢ all)

-- ---- compose

-- Where compose stopped, what was written does not read to a whole end, and is a front part of all
-- that was to be written.
abbrev pub StoppedIsNoStream : Type 0
StoppedIsNoStream =
    (base : Store ℕ) (reading : Reading) (written : List ℕ) → IsStoppedOf base reading written
    → ((reads 1 written).end ≢ Whole)
    × ((rest : List ℕ) × (whole_output_of base reading ≡ written ++ rest))

-- So it is never what the headline promises, of whatever was read.
abbrev pub StoppedIsNotComposed : Type 0
StoppedIsNotComposed =
    (base other : Store ℕ) (reading stopped : Reading) (written : List ℕ)
    → IsComposedOf base reading written → IsStoppedOf other stopped written → ⊥

-- ---- words

-- Where all was done, all was written.
pub record DoneIsWhole (base : Store ℕ) (read : Sources) (written : List ℕ) : Type 0 where
  pub composed : (store at : ℕ) → EndSaysOf (Compose store at) base read DoneWhole written
      → written ≡ whole_output_of base read.reading
  pub audited : (guards : List GuardSpec) (store at : ℕ)
      → EndSaysOf (Audit guards store at) base read DoneWhole written
      → written ≡ accepted_line_of read.reading.items
  pub dumped : (at : ℕ) → EndSaysOf (Dump at) base read DoneWhole written
      → written ≡ dump_of read.first
  pub exported : (store at : ℕ) → EndSaysOf (Export store at) base read DoneWhole written
      → written ≡ exported_of base read.limited.items
  pub chain : (count seed : ℕ) → EndSaysOf (Gen count seed) base read DoneWhole written
      → written ≡ chain_of seed count
  pub trial : (count seed : ℕ) → EndSaysOf (Trial count seed) base read DoneWhole written
      → written ≡ trial_line seed count

-- Where a command is refused, dump and export wrote all that stands before it, compose no whole
-- stream, and audit nothing.
pub record RefusedIsTold (base : Store ℕ) (read : Sources) (verdict : Verdict)
    (written : List ℕ) : Type 0 where
  pub composed : (store at : ℕ) → EndSaysOf (Compose store at) base read (RefusedAt verdict) written
      → (reads 1 written).end ≢ Whole
  pub audited : (guards : List GuardSpec) (store at : ℕ)
      → EndSaysOf (Audit guards store at) base read (RefusedAt verdict) written → written ≡ []
  pub dumped : (at : ℕ) → EndSaysOf (Dump at) base read (RefusedAt verdict) written
      → written ≡ dump_of read.first
  pub exported : (store at : ℕ) → EndSaysOf (Export store at) base read (RefusedAt verdict) written
      → written ≡ exported_of base read.limited.items
  pub chain : (count seed : ℕ) → EndSaysOf (Gen count seed) base read (RefusedAt verdict) written
      → ⊥
  pub trial : (count seed : ℕ) → EndSaysOf (Trial count seed) base read (RefusedAt verdict) written
      → ⊥

-- Before the end compose wrote no whole stream, and audit nothing; where standard output failed,
-- some of audit's line is missing.
pub record EndIsMissing (base : Store ℕ) (read : Sources) (written : List ℕ) : Type 0 where
  pub composing : (store at : ℕ) → StandsBeforeOf (Compose store at) base read written
      → (reads 1 written).end ≢ Whole
  pub cut : (store at : ℕ) → StandsCutOf (Compose store at) base read written
      → (reads 1 written).end ≢ Whole
  pub auditing : (guards : List GuardSpec) (store at : ℕ)
      → StandsBeforeOf (Audit guards store at) base read written → written ≡ []
  pub audit_cut : (guards : List GuardSpec) (store at : ℕ)
      → StandsCutOf (Audit guards store at) base read written
      → written ≢ accepted_line_of read.reading.items
