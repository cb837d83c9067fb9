-- What words say of their files, over what was read of them. Files of bytes are one source of that;
-- files with overrides are another. This program's own.
use Rattle.std.specs.Prelude.{◌≡◌, ◌↔◌, ℕ, Bool, List, [], ◌∷◌, ◌++◌, take, Option, None}
use Rattle.std.specs.Option.{option_map}
use Rattle.send_model.specs.Reading.{Reading, Whole, input}
use Rattle.send_model.specs.Lengths.{limit, too_long}
use Rattle.send_model.specs.Store.{Key, Store}
use Rattle.send_model.specs.Receive.{byte_cells}
use Rattle.send_model.specs.Guards.{GuardSpec, receive_watched}
use Rattle.send_model.specs.Lines.{dump_of}
use Rattle.send_model.specs.Exported.{exported_of}
use Rattle.send_model.specs.Generated.{chain_of, trial_line}
use Rattle.send_model.specs.Headline.{IsFrontOf, IsProperFrontOf, IsComposedOf, IsStoppedOf, whole_output_of}
use Rattle.send_model.specs.Due.{Due, refused_due, or_due, DoneWhole, RefusedAt, TooLong, TooMuch, Limited, limited_from, compose_due_of, audit_due_of, accepted_line_of, file_due}
use Rattle.send_model.specs.LengthLaws.{IsFirstLong}
use Rattle.send_model.specs.Words.{Request, Compose, Audit, Dump, Export, Gen, Trial, new_guards, first_file, due, whole_of, EndSays, StandsBefore, StandsCut}
use Rattle.send_model.specs.Thinned.{thinned, KeepsOutside, IsApart}
use Rattle.send_model.specs.Overridden.{Overrides, overridden, overridden_limited}

-- What is read of files: all of it, up to the first fault; which is the first file that is too
-- long; what is read up to its limit; and the bytes of the first file, for words that look at one
-- file alone.
pub record Sources : Type 0 where
  pub reading : Reading
  pub first_long : Option ℕ
  pub limited : Limited
  pub first : List ℕ

-- Of files of bytes.
abbrev pub sources : List (List ℕ) → Sources
sources files =
    record {
      reading = input files;
      first_long = too_long files;
      limited = limited_from 1 files;
      first = first_file files;
    }

-- The same with overrides. Which file is too long does not depend on them.
abbrev pub overridden_sources : Overrides → Sources → Sources
overridden_sources overrides read = record {
  reading = overridden overrides read.reading;
  first_long = read.first_long;
  limited = overridden_limited overrides read.limited;
  first = read.first;
}

-- ---- answers

-- The answer that is due to a request, over a base. Export refuses what audit refuses.
abbrev pub due_of : Request → Store ℕ → Sources → Due
due_of (Compose store at) base read = compose_due_of read.first_long base read.reading
due_of (Audit guards store at) base read = audit_due_of base (new_guards guards) read.limited
due_of (Dump at) base read = file_due read.first
due_of (Export store at) base read = audit_due_of base [] read.limited
due_of (Gen count seed) base read = DoneWhole
due_of (Trial count seed) base read = DoneWhole

-- All that a request may write.
abbrev pub whole_from : Request → Store ℕ → Sources → List ℕ
whole_from (Compose store at) base read = whole_output_of base read.reading
whole_from (Audit guards store at) base read = accepted_line_of read.reading.items
whole_from (Dump at) base read = dump_of read.first
whole_from (Export store at) base read = exported_of base read.limited.items
whole_from (Gen count seed) base read = chain_of seed count
whole_from (Trial count seed) base read = trial_line seed count

-- What stands on standard output before the end of the answer.
abbrev pub StandsBeforeOf : Request → Store ℕ → Sources → List ℕ → Type 0
StandsBeforeOf (Compose store at) base read written = IsStoppedOf base read.reading written
StandsBeforeOf (Audit guards store at) base read written = written ≡ []
StandsBeforeOf (Dump at) base read written = IsFrontOf (dump_of read.first) written
StandsBeforeOf (Export store at) base read written =
    IsFrontOf (exported_of base read.limited.items) written
StandsBeforeOf (Gen count seed) base read written = IsFrontOf (chain_of seed count) written
StandsBeforeOf (Trial count seed) base read written = IsFrontOf (trial_line seed count) written

-- What stands there where a command is refused.
abbrev pub StandsRefusedOf : Request → Store ℕ → Sources → List ℕ → Type 0
StandsRefusedOf (Compose store at) base read written = IsStoppedOf base read.reading written
StandsRefusedOf (Audit guards store at) base read written = written ≡ []
StandsRefusedOf (Dump at) base read written = written ≡ dump_of read.first
StandsRefusedOf (Export store at) base read written = written ≡ exported_of base read.limited.items
StandsRefusedOf (Gen count seed) base read written = ⊥
StandsRefusedOf (Trial count seed) base read written = ⊥

-- What stands there where standard output itself failed.
abbrev pub StandsCutOf : Request → Store ℕ → Sources → List ℕ → Type 0
StandsCutOf (Compose store at) base read written = IsStoppedOf base read.reading written
StandsCutOf (Audit guards store at) base read written =
    (audit_due_of base (new_guards guards) read.limited ≡ DoneWhole)
    × IsProperFrontOf (accepted_line_of read.reading.items) written
StandsCutOf (Dump at) base read written = IsFrontOf (dump_of read.first) written
StandsCutOf (Export store at) base read written =
    IsFrontOf (exported_of base read.limited.items) written
StandsCutOf (Gen count seed) base read written = IsFrontOf (chain_of seed count) written
StandsCutOf (Trial count seed) base read written = IsFrontOf (trial_line seed count) written

-- What stands on standard output after an answer that the files decide.
abbrev pub EndSaysOf : Request → Store ℕ → Sources → Due → List ℕ → Type 0
EndSaysOf request base read DoneWhole written = written ≡ whole_from request base read
EndSaysOf request base read (RefusedAt verdict) written = StandsRefusedOf request base read written
EndSaysOf request base read (TooLong file) written = StandsBeforeOf request base read written
EndSaysOf request base read (TooMuch sum) written = StandsBeforeOf request base read written

-- ---- laws

-- Of files of bytes this is what words say of them.
pub record SaysOfFiles (request : Request) (base : Store ℕ) (files : List (List ℕ)) : Type 0 where
  pub due : due_of request base (sources files) ≡ due request base files
  pub whole : whole_from request base (sources files) ≡ whole_of request base files
  pub says : (answer : Due) (written : List ℕ)
      → EndSaysOf request base (sources files) answer written
      ↔ EndSays request base files answer written
  pub before : (written : List ℕ)
      → StandsBeforeOf request base (sources files) written
      ↔ StandsBefore request base files written
  pub cut : (written : List ℕ)
      → StandsCutOf request base (sources files) written ↔ StandsCut request base files written

-- Without overrides nothing changes.
abbrev pub NoOverridesChangeNothing : Type 0
NoOverridesChangeNothing = (read : Sources) → overridden_sources [] read ≡ read

-- The answer that is due to an audit of files with overrides is that of receiving them under its
-- guards, where no file is too long.
abbrev pub OverriddenAuditIsReceiving : Type 0
OverriddenAuditIsReceiving =
    (overrides : Overrides) (guards : List GuardSpec) (store first : ℕ) (base : Store ℕ)
    (files : List (List ℕ)) → too_long files ≡ None
    → due_of (Audit guards store first) base (overridden_sources overrides (sources files))
    ≡ refused_due
    (receive_watched 0 byte_cells base (new_guards guards)
    (overridden overrides (input files))).refused

-- And where one is, it is the first refusal of what stands before the limit of the first such file;
-- and else it names that file.
abbrev pub OverriddenAuditStopsAtLimit : Type 0
OverriddenAuditStopsAtLimit =
    (overrides : Overrides) (guards : List GuardSpec) (store first : ℕ) (base : Store ℕ)
    (files : List (List ℕ)) (n : ℕ)
    (long : IsFirstLong 1 n files)
    → let before : Reading =
    record { items = (input (long.before ++ take limit long.bytes ∷ [])).items; end = Whole } in
    due_of (Audit guards store first) base (overridden_sources overrides (sources files))
    ≡ or_due (option_map RefusedAt
    (receive_watched 0 byte_cells base (new_guards guards)
    (overridden overrides before)).refused) (TooLong n)

-- What compose answers and leaves over one base is what it answers and leaves over another.
pub record EndsAlike (base other : Store ℕ) (read : Sources) : Type 0 where
  pub due : (store first : ℕ)
      → due_of (Compose store first) other read ≡ due_of (Compose store first) base read
  pub says : (store first : ℕ) (answer : Due) (written : List ℕ)
      → EndSaysOf (Compose store first) other read answer written
      ↔ EndSaysOf (Compose store first) base read answer written
  pub before : (store first : ℕ) (written : List ℕ)
      → StandsBeforeOf (Compose store first) other read written
      ↔ StandsBeforeOf (Compose store first) base read written
  pub cut : (store first : ℕ) (written : List ℕ)
      → StandsCutOf (Compose store first) other read written
      ↔ StandsCutOf (Compose store first) base read written
  pub composed : (written : List ℕ)
      → IsComposedOf other read.reading written ↔ IsComposedOf base read.reading written

-- A base without the parts of what was read may stand with the contents of the keys outside alone.
abbrev pub ThinnedEnds : Type 0
ThinnedEnds =
    (keep : Key → Bool) (base : Store ℕ) (read : Sources) → IsApart base read.reading.items
    → KeepsOutside keep read.reading.items
    → EndsAlike base (thinned keep base) read
