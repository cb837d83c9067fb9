-- What is written of an answer.
use Rattle.std.specs.Prelude.{◌≡◌, ⊤, ℕ, List, ◌++◌, Option}
use Rattle.std.specs.Io.KnownBytes.{Appends}
use Rattle.program_model.specs.Answers.{Answer, Done, Refused, Usage, InputFault, OutputFault, StoreFault, NoMemory, NoStore, IsMissing, IsFull, IsThere, IsDamaged, IsTooMuch, IsTooLong, InputChanged}

-- The note of an answer fits in a line on the stack: all but the one that names what is missing.
abbrev pub HasShortNote : Answer → Type 0
HasShortNote (IsMissing what) = ⊥
HasShortNote Done = ⊤
HasShortNote (Refused verdict) = ⊤
HasShortNote Usage = ⊤
HasShortNote InputFault = ⊤
HasShortNote OutputFault = ⊤
HasShortNote StoreFault = ⊤
HasShortNote NoMemory = ⊤
HasShortNote (NoStore group) = ⊤
HasShortNote (IsFull end wanted limit) = ⊤
HasShortNote (IsThere size) = ⊤
HasShortNote (IsDamaged group stored computed) = ⊤
HasShortNote (IsTooMuch sum) = ⊤
HasShortNote (IsTooLong file) = ⊤
HasShortNote (InputChanged file place) = ⊤

-- Some bytes that were to be written are written, and others are still to be.
abbrev pub HandedOn : (before after : List ℕ) → (old new : Option (List ℕ)) → Type 0
HandedOn before after old new =
    (written : List ℕ) × Appends old new written × (written ++ after ≡ before)
