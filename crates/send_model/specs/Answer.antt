-- How the program answers: the exit status and the line on standard error. They are this program's
-- own.
use Rattle.std.specs.Prelude.{ℕ, ◌-◌, false, List, [], ◌∷◌, ◌++◌, length, replicate, codes}
use Rattle.std.specs.Fmt.{decimal, digits}
use Rattle.send_model.specs.Refusal.{Refusal, refusal_number, refusal_name, BadMagic, BadVersion, Truncated, LongCommand, BadChecksum, UnknownCommand, BadAttribute, MissingAttribute, NoSubvolume, BadName, NameThere, UuidThere, NoParent, BadPath, NoEntry, NotDirectory, EntryThere, IsDirectory, NotEmpty, IntoItself, NotFile, BadXattr, NoXattr, BadDevice, BadTime, IsRoot, FileTooBig, NoSource, BadRange, Unaligned, Overlap, Encoded, Guarded, BadFallocate, NotConsecutive, NotBuilt, BadText, NoNumber}
use Rattle.send_model.specs.Reading.{Verdict}

-- How a run answers.
pub data Answer : Type 0 where
  Done : Answer
  Refused : Verdict → Answer
  Usage : Answer
  InputFault : Answer
  OutputFault : Answer
  NoMemory : Answer
  InputTooLong : (file : ℕ) → Answer
  TooMuch : (sum : ℕ) → Answer
  InputChanged : (file place : ℕ) → Answer

unfoldable pub status_of : Answer → ℕ
status_of Done = 0
status_of (Refused verdict) = 1
status_of Usage = 2
status_of InputFault = 3
status_of OutputFault = 4
status_of NoMemory = 7
status_of (TooMuch sum) = 9
status_of (InputTooLong file) = 11
status_of (InputChanged file place) = 13

-- A checksum in eight lower hexadecimal digits.
unfoldable pub eight_digits : ℕ → List ℕ
eight_digits n = replicate (8 - length (digits 16 false n)) 48 ++ digits 16 false n

-- A field after a space.
abbrev pub and_field : List ℕ → List ℕ
and_field text = 32 ∷ text

abbrev pub and_number : ℕ → List ℕ
and_number n = and_field (decimal n)

-- The values that a refusal keeps, as a note prints them.
unfoldable pub kept_values : Refusal → List ℕ
kept_values (BadVersion version) = and_number version
kept_values (LongCommand len) = and_number len
kept_values (BadChecksum stored computed) =
    and_field (eight_digits stored) ++ and_field (eight_digits computed)
kept_values (UnknownCommand number) = and_number number
kept_values (BadAttribute kind) = and_number kind
kept_values (MissingAttribute kind) = and_number kind
kept_values (NotBuilt number) = and_number number
kept_values (Guarded guard used) = and_number guard ++ and_number used
kept_values (BadFallocate mode) = and_number mode
kept_values BadMagic = []
kept_values Truncated = []
kept_values NoSubvolume = []
kept_values BadName = []
kept_values NameThere = []
kept_values UuidThere = []
kept_values NoParent = []
kept_values BadPath = []
kept_values NoEntry = []
kept_values NotDirectory = []
kept_values EntryThere = []
kept_values IsDirectory = []
kept_values NotEmpty = []
kept_values IntoItself = []
kept_values NotFile = []
kept_values BadXattr = []
kept_values NoXattr = []
kept_values BadDevice = []
kept_values BadTime = []
kept_values IsRoot = []
kept_values FileTooBig = []
kept_values NoSource = []
kept_values BadRange = []
kept_values Unaligned = []
kept_values Overlap = []
kept_values Encoded = []
kept_values NotConsecutive = []
kept_values BadText = []
kept_values NoNumber = []

unfoldable pub verdict_text : Verdict → List ℕ
verdict_text v = codes "refused" ++ and_number v.file ++ and_number v.command ++ and_number v.offset
    ++ and_number (refusal_number v.refusal) ++ and_field (refusal_name v.refusal)
    ++ kept_values v.refusal

abbrev pub line : List ℕ → List ℕ
line text = text ++ 10 ∷ []

-- The line on standard error: nothing where all went well.
unfoldable pub note_of : Answer → List ℕ
note_of Done = []
note_of (Refused verdict) = line (verdict_text verdict)
note_of Usage = line (codes "usage")
note_of InputFault = line (codes "input fault")
note_of OutputFault = line (codes "output fault")
note_of NoMemory = line (codes "no memory")
note_of (TooMuch sum) = line (codes "too much" ++ and_number sum)
note_of (InputTooLong file) = line (codes "input too long" ++ and_number file)
note_of (InputChanged file place) =
    line (codes "input changed" ++ and_number file ++ and_number place)
