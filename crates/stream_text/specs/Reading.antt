-- The lines of a file, as it is read piece by piece.
use Rattle.std.specs.Prelude.{◌≡◌, ⊤, ℕ, ◌+◌, ◌-◌, ◌<◌, ◌≤◌, List, ◌++◌, length, take, drop, Option, Result, Ok, Err}
use Rattle.std.specs.String.{string_bytes}
use Rattle.send_model.specs.Lengths.{limit}
use Rattle.sx_base.specs.Causes.{Rose}
use Rattle.stream_text.specs.declared.line_reader.Front.{Front}
use Rattle.stream_text.specs.declared.line_reader.Front.TheVariants as front
use Rattle.stream_text.specs.declared.line_reader.LineFault.{LineFault}
use Rattle.stream_text.specs.declared.line_reader.LineFault.TheVariants as fault
use Rattle.stream_text.specs.declared.line_reader.LineReader.{LineReader}
use Rattle.stream_text.specs.Lines.{HasNoLine, IsLineIn, IfFile}

-- The bytes that were read and not passed.
abbrev pub held : LineReader → List ℕ
held r = take (r.end - r.from) (drop r.from r.room.items)

-- The place up to which the file was read.
abbrev pub fed : LineReader → ℕ
fed r = r.at + (r.end - r.from)

-- They stand in the room, the place is not behind the limit, and each line before had a byte.
pub record IsReader (r : LineReader) : Type 0 where
  pub room : length r.room.items ≡ 2_097_153
  pub low : r.from ≤ r.end
  pub high : r.end ≤ 2_097_153
  pub within : fed r ≤ limit
  pub few : r.number ≤ r.at

-- The same file, and the same line of it.
pub record IsOfSame (old new : LineReader) : Type 0 where
  pub name : new.name ≡ old.name
  pub at : new.at ≡ old.at
  pub number : new.number ≡ old.number

-- The inputs failed, where there is no answer.
abbrev pub IsInputFault : {T : Type 0} → (before now : ℕ) → Result T LineFault → Type 0
IsInputFault before now (Ok done) = ⊤
IsInputFault before now (Err fault.InputFault) = Rose before now
IsInputFault before now (Err fault.InputTooLong) = ⊥

-- The file ends at a place before the limit.
abbrev pub EndsAt : Option (List (List ℕ × List ℕ)) → List ℕ → ℕ → Type 0
EndsAt told name place = (place < limit) × IfFile told name (λ file. length file ≡ place)

-- More bytes of the file were read, and there is none only where it ends; or none was.
abbrev pub ReadsMore : Option (List (List ℕ × List ℕ)) → (old new : LineReader) → (before now : ℕ)
    → Result ℕ LineFault → Type 0
ReadsMore told old new before now (Ok count) =
    (piece : List ℕ) × (length piece ≡ count) × (held new ≡ held old ++ piece)
    × (count ≡ 0 → EndsAt told (string_bytes old.name) (fed old))
ReadsMore told old new before now (Err fault.InputFault) = Rose before now
ReadsMore told old new before now (Err fault.InputTooLong) =
    (held new ≡ held old) × (fed old ≡ limit)

-- What stands in front of the bytes that were not passed, or why more than these can't be read.
abbrev pub LookSays : Option (List (List ℕ × List ℕ)) → LineReader → (before now : ℕ)
    → Result Front LineFault → Type 0
LookSays told r before now (Ok (front.Line len)) = IsLineIn (held r) len
LookSays told r before now (Ok front.Long) = HasNoLine (held r) × (length (held r) ≡ 2_097_153)
LookSays told r before now (Ok front.End) =
    HasNoLine (held r) × EndsAt told (string_bytes r.name) (fed r)
LookSays told r before now (Err fault.InputFault) = Rose before now
LookSays told r before now (Err fault.InputTooLong) =
    HasNoLine (held r) × (length (held r) < 2_097_153) × (fed r ≡ limit)
