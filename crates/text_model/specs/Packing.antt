-- What `pack` answers to a text, and what it writes. A text that is not lawful has one line that is
-- named: the first up to whose end it is not the first lines of a lawful text. This program's own.
use Rattle.std.specs.Prelude.{◌≡◌, ◌⊎◌, ℕ, ◌+◌, ◌^◌, ◌<◌, ◌≤◌, List, [], ◌∷◌, ◌++◌, map, length, take, slice_get, Some, if◌then◌else◌, ◌==◌}
use Rattle.std.specs.List.{concat}
use Rattle.send_model.specs.Refusal.{BadText}
use Rattle.send_model.specs.Reading.{Verdict}
use Rattle.send_model.specs.Lengths.{limit}
use Rattle.send_model.specs.Headline.{IsFrontOf, IsProperFrontOf}
use Rattle.send_model.specs.Due.{Due, DoneWhole, RefusedAt, TooLong, TooMuch}
use Rattle.text_model.specs.Texts.{Line, Stream, line_text, lines_of_streams, bytes_of_lines, AreStreams, IsText, packed_of}

-- ---- lines of bytes

-- A byte in front of the first line, if there is one.
abbrev pub onto_first : ℕ → List (List ℕ) → List (List ℕ)
onto_first byte [] = (byte ∷ []) ∷ []
onto_first byte (line ∷ lines) = (byte ∷ line) ∷ lines

-- Bytes are cut behind each newline. What stands behind the last one is a line too, if it has
-- bytes; it is not a whole one.
unfoldable pub lines_of : List ℕ → List (List ℕ)
lines_of [] = []
lines_of (byte ∷ bytes) =
    if byte == 0x0a then (0x0a ∷ []) ∷ lines_of bytes else onto_first byte (lines_of bytes)

-- ---- the line that is named

-- These are the first lines of a lawful text: those of some streams, and what else these have.
pub record BeginsText (front : List (List ℕ)) : Type 0 where
  pub streams : List Stream
  pub lawful : AreStreams streams
  pub lines : List Line
  pub rest : List Line
  pub all : lines_of_streams streams ≡ lines ++ rest
  pub texts : front ≡ map line_text lines

-- The first lines of bytes, so many.
abbrev pub first_lines : ℕ → List ℕ → List (List ℕ)
first_lines count bytes = take count (lines_of bytes)

-- The line behind so many is wrong: these are the first lines of a lawful text, and with it they
-- are not; or there is no such line, and something is missing at the end.
pub record IsBadLine (bytes : List ℕ) (before : ℕ) : Type 0 where
  pub among : before ≤ length (lines_of bytes)
  pub front : BeginsText (first_lines before bytes)
  pub wrong : before < length (lines_of bytes) → BeginsText (first_lines (before + 1) bytes) → ⊥
  pub missing : before ≡ length (lines_of bytes) → IsText bytes → ⊥

-- Where a line begins.
abbrev pub place_of_line : ℕ → List ℕ → ℕ
place_of_line before bytes = length (concat (first_lines before bytes))

-- The verdict on it: its number, counted from 1, and the place of its first byte.
abbrev pub bad_text : ℕ → List ℕ → Verdict
bad_text before bytes =
    record {
      file = 1;
      command = before + 1;
      offset = place_of_line before bytes;
      refusal = BadText;
    }

-- ---- long lines and long files

-- No line of a lawful text has more bytes.
abbrev pub longest_line : ℕ
longest_line = 2 ^ 21

-- A line that ends, or passes 2^21 bytes, within the first 2^62 bytes.
pub record IsMet (bytes : List ℕ) (before : ℕ) (line : List ℕ) : Type 0 where
  pub line_is : slice_get (lines_of bytes) before ≡ Some line
  pub ends_or_passes :
      ((place_of_line (before + 1) bytes ≤ limit) × ((text : List ℕ) × (line ≡ text ++ 0x0a ∷ [])))
      ⊎ ((longest_line < length line) × (place_of_line before bytes + longest_line < limit))

-- A file of 2^62 bytes or more is too long where each such line is right.
pub record IsTooLongText (bytes : List ℕ) : Type 0 where
  pub long : limit ≤ length bytes
  pub right : (before : ℕ) (line : List ℕ) → IsMet bytes before line
      → BeginsText (first_lines (before + 1) bytes)

-- A wrong line is named where the file is short enough to be read to its end, or the line is met
-- before that.
abbrev pub IsNamed : List ℕ → ℕ → Type 0
IsNamed bytes before = (length bytes < limit) ⊎ ((line : List ℕ) × IsMet bytes before line)

-- ---- answers

-- The answer that is due to a text.
abbrev pub IsPackDue : List ℕ → Due → Type 0
IsPackDue bytes DoneWhole = (length bytes < limit) × IsText bytes
IsPackDue bytes (RefusedAt verdict) =
    (before : ℕ) × IsBadLine bytes before × IsNamed bytes before × (verdict ≡ bad_text before bytes)
IsPackDue bytes (TooLong file) = (file ≡ 1) × IsTooLongText bytes
IsPackDue bytes (TooMuch sum) = ⊥

-- The bytes that first lines of a lawful text stand for.
abbrev pub Packs : List (List ℕ) → List ℕ → Type 0
Packs front written = (b : BeginsText front) × (written ≡ bytes_of_lines b.lines)

-- What was written where something else ended the call: of a lawful text not all, and of another
-- one what stands before the line that is named, or a front part of it.
pub record IsPackedPart (bytes written : List ℕ) : Type 0 where
  pub lawful : (t : IsText bytes) → IsProperFrontOf (packed_of t.streams) written
  pub other : (before : ℕ) (b : IsBadLine bytes before)
      → IsFrontOf (bytes_of_lines b.front.lines) written

-- What was written where the text decides.
abbrev pub PackSays : List ℕ → Due → List ℕ → Type 0
PackSays bytes DoneWhole written = (t : IsText bytes) × (written ≡ packed_of t.streams)
PackSays bytes (RefusedAt verdict) written =
    (before : ℕ) × (verdict ≡ bad_text before bytes) × Packs (first_lines before bytes) written
PackSays bytes (TooLong file) written = IsPackedPart bytes written
PackSays bytes (TooMuch sum) written = ⊥
