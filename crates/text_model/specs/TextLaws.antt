-- What the definitions of texts mean together. This program's own.
use Rattle.std.specs.Prelude.{◌≡◌, ℕ, ◌≤◌, List, [], ◌∷◌, ◌++◌, length}
use Rattle.send_model.specs.Attribute.{IsBytes}
use Rattle.send_model.specs.Reading.{Whole, reads}
use Rattle.send_model.specs.Due.{Due}
use Rattle.text_model.specs.Texts.{Stream, text_of, packed_of, AreStreams, IsText, text_in, canonical_in}
use Rattle.text_model.specs.Packing.{BeginsText, IsBadLine, longest_line, IsPackDue}

-- A text is that of one list of streams; and first lines say one thing, so what `pack` writes for
-- them is determined.
abbrev pub TextHasOneReading : Type 0
TextHasOneReading =
    (streams others : List Stream) → AreStreams streams → AreStreams others
    → text_of streams ≡ text_of others → streams ≡ others

abbrev pub FrontHasOneReading : Type 0
FrontHasOneReading = (front : List (List ℕ)) (b c : BeginsText front) → b.lines ≡ c.lines

-- A text is lawful or one line is named, and never both.
abbrev pub LawfulIsNotBad : Type 0
LawfulIsNotBad = (bytes : List ℕ) (before : ℕ) → IsText bytes → IsBadLine bytes before → ⊥

abbrev pub OneLineIsBad : Type 0
OneLineIsBad =
    (bytes : List ℕ) (before other : ℕ) → IsBadLine bytes before → IsBadLine bytes other
    → before ≡ other

abbrev pub SomeLineIsBad : Type 0
SomeLineIsBad =
    (bytes : List ℕ) → (IsText bytes → ⊥) → ((before : ℕ) → IsBadLine bytes before → ⊥) → ⊥

-- One answer is due.
abbrev pub OneIsDue : Type 0
OneIsDue = (bytes : List ℕ) (due other : Due) → IsPackDue bytes due → IsPackDue bytes other
    → due ≡ other

-- No line of a lawful text has more than 2^21 bytes.
abbrev pub LinesAreShort : Type 0
LinesAreShort =
    (front : List (List ℕ)) (line : List ℕ) → BeginsText (front ++ line ∷ [])
    → length line ≤ longest_line

-- What is packed of streams is read whole, and its text is theirs: so `text` of what `pack` made of
-- a text is that text.
abbrev pub PackedIsRead : Type 0
PackedIsRead =
    (streams : List Stream) → AreStreams streams
    → ((reads 1 (packed_of streams)).end ≡ Whole) × (text_in (packed_of streams) ≡ text_of streams)

-- The text of a file that is read whole is lawful, and its streams are the file's, in their
-- canonical spelling: so `pack` of `text` of a file is its canonical bytes.
abbrev pub WholeHasText : Type 0
WholeHasText =
    (bytes : List ℕ) → IsBytes bytes → (reads 1 bytes).end ≡ Whole
    → (t : IsText (text_in bytes)) × (packed_of t.streams ≡ canonical_in bytes)
