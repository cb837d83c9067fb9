-- What is found out of a line: which command it names, and whether it may stand where it does.
use Rattle.std.specs.Prelude.{◌≡◌, ℕ, ◌≤◌, Bool, true, false, List, [], ◌∷◌, ◌++◌, length, Option, None, Some}
use Rattle.send_model.specs.Attribute.{Field, FieldsFit}
use Rattle.send_model.specs.Command.{Kind, END, row}
use Rattle.send_model.specs.Spelling.{IsKnown, with_fields, body_of, frame_of, greatest_body}
use Rattle.send_model.specs.Lines.{stream_line, values_with}
use Rattle.send_model.specs.Printed.{hex_bytes}
use Rattle.send_model.specs.Reading.{is_version}
use Rattle.text_model.specs.FieldForms.{AreFormed}
use Rattle.text_model.specs.Texts.{Line, line_text, line_bytes}
use Rattle.text_model.specs.LineOrder.{IsDueLine, due_after_line}

-- The command of a version with this name; or no command of it has the name.
abbrev pub KindNamed : ℕ → List ℕ → Option Kind → Type 0
KindNamed version name (Some kind) = IsKnown version kind × ((row kind).name ≡ name)
KindNamed version name None = (kind : Kind) → IsKnown version kind → (row kind).name ≡ name → ⊥

-- The version that the line of a stream says, which is given without its newline; or it is none.
abbrev pub HeaderRead : List ℕ → Option ℕ → Type 0
HeaderRead text (Some version) =
    (is_version version ≡ true) × (stream_line version ≡ text ++ 0x0a ∷ [])
HeaderRead text None = (version : ℕ) → is_version version ≡ true
    → stream_line version ≡ text ++ 0x0a ∷ [] → ⊥

-- What is due behind a command of a kind.
abbrev pub due_of : ℕ → Kind → Option ℕ
due_of version END = None
due_of version kind = Some version

-- A line may stand here, whose text with a newline behind it this is, and its bytes were added; or
-- no line with this text may, and nothing was.
abbrev pub TakesLine : (due : Option ℕ) (text old new : List ℕ) (due_now : Option ℕ) → Bool → Type 0
TakesLine due text old new due_now true =
    (line : Line) × IsDueLine due line × (line_text line ≡ text ++ 0x0a ∷ [])
    × (new ≡ old ++ line_bytes line) × (due_now ≡ due_after_line line)
TakesLine due text old new due_now false =
    ((line : Line) → IsDueLine due line → line_text line ≡ text ++ 0x0a ∷ [] → ⊥) × (new ≡ old)
    × (due_now ≡ due)

-- The frame of a command of a kind with the values that the text says was added; or the text is not
-- that of values with which a frame is short enough, and nothing was.
abbrev pub AddsFrame : (version : ℕ) (kind : Kind) (text old new : List ℕ) → Bool → Type 0
AddsFrame version kind text old new true =
    (fields : List Field) × AreFormed (row kind).wanted fields
    × FieldsFit version (row kind).wanted fields
    × (values_with hex_bytes (row kind).wanted fields ≡ text)
    × (length (body_of version (with_fields (row kind).wanted fields)) ≤ greatest_body)
    × (new ≡ old
    ++ frame_of (row kind).number (body_of version (with_fields (row kind).wanted fields)))
AddsFrame version kind text old new false =
    ((fields : List Field) → AreFormed (row kind).wanted fields
    → FieldsFit version (row kind).wanted fields
    → values_with hex_bytes (row kind).wanted fields ≡ text
    → length (body_of version (with_fields (row kind).wanted fields)) ≤ greatest_body → ⊥)
    × (new ≡ old)
