-- What is written of a file, command by command, in a form that is given: the bytes of a command
-- that begins a stream, and of one that does not.
use Rattle.std.specs.Prelude.{◌≡◌, ℕ, Bool, true, List, [], ◌∷◌, ◌++◌, if◌then◌else◌}
use Rattle.send_model.specs.Reading.{Item, reads}
use Rattle.send_model.specs.Counts.{is_end}
use Rattle.send_model.specs.Lines.{stream_line, command_line}
use Rattle.send_model.specs.Headline.{IsFrontOf}
use Rattle.send_model.specs.Due.{Due, DoneWhole, RefusedAt, TooLong, TooMuch, file_due}
use Rattle.sx_base.specs.Calls.{EndsAs}
use Rattle.sx_base.specs.declared.outcome.Outcome.{Outcome}

-- The bytes of items, of which the first begins a stream or does not.
unfoldable pub pieces_from : (Bool → Item → List ℕ) → Bool → List Item → List ℕ
pieces_from piece begins [] = []
pieces_from piece begins (item ∷ items) =
    piece begins item ++ pieces_from piece (is_end item.command) items

-- All that is written of a file: the bytes of all that is read of it.
unfoldable pub written_of : (Bool → Item → List ℕ) → List ℕ → List ℕ
written_of piece bytes = pieces_from piece true (reads 1 bytes).items

-- What stands there after an answer that the file decides.
abbrev pub StandsAs : List ℕ → Due → List ℕ → Type 0
StandsAs all DoneWhole written = written ≡ all
StandsAs all (RefusedAt verdict) written = written ≡ all
StandsAs all (TooLong file) written = IsFrontOf all written
StandsAs all (TooMuch sum) written = IsFrontOf all written

-- The answer that is due to the file, and its bytes: all of them where the file decides, and a
-- front part of them where something else ends the call.
abbrev pub WritesFile : (Bool → Item → List ℕ) → List ℕ → Outcome → List ℕ → Type 0
WritesFile piece bytes outcome written =
    EndsAs (file_due bytes) (StandsAs (written_of piece bytes)) (IsFrontOf (written_of piece bytes))
    (IsFrontOf (written_of piece bytes)) outcome written

-- The lines that a command adds to a dump.
abbrev pub dump_lines : Bool → Item → List ℕ
dump_lines begins item = (if begins then stream_line item.version else []) ++ command_line item
