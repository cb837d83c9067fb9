-- Streams as text: a line for each stream and one for each command, as `dump` has them but without
-- numbers and places, and with contents in full. A text that `pack` takes is that of one or more
-- whole streams; there is one for them. This program's own.
use Rattle.std.specs.Prelude.{◌≡◌, ◌≢◌, ℕ, Bool, true, List, [], ◌∷◌, ◌++◌, map, if◌then◌else◌}
use Rattle.std.specs.List.{flat_map, AllByRecursion}
use Rattle.send_model.specs.Command.{Command, End, row, kind_of, fields_of}
use Rattle.send_model.specs.Spelling.{stream_header, canonical}
use Rattle.send_model.specs.Reading.{Item, is_version, reads}
use Rattle.send_model.specs.Counts.{is_end}
use Rattle.send_model.specs.Printed.{hex_bytes}
use Rattle.send_model.specs.Lines.{values_with, stream_line}
use Rattle.send_model.specs.Laws.{AreInner}

-- ---- lines

-- A command's line: its name, and its values in the order of its wanted attributes; contents are
-- two lower hexadecimal digits for each byte.
unfoldable pub text_line : Command → List ℕ
text_line command =
    (row (kind_of command)).name
    ++ values_with hex_bytes (row (kind_of command)).wanted (fields_of command) ++ 0x0a ∷ []

-- What a line says: that a stream of a version begins, or a command of a stream of a version.
pub data Line : Type 0 where
  Header : (version : ℕ) → Line
  Says : (version : ℕ) → Command → Line

-- Its text, and the bytes that it stands for.
abbrev pub line_text : Line → List ℕ
line_text (Header version) = stream_line version
line_text (Says version command) = text_line command

abbrev pub line_bytes : Line → List ℕ
line_bytes (Header version) = stream_header version
line_bytes (Says version command) = canonical version command

-- ---- texts of streams

-- A stream: its version, and its commands without the END that is the last.
pub record Stream : Type 0 where
  pub version : ℕ
  pub commands : List Command

-- A stream that can be said: of a version that is read, its commands are of that version and no
-- END, attributes have room for their values, bodies are short enough, and times have less than a
-- second of nanoseconds.
pub record IsStream (s : Stream) : Type 0 where
  pub version : is_version s.version ≡ true
  pub commands : AreInner s.version s.commands

-- Its lines, END last.
abbrev pub stream_lines : Stream → List Line
stream_lines s = Header s.version ∷ map (Says s.version) (s.commands ++ End ∷ [])

abbrev pub lines_of_streams : List Stream → List Line
lines_of_streams streams = flat_map stream_lines streams

-- The text of lines, and the bytes that they stand for: headers, and commands in their canonical
-- spelling.
abbrev pub text_of_lines : List Line → List ℕ
text_of_lines lines = flat_map line_text lines

abbrev pub bytes_of_lines : List Line → List ℕ
bytes_of_lines lines = flat_map line_bytes lines

abbrev pub text_of : List Stream → List ℕ
text_of streams = text_of_lines (lines_of_streams streams)

abbrev pub packed_of : List Stream → List ℕ
packed_of streams = bytes_of_lines (lines_of_streams streams)

-- One or more streams that can be said.
pub record AreStreams (streams : List Stream) : Type 0 where
  pub some : streams ≢ []
  pub each : AllByRecursion IsStream streams

-- A lawful text is that of one or more streams.
pub record IsText (bytes : List ℕ) : Type 0 where
  pub streams : List Stream
  pub lawful : AreStreams streams
  pub text : bytes ≡ text_of streams

-- ---- what `text` prints of a file

-- The lines of items, of which the first begins a stream or does not.
abbrev pub item_lines : Bool → Item → List ℕ
item_lines begins item = (if begins then stream_line item.version else []) ++ text_line item.command

unfoldable pub text_from : Bool → List Item → List ℕ
text_from begins [] = []
text_from begins (item ∷ items) = item_lines begins item ++ text_from (is_end item.command) items

-- The lines of all that is read of a file.
unfoldable pub text_in : List ℕ → List ℕ
text_in bytes = text_from true (reads 1 bytes).items

-- The canonical bytes of items: the header of each stream, and each command in its canonical
-- spelling.
unfoldable pub canonical_from : Bool → List Item → List ℕ
canonical_from begins [] = []
canonical_from begins (item ∷ items) =
    (if begins then stream_header item.version else []) ++ canonical item.version item.command
    ++ canonical_from (is_end item.command) items

-- Those of a file.
unfoldable pub canonical_in : List ℕ → List ℕ
canonical_in bytes = canonical_from true (reads 1 bytes).items
