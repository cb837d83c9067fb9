-- A reader that stands somewhere in a file, and what is left to read from there.
use Rattle.std.specs.Prelude.{◌≡◌, ◌≤◌, ℕ, suc, ◌+◌, Bool, true, false, ◌&&◌, List, [], ◌∷◌, length, drop, if◌then◌else◌}
use Rattle.send_model.specs.Reading.{Reading, Due, HeaderDue, CommandDue, ended, reads_from}
use Rattle.tlv_frame.specs.Feeding.{Fed, unfed}
use Rattle.cmd_reader.specs.declared.source.Source.{Source}
use Rattle.cmd_reader.specs.Sources.{IsSource, IsAhead}

-- The file's number and name, the number of the next command, the place in the file, and the bytes
-- that were given from there on, with what is due.
pub record Reader : Type 0 where
  pub file : ℕ
  pub name : List ℕ
  pub number : ℕ
  pub offset : ℕ
  pub fed : Fed

-- Up to where it was given the file.
abbrev pub read_to : Reader → ℕ
read_to r = r.offset + length r.fed.left

-- A reader at the start of a file.
abbrev pub at_start : ℕ → List ℕ → Reader
at_start file name = record { file = file; name = name; number = 1; offset = 0; fed = unfed }

abbrev pub is_header_due : Due → Bool
is_header_due HeaderDue = true
is_header_due (CommandDue version) = false

abbrev pub is_empty : List ℕ → Bool
is_empty [] = true
is_empty (b ∷ bytes) = false

-- What is left to read of a file from a place on. It may end where a stream has ended.
abbrev pub left_from : ℕ → Due → Bool → ℕ → ℕ → List ℕ → Reading
left_from number_of_file due has_ended number offset file =
    if (is_header_due due && has_ended) && is_empty (drop offset file) then ended
    else reads_from (suc (length (drop offset file))) number_of_file due number offset
    (drop offset file)

-- What is left to a reader.
unfoldable pub left : Reader → List ℕ → Reading
left r file = left_from r.file r.fed.due r.fed.ended r.number r.offset file

-- The bytes that a reader was given are the file's from its place on.
abbrev pub HasAhead : Reader → List ℕ → Type 0
HasAhead r file = IsAhead r.offset r.fed file

-- A reader's numbers: commands are counted from 1 and none is empty; and a header is due where a
-- stream has ended.
pub record IsReader (source : Source) (number : ℕ) : Type 0 where
  pub first : 1 ≤ number
  pub count : number ≤ source.at + 1
  pub source_is : IsSource source
  pub at_end : source.feed.ended ≡ true → source.feed.due ≡ HeaderDue
