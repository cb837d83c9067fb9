-- What a run says of how far it is, on one line of a terminal. This program's own.
use Rattle.std.specs.Prelude.{ℕ, ◌+◌, ◌-◌, ◌*◌, ◌/◌, ◌%◌, ◌^◌, nat_lt, List, [], ◌∷◌, ◌++◌, take, drop, length, codes, decimal, Bool, not, ◌&&◌, ◌||◌, if◌then◌else◌, min, Option, None, Some}
use Rattle.std.specs.Io.KnownBytes.{Appends}
use Rattle.send_model.specs.Printed.{escaped}

-- ---- the line

-- The bytes of the greatest unit in which a number is one at least; below all of them the least.
unfoldable pub unit_of : ℕ → ℕ
unit_of n = if nat_lt n (2 ^ 20) then 2 ^ 10 else if nat_lt n (2 ^ 30) then 2 ^ 20 else if nat_lt n
    (2 ^ 40) then 2 ^ 30 else 2 ^ 40

-- The name of this unit.
unfoldable pub unit_name : ℕ → List ℕ
unit_name n =
    if nat_lt n (2 ^ 20) then codes " KiB" else if nat_lt n
    (2 ^ 30) then codes " MiB" else if nat_lt n (2 ^ 40) then codes " GiB" else codes " TiB"

-- So many bytes in units, with one digit behind the point, rounded down.
abbrev pub amount : (unit n : ℕ) → List ℕ
amount unit n = decimal (n / unit) ++ codes "." ++ decimal (n % unit * 10 / unit)

-- The bytes read, and of how many where this is known.
abbrev pub amounts : ℕ → Option ℕ → List ℕ
amounts done None = amount (unit_of done) done ++ unit_name done
amounts done (Some all) =
    amount (unit_of all) done ++ codes " of " ++ amount (unit_of all) all ++ unit_name all

-- A text of 30 bytes at the most, and of a longer one the last 27 bytes behind three points.
unfoldable pub ending : List ℕ → List ℕ
ending text = if nat_lt 30 (length text) then codes "..." ++ drop (length text - 27) text else text

-- The text: of the escaped name 30 bytes at the most, those at its end, and 79 of all.
abbrev pub text_of : (name : List ℕ) (pass done : ℕ) → Option ℕ → List ℕ
text_of name pass done all =
    take 79 (codes "btrsend: reading " ++ ending (escaped name) ++ codes ", pass " ++ decimal pass
    ++ codes ", " ++ amounts done all)

-- What clears the line from the cursor on.
abbrev pub clears : List ℕ
clears = 27 ∷ codes "[K"

-- The line: back to its first column, the text, and nothing behind it.
abbrev pub line_of : (name : List ℕ) (pass done : ℕ) → Option ℕ → List ℕ
line_of name pass done all = 13 ∷ [] ++ text_of name pass done all ++ clears

-- What takes the line back.
abbrev pub taken_back : List ℕ
taken_back = 13 ∷ [] ++ clears

-- A terminal took the first bytes of a line, or all, or none.
abbrev pub Shows : Option (List ℕ) → Option (List ℕ) → (line : List ℕ) → Type 0
Shows old new line = (count : ℕ) × Appends old new (take count line)

-- ---- what is counted

-- A read from place 0 of the first file begins a pass where a file has ended in the one before.
abbrev pub next_pass : (at_start ended : Bool) → ℕ → ℕ
next_pass at_start ended pass = if at_start && ended then min (pass + 1) (2 ^ 64 - 1) else pass

-- The bytes of the pass, with those of a read.
abbrev pub next_done : (at_start ended : Bool) (count : ℕ) → ℕ → ℕ
next_done at_start ended count done =
    min ((if at_start && ended then 0 else done) + count) (2 ^ 64 - 1)

-- Whether a file has ended in the pass.
abbrev pub next_ended : (at_start at_end : Bool) → Bool → Bool
next_ended at_start at_end ended = at_end || (ended && not at_start)
