-- What it means that a file is too long, and which one is named. This program's own.
use Rattle.std.specs.Prelude.{◌≡◌, ◌≢◌, ℕ, ◌+◌, ◌<◌, ◌≤◌, true, false, List, [], ◌∷◌, ◌++◌, length, take, None, Some}
use Rattle.send_model.specs.Refusal.{Truncated}
use Rattle.send_model.specs.Reading.{Verdict, Whole, Faulty, reads, input_from}
use Rattle.send_model.specs.Lengths.{limit, is_too_long, too_long_from}
use Rattle.send_model.specs.Due.{AtLimit, limited_from}

-- ---- one file

-- A file is too long where as many bytes of it as are read at the most are there, and these bytes
-- are read whole or are cut short. One that ends before the limit is not, nor is one whose bytes
-- before the limit break a rule.
pub record IsMeasured (number : ℕ) (bytes : List ℕ) : Type 0 where
  pub whole : limit ≤ length bytes → (reads number (take limit bytes)).end ≡ Whole
      → is_too_long number bytes ≡ true
  pub cut : (verdict : Verdict) → limit ≤ length bytes
      → (reads number (take limit bytes)).end ≡ Faulty verdict → verdict.refusal ≡ Truncated
      → is_too_long number bytes ≡ true
  pub short : length bytes < limit → is_too_long number bytes ≡ false
  pub broken : (verdict : Verdict) → (reads number (take limit bytes)).end ≡ Faulty verdict
      → verdict.refusal ≢ Truncated
      → is_too_long number bytes ≡ false

abbrev pub FilesAreMeasured : Type 0
FilesAreMeasured = (number : ℕ) (bytes : List ℕ) → IsMeasured number bytes

-- ---- several files

-- Files from the given number on, none of which is too long, and each of which is read whole.
abbrev pub AreWithin : ℕ → List (List ℕ) → Type 0
AreWithin number [] = Unit {0}
AreWithin number (bytes ∷ files) =
    (is_too_long number bytes ≡ false) × ((reads number bytes).end ≡ Whole)
    × AreWithin (number + 1) files

-- A number is that of a file that is too long, and those before it are not, and are read whole.
pub record IsFirstLong (number n : ℕ) (files : List (List ℕ)) : Type 0 where
  pub before : List (List ℕ)
  pub bytes : List ℕ
  pub after : List (List ℕ)
  pub parts : files ≡ before ++ bytes ∷ after
  pub place : n ≡ number + length before
  pub within : AreWithin number before
  pub long : is_too_long n bytes ≡ true

-- The file that is named is the first long one, and the first long one is named.
abbrev pub NamedIsFirstLong : Type 0
NamedIsFirstLong =
    (number n : ℕ) (files : List (List ℕ)) → too_long_from number files ≡ Some n
    → IsFirstLong number n files

abbrev pub FirstLongIsNamed : Type 0
FirstLongIsNamed =
    (number n : ℕ) (files : List (List ℕ)) → IsFirstLong number n files
    → too_long_from number files ≡ Some n

-- No file is too long, up to the first whose reading ends in a fault.
abbrev pub NoneIsLong : ℕ → List (List ℕ) → Type 0
NoneIsLong number [] = Unit {0}
NoneIsLong number (bytes ∷ files) =
    (is_too_long number bytes ≡ false)
    × ((reads number bytes).end ≡ Whole → NoneIsLong (number + 1) files)

-- Where no file is named, none is too long, and the other way.
abbrev pub UnnamedIsWithin : Type 0
UnnamedIsWithin =
    (number : ℕ) (files : List (List ℕ)) → too_long_from number files ≡ None
    → NoneIsLong number files

abbrev pub WithinIsUnnamed : Type 0
WithinIsUnnamed =
    (number : ℕ) (files : List (List ℕ)) → NoneIsLong number files
    → too_long_from number files ≡ None

-- ---- what is read of them

-- Reading stops at the limit of the file that is named, and of no other.
abbrev pub NamedStopsReading : Type 0
NamedStopsReading =
    (number n : ℕ) (files : List (List ℕ)) → too_long_from number files ≡ Some n
    → (limited_from number files).stop ≡ AtLimit n

abbrev pub StoppedIsNamed : Type 0
StoppedIsNamed =
    (number n : ℕ) (files : List (List ℕ)) → (limited_from number files).stop ≡ AtLimit n
    → too_long_from number files ≡ Some n

-- Before that stand the commands of the files before it, and those of its own bytes before the
-- limit.
abbrev pub ReadToTheLimit : Type 0
ReadToTheLimit = (number n : ℕ) (files : List (List ℕ)) (first : IsFirstLong number n files)
    → (limited_from number files).items
    ≡ (input_from number (first.before ++ take limit first.bytes ∷ [])).items
