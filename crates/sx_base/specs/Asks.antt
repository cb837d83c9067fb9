-- What is asked of named files: which file, from which place on, and for how many bytes; and what
-- it means that files are read once, twice or in turn. This program's own.
use Rattle.std.specs.Prelude.{◌≡◌, ⊤, ℕ, ◌+◌, ◌<◌, ◌≤◌, Bool, false, true, not, List, [], ◌∷◌, ◌++◌, length, get_or, set, Option, None, Some, Result, Ok, Err}
use Rattle.std.specs.List.{AllByRecursion, filter}
use Rattle.send_model.specs.Reading.{Item, reads}
use Rattle.send_model.specs.Receive.{bytes_of}
use Rattle.sx_base.specs.Again.{LiesIn}
use Rattle.sx_base.specs.Outside.{file_at}

-- A call: the name of the file, the place, how many bytes came of those that had not been read, or
-- were asked for of those that had, and which of both it was.
pub record Ask : Type 0 where
  pub name : List ℕ
  pub place : ℕ
  pub count : ℕ
  pub again : Bool

-- How many bytes a read gave: none where it failed.
abbrev pub came : {E : Type 0} → Result ℕ E → ℕ
came (Ok count) = count
came (Err why) = 0

abbrev pub ask : List ℕ → ℕ → ℕ → Ask
ask name place count = record { name = name; place = place; count = count; again = false }

abbrev pub ask_again : List ℕ → ℕ → ℕ → Ask
ask_again name place count = record { name = name; place = place; count = count; again = true }

-- Whatever may have been asked before the call, this may have been asked behind it.
abbrev pub Adds : (before now : List Ask → Type 0) → Ask → Type 0
Adds before now the_ask = (asks : List Ask) → before asks → now (asks ++ the_ask ∷ [])

-- ---- files that are read once

-- A file is read on from one place to another: each call asks from where the one before it ended.
unfoldable pub IsReadOn : (name : List ℕ) (from : ℕ) (asks : List Ask) (to : ℕ) → Type 0
IsReadOn name from [] to = to ≡ from
IsReadOn name from (a ∷ asks) to =
    (a ≡ ask name from a.count) × IsReadOn name (from + a.count) asks to

-- A file is read once, from its front on, as far as it is read at all.
abbrev pub IsReadOnce : (name : List ℕ) (asks : List Ask) → Type 0
IsReadOnce name asks = (to : ℕ) × IsReadOn name 0 asks to

-- Files are read once, one after the other in their order.
unfoldable pub AreReadOnce : (names : List (List ℕ)) (asks : List Ask) → Type 0
AreReadOnce [] asks = asks ≡ []
AreReadOnce (name ∷ names) asks =
    (first rest : List Ask) × (asks ≡ first ++ rest) × IsReadOnce name first
    × AreReadOnce names rest

-- ---- files that are read twice, and of which data are read again

-- The calls that ask for bytes that had not been read.
abbrev pub first_asks : List Ask → List Ask
first_asks asks = filter (λ a. not a.again) asks

-- A byte of a file, counted from 1, is one of the data of a command that is read of it.
pub record IsData (file : ℕ) (bytes : List ℕ) (place : ℕ) : Type 0 where
  pub before : List Item
  pub item : Item
  pub after : List Item
  pub read : (reads file bytes).items ≡ before ++ item ∷ after
  pub from : item.data_at ≤ place
  pub within : place < item.data_at + length (bytes_of item.command)

-- So is each byte of a range, where the inputs tell.
abbrev pub AreData : Option (List (List ℕ × List ℕ)) → (file : ℕ) → List ℕ → ℕ → ℕ → Type 0
AreData None file name place count = ⊤
AreData (Some files) file name place count =
    (k : ℕ) → k < count → IsData file (file_at files name) (place + k)

-- A range of data of one of these files, where the inputs tell.
abbrev pub IsRangeIn : Option (List (List ℕ × List ℕ)) → (names : List (List ℕ)) → Ask → Type 0
IsRangeIn told names a =
    (n : ℕ) × (n < length names) × (a.name ≡ get_or names n []) × LiesIn told a.name a.place a.count
    × AreData told (n + 1) a.name a.place a.count

-- What is asked for again are such ranges.
abbrev pub IsIfAgain : Option (List (List ℕ × List ℕ)) → (names : List (List ℕ)) → Ask → Type 0
IsIfAgain told names a = a.again ≡ true → IsRangeIn told names a

-- Nothing is asked for but such ranges, again.
abbrev pub IsAgain : Option (List (List ℕ × List ℕ)) → (names : List (List ℕ)) → Ask → Type 0
IsAgain told names a = (a.again ≡ true) × IsRangeIn told names a

-- A file is read on from one place to another, and in between only ranges of data are read again.
pub record IsReadOnWithRanges (told : Option (List (List ℕ × List ℕ))) (names : List (List ℕ))
    (name : List ℕ) (from : ℕ) (asks : List Ask) (to : ℕ) : Type 0 where
  pub on : IsReadOn name from (first_asks asks) to
  pub ranges : AllByRecursion (IsIfAgain told names) asks

-- A file is read once, with ranges of data.
abbrev pub IsReadWithRanges : Option (List (List ℕ × List ℕ))
    → (names : List (List ℕ)) (name : List ℕ) (asks : List Ask) → Type 0
IsReadWithRanges told names name asks = (to : ℕ) × IsReadOnWithRanges told names name 0 asks to

-- Files are read once, and in between only ranges of their data are read again.
pub record AreReadWithRanges (told : Option (List (List ℕ × List ℕ))) (names : List (List ℕ))
    (asks : List Ask) : Type 0 where
  pub once : AreReadOnce names (first_asks asks)
  pub ranges : AllByRecursion (IsIfAgain told names) asks

-- Files are read once, and then once more with ranges of data.
abbrev pub AreReadTwice : Option (List (List ℕ × List ℕ))
    → (names : List (List ℕ)) (asks : List Ask) → Type 0
AreReadTwice told names asks =
    (first then : List Ask) × (asks ≡ first ++ then) × AreReadOnce names first
    × AreReadWithRanges told names then

-- ---- files that take turns

-- A file, and the place up to which it was read.
pub record ReadTo : Type 0 where
  pub name : List ℕ
  pub place : ℕ

abbrev pub nowhere : ReadTo
nowhere = record { name = []; place = 0 }

-- Files are read on in turn: each call asks one of them from where the last one of it ended.
unfoldable pub AreReadInTurn : (from : List ReadTo) (asks : List Ask) (to : List ReadTo) → Type 0
AreReadInTurn from [] to = to ≡ from
AreReadInTurn from (a ∷ asks) to =
    (n : ℕ) × (n < length from)
    × (a ≡ ask (get_or from n nowhere).name (get_or from n nowhere).place a.count)
    × AreReadInTurn (set from n (record { name = a.name; place = a.place + a.count })) asks to
