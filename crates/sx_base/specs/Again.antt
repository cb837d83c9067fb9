-- Bytes of a file that were read before and are read again. That an input may have changed between
-- two reads, and the count of such ends, are this program's own.
use Rattle.std.specs.Prelude.{◌≡◌, ℕ, ◌+◌, ◌<◌, ◌≤◌, List, [], length, take, drop, None, Some, Result, Ok, Err, ⊤}
use Rattle.std.specs.declared.option.Option.{Option}
use Rattle.sx_base.specs.Causes.{Rose, Counts}
use Rattle.sx_base.specs.Outside.{file_at}
use Rattle.sx_base.specs.declared.lost.Lost.{Lost}
use Rattle.sx_base.specs.declared.lost.Lost.TheVariants as lost

-- So many bytes from a place on lie in the named file, where the inputs tell their files.
abbrev pub LiesIn : Option (List (List ℕ × List ℕ)) → List ℕ → ℕ → ℕ → Type 0
LiesIn None name at count = ⊤
LiesIn (Some files) name at count = at + count ≤ length (file_at files name)

-- The buffer has the bytes of the named file from a place on, where the inputs tell their files.
abbrev pub FillsFrom : Option (List (List ℕ × List ℕ)) → List ℕ → ℕ → List ℕ → Type 0
FillsFrom None name at buf = ⊤
FillsFrom (Some files) name at buf = buf ≡ take (length buf) (drop at (file_at files name))

-- The count of ends never falls. Files that the inputs tell do not change, so they have no end too
-- early, and the count of ends stays.
abbrev pub EndsKept : Option (List (List ℕ × List ℕ)) → ℕ → ℕ → Type 0
EndsKept None before now = before ≤ now
EndsKept (Some files) before now = now ≡ before

-- A file of inputs that do not tell ended in the range of so many bytes from a place on.
abbrev pub EndedIn : Option (List (List ℕ × List ℕ)) → ℕ → ℕ → ℕ → ℕ → ℕ → Type 0
EndedIn None at count before now place = Rose before now × ((at ≤ place) × (place < at + count))
EndedIn (Some files) at count before now place = ⊥

-- Each reason why bytes are lost has its own count that rose: that of faults, or that of ends.
abbrev pub LostFor : Option (List (List ℕ × List ℕ)) → (at count : ℕ) → (before now : Counts)
    → Result (Unit {0}) Lost → Type 0
LostFor told at count before now (Ok done) = ⊤
LostFor told at count before now (Err lost.Failed) = Rose before.reads now.reads
LostFor told at count before now (Err (lost.Ended place)) =
    EndedIn told at count before.ends now.ends place

-- The name of a file, and the place where it ended before bytes that were read of it once.
pub record EarlyEnd : Type 0 where
  pub name : List ℕ
  pub place : ℕ

-- What stands for the last end where none comes.
abbrev pub no_end : EarlyEnd
no_end = record { name = []; place = 0 }

-- The end that is answered is that of the file with this name, and the last one.
abbrev pub MeetsEnd : List ℕ → EarlyEnd → Result (Unit {0}) Lost → Type 0
MeetsEnd name last (Ok done) = ⊤
MeetsEnd name last (Err lost.Failed) = ⊤
MeetsEnd name last (Err (lost.Ended place)) = last ≡ record { name = name; place = place }
