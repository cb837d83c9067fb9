-- Places that live, kept as contents over an origin that points nowhere: a place lives that has a
-- cell of a run. Of a file that no change spoke of yet, each place lives if the file is there in
-- the end. This program's own.
use Rattle.std.specs.Prelude.{◌≡◌, ◌≢◌, ℕ, ◌+◌, ◌-◌, ◌<◌, ◌==◌, Bool, true, false, not, ◌&&◌, ◌||◌, List, Option, None, Some, get_or, nat_le, nat_lt, is_some}
use Rattle.std.specs.BTreeMap.{BTreeMap, get}
use Rattle.std.specs.Ordering.{nat_cmp}
use Rattle.extent_map.specs.declared.nowhere.Nowhere.{Nowhere}
use Rattle.squash_model.specs.Liveness.{Living, covers}

abbrev pub Cells : Type 0
Cells = List (Option Nowhere)

abbrev pub cell_lives : Cells → ℕ → Bool
cell_lives cells place = is_some (get_or cells place None)

-- By places that are counted from one on.
abbrev pub lives_from : Cells → ℕ → ℕ → Bool
lives_from cells at k = cell_lives cells (at + k)

-- What lives of a file, where it is known whether it is there in the end.
abbrev pub lives_by : Bool → Option Cells → ℕ → Bool
lives_by there None place = there
lives_by there (Some cells) place = cell_lives cells place

-- What lives, where it is known which files are there in the end.
abbrev pub lives_at : (ℕ → Bool) → (ℕ → Option Cells) → Living
lives_at there found i place = lives_by (there i) (found i) place

abbrev pub lives_in : (ℕ → Bool) → BTreeMap ℕ Cells → Living
lives_in there files = lives_at there (get nat_cmp files)

-- ---- changes of one file

-- Of the places that lived those live that are below a size.
abbrev pub IsBelow : ℕ → (old new : Cells) → Type 0
IsBelow size old new = (p : ℕ) → cell_lives new p ≡ (nat_lt p size && cell_lives old p)

-- Those live that are outside a range.
abbrev pub IsOutside : (at len : ℕ) → (old new : Cells) → Type 0
IsOutside at len old new = (p : ℕ) → cell_lives new p ≡ (not (covers at len p) && cell_lives old p)

-- Those live that are outside a range and below a size.
abbrev pub IsBeside : (at len size : ℕ) → (old new : Cells) → Type 0
IsBeside at len size old new =
    (p : ℕ) → cell_lives new p ≡ ((nat_lt p size && not (covers at len p)) && cell_lives old p)

-- Those of a range live too.
abbrev pub IsWithRange : (at len : ℕ) → (old new : Cells) → Type 0
IsWithRange at len old new = (p : ℕ) → cell_lives new p ≡ (covers at len p || cell_lives old p)

-- Those of a range that live, counted from its start.
abbrev pub IsPartOf : (at len : ℕ) → (cells part : Cells) → Type 0
IsPartOf at len cells part =
    (k : ℕ) → cell_lives part k ≡ (nat_lt k len && cell_lives cells (at + k))

-- Those live too that live in a part which is put at a place.
abbrev pub IsWithPart : (from : ℕ) → (part old new : Cells) → Type 0
IsWithPart from part old new =
    (p : ℕ) → cell_lives new p ≡ ((nat_le from p && cell_lives part (p - from)) || cell_lives old p)

-- ---- changes of the files

-- The same lives.
abbrev pub IsSameLiving : Living → Living → Type 0
IsSameLiving a b = (i p : ℕ) → a i p ≡ b i p

-- The cells stand for a file, and those of the others stay.
pub record IsKept (ino : ℕ) (cells : Cells) (old new : BTreeMap ℕ Cells) : Type 0 where
  pub here : get nat_cmp new ino ≡ Some cells
  pub others : (i : ℕ) → i ≢ ino → get nat_cmp new i ≡ get nat_cmp old i

-- The cells of a file were taken out; they have what lives of it below a size. Where it has none,
-- nothing of it lives, and nothing was taken.
abbrev pub IsTaken : (ℕ → Bool) → (ino size : ℕ) → (old new : BTreeMap ℕ Cells) → Option Cells
    → Type 0
IsTaken there ino size old new None =
    IsSameLiving (lives_in there new) (lives_in there old)
    × ((p : ℕ) → lives_in there old ino p ≡ false)
IsTaken there ino size old new (Some cells) =
    ((i : ℕ) → i ≢ ino → get nat_cmp new i ≡ get nat_cmp old i)
    × ((p : ℕ) → p < size → cell_lives cells p ≡ lives_in there old ino p)

-- The cells of a file were taken out; they have what lives of it. Where it has none, all of it
-- lives, and nothing was taken.
abbrev pub IsOpened : (ℕ → Bool) → (ino : ℕ) → (old new : BTreeMap ℕ Cells) → Option Cells → Type 0
IsOpened there ino old new None =
    IsSameLiving (lives_in there new) (lives_in there old)
    × ((p : ℕ) → lives_in there old ino p ≡ true)
IsOpened there ino old new (Some cells) =
    ((i : ℕ) → i ≢ ino → get nat_cmp new i ≡ get nat_cmp old i)
    × ((p : ℕ) → cell_lives cells p ≡ lives_in there old ino p)

-- What lives of a range, counted from its start.
abbrev pub IsPartIn : Living → (ino at len : ℕ) → (part : Cells) → Type 0
IsPartIn lives ino at len part =
    (k : ℕ) → cell_lives part k ≡ (nat_lt k len && lives ino (at + k))

-- A part lives too, which is put at a place of a file.
abbrev pub with_part : (ino from : ℕ) → (part : Cells) → Living → Living
with_part ino from part lives i p =
    ((i == ino) && (nat_le from p && cell_lives part (p - from))) || lives i p
