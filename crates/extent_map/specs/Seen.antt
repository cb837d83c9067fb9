-- What is seen of a tree of runs. Source: this project.
use Rattle.std.specs.Prelude.{◌≡◌, ℕ, ◌+◌, ◌*◌, ◌^◌, ◌<◌, ◌≤◌, Option, All, List, [], ◌∷◌, ◌++◌, length, take, drop, zero, suc, slice_index_or}
use Rattle.std.specs.List.{flat_map, sum_by}

-- The cells, in order, and the height: how many steps it is from the root to a leaf.
pub record Seen (O : Type 0) : Type 0 where
  pub cells : List (Option O)
  pub height : ℕ

-- How many cells a tree has, and the cells of trees one after the other.
abbrev pub cells_count : {O : Type 0} → Seen O → ℕ
cells_count tree = length tree.cells

abbrev pub joined : {O : Type 0} → List (Seen O) → List (Option O)
joined trees = flat_map (λ tree. tree.cells) trees

-- A tree of a height that has cells, and no fewer than two for each step up.
pub record IsKid {O : Type 0} (steps : ℕ) (kid : Seen O) : Type 0 where
  pub height : kid.height ≡ steps
  pub some : 0 < length kid.cells
  pub high : 0 < steps
  pub balanced : 2 ^ steps ≤ 2 * length kid.cells

abbrev pub AreKids : {O : Type 0} → ℕ → List (Seen O) → Type 0
AreKids steps kids = All (IsKid steps) kids

-- What one tree or two of one height have: the second may be of no height, and then has no cells.
pub record IsTwo {O : Type 0} (cells : List (Option O)) (steps : ℕ)
    (first second : Seen O) : Type 0 where
  pub are : first.cells ++ second.cells ≡ cells
  pub height : first.height ≡ steps
  pub same : 0 < second.height → second.height ≡ steps

-- Trees that can stand below one of a height, and trees that can be one of that height: two at
-- least, whose cells are counted.
pub record AreBelow {O : Type 0} (high : ℕ) (kids : List (Seen O)) : Type 0 where
  pub steps : ℕ
  pub height : high ≡ steps + 1
  pub each : AreKids steps kids

pub record IsFork {O : Type 0} (high len : ℕ) (kids : List (Seen O)) : Type 0 where
  pub below : AreBelow high kids
  pub two : 2 ≤ length kids
  pub counted : len ≡ sum_by cells_count kids

-- The cells of trees with some in place of those of the tree at `index`.
abbrev pub around : {O : Type 0} → ℕ → List (Seen O) → List (Option O) → List (Option O)
around index trees cells = joined (take index trees) ++ cells ++ joined (drop (index + 1) trees)

-- Trees where one was taken out, in whose place there may be any.
pub record IsOpenAt {O : Type 0} (high index : ℕ) (trees : List (Seen O)) : Type 0 where
  pub before : AreBelow high (take index trees)
  pub after : AreBelow high (drop (index + 1) trees)
  pub within : index < length trees
  pub two : 2 ≤ length trees

-- A tree as a list: of none where it is of no height.
abbrev pub some_of : {O : Type 0} → ℕ → Seen O → List (Seen O)
some_of zero tree = []
some_of (suc n) tree = tree ∷ []

abbrev pub filled : {O : Type 0} → Seen O → List (Seen O)
filled tree = some_of tree.height tree

-- A tree was taken out of some, in whose place there is another.
pub record IsTaken {O : Type 0} (old : List (Seen O)) (index : ℕ) (taken : Seen O)
    (new : List (Seen O)) : Type 0 where
  pub value : taken ≡ slice_index_or old index taken
  pub before : take index new ≡ take index old
  pub after : drop (index + 1) new ≡ drop (index + 1) old
  pub same : length new ≡ length old
