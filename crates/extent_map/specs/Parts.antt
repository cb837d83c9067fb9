-- Lists of parts, each of which has a span of cells. Source: this project.
use Rattle.std.specs.Prelude.{◌≡◌, ℕ, ◌+◌, ◌<◌, ◌≤◌, List, ◌∷◌, ◌++◌, length}
use Rattle.std.specs.List.{sum_by}

-- The part that has a cell, with the parts before and after it: `index` parts stand before it, and
-- the first cell of it is that with the number `start`.
pub record IsFound {A : Type 0} (span : A → ℕ) (parts : List A) (at index start : ℕ) : Type 0 where
  pub before : List A
  pub part : A
  pub after : List A
  pub all : parts ≡ before ++ part ∷ after
  pub count : length before ≡ index
  pub begins : sum_by span before ≡ start
  pub from : start ≤ at
  pub to : at < start + span part
