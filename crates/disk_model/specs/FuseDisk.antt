-- What a disk that stops is seen as.
use Rattle.std.specs.Prelude.{ℕ, ◌+◌, List}

-- The disk inside, how many calls it is still to get, and how many calls failed because it was to
-- get no more.
pub record Fused (D : Type 0) : Type 0 where
  pub disk : D
  pub left : ℕ
  pub stopped : ℕ

-- what is said of the disk inside
abbrev pub of_inner : {D X : Type 0} → (D → X) → Fused D → X
of_inner word fuse = word fuse.disk

-- what a crash since some moment may have left of the disk inside
abbrev pub left_inside : {D : Type 0} → (D → ℕ → List ℕ → Type 0) → Fused D → ℕ → List ℕ → Type 0
left_inside left_since fuse = left_since fuse.disk

-- how often a call failed: because it was stopped, or in the disk inside
abbrev pub faults_of : {D : Type 0} → (D → ℕ) → Fused D → ℕ
faults_of faults fuse = fuse.stopped + faults fuse.disk
