-- What is said of a run of calls to a disk at whose every moment the power may fail.
use Rattle.std.specs.Prelude.{◌≡◌, ◌⊎◌, ℕ, ◌≤◌, Option, Some, List, ◌++◌, map}
use Rattle.sx_base.specs.Disk.{Pending}

-- At every moment from the state `old` of a disk to the state `new` a crash leaves an image that
-- has P. By `earlier` the same is said of a run that began before: since its start there is nothing
-- that was not there, and has not P.
pub record LeavesOnly {D : Type 0} (moment : D → ℕ) (left_since : D → ℕ → List ℕ → Type 0)
    (old new : D) (P : List ℕ → Type 0) : Type 0 where
  pub later : moment old ≤ moment new
  pub each : (image : List ℕ) → left_since new (moment old) image → P image
  pub earlier : (t : ℕ) (image : List ℕ) → t ≤ moment old → left_since new t image
      → left_since old t image ⊎ P image

-- Every image that a crash may leave begins with these bytes.
pub record IsStableFront (front : List ℕ) (pending : Pending) : Type 0 where
  pub others : List (Option ℕ)
  pub known : pending.known ≡ map Some front ++ others
