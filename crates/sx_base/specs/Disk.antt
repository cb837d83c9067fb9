-- What a disk holds, and what a crash may leave of it. A crash is a loss of power: what was stable
-- stays, and of what was written since the last successful sync any part may have reached the disk.
use Rattle.std.specs.Prelude.{◌≡◌, ◌⊎◌, ℕ, zero, suc, ◌+◌, ◌-◌, ◌≤◌, max, Option, Some, None, Result, List, [], ◌∷◌, length, take, drop, map}
use Rattle.sx_base.specs.Causes.{HasCause, Rose}

-- What is known of the disk since its last successful sync. For each place below the least size
-- since then, `known` has the byte that is stable there, or None where a range written since then
-- holds the place; `greatest` is the greatest size since then.
pub record Pending : Type 0 where
  pub known : List (Option ℕ)
  pub greatest : ℕ

-- The bytes are at least as many as those known, and have each known byte at its place.
abbrev pub Agrees : List (Option ℕ) → List ℕ → Type 0
Agrees [] image = Unit {0}
Agrees (place ∷ known) [] = ⊥
Agrees (None ∷ known) (byte ∷ image) = Agrees known image
Agrees (Some stable ∷ known) (byte ∷ image) = (byte ≡ stable) × Agrees known image

-- An image that a crash may leave: its length lies between the least and the greatest size, and it
-- has the known bytes. All its other bytes may be anything.
pub record IsImage (pending : Pending) (image : List ℕ) : Type 0 where
  pub known : Agrees pending.known image
  pub short : length image ≤ pending.greatest

-- Nothing is known any more of `count` places from `at` on.
abbrev pub forget : ℕ → ℕ → List (Option ℕ) → List (Option ℕ)
forget at count [] = []
forget (suc at) count (place ∷ known) = place ∷ forget at count known
forget zero (suc count) (place ∷ known) = None ∷ forget zero count known
forget zero zero (place ∷ known) = place ∷ known

-- After a write of `count` bytes at `at`, whether it was done or failed.
abbrev pub written : ℕ → ℕ → Pending → Pending
written at count pending =
    record { known = forget at count pending.known; greatest = max pending.greatest (at + count) }

-- After a cut to this size, whether it was done or failed: the size was reached.
abbrev pub shortened : ℕ → Pending → Pending
shortened size pending = record { known = take size pending.known; greatest = pending.greatest }

-- After a successful sync: all bytes are known, and there are no others.
abbrev pub settled : List ℕ → Pending
settled bytes = record { known = map Some bytes; greatest = length bytes }

-- What is read and what a crash may leave are as before.
pub record IsAsBefore {D : Type 0} (seen_of : D → List ℕ) (pending_of : D → Pending)
    (old new : D) : Type 0 where
  pub seen : seen_of new ≡ seen_of old
  pub pending : pending_of new ≡ pending_of old

-- The first `count` bytes of the buffer are those of the bytes from `at` on.
pub record IsReadAt (bytes : List ℕ) (at : ℕ) (buffer : List ℕ) (count : ℕ) : Type 0 where
  pub within : count ≤ length bytes - at
  pub same : take count buffer ≡ take count (drop at bytes)

-- A clock that rose: a count that stands at the greatest u64 counts as risen.
pub record Rises (before now : ℕ) : Type 0 where
  pub later : before ≤ now
  pub rose : Rose before now

-- Time goes on: a crash at some moment since t may have left what one since t may have left before
-- the call, or what one may leave now, and nothing else.
pub record Elapses (before : ℕ) (past since : ℕ → List ℕ → Type 0)
    (pending : Pending) : Type 0 where
  pub nothing_else : (t : ℕ) (image : List ℕ) → t ≤ before → since t image
      → past t image ⊎ IsImage pending image
  pub keeps : (t : ℕ) (image : List ℕ) → t ≤ before → past t image → since t image

-- What a disk says of itself for all its calls: whether it tells what it contains, its clock, which
-- images a crash since a moment may have left and which a crash now may leave, and how often it
-- failed.
pub record DiskMembers (D : Type 0) : Type 1 where
  pub tells : Type 0
  pub moment : D → ℕ
  pub left_since : D → ℕ → List ℕ → Type 0
  pub pending : D → Pending
  pub faults : D → ℕ

abbrev pub members : {D : Type 0} (tells : Type 0) (moment : D → ℕ)
    (left_since : D → ℕ → List ℕ → Type 0) (pending : D → Pending) (faults : D → ℕ) → DiskMembers D
members tells moment left_since pending faults =
    record {
      tells = tells;
      moment = moment;
      left_since = left_since;
      pending = pending;
      faults = faults;
    }

-- What holds of every call to a disk, whatever it answers: the clock rose; where the disk tells,
-- time went on; the count of faults did not fall, and a failure has its cause in it.
pub record Passes {D T E : Type 0} (disk : DiskMembers D) (old new : D)
    (result : Result T E) : Type 0 where
  pub clock : Rises (disk.moment old) (disk.moment new)
  pub time : disk.tells
      → Elapses (disk.moment old) (disk.left_since old) (disk.left_since new) (disk.pending new)
  pub cause : HasCause (disk.faults old) (disk.faults new) result
