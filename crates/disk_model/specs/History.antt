-- The past of a disk in memory: the times between its successful syncs. Within such a time each
-- call leaves as many images possible as there were, or more, so of each time its end is all that
-- has to be kept.
use Rattle.std.specs.Prelude.{◌⊎◌, ℕ, suc, ◌+◌, ◌-◌, ◌*◌, ◌^◌, ◌≤◌, min, max, Bool, true, false, List, [], ◌∷◌, length, refl}
use Rattle.std.proofs.Common.{inl, inr, arith}
use Rattle.sx_base.specs.Disk.{Pending, IsImage, Agrees}
use Rattle.disk_model.specs.Stretch.{known_of}

-- the time from one successful sync to the next, at its end
pub record Ended : Type 0 where
  pub pending : Pending
  pub calls : ℕ

-- The clock after so many successful syncs and so many calls since the last: a count of calls stops
-- at the greatest u64.
abbrev pub time : ℕ → ℕ → ℕ
time syncs calls = 2 ^ 64 * syncs + min calls (2 ^ 64 - 1)

-- What a crash at some moment since t may have left, during the times that ended; the first is
-- after so many syncs.
abbrev pub Left : ℕ → List Ended → ℕ → List ℕ → Type 0
Left syncs [] t image = ⊥
Left syncs (end ∷ ended) t image =
    ((t ≤ time syncs end.calls) × IsImage end.pending image) ⊎ Left (suc syncs) ended t image

-- when a time has begun, those before it are over
none_left : (syncs : ℕ) (ended : List Ended) (t : ℕ) (image : List ℕ)
    → 2 ^ 64 * (syncs + length ended) ≤ t → Left syncs ended t image → ⊥
none_left syncs [] t image late left = left
none_left syncs (end ∷ ended) t image late (inl here) = omega (arith, late, here.0)
none_left syncs (end ∷ ended) t image late (inr later) =
    none_left (suc syncs) ended t image (omega (arith, late)) later

pub only_this : (ended : List Ended) (calls : ℕ) (pending : Pending) (image : List ℕ)
    → Left 0 ended (time (length ended) calls) image ⊎ IsImage pending image → IsImage pending image
only_this ended calls pending image (inl before) =
    absurd (none_left 0 ended (time (length ended) calls) image (omega arith) before)
only_this ended calls pending image (inr now) = now

agrees_known : (touched : List Bool) (bytes : List ℕ) → Agrees (known_of touched bytes) bytes
agrees_known [] bytes = tt
agrees_known (t ∷ touched) [] = tt
agrees_known (true ∷ touched) (b ∷ bytes) = agrees_known touched bytes
agrees_known (false ∷ touched) (b ∷ bytes) = (refl, agrees_known touched bytes)

-- what a read gives is an image
pub bytes_are_image : (touched : List Bool) (bytes : List ℕ) (greatest : ℕ)
    → IsImage
    (record { known = known_of touched bytes; greatest = max greatest (length bytes) }) bytes
bytes_are_image touched bytes greatest =
    record { known = agrees_known touched bytes; short = omega arith }
