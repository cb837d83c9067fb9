-- Where a path leads in a tree. Source: this program's own; the walks are those of the definitions.
use Rattle.std.specs.Prelude.{◌≡◌, ℕ, Bool, true, false, List, [], ◌∷◌, Option, None, Some, Result, Ok}
use Rattle.send_model.specs.Refusal as meant
use Rattle.send_model.specs.Chain.{◌>>=◌, ◌>>◌, require, refuse_if, found}
use Rattle.send_model.specs.Subvolume.{Subvolume, Spot, named, is_directory, walk_names, all_but_last}
use Rattle.send_model.specs.Edit.{at_spot, take_name}
use Rattle.sx_base.specs.declared.refusal.Refusal.{Refusal}
use Rattle.sx_base.specs.Answers.{Reads}

abbrev pub spot_of : ℕ × List ℕ → Spot
spot_of place = record { directory = place.0; name = place.1 }

-- A call gives the place that the definition says, or refuses by the same refusal.
abbrev pub FindsSpot : Result (ℕ × List ℕ) Refusal → Result Spot meant.Refusal → Type 0
FindsSpot answer said = Reads spot_of answer said

-- The name at a place goes, if an inode that is no directory stands there.
abbrev pub unlink_at : {C : Type 0} → Spot → Subvolume C → Result (Subvolume C) meant.Refusal
unlink_at place s =
    found (at_spot s place) meant.NoEntry >>= λ ino. refuse_if
    (is_directory s ino) meant.IsDirectory >> Ok (take_name place ino s)

-- One step of a walk: what a name in a directory leads to.
abbrev pub one_step : {C : Type 0} → Subvolume C → ℕ → List ℕ → Result ℕ meant.Refusal
one_step s directory name =
    require (is_directory s directory) meant.NotDirectory >> found
    (named s directory name) meant.NoEntry

-- The last of some names.
abbrev pub last_of : List ℕ → List (List ℕ) → List ℕ
last_of name [] = name
last_of name (further ∷ rest) = last_of further rest

-- The place that names give from a directory on: the walk of all but the last.
abbrev pub spot_from : {C : Type 0} → Subvolume C → ℕ → List ℕ → List (List ℕ)
    → Result Spot meant.Refusal
spot_from s directory name rest =
    walk_names s directory (all_but_last (name ∷ rest)) >>= λ there. require
    (is_directory s there) meant.NotDirectory >> Ok
    (record { directory = there; name = last_of name rest })

-- A name moves to a place where nothing stood, or nothing changes. What stood there is given, and
-- the value with the name moved.
abbrev pub MovesIfFree : {S : Type 0} → (was : Option ℕ) (moved old new : S) (free : Bool) → Type 0
MovesIfFree None moved old new free = (free ≡ true) × (new ≡ moved)
MovesIfFree (Some there) moved old new free = (free ≡ false) × (new ≡ old)
