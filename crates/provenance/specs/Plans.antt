-- The code's plans and steps as what a range is cut into.
use Rattle.std.specs.Prelude.{◌≡◌, ℕ, ◌+◌, ◌-◌, ◌<◌, ◌≤◌, Option, None, Some, MatchOption, List, [], ◌∷◌, length}
use Rattle.send_model.specs.Store as meant
use Rattle.send_model.specs.Provenance.{Place}
use Rattle.subvol_catalog.specs.Entries.{key_of}
use Rattle.provenance.specs.declared.trace.Trace.{Trace}
use Rattle.provenance.specs.declared.front.Spot.{Spot}
use Rattle.provenance.specs.declared.step.Step.{Step}
use Rattle.provenance.specs.declared.step.Step.TheVariants.{Carried, Passed}
use Rattle.provenance.specs.declared.plan.Plan.{Plan}
use Rattle.provenance.specs.declared.plan.Plan.TheVariants.{Carry, Literal}
use Rattle.provenance.specs.Cuts.{Cut, Run, Rest, join_cut, cuts_between}

-- A place in a file, as the definitions have it.
abbrev pub place_at : Spot → Place
place_at spot = record { key = key_of spot.key; ino = spot.ino; offset = spot.at }

abbrev pub spot_in : Option Spot → Option Place
spot_in None = None
spot_in (Some spot) = Some (place_at spot)

-- What a step says of the cells of contents from one place up to another.
abbrev pub IsStep : (meant.Key → ℕ → Option ℕ) → List (Option Trace) → ℕ → ℕ → Step → Type 0
IsStep ends contents at end (Carried spot len) =
    (0 < len) × (at + len ≤ end)
    × (cuts_between ends contents at end ≡ Run (place_at spot) len
    ∷ cuts_between ends contents (at + len) end)
IsStep ends contents at end (Passed len) =
    (0 < len) × (at + len ≤ end)
    × (cuts_between ends contents at end
    ≡ join_cut (Rest at len) (cuts_between ends contents (at + len) end))

-- What stands from one place up to another joins a stretch of other bytes before it, and what
-- follows it does not.
abbrev pub PassesTo : (meant.Key → ℕ → Option ℕ) → List (Option Trace) → ℕ → ℕ → ℕ → Type 0
PassesTo ends contents start to end =
    (at len : ℕ)
    → join_cut (Rest at len) (cuts_between ends contents start end) ≡ Rest at (len + (to - start))
    ∷ cuts_between ends contents to end

-- A range of some contents.
pub record IsRange (contents : List (Option Trace)) (from to : ℕ) : Type 0 where
  pub order : from ≤ to
  pub within : to ≤ length contents

-- A plan as a run of carried blocks or a stretch of other bytes.
abbrev pub planned : Plan → Cut
planned (Carry key ino from len) = Run (record { key = key_of key; ino = ino; offset = from }) len
planned (Literal from len) = Rest from len

-- A call of `next` gives the first of what is left, and leaves the others, or there is nothing
-- left.
abbrev pub TakesPlan : List Cut → Option Plan → List Cut → Type 0
TakesPlan left given rest =
    MatchOption given ((left ≡ []) × (rest ≡ [])) (λ plan. left ≡ planned plan ∷ rest)
