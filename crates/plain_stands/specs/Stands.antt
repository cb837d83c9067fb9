-- What a look at one file finds. This program's own.
use Rattle.std.specs.Prelude.{◌≡◌, ℕ, ◌<◌, ◌≤◌, ◌==◌, Bool, true, false, ◌&&◌, ◌||◌, nat_lt, List, [], map, Option, None, Some}
use Rattle.send_model.specs.Subvolume.{Subvolume}
use Rattle.standing_model.specs.Standing.{stands_at, place_in}
use Rattle.provenance.specs.declared.trace.Trace.{Trace}
use Rattle.plain_stands.specs.Tags.{tagged, tagged_part}

-- Whether a block stands at a place of a file; which key names the part says nothing of that.
abbrev pub stands_in : (Option Trace → ℕ) → Subvolume (Option Trace) → ℕ → List (Option Trace)
    → ℕ → ℕ → Bool
stands_in byte s target block ino at =
    stands_at (tagged_part byte s) target (map (tagged byte) block)
    (place_in (record { uuid = []; ctransid = 0 }) ino at)

-- The least number that passes a test, if there is any.
abbrev pub FindsLeast : (ℕ → Bool) → Option ℕ → Type 0
FindsLeast test None = (at : ℕ) → test at ≡ false
FindsLeast test (Some least) = (test least ≡ true) × ((at : ℕ) → test at ≡ true → least ≤ at)

-- A block of a length may stand where so many cells are left of a file.
abbrev pub may_end : ℕ → ℕ → Bool
may_end len left = (len == left) || ((len == 4_096) && nat_lt len left)

-- One cell has a trace, and another has the same, or it is not so.
abbrev pub AreAlike : Option Trace → Option Trace → Bool → Type 0
AreAlike own other true = (trace : Trace) × (own ≡ Some trace) × (other ≡ Some trace)
AreAlike own other false = (trace : Trace) → own ≡ Some trace → other ≡ Some trace → ⊥
