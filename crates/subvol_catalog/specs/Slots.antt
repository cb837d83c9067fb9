-- Entries in slots. A slot whose entry was taken out is empty.
use Rattle.std.specs.Prelude.{◌≡◌, ℕ, ◌+◌, ◌*◌, ◌/◌, ◌==◌, ◌<◌, ◌≤◌, List, length, Option}
use Rattle.std.specs.List.{AllByRecursion, IsDistinct, filter_map}
use Rattle.std.specs.Map.{keys_of}
use Rattle.std.specs.Option.{option_map}
use Rattle.subvol_catalog.specs.declared.entry.Entry.{Entry}

-- Entries, each under its number, in the order in which they came, and the number of the one that
-- comes next.
pub record Arrivals (V : Type 0) : Type 0 where
  pub entries : List (ℕ × Entry V)
  pub next : ℕ

-- What stands in the slots that are not empty, each under the number of its slot.
abbrev pub occupied : {T : Type 0} → List (ℕ × Option T) → List (ℕ × T)
occupied slots = filter_map (λ s. option_map (λ x. (s.0, x)) s.1) slots

-- Each slot has a number of its own, which is below the next one, and so many slots are not empty.
pub record AreSlots {T : Type 0} (slots : List (ℕ × Option T)) (count next : ℕ) : Type 0 where
  pub apart : IsDistinct (λ a b. a == b) (keys_of slots)
  pub below : AllByRecursion (λ n. n < next) (keys_of slots)
  pub counted : count ≡ length (occupied slots)

-- Of so many slots, with so much room beside them, those that are empty are no more than the others
-- and an eighth of all the room.
abbrev pub AreMostlyFull : (slots count spare : ℕ) → Type 0
AreMostlyFull slots count spare = slots ≤ 2 * count + (slots + spare) / 8
