-- The word of contracts on text that is added, unpacked: what it speaks of part by part, as the
-- lemmas name it.
use Rattle.std.specs.Prelude.{ℕ, List, Option, Result}
use Rattle.sx_base.specs.declared.outcome.Outcome.{Outcome}
use Rattle.tree_view.specs.Printing as printing

abbrev output : Option (List ℕ) → List ℕ → ℕ → printing.Output
output taken gathered faults = record { taken = taken; gathered = gathered; faults = faults }

abbrev pub AddsText : (text old new : List ℕ) (taken_old taken_now : Option (List ℕ)) (before now : ℕ) → Result (Unit {0}) Outcome → Type 0
AddsText text old new taken_old taken_now before now result = printing.AddsText text (output taken_old old before) (output taken_now new now) result
