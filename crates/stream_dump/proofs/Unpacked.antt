-- The words of contracts unpacked: what they speak of part by part, as the lemmas name it.
use Rattle.std.specs.Prelude.{ℕ, Bool, List, Option, Result}
use Rattle.send_model.specs.Reading.{Item}
use Rattle.sx_base.specs.declared.outcome.Outcome.{Outcome}
use Rattle.stream_dump.specs.declared.gathering.Gathered.{Gathered}
use Rattle.stream_dump.specs.Steps as steps

abbrev output : Option (List ℕ) → ℕ → steps.Output
output taken faults = record { taken = taken; faults = faults }

abbrev pub Sends : (old new : Gathered) (taken_old taken_now : Option (List ℕ)) (before now : ℕ) → Result (Unit {0}) Outcome → Type 0
Sends old new taken_old taken_now before now result = steps.Sends old new (output taken_old before) (output taken_now now) result

abbrev pub ItemAdded : (piece : Bool → Item → List ℕ) (old new : Gathered) (item : Item) (taken_old taken_now : Option (List ℕ)) → Type 0
ItemAdded piece old new item taken_old taken_now = steps.ItemAdded (steps.with_item piece old item) new taken_old taken_now

abbrev pub ItemEnds : (piece : Bool → Item → List ℕ) (old new : Gathered) (item : Item) (taken_old taken_now : Option (List ℕ)) (before now : ℕ) → Result (Unit {0}) Outcome → Type 0
ItemEnds piece old new item taken_old taken_now before now result = steps.ItemEnds (steps.with_item piece old item) new (output taken_old before) (output taken_now now) result

abbrev pub EndsWith : (bytes : List ℕ) (outcome : Outcome) (taken_old taken_now : Option (List ℕ)) (before now : ℕ) → Outcome → Type 0
EndsWith bytes outcome taken_old taken_now before now result = steps.EndsWith bytes outcome (output taken_old before) (output taken_now now) result
