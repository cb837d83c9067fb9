-- How squashing a file ends, and what was written then. This program's own.
use Rattle.std.specs.Prelude.{◌≡◌, ⊤, ℕ, true, false, List, [], ◌∷◌, ◌++◌, length, Result, Ok, Err}
use Rattle.std.specs.List.{list_any, AllByRecursion}
use Rattle.send_model.specs.Counts.{is_end}
use Rattle.send_model.specs.Command.{Command, End}
use Rattle.send_model.specs.Reading.{Whole, is_version}
use Rattle.send_model.specs.Laws.{CanWrite}
use Rattle.send_model.specs.Store.{Store}
use Rattle.send_model.specs.Due.{Due, DoneWhole, RefusedAt, TooLong, TooMuch, Limited}
use Rattle.sx_base.specs.Calls.{EndsAs}
use Rattle.sx_base.specs.declared.outcome.Outcome.{Outcome}
use Rattle.sx_base.specs.declared.outcome.Outcome.TheVariants as ended
use Rattle.squash_model.specs.SquashedStreams.{squashed_output, IsSquashedOf}
use Rattle.send_model.specs.Composed.{version_of}
use Rattle.send_model.specs.Order.{commands_of}
use Rattle.send_model.specs.Outside.{keys_outside, FindsLawful}
use Rattle.send_model.specs.Overridden.{Override}
use Rattle.sx_base.specs.Refusals.{verdict_meant}
use Rattle.squash_model.specs.Squashed.{squashed_of}
use Rattle.squash_model.specs.Liveness.{all_live}
use Rattle.squash_log.specs.Fates.{fates_of}
use Rattle.squash_log.specs.Resolved.{by_fates, blank_start, blank_end, changes_by}
use Rattle.squasher.specs.declared.judging.Judged.{Judged}
use Rattle.squash_model.specs.SquashDues.{own_base, squash_due, IsPartlySquashed}
use Rattle.squasher.specs.Judging.{HaveSameShape, read_with}

-- What was written where the file decides the answer: all that is due, or nothing.
abbrev pub SquashSays : Store ℕ → Limited → Due → List ℕ → Type 0
SquashSays base read DoneWhole written = written ≡ squashed_output base read.items
SquashSays base read (RefusedAt verdict) written = written ≡ []
SquashSays base read (TooLong file) written = written ≡ []
SquashSays base read (TooMuch sum) written = written ≡ []

-- An outcome that ends the first reading is the answer that is due. Nothing is said where the
-- inputs failed or there is no memory.
abbrev pub Stops : Due → Outcome → Type 0
Stops due (ended.Refused verdict) = due ≡ RefusedAt (verdict_meant verdict)
Stops due (ended.InputTooLong file) = due ≡ TooLong file
Stops due ended.InputFault = ⊤
Stops due ended.NoMemory = ⊤
Stops due (ended.TooMuch sum) = ⊥
Stops due (ended.InputChanged file place) = ⊥
Stops due ended.OutputFault = ⊥
Stops due ended.Done = ⊥

-- What was found out of a file that can be squashed: the version of its stream, how many commands
-- it has, and the fates of its WRITE commands, by which its commands become the squashed ones. That
-- version can say these.
pub record IsFound (base : Store ℕ) (read : Limited) (found : Judged) : Type 0 where
  pub done : squash_due base read ≡ DoneWhole
  pub version : found.version ≡ version_of read.items
  pub commands : found.commands ≡ length read.items
  pub front : List Command
  pub front_is : commands_of read.items ≡ front ++ End ∷ []
  pub no_end : list_any is_end front ≡ false
  pub fates_are : found.fates
      ≡ fates_of (changes_by (blank_start base) front)
      (all_live (blank_end (blank_start base) front).part)
  pub squashed : by_fates found.fates front ++ End ∷ [] ≡ squashed_of base read.items
  pub writable : AllByRecursion
      (λ item. CanWrite item.version item.command × (is_version item.version ≡ true)) read.items
  pub versions : AllByRecursion (λ item. item.version ≡ found.version) read.items
  pub spelled : AllByRecursion (CanWrite found.version) (by_fates found.fates front)

-- Over each base of the shape of the subvolumes.
abbrev pub JudgeOver : {C : Type 0} → Store C → Override → ℕ → Result Judged Outcome → List ℕ
    → Type 0
JudgeOver core said number (Ok found) bytes =
    (base : Store ℕ) → HaveSameShape core base
    → FindsLawful base (keys_outside (read_with said number bytes).items)
    → IsFound base (read_with said number bytes) found
JudgeOver core said number (Err outcome) bytes =
    (base : Store ℕ) → HaveSameShape core base
    → Stops (squash_due base (read_with said number bytes)) outcome

-- Over each store of that shape, without the subvolume of the first command.
abbrev pub JudgeEnds : {C : Type 0} → Store C → Override → ℕ → Result Judged Outcome → List ℕ
    → Type 0
JudgeEnds core said number (Ok found) bytes =
    (store : Store ℕ) → HaveSameShape core store
    → FindsLawful (own_base store (read_with said number bytes).items)
    (keys_outside (read_with said number bytes).items)
    → IsFound (own_base store (read_with said number bytes).items) (read_with said number bytes)
    found
JudgeEnds core said number (Err outcome) bytes =
    (store : Store ℕ) → HaveSameShape core store
    → Stops
    (squash_due (own_base store (read_with said number bytes).items) (read_with said number bytes))
    outcome

-- The outcome is the answer that is due, and what was written stands with it; and where all was
-- done, the promise of squashing holds of it.
pub record SquashEnds (base : Store ℕ) (read : Limited) (outcome : Outcome)
    (written : List ℕ) : Type 0 where
  pub ends : EndsAs (squash_due base read) (SquashSays base read) (IsPartlySquashed base read)
      (IsPartlySquashed base read) outcome written
  pub squashed : outcome ≡ ended.Done
      → IsSquashedOf base (record { items = read.items; end = Whole }) written
