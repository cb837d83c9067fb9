-- What composing files over any base ends with, in the words of the whole program: by the answer
-- that is due and what stands written.
use Rattle.std.specs.Prelude.{◌≡◌, ℕ, List, [], Option, None, Some}
use Rattle.std.proofs.Common.{ap, ◌∙◌}
use Rattle.send_model.specs.Reading.{Reading, input}
use Rattle.send_model.specs.Store.{Store}
use Rattle.send_model.specs.Lengths.{too_long}
use Rattle.send_model.specs.Due.{DoneWhole, RefusedAt, TooMuch, reading_due, compose_due_of}
use Rattle.send_model.specs.Headline.{IsStoppedOf, whole_output_of}
use Rattle.send_model.specs.Words.{Compose}
use Rattle.send_model.specs.Overridden.{Overrides, overridden}
use Rattle.send_model.proofs.Fronts.{nothing_front}
use Rattle.send_model.proofs.Writing.{nothing_unfinished}
use Rattle.sx_base.specs.declared.outcome.Verdict.{Verdict}
use Rattle.sx_base.specs.declared.outcome.Outcome.TheVariants as over
use Rattle.sx_base.specs.Refusals.{verdict_meant}
use Rattle.part_names.specs.Overriding.{sources_with, EndsOf}
use Rattle.composer.proofs.OverBaseAhead.{due_fits}

module _ (store at : ℕ) (base : Store ℕ) (given : Overrides) (files : List (List ℕ)) (written : List ℕ) where
  -- All was done.
  pub ends_done : too_long files ≡ None → reading_due base (overridden given (input files)) ≡ DoneWhole → written ≡ whole_output_of base (overridden given (input files)) → EndsOf (Compose store at) base (sources_with given files) over.Done written
  ends_done fits is all = (due_fits base given files fits ∙ is, all)

  -- A command is refused, or reading ended at a fault.
  pub ends_refused : (verdict : Verdict) → too_long files ≡ None → reading_due base (overridden given (input files)) ≡ RefusedAt (verdict_meant verdict) → IsStoppedOf base (overridden given (input files)) written
      → EndsOf (Compose store at) base (sources_with given files) (over.Refused verdict) written
  ends_refused verdict fits is stopped = (due_fits base given files fits ∙ is, stopped)

  -- There is too much.
  pub ends_too_much : (sum : ℕ) → too_long files ≡ None → reading_due base (overridden given (input files)) ≡ TooMuch sum → IsStoppedOf base (overridden given (input files)) written
      → EndsOf (Compose store at) base (sources_with given files) (over.TooMuch sum) written
  ends_too_much sum fits is stopped = (due_fits base given files fits ∙ is, stopped)

  -- A file is too long.
  pub ends_too_long : (file : ℕ) → too_long files ≡ Some file → IsStoppedOf base (overridden given (input files)) written → EndsOf (Compose store at) base (sources_with given files) (over.InputTooLong file) written
  ends_too_long file long stopped = (ap (λ (o : Option ℕ). compose_due_of o base (overridden given (input files))) long, stopped)

-- Before anything is written.
pub nothing_stopped : (base : Store ℕ) (read : Reading) → IsStoppedOf base read []
nothing_stopped base read = record { unfinished = nothing_unfinished 0; front = nothing_front (whole_output_of base read) 0 }
