-- What a status says of its answer.
use Rattle.std.specs.Prelude.{◌≡◌, []}
use Rattle.std.proofs.Common.{refl, ap, arith, ◌∙◌}
use Rattle.send_model.specs.Reading.{Verdict}
use Rattle.program_model.specs.Answers.{Answer, Done, Refused, Usage, InputFault, OutputFault, StoreFault, NoMemory, NoStore, IsMissing, IsFull, IsThere, IsDamaged, IsTooMuch, IsTooLong, InputChanged, status_of, note_of}
use Rattle.request_answers.specs.Objects.{Objects, HasRisen}
use Rattle.request_answers.specs.Promises.{HasCause}

module _ where
  pub zero-of_done : status_of Done ≡ 0
  unfolding status_of
  zero-of_done = refl

  pub two-of_usage : status_of Usage ≡ 2
  unfolding status_of
  two-of_usage = refl

  pub done-of_zero : (answer : Answer) → status_of answer ≡ 0 → answer ≡ Done
  unfolding status_of
  done-of_zero Done e = refl
  done-of_zero (Refused verdict) e = absurd (omega (arith, e))
  done-of_zero Usage e = absurd (omega (arith, e))
  done-of_zero InputFault e = absurd (omega (arith, e))
  done-of_zero OutputFault e = absurd (omega (arith, e))
  done-of_zero StoreFault e = absurd (omega (arith, e))
  done-of_zero NoMemory e = absurd (omega (arith, e))
  done-of_zero (NoStore group) e = absurd (omega (arith, e))
  done-of_zero (IsMissing what) e = absurd (omega (arith, e))
  done-of_zero (IsFull end wanted limit) e = absurd (omega (arith, e))
  done-of_zero (IsThere size) e = absurd (omega (arith, e))
  done-of_zero (IsDamaged group stored computed) e = absurd (omega (arith, e))
  done-of_zero (IsTooMuch sum) e = absurd (omega (arith, e))
  done-of_zero (IsTooLong file) e = absurd (omega (arith, e))
  done-of_zero (InputChanged file place) e = absurd (omega (arith, e))

  note-of_done : note_of Done ≡ []
  unfolding note_of
  note-of_done = refl

  pub no_note : (answer : Answer) → status_of answer ≡ 0 → note_of answer ≡ []
  no_note answer e = ap note_of (done-of_zero answer e) ∙ note-of_done

  pub usage-of_two : (answer : Answer) → status_of answer ≡ 2 → answer ≡ Usage
  unfolding status_of
  usage-of_two Done e = absurd (omega (arith, e))
  usage-of_two (Refused verdict) e = absurd (omega (arith, e))
  usage-of_two Usage e = refl
  usage-of_two InputFault e = absurd (omega (arith, e))
  usage-of_two OutputFault e = absurd (omega (arith, e))
  usage-of_two StoreFault e = absurd (omega (arith, e))
  usage-of_two NoMemory e = absurd (omega (arith, e))
  usage-of_two (NoStore group) e = absurd (omega (arith, e))
  usage-of_two (IsMissing what) e = absurd (omega (arith, e))
  usage-of_two (IsFull end wanted limit) e = absurd (omega (arith, e))
  usage-of_two (IsThere size) e = absurd (omega (arith, e))
  usage-of_two (IsDamaged group stored computed) e = absurd (omega (arith, e))
  usage-of_two (IsTooMuch sum) e = absurd (omega (arith, e))
  usage-of_two (IsTooLong file) e = absurd (omega (arith, e))
  usage-of_two (InputChanged file place) e = absurd (omega (arith, e))

  pub refused-of_one : (answer : Answer) → status_of answer ≡ 1 → (verdict : Verdict) × (answer ≡ Refused verdict)
  unfolding status_of
  refused-of_one Done e = absurd (omega (arith, e))
  refused-of_one (Refused verdict) e = (verdict, refl)
  refused-of_one Usage e = absurd (omega (arith, e))
  refused-of_one InputFault e = absurd (omega (arith, e))
  refused-of_one OutputFault e = absurd (omega (arith, e))
  refused-of_one StoreFault e = absurd (omega (arith, e))
  refused-of_one NoMemory e = absurd (omega (arith, e))
  refused-of_one (NoStore group) e = absurd (omega (arith, e))
  refused-of_one (IsMissing what) e = absurd (omega (arith, e))
  refused-of_one (IsFull end wanted limit) e = absurd (omega (arith, e))
  refused-of_one (IsThere size) e = absurd (omega (arith, e))
  refused-of_one (IsDamaged group stored computed) e = absurd (omega (arith, e))
  refused-of_one (IsTooMuch sum) e = absurd (omega (arith, e))
  refused-of_one (IsTooLong file) e = absurd (omega (arith, e))
  refused-of_one (InputChanged file place) e = absurd (omega (arith, e))

  pub inputs-of_three : (o : Objects) (answer : Answer) → status_of answer ≡ 3 → HasCause o answer → HasRisen o.input_faults
  unfolding status_of
  inputs-of_three o Done e cause = absurd (omega (arith, e))
  inputs-of_three o (Refused verdict) e cause = absurd (omega (arith, e))
  inputs-of_three o Usage e cause = absurd (omega (arith, e))
  inputs-of_three o InputFault e cause = cause
  inputs-of_three o OutputFault e cause = absurd (omega (arith, e))
  inputs-of_three o StoreFault e cause = absurd (omega (arith, e))
  inputs-of_three o NoMemory e cause = absurd (omega (arith, e))
  inputs-of_three o (NoStore group) e cause = absurd (omega (arith, e))
  inputs-of_three o (IsMissing what) e cause = absurd (omega (arith, e))
  inputs-of_three o (IsFull end wanted limit) e cause = absurd (omega (arith, e))
  inputs-of_three o (IsThere size) e cause = absurd (omega (arith, e))
  inputs-of_three o (IsDamaged group stored computed) e cause = absurd (omega (arith, e))
  inputs-of_three o (IsTooMuch sum) e cause = absurd (omega (arith, e))
  inputs-of_three o (IsTooLong file) e cause = absurd (omega (arith, e))
  inputs-of_three o (InputChanged file place) e cause = absurd (omega (arith, e))

  pub output-of_four : (o : Objects) (answer : Answer) → status_of answer ≡ 4 → HasCause o answer → HasRisen o.output_faults
  unfolding status_of
  output-of_four o Done e cause = absurd (omega (arith, e))
  output-of_four o (Refused verdict) e cause = absurd (omega (arith, e))
  output-of_four o Usage e cause = absurd (omega (arith, e))
  output-of_four o InputFault e cause = absurd (omega (arith, e))
  output-of_four o OutputFault e cause = cause
  output-of_four o StoreFault e cause = absurd (omega (arith, e))
  output-of_four o NoMemory e cause = absurd (omega (arith, e))
  output-of_four o (NoStore group) e cause = absurd (omega (arith, e))
  output-of_four o (IsMissing what) e cause = absurd (omega (arith, e))
  output-of_four o (IsFull end wanted limit) e cause = absurd (omega (arith, e))
  output-of_four o (IsThere size) e cause = absurd (omega (arith, e))
  output-of_four o (IsDamaged group stored computed) e cause = absurd (omega (arith, e))
  output-of_four o (IsTooMuch sum) e cause = absurd (omega (arith, e))
  output-of_four o (IsTooLong file) e cause = absurd (omega (arith, e))
  output-of_four o (InputChanged file place) e cause = absurd (omega (arith, e))

  pub disk-of_five : (o : Objects) (answer : Answer) → status_of answer ≡ 5 → HasCause o answer → HasRisen o.disk_faults
  unfolding status_of
  disk-of_five o Done e cause = absurd (omega (arith, e))
  disk-of_five o (Refused verdict) e cause = absurd (omega (arith, e))
  disk-of_five o Usage e cause = absurd (omega (arith, e))
  disk-of_five o InputFault e cause = absurd (omega (arith, e))
  disk-of_five o OutputFault e cause = absurd (omega (arith, e))
  disk-of_five o StoreFault e cause = cause
  disk-of_five o NoMemory e cause = absurd (omega (arith, e))
  disk-of_five o (NoStore group) e cause = absurd (omega (arith, e))
  disk-of_five o (IsMissing what) e cause = absurd (omega (arith, e))
  disk-of_five o (IsFull end wanted limit) e cause = absurd (omega (arith, e))
  disk-of_five o (IsThere size) e cause = absurd (omega (arith, e))
  disk-of_five o (IsDamaged group stored computed) e cause = absurd (omega (arith, e))
  disk-of_five o (IsTooMuch sum) e cause = absurd (omega (arith, e))
  disk-of_five o (IsTooLong file) e cause = absurd (omega (arith, e))
  disk-of_five o (InputChanged file place) e cause = absurd (omega (arith, e))

  pub ends-of_thirteen : (o : Objects) (answer : Answer) → status_of answer ≡ 13 → HasCause o answer → HasRisen o.early_ends
  unfolding status_of
  ends-of_thirteen o Done e cause = absurd (omega (arith, e))
  ends-of_thirteen o (Refused verdict) e cause = absurd (omega (arith, e))
  ends-of_thirteen o Usage e cause = absurd (omega (arith, e))
  ends-of_thirteen o InputFault e cause = absurd (omega (arith, e))
  ends-of_thirteen o OutputFault e cause = absurd (omega (arith, e))
  ends-of_thirteen o StoreFault e cause = absurd (omega (arith, e))
  ends-of_thirteen o NoMemory e cause = absurd (omega (arith, e))
  ends-of_thirteen o (NoStore group) e cause = absurd (omega (arith, e))
  ends-of_thirteen o (IsMissing what) e cause = absurd (omega (arith, e))
  ends-of_thirteen o (IsFull end wanted limit) e cause = absurd (omega (arith, e))
  ends-of_thirteen o (IsThere size) e cause = absurd (omega (arith, e))
  ends-of_thirteen o (IsDamaged group stored computed) e cause = absurd (omega (arith, e))
  ends-of_thirteen o (IsTooMuch sum) e cause = absurd (omega (arith, e))
  ends-of_thirteen o (IsTooLong file) e cause = absurd (omega (arith, e))
  ends-of_thirteen o (InputChanged file place) e cause = cause
