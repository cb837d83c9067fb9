-- Where all was done, and where not.
use Rattle.std.specs.Prelude.{◌≡◌, ℕ}
use Rattle.sx_base.specs.Calls.{IsStop, SteadyIfDone}
use Rattle.sx_base.specs.declared.outcome.Outcome.{Outcome}
use Rattle.sx_base.specs.declared.outcome.Outcome.TheVariants as ended

-- Of a count nothing is said where not all was done.
pub stopped_steady : (before now : ℕ) (outcome : Outcome) → IsStop outcome → SteadyIfDone before now outcome
stopped_steady before now ended.Done stops = elim stops [ ]
stopped_steady before now (ended.Refused verdict) stops = tt
stopped_steady before now ended.InputFault stops = tt
stopped_steady before now ended.OutputFault stops = tt
stopped_steady before now ended.NoMemory stops = tt
stopped_steady before now (ended.InputTooLong file) stops = tt
stopped_steady before now (ended.TooMuch sum) stops = tt
stopped_steady before now (ended.InputChanged file place) stops = tt

-- A count that is as it was.
pub steady_anyway : (before now : ℕ) (outcome : Outcome) → now ≡ before → SteadyIfDone before now outcome
steady_anyway before now ended.Done same = same
steady_anyway before now (ended.Refused verdict) same = tt
steady_anyway before now ended.InputFault same = tt
steady_anyway before now ended.OutputFault same = tt
steady_anyway before now ended.NoMemory same = tt
steady_anyway before now (ended.InputTooLong file) same = tt
steady_anyway before now (ended.TooMuch sum) same = tt
steady_anyway before now (ended.InputChanged file place) same = tt
