-- What a trial says of a chain.
use Rattle.std.specs.Prelude.{◌≡◌, ⊤, ℕ, List, [], ◌∷◌, ◌++◌, length, codes}
use Rattle.std.specs.Fmt.{decimal}
use Rattle.send_model.specs.Spelling.{stream_header, canonical_all}
use Rattle.send_model.specs.Provenance.{ranges_of, uncarried_in}
use Rattle.send_model.specs.Counts.{clones}
use Rattle.send_model.specs.Generated.{chain_of, chain_items, trial_composed}
use Rattle.sx_base.specs.declared.outcome.Outcome.{Outcome}
use Rattle.sx_base.specs.declared.outcome.Outcome.TheVariants as ended
use Rattle.chain_trial.specs.declared.trying.Numbers.{Numbers}

-- The numbers of the chain, and of what it is composed to.
pub record AreNumbers (seed count : ℕ) (numbers : Numbers) : Type 0 where
  pub commands : numbers.commands ≡ length (chain_items seed count)
  pub input : numbers.input ≡ length (chain_of seed count)
  pub output : numbers.output
      ≡ length (stream_header 1 ++ canonical_all 1 (trial_composed seed count))
  pub clones_are : numbers.clones ≡ clones (trial_composed seed count)
  pub redirected : numbers.redirected ≡ uncarried_in [] (ranges_of [] (chain_items seed count))

-- A call whose output stands in memory has done all, or there was no memory: nothing else stops it,
-- and the output fails for this alone.
abbrev pub EndsInMemory : Outcome → Type 0
EndsInMemory ended.Done = ⊤
EndsInMemory ended.NoMemory = ⊤
EndsInMemory ended.OutputFault = ⊤
EndsInMemory (ended.Refused verdict) = ⊥
EndsInMemory ended.InputFault = ⊥
EndsInMemory (ended.InputTooLong file) = ⊥
EndsInMemory (ended.TooMuch sum) = ⊥
EndsInMemory (ended.InputChanged file place) = ⊥

-- The line of some numbers.
abbrev pub line_text : ℕ → Numbers → List ℕ
line_text parts n =
    codes "trial " ++ decimal parts ++ 0x20 ∷ decimal n.commands ++ 0x20 ∷ decimal n.input
    ++ 0x20 ∷ decimal n.output
    ++ 0x20 ∷ decimal n.clones ++ 0x20 ∷ decimal n.redirected ++ 0x0a ∷ []
