-- Ranges of files that are asked for again.
use Rattle.std.specs.Prelude.{◌≡◌, ℕ, ◌+◌, ◌<◌, List, [], ◌∷◌, length, get_or, Option}
use Rattle.std.specs.List.{AllByRecursion}
use Rattle.std.proofs.Common.{refl, subst}
use Rattle.sx_base.specs.Again.{LiesIn}
use Rattle.sx_base.specs.Asks.{Adds, AreData, ask_again, IsAgain}
use Rattle.sx_base.specs.Later.{AskedOnly}
use Rattle.sx_base.specs.declared.inputs.Inputs as reading
use Rattle.sx_base.proofs.Asking.{asked_then, every_append}

module _ {I : Type 0} (inputs : reading.Ghosts I) (names : List (List ℕ)) where
  -- Between two moments nothing but such ranges was asked for.
  abbrev pub AskedAgain : (old new : I) → Type 0
  AskedAgain old new = AskedOnly inputs old new (AllByRecursion (IsAgain (inputs.told old) names))

  -- One range of the file with this number.
  pub again_one : (old new : I) (name : List ℕ) (at count file : ℕ) → Adds (inputs.asked old) (inputs.asked new) (ask_again name at count) → LiesIn (inputs.told old) name at count → AreData (inputs.told old) (file + 1) name at count → file < length names → name ≡ get_or names file []
      → AskedAgain old new
  again_one old new name at count file adds lies own less is before was = (ask_again name at count ∷ [], adds before was, ((refl, (file, less, is, lies, own)), tt))

  -- First some ranges, and then others, of inputs that tell the same.
  pub again_more : (old middle new : I) → inputs.told middle ≡ inputs.told old → AskedAgain old middle → AskedAgain middle new → AskedAgain old new
  again_more old middle new same first second =
      asked_then inputs (every_append (IsAgain (inputs.told old) names)) first
      (subst (λ (t : Option (List (List ℕ × List ℕ))). AskedOnly inputs middle new (AllByRecursion (IsAgain t names))) same second)
