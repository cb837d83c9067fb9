-- A sink that took the first bytes of a piece, and then some of the rest, took so many more of the
-- piece.
use Rattle.std.proofs.Common.{◌≡◌, ℕ, ◌+◌, ◌≤◌, List, ◌++◌, take, drop, ap, sym, ◌∙◌, subst}
use Rattle.std.proofs.KnownBytes.{Appends-trans}
use Rattle.std.proofs.Math.Seq.{take-add}
use Rattle.std.proofs.lemmas.List.{take-take}
use Rattle.std.specs.Io.KnownBytes.{Appends}
use Rattle.std.specs.declared.option.Option.{Option}

pub Appends-more : (a b c : Option (List ℕ)) (piece : List ℕ) (done count room : ℕ) → count ≤ room
    → Appends a b (take done piece) → Appends b c (take count (take room (drop done piece)))
    → Appends a c (take (done + count) piece)
Appends-more a b c piece done count room fits first second =
    let joined : take (done + count) piece ≡ take done piece ++ take count (take room (drop done piece)) =
    take-add done count piece ∙ ap (λ (l : List ℕ). take done piece ++ l) (sym (take-take count room (drop done piece) fits)) in
    subst (Appends a c) (sym joined) (Appends-trans a b c _ _ first second)
