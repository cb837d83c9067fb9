-- What is asked of files that are read once: a worked list of calls, and two that are not allowed.
use Rattle.std.proofs.Common.{◌≡◌, ℕ, List, [], ◌∷◌, ◌++◌, refl, sym, ap, subst, ◌∙◌, arith, get_or, append-nil}
use Rattle.sx_base.specs.Asks.{Ask, ask, IsReadOn, AreReadOnce}

-- two files, the first one in two pieces and up to its end
example_once : AreReadOnce ((1 ∷ []) ∷ (2 ∷ []) ∷ []) (ask (1 ∷ []) 0 5 ∷ ask (1 ∷ []) 5 2 ∷ ask (1 ∷ []) 7 0 ∷ ask (2 ∷ []) 0 3 ∷ [])
unfolding AreReadOnce IsReadOn
example_once = (
  ask (1 ∷ []) 0 5 ∷ ask (1 ∷ []) 5 2 ∷ ask (1 ∷ []) 7 0 ∷ [],
  ask (2 ∷ []) 0 3 ∷ [],
  refl,
  (7, (refl, (refl, (refl, refl)))),
  (ask (2 ∷ []) 0 3 ∷ [], [], refl, (3, (refl, refl)), refl),
)

-- A file is not begun anew.
example_not_twice : AreReadOnce ((1 ∷ []) ∷ []) (ask (1 ∷ []) 0 3 ∷ ask (1 ∷ []) 0 3 ∷ []) → ⊥
unfolding AreReadOnce IsReadOn
example_not_twice (first, rest, are, (to, on), none) =
    let whole : ask (1 ∷ []) 0 3 ∷ ask (1 ∷ []) 0 3 ∷ [] ≡ first = are ∙ ap (λ (l : List Ask). first ++ l) none ∙ append-nil first in
    let read = subst (λ (l : List Ask). IsReadOn (1 ∷ []) 0 l to) (sym whole) on in
    omega (arith, ap (λ (a : Ask). a.place) read.1.0)

-- No other file is asked for.
example_no_other : AreReadOnce ((1 ∷ []) ∷ []) (ask (2 ∷ []) 0 3 ∷ []) → ⊥
unfolding AreReadOnce IsReadOn
example_no_other (first, rest, are, (to, on), none) =
    let whole : ask (2 ∷ []) 0 3 ∷ [] ≡ first = are ∙ ap (λ (l : List Ask). first ++ l) none ∙ append-nil first in
    let read = subst (λ (l : List Ask). IsReadOn (1 ∷ []) 0 l to) (sym whole) on in
    differ (ap (λ (a : Ask). a.name) read.0)
  where
    differ : ◌≡◌ {A = List ℕ} (2 ∷ []) (1 ∷ []) → ⊥
    differ e = omega (arith, ap (λ (l : List ℕ). get_or l 0 0) e)
