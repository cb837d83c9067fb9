-- What a step finds in a range of contents.
use Rattle.std.specs.Prelude.{◌≡◌, ℕ, ◌+◌, ◌-◌, ◌*◌, ◌/◌, ◌<◌, ◌≤◌, List, [], ◌∷◌, map, length, Option, Some}
use Rattle.std.proofs.Common.{sym, ap, ap₂, subst, ◌∙◌, arith, min}
use Rattle.std.proofs.lemmas.List.{nil_from_length}
use Rattle.send_model.specs.Store.{Key}
use Rattle.send_model.specs.Provenance.{Place}
use Rattle.extent_map.specs.Cells.{cells_between}
use Rattle.provenance.specs.declared.trace.Trace.{Trace}
use Rattle.provenance.specs.Traces.{place_in}
use Rattle.provenance.specs.Cuts.{Cut, Run, Rest, join_cut, cuts_of, cuts_between, Follows, Stops, carried_len}
use Rattle.provenance.proofs.CutLaws.{no_cells}
use Rattle.provenance.proofs.CutSteps.{served_within, step_carried, step_passed}
use Rattle.provenance.proofs.Fronts.{length-places, places_after}

module _ (ends : Key → ℕ → Option ℕ) (contents : List (Option Trace)) (at end : ℕ) (within : end ≤ length contents) where
  pub long : at ≤ end → length (map place_in (cells_between at (end - at) contents)) ≡ end - at
  long le = length-places at (end - at) contents (omega (arith, le, within))

  module _ (first : Option Place) (k : ℕ) (some : 0 < k) (fits : at + k ≤ end)
      (follows : Follows first k (map place_in (cells_between at (end - at) contents))) (stops : Stops first k (map place_in (cells_between at (end - at) contents))) where
    -- A run of carried blocks.
    pub found_run : (p : Place) → first ≡ Some p → (c : ℕ) → c ≡ carried_len ends first k (end - at) → 0 < c
        → (0 < c) × (at + c ≤ end) × (cuts_between ends contents at end ≡ Run p c ∷ cuts_between ends contents (at + c) end)
    found_run p is c count there =
        let l = long (omega (arith, fits)) in
        let W : List (Option Place) = map place_in (cells_between at (end - at) contents) in
        let count' : c ≡ carried_len ends (Some p) k (length W) = count ∙ ap₂ (λ (o : Option Place) (n : ℕ). carried_len ends o k n) is (sym l) in
        let le : c ≤ k = let w = served_within ends (ends p.key p.ino) p k (length W) in omega (arith, count', w) in
        let fits' : at + c ≤ end = omega (arith, le, fits) in (
          there,
          fits',
          step_carried ends at p k c W (omega (arith, l, fits)) (subst (λ (o : Option Place). Follows o k W) is follows) (subst (λ (o : Option Place). Stops o k W) is stops) count' there
              ∙ ap (λ (r : List (Option Place)). Run p c ∷ cuts_of ends (at + c) r) (places_after at c end contents fits'),
        )

    -- Cells that no block carries.
    pub found_rest : carried_len ends first k (end - at) ≡ 0 → (s : ℕ) → s ≡ min ((k + 4095) / 4096 * 4096) (end - at)
        → (0 < s) × (at + s ≤ end) × (cuts_between ends contents at end ≡ join_cut (Rest at s) (cuts_between ends contents (at + s) end))
    found_rest none s is =
        let l = long (omega (arith, fits)) in
        let W : List (Option Place) = map place_in (cells_between at (end - at) contents) in
        let fits' : at + s ≤ end = omega (arith, is, fits) in (
          omega (arith, is, some, fits),
          fits',
          step_passed ends at first k s W some (omega (arith, l, fits)) follows stops (ap (carried_len ends first k) l ∙ none) (is ∙ ap (min ((k + 4095) / 4096 * 4096)) (sym l))
              ∙ ap (λ (r : List (Option Place)). join_cut (Rest at s) (cuts_of ends (at + s) r)) (places_after at s end contents fits'),
        )

-- Nothing is left of a range at its end.
pub none_left : (ends : Key → ℕ → Option ℕ) (contents : List (Option Trace)) (at end : ℕ) → end ≤ length contents → at ≡ end → cuts_between ends contents at end ≡ []
none_left ends contents at end within is =
    ap (cuts_of ends at) (nil_from_length (map place_in (cells_between at (end - at) contents)) (long ends contents at end within (omega (arith, is)) ∙ omega (arith, is))) ∙ no_cells ends at

pub rest_then_run : (at len : ℕ) (p : Place) (c : ℕ) (cuts more : List Cut) → cuts ≡ Run p c ∷ more → join_cut (Rest at len) cuts ≡ Rest at len ∷ cuts
unfolding join_cut
rest_then_run at len p c cuts more is = ap (join_cut (Rest at len)) is ∙ ap (λ (r : List Cut). Rest at len ∷ r) (sym is)

pub rest_then_none : (at len : ℕ) (cuts : List Cut) → cuts ≡ [] → join_cut (Rest at len) cuts ≡ Rest at len ∷ cuts
unfolding join_cut
rest_then_none at len cuts is = ap (join_cut (Rest at len)) is ∙ ap (λ (r : List Cut). Rest at len ∷ r) (sym is)
