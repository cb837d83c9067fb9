-- What is cut from cells lies among them.
use Rattle.std.specs.Prelude.{◌≡◌, ℕ, zero, suc, ◌+◌, ◌<◌, ◌≤◌, Bool, true, false, List, [], ◌∷◌, length, take, drop, Option, None, Some, if◌then◌else◌}
use Rattle.std.specs.List.{AllByRecursion}
use Rattle.std.proofs.Common.{refl, sym, subst, arith, min}
use Rattle.std.proofs.lemmas.List.{length-drop}
use Rattle.send_model.specs.Clone.{block_len}
use Rattle.send_model.specs.Store.{Key}
use Rattle.send_model.specs.Provenance.{Place, same_place, place_after}
use Rattle.provenance.specs.Cuts.{carrier, Cut, Run, Rest, join_cut, cuts_of, LiesIn}
use Rattle.provenance.proofs.CutLaws.{no_cells, one_block, begun}

-- What lies after some cells lies after fewer.
earlier : (from n to : ℕ) (cut : Cut) → LiesIn (from + n) to cut → LiesIn from to cut
earlier from n to (Run place len) h = (h.0, omega (arith, h.1))
earlier from n to (Rest at len) h = (h.0, omega (arith, h.1), h.2)

all_earlier : (from n to : ℕ) (cuts : List Cut) → AllByRecursion (LiesIn (from + n) to) cuts → AllByRecursion (LiesIn from to) cuts
all_earlier from n to [] h = tt
all_earlier from n to (cut ∷ cuts) h = (earlier from n to cut h.0, all_earlier from n to cuts h.1)

rest_joins : (from n to : ℕ) (cuts : List Cut) → 0 < n → from + n ≤ to → AllByRecursion (LiesIn (from + n) to) cuts → AllByRecursion (LiesIn from to) (join_cut (Rest from n) cuts)
unfolding join_cut
rest_joins from n to [] some fits h = ((some, omega arith, fits), tt)
rest_joins from n to (Run place len ∷ cuts) some fits h = ((some, omega arith, fits), all_earlier from n to (Run place len ∷ cuts) h)
rest_joins from n to (Rest at len ∷ cuts) some fits h =
    let a = h.0.1 in
    let b = h.0.2 in
    ((omega (arith, some), omega arith, omega (arith, a, b)), all_earlier from n to cuts h.1)

run_joins : (from n to : ℕ) (place : Place) (cuts : List Cut) → 0 < n → from + n ≤ to → AllByRecursion (LiesIn (from + n) to) cuts → AllByRecursion (LiesIn from to) (join_cut (Run place n) cuts)
unfolding join_cut
run_joins from n to place [] some fits h = ((some, fits), tt)
run_joins from n to place (Rest at len ∷ cuts) some fits h = ((some, fits), all_earlier from n to (Rest at len ∷ cuts) h)
run_joins from n to place (Run place' len ∷ cuts) some fits h = one (same_place (place_after place n) place')
  where
    one : (b : Bool) → AllByRecursion (LiesIn from to) (if b then Run place (n + len) ∷ cuts else Run place n ∷ Run place' len ∷ cuts)
    one true = let a = h.0.1 in ((omega (arith, some), omega (arith, a)), all_earlier from n to cuts h.1)
    one false = ((some, fits), all_earlier from n to (Run place' len ∷ cuts) h)

module _ (ends : Key → ℕ → Option ℕ) where
  begun_lies : (from n to : ℕ) (o : Option Place) (cells : List (Option Place)) → 0 < n → from + n ≤ to → AllByRecursion (LiesIn (from + n) to) (cuts_of ends (from + n) cells) → AllByRecursion (LiesIn from to) (begun ends from o n cells)
  unfolding begun
  begun_lies from n to None cells some fits h = rest_joins from n to (cuts_of ends (from + n) cells) some fits h
  begun_lies from n to (Some place) cells some fits h = run_joins from n to place (cuts_of ends (from + n) cells) some fits h

  lie : (fuel from to : ℕ) (cells : List (Option Place)) → length cells ≤ fuel → from + length cells ≡ to → AllByRecursion (LiesIn from to) (cuts_of ends from cells)
  lie fuel from to [] enough is = subst (λ (cuts : List Cut). AllByRecursion (LiesIn from to) cuts) (sym (no_cells ends from)) tt
  lie zero from to (c ∷ cells) enough is = absurd (omega (arith, enough))
  lie (suc fuel) from to (c ∷ cells) enough is =
      let n : ℕ = min block_len (length (c ∷ cells)) in
      let d = length-drop n (c ∷ cells) in
      let o : Option Place = carrier ends (take block_len (c ∷ cells)) in
      subst (λ (cuts : List Cut). AllByRecursion (LiesIn from to) cuts) (sym (one_block ends from (c ∷ cells) (omega arith) o refl n refl))
      (begun_lies from n to o (drop n (c ∷ cells)) (omega arith) (omega (arith, is)) (lie fuel (from + n) to (drop n (c ∷ cells)) (omega (arith, d, enough)) (omega (arith, d, is))))

  pub all_lie : (from len : ℕ) (cells : List (Option Place)) → length cells ≡ len → AllByRecursion (LiesIn from (from + len)) (cuts_of ends from cells)
  all_lie from len cells is = lie len from (from + len) cells (omega (arith, is)) (omega (arith, is))
