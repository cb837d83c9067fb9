-- Stretches of a source.
use Rattle.std.proofs.Common.{◌≡◌, ℕ, ◌+◌, ◌-◌, ◌*◌, ◌/◌, ◌%◌, ◌<◌, ◌≤◌, arith, sym, ap, subst, ◌∙◌}
use Rattle.std.proofs.Math.Nat.{mod-le}
use Rattle.std.proofs.lemmas.Nat.{mod_below, mod-mul-add, div-add-mod'}
use Rattle.stand_index.specs.Slots.{start_of}

pub start_low : (width cell : ℕ) → start_of width cell ≤ cell
start_low width cell = omega arith

pub start_near : (width cell : ℕ) → 0 < width → cell < start_of width cell + width
start_near width cell some = omega (arith, mod_below cell width some, mod-le cell width)

-- A start is a number of widths.
start_is : (width cell : ℕ) → start_of width cell ≡ (cell / width) * width
start_is width cell = let e : cell / width * width + cell % width ≡ cell = div-add-mod' cell width in omega (arith, e, mod-le cell width)

-- Each cell of a stretch has its start.
pub same_start : (width a cell : ℕ) → 0 < width → start_of width a ≤ cell → cell < start_of width a + width → start_of width cell ≡ start_of width a
same_start width a cell some low near = one (cell - start_of width a) (omega (arith, low)) (omega (arith, low, near))
  where
    one : (r : ℕ) → cell ≡ start_of width a + r → r < width → start_of width cell ≡ start_of width a
    one r is small =
        let at : cell ≡ (a / width) * width + r = is ∙ ap (λ n. n + r) (start_is width a) in
        let rest : cell % width ≡ r = ap (λ n. n % width) at ∙ mod-mul-add (a / width) width r small in
        omega (arith, is, rest)
