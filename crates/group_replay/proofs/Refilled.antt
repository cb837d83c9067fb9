-- A window whose bytes moved to its front, and that was filled up behind them.
use Rattle.std.specs.Prelude.{◌≡◌, ℕ, ◌+◌, ◌≤◌, List, ◌++◌, length, take, drop}
use Rattle.std.proofs.Common.{sym, ap, ◌∙◌, arith, length-drop, drop-drop, take-add}
use Rattle.std.proofs.Math.Seq.{paste}
use Rattle.std.proofs.lemmas.List.Edits.{take-paste}
use Rattle.std.proofs.lemmas.Slice.{take-put_mid}
use borrow.Rule.Slice.PartMut.{put_mid}

-- what stands in front then
pub moved_front : (window moved : List ℕ) (used kept : ℕ) → used + kept ≤ length window → moved ≡ paste window 0 (drop used window) kept → take kept moved ≡ take kept (drop used window)
moved_front window moved used kept fits is =
    ap (take kept) is ∙ ap (λ (n : ℕ). take n (paste window 0 (drop used window) kept)) (let e : kept ≡ 0 + kept = omega arith in e) ∙ take-paste window 0 (drop used window) kept (omega (arith, fits)) (omega (arith, fits, length-drop used window))

-- and all that is kept then
pub filled_up : (moved bytes seen : List ℕ) (kept part more at : ℕ) → kept ≤ length moved → length bytes ≡ more → take kept moved ≡ take kept (drop at seen) → bytes ≡ take more (drop (at + kept) seen)
    → take (kept + more) (put_mid kept part moved bytes) ≡ take (kept + more) (drop at seen)
filled_up moved bytes seen kept part more at fits size front is =
    take-put_mid kept part moved bytes (kept + more) (omega (arith, size)) fits
    ∙ (λ i. front i ++ is i)
    ∙ ap (λ (l : List ℕ). take kept (drop at seen) ++ take more l) (sym (drop-drop kept at seen))
    ∙ sym (take-add kept more (drop at seen))
