-- Whether a file is too long, by its length and by how its first bytes end.
use Rattle.std.specs.Prelude.{◌≡◌, ℕ, ◌<◌, ◌≤◌, Bool, true, false, ◌&&◌, List, length, take, nat_le}
use Rattle.std.proofs.Common.{refl, ap, ◌∙◌, le-leb}
use Rattle.std.proofs.lemmas.Bool.{lt-leb}
use Rattle.send_model.specs.Reading.{Verdict, Ending, Faulty, reads}
use Rattle.send_model.specs.Lengths.{limit, is_truncated, only_ends, is_too_long}

and_false : (b : Bool) → b && false ≡ false
and_false true = refl
and_false false = refl

-- A file that ends before the limit is not too long.
pub short_fits : (file : ℕ) (bytes : List ℕ) → length bytes < limit → is_too_long file bytes ≡ false
unfolding is_too_long
short_fits file bytes less = ap (λ (b : Bool). b && only_ends (reads file (take limit bytes)).end) (lt-leb _ _ less)

-- Nor is one whose bytes before the limit break a rule, unless they are cut short.
pub fault_fits : (file : ℕ) (bytes : List ℕ) (verdict : Verdict) → (is_truncated verdict.refusal ≡ true → length bytes < limit) → (reads file (take limit bytes)).end ≡ Faulty verdict → is_too_long file bytes ≡ false
unfolding is_too_long
fault_fits file bytes verdict early ends = by_cut (is_truncated verdict.refusal) refl
  where
    by_cut : (b : Bool) → is_truncated verdict.refusal ≡ b → is_too_long file bytes ≡ false
    by_cut true cut = short_fits file bytes (early cut)
    by_cut false whole = ap (λ (e : Ending). nat_le limit (length bytes) && only_ends e) ends ∙ ap (λ (b : Bool). nat_le limit (length bytes) && b) whole ∙ and_false (nat_le limit (length bytes))

-- One that reaches to the limit is too long where its bytes before it only end.
pub long_is : (file : ℕ) (bytes : List ℕ) → limit ≤ length bytes → only_ends (reads file (take limit bytes)).end ≡ true → is_too_long file bytes ≡ true
unfolding is_too_long
long_is file bytes long ends = ap (λ (b : Bool). b && only_ends (reads file (take limit bytes)).end) (le-leb _ _ long) ∙ ends
