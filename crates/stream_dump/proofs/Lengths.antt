-- Whether a file is too long, and the answer that is due to it.
use Rattle.std.specs.Prelude.{◌≡◌, ℕ, ◌<◌, ◌≤◌, Bool, true, false, ◌&&◌, List, length, take, nat_le, if◌then◌else◌}
use Rattle.std.proofs.Common.{refl, ap, ◌∙◌, le-leb}
use Rattle.std.proofs.lemmas.Bool.{lt-leb}
use Rattle.send_model.specs.Reading.{Verdict, Ending, Whole, Faulty, reads}
use Rattle.send_model.specs.Receive.{fault_of}
use Rattle.send_model.specs.Lengths.{limit, is_truncated, only_ends, is_too_long}
use Rattle.send_model.specs.Due.{DoneWhole, RefusedAt, TooLong, refused_due, file_due}

and_false : (b : Bool) → b && false ≡ false
and_false true = refl
and_false false = refl

short_fits : (bytes : List ℕ) → length bytes < limit → is_too_long 1 bytes ≡ false
unfolding is_too_long
short_fits bytes less = ap (λ (b : Bool). b && only_ends (reads 1 (take limit bytes)).end) (lt-leb _ _ less)

fault_fits : (bytes : List ℕ) (verdict : Verdict) → (is_truncated verdict.refusal ≡ true → length bytes < limit) → (reads 1 (take limit bytes)).end ≡ Faulty verdict → is_too_long 1 bytes ≡ false
unfolding is_too_long
fault_fits bytes verdict early ends = by_cut (is_truncated verdict.refusal) refl
  where
    by_cut : (b : Bool) → is_truncated verdict.refusal ≡ b → is_too_long 1 bytes ≡ false
    by_cut true cut = short_fits bytes (early cut)
    by_cut false whole = ap (λ (e : Ending). nat_le limit (length bytes) && only_ends e) ends ∙ ap (λ (b : Bool). nat_le limit (length bytes) && b) whole ∙ and_false (nat_le limit (length bytes))

long_is : (bytes : List ℕ) → limit ≤ length bytes → only_ends (reads 1 (take limit bytes)).end ≡ true → is_too_long 1 bytes ≡ true
unfolding is_too_long
long_is bytes long ends = ap (λ (b : Bool). b && only_ends (reads 1 (take limit bytes)).end) (le-leb _ _ long) ∙ ends

due_by : (bytes : List ℕ) (b : Bool) → is_too_long 1 bytes ≡ b → file_due bytes ≡ (if b then TooLong 1 else refused_due (fault_of (reads 1 bytes).end))
unfolding file_due
due_by bytes b e = ap (λ (x : Bool). if x then TooLong 1 else refused_due (fault_of (reads 1 bytes).end)) e

-- A file that is read whole before the limit.
pub due_whole : (bytes : List ℕ) → length bytes < limit → (reads 1 bytes).end ≡ Whole → file_due bytes ≡ DoneWhole
due_whole bytes less ends = due_by bytes false (short_fits bytes less) ∙ ap (λ (e : Ending). refused_due (fault_of e)) ends

-- One that breaks a rule.
pub due_fault : (bytes : List ℕ) (verdict : Verdict) → (is_truncated verdict.refusal ≡ true → length bytes < limit) → (reads 1 (take limit bytes)).end ≡ Faulty verdict
    → (reads 1 bytes).end ≡ Faulty verdict → file_due bytes ≡ RefusedAt verdict
due_fault bytes verdict early front ends = due_by bytes false (fault_fits bytes verdict early front) ∙ ap (λ (e : Ending). refused_due (fault_of e)) ends

-- One that is too long.
pub due_long : (bytes : List ℕ) → limit ≤ length bytes → only_ends (reads 1 (take limit bytes)).end ≡ true → file_due bytes ≡ TooLong 1
due_long bytes long ends = due_by bytes true (long_is bytes long ends)
