-- How a run of calls to a disk goes on.
use Rattle.std.proofs.Common.{inl, inr, ⊎_elim, ℕ, ◌≤◌, Result, List, arith}
use Rattle.sx_base.specs.Disk.{Pending, IsImage, Passes, members}
use Rattle.sx_base.specs.Crash.{LeavesOnly}

-- before the first call
pub begins : {D : Type 0} {moment : D → ℕ} {left_since : D → ℕ → List ℕ → Type 0} {pending : Pending} {P : List ℕ → Type 0} (disk : D)
    → ((image : List ℕ) → left_since disk (moment disk) image → IsImage pending image) → ((image : List ℕ) → IsImage pending image → P image) → LeavesOnly moment left_since disk disk P
begins disk only here = record {
  later = omega arith;
  each = λ image left. here image (only image left);
  earlier = λ t image le left. inl left;
}

-- one call more, after which a crash leaves what has P
pub goes_on : {D T E : Type 0} {tells : Type 0} {moment : D → ℕ} {left_since : D → ℕ → List ℕ → Type 0} {pending : D → Pending} {faults : D → ℕ} {old middle new : D} {result : Result T E} {P : List ℕ → Type 0}
    → LeavesOnly moment left_since old middle P → Passes (members tells moment left_since pending faults) middle new result → tells → ((image : List ℕ) → IsImage (pending new) image → P image) → LeavesOnly moment left_since old new P
goes_on so_far call tells here = record {
  later = omega (arith, so_far.later, call.clock.later);
  each = λ image left. ⊎_elim (so_far.each image) (here image) ((call.time tells).nothing_else _ image so_far.later left);
  earlier = λ t image le left. ⊎_elim (so_far.earlier t image le) (λ now. inr (here image now)) ((call.time tells).nothing_else t image (omega (arith, le, so_far.later)) left);
}

-- one run after another
pub joins : {D : Type 0} {moment : D → ℕ} {left_since : D → ℕ → List ℕ → Type 0} {old middle new : D} {P : List ℕ → Type 0}
    → LeavesOnly moment left_since old middle P → LeavesOnly moment left_since middle new P → LeavesOnly moment left_since old new P
joins first second = record {
  later = omega (arith, first.later, second.later);
  each = λ image left. ⊎_elim (first.each image) (λ has. has) (second.earlier _ image first.later left);
  earlier = λ t image le left. ⊎_elim (first.earlier t image le) (λ has. inr has) (second.earlier t image (omega (arith, le, first.later)) left);
}

-- what has P has what follows from it
pub weakens : {D : Type 0} {moment : D → ℕ} {left_since : D → ℕ → List ℕ → Type 0} {old new : D} {P Q : List ℕ → Type 0}
    → LeavesOnly moment left_since old new P → ((image : List ℕ) → P image → Q image) → LeavesOnly moment left_since old new Q
weakens run follows = record {
  later = run.later;
  each = λ image left. follows image (run.each image left);
  earlier = λ t image le left. ⊎_elim (λ had. inl had) (λ has. inr (follows image has)) (run.earlier t image le left);
}

-- Where since the start of a run each image had P, each that a crash may leave now has P. That this
-- moment is one of those since the start is what a disk says by `counts_now`.
pub leaves_now : {D : Type 0} {moment : D → ℕ} {left_since : D → ℕ → List ℕ → Type 0} {old new : D} {P : List ℕ → Type 0} (pending : D → Pending)
    → LeavesOnly moment left_since old new P → ((image : List ℕ) → moment old ≤ moment new → IsImage (pending new) image → left_since new (moment old) image) → (image : List ℕ) → IsImage (pending new) image → P image
leaves_now pending run counts image is = run.each image (counts image run.later is)
