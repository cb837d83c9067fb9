-- How the counts of the system's files and streams go on. This program's own.
use Rattle.std.specs.Prelude.{◌≡◌, ℕ, ◌+◌, ◌-◌, ◌^◌, min, Result, Ok, Err}
use Rattle.sx_base.specs.declared.lost.Lost.{Lost}
use Rattle.sx_base.specs.declared.lost.Lost.TheVariants as lost

-- One more, up to the greatest u64.
abbrev pub one_more : ℕ → ℕ
one_more count = min (count + 1) (2 ^ 64 - 1)

-- A count of faults: one more where the call failed, and the same where it did not.
abbrev pub CountsFaults : {T E : Type 0} → (before now : ℕ) → Result T E → Type 0
CountsFaults before now (Ok x) = now ≡ before
CountsFaults before now (Err e) = now ≡ one_more before

-- The counts of faults and of ends: one more of those for which bytes are lost, and the same of the
-- others.
abbrev pub CountsLosses : (faults_before faults_now ends_before ends_now : ℕ)
    → Result (Unit {0}) Lost → Type 0
CountsLosses faults_before faults_now ends_before ends_now (Ok done) =
    (faults_now ≡ faults_before) × (ends_now ≡ ends_before)
CountsLosses faults_before faults_now ends_before ends_now (Err lost.Failed) =
    (faults_now ≡ one_more faults_before) × (ends_now ≡ ends_before)
CountsLosses faults_before faults_now ends_before ends_now (Err (lost.Ended place)) =
    (faults_now ≡ faults_before) × (ends_now ≡ one_more ends_before)
