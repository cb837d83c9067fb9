-- The cause of a failure of a disk that stops.
use Rattle.std.proofs.Common.{◌≡◌, ℕ, ◌+◌, ◌-◌, ◌^◌, ◌≤◌, min, Bool, false, cond, Err, ◌∙◌, ap, arith}
use Rattle.sx_base.specs.Causes.{HasCause}
use Rattle.disk_model.specs.FuseDisk.{Fused, faults_of}

pub stopped_cause : {D T E : Type 0} (faults : D → ℕ) (inside old new : Fused D) (passes : Bool) (e : E) → inside ≡ old → passes ≡ false → inside.stopped ≤ new.stopped → new.stopped ≡ cond passes inside.stopped (min (inside.stopped + 1) (2 ^ 64 - 1)) → faults inside.disk ≤ faults new.disk
    → HasCause {T = T} (faults_of faults old) (faults_of faults new) (Err e)
stopped_cause faults inside old new passes e seen stopped grows is later =
    let risen : new.stopped ≡ min (inside.stopped + 1) (2 ^ 64 - 1) = is ∙ ap (λ (b : Bool). cond b inside.stopped (min (inside.stopped + 1) (2 ^ 64 - 1))) stopped in
    let same : inside.stopped + faults inside.disk ≡ old.stopped + faults old.disk = ap (faults_of faults) seen in
    record { later = omega (arith, grows, later, same); failed = omega (arith, risen, later, same) }
