-- A call that failed, as a call to a disk.
use Rattle.std.specs.Prelude.{◌≡◌, Err}
use Rattle.std.proofs.Common.{subst}
use Rattle.sx_base.specs.Disk.{Passes, members}
use Rattle.file_disk.specs.State.{FileState, moment_of, faults_of, never, unknown, IsCounted}

pub failed_passes : {T E : Type 0} (old mid new : FileState) (e : E) → mid ≡ old → IsCounted mid new → Passes {T = T} (members ⊥ moment_of never unknown faults_of) old new (Err e)
failed_passes {T = T} old mid new e same counted =
    subst (λ (d : FileState). Passes {T = T} (members ⊥ moment_of never unknown faults_of) d new (Err e)) same
    (record { clock = counted.clock; time = λ tells. absurd tells; cause = record { later = counted.later; failed = counted.rose } })
