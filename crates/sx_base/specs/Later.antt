-- What calls leave of the objects outside that they read and write: no count falls, and where all
-- was done that was asked, none has risen. This program's own.
use Rattle.std.specs.Prelude.{◌≡◌, ℕ, ◌≤◌, List, ◌++◌, Result}
use Rattle.sx_base.specs.Asks.{Ask, IsReadOn}
use Rattle.sx_base.specs.Causes.{Steady}
use Rattle.sx_base.specs.Crash.{LeavesOnly}
use Rattle.sx_base.specs.Disk.{IsAsBefore, IsImage}
use Rattle.sx_base.specs.declared.disk.Disk as keeping
use Rattle.sx_base.specs.declared.inputs.Inputs as reading
use Rattle.sx_base.specs.declared.sink.Sink as writing

-- Inputs tell the same files.
pub record InputsLater {I T E : Type 0} (inputs : reading.Ghosts I) (old new : I)
    (result : Result T E) : Type 0 where
  pub same : inputs.told new ≡ inputs.told old
  pub later : inputs.faults old ≤ inputs.faults new
  pub steady : Steady (inputs.faults old) (inputs.faults new) result
  pub ends_later : inputs.ends old ≤ inputs.ends new
  pub ends_steady : Steady (inputs.ends old) (inputs.ends new) result

-- Between two moments inputs were asked nothing but calls of which this holds.
abbrev pub AskedOnly : {I : Type 0} (inputs : reading.Ghosts I) (old new : I)
    (P : List Ask → Type 0) → Type 0
AskedOnly inputs old new P =
    (before : List Ask) → inputs.asked old before
    → (asks : List Ask) × inputs.asked new (before ++ asks) × P asks

-- They were asked to read a file on from one place to another, and for nothing else.
abbrev pub ReadsOn : {I : Type 0} (inputs : reading.Ghosts I) (old new : I) (name : List ℕ)
    (from to : ℕ) → Type 0
ReadsOn inputs old new name from to = AskedOnly inputs old new (λ asks. IsReadOn name from asks to)

-- An output.
pub record OutputLater {O T E : Type 0} (out : writing.Ghosts O) (old new : O)
    (result : Result T E) : Type 0 where
  pub later : out.faults old ≤ out.faults new
  pub steady : Steady (out.faults old) (out.faults new) result

-- A disk that is only read is as long as before. Where it tells, it gives and has pending what it
-- did, and at each moment of the call a crash leaves an image that one might have left before.
pub record DiskLater {D T E : Type 0} (disk : keeping.Ghosts D) (old new : D)
    (result : Result T E) : Type 0 where
  pub len : disk.len new ≡ disk.len old
  pub same : disk.tells → IsAsBefore disk.seen disk.pending old new
  pub any_moment : disk.tells
      → LeavesOnly disk.moment disk.left_since old new (IsImage (disk.pending old))
  pub later : disk.faults old ≤ disk.faults new
  pub steady : Steady (disk.faults old) (disk.faults new) result
