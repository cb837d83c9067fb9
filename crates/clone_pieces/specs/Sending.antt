-- Bytes on their way to the output: what of them was written, and what is pending. This program's
-- own.
use Rattle.std.specs.Prelude.{◌≡◌, ℕ, ◌≤◌, List, [], ◌++◌, length, take, Option, Result, Ok, Err}
use Rattle.std.specs.Io.KnownBytes.{Appends}
use Rattle.sx_base.specs.Causes.{Rose}
use Rattle.sx_base.specs.Outside.{AppendsPart}
use Rattle.sx_base.specs.declared.failed.Failed.{Failed}
use Rattle.sx_base.specs.declared.sink.Sink as writing
use Rattle.clone_pieces.specs.declared.stops.SendStop.{SendStop}
use Rattle.clone_pieces.specs.declared.stops.SendStop.TheVariants as stop

-- Of what was pending and some more bytes a front part was written, and the rest is pending.
pub record GoesOut (out_old out_new : Option (List ℕ)) (old new bytes : List ℕ) : Type 0 where
  pub sent : List ℕ
  pub appends : Appends out_old out_new sent
  pub rest : old ++ bytes ≡ sent ++ new

-- Of the bytes a front part came behind what was pending: of both a front part was written, and the
-- rest is pending.
pub record GoesPart (out_old out_new : Option (List ℕ)) (old new bytes : List ℕ) : Type 0 where
  pub count : ℕ
  pub within : count ≤ length bytes
  pub goes : GoesOut out_old out_new old new (take count bytes)

-- The same, and then the output failed: of what is pending a proper front part was written as well.
pub record BreaksOff (out_old out_new : Option (List ℕ)) (old new bytes : List ℕ) : Type 0 where
  pub before : Option (List ℕ)
  pub goes : GoesPart out_old before old new bytes
  pub failed : AppendsPart before out_new new

-- A front part of the bytes was written.
pub record AppendsFront (old new : Option (List ℕ)) (bytes : List ℕ) : Type 0 where
  pub count : ℕ
  pub within : count ≤ length bytes
  pub appends : Appends old new (take count bytes)

-- An output: the bytes that it took, where it tells, those that are pending, and the count of its
-- faults.
pub record Output : Type 0 where
  pub taken : Option (List ℕ)
  pub pending : List ℕ
  pub faults : ℕ

abbrev pub output : {O : Type 0} → writing.Ghosts O → O → List ℕ → Output
output out now pending =
    record { taken = out.taken now; pending = pending; faults = out.faults now }

-- Bytes go out; or the output failed, and a proper front part of what was pending and of them was
-- written, and all of it is pending; or there is no memory, and nothing changed.
abbrev pub PutEnd : (old new : Output) (bytes : List ℕ) → Result (Unit {0}) SendStop → Type 0
PutEnd old new bytes (Ok done) = GoesOut old.taken new.taken old.pending new.pending bytes
PutEnd old new bytes (Err stop.OutputFault) =
    Rose old.faults new.faults × AppendsPart old.taken new.taken (old.pending ++ bytes)
    × (new.pending ≡ old.pending ++ bytes)
PutEnd old new bytes (Err stop.NoMemory) =
    (new.taken ≡ old.taken) × (new.pending ≡ old.pending) × (new.faults ≡ old.faults)
PutEnd old new bytes (Err stop.InputFault) = ⊥
PutEnd old new bytes (Err (stop.InputChanged file place)) = ⊥

-- All that was pending was written, or a proper front part of it, where the output failed.
abbrev pub SendEnd : (old new : Output) → Result (Unit {0}) Failed → Type 0
SendEnd old new (Ok done) = (new.pending ≡ []) × Appends old.taken new.taken old.pending
SendEnd old new (Err failed) =
    Rose old.faults new.faults × AppendsPart old.taken new.taken old.pending
    × (new.pending ≡ old.pending)
