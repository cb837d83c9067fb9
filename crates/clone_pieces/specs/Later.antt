-- What calls leave of what has the bytes of a base: no count falls, and where all was done that was
-- asked, none has risen. This program's own.
use Rattle.std.specs.Prelude.{◌≡◌, ◌≤◌, Result}
use Rattle.sx_base.specs.Causes.{Steady}
use Rattle.clone_pieces.specs.declared.outside.OutsideBytes as holding
use Rattle.clone_pieces.specs.Origins.{AreAsLong}

-- It has as many bytes of each file, and where it tells, the same ones.
pub record BytesLater {B T E : Type 0} (bytes : holding.Ghosts B) (old new : B)
    (result : Result T E) : Type 0 where
  pub sizes : AreAsLong (bytes.held new) (bytes.held old)
  pub held : bytes.tells → bytes.held new ≡ bytes.held old
  pub later : bytes.faults old ≤ bytes.faults new
  pub steady : Steady (bytes.faults old) (bytes.faults new) result
