-- Over no base no file is there.
use Rattle.std.specs.Prelude.{[], None}
use Rattle.std.proofs.Common.{refl}
use Rattle.send_model.specs.Store.{find}
use Rattle.provenance.specs.Cuts.{AreEndsOf}

pub nothing_ends : AreEndsOf [] (λ key ino. None)
unfolding find
nothing_ends key ino = refl
