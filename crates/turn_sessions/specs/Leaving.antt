-- What a crash may leave of a store into which files that take turns are received. This program's
-- own.
use Rattle.std.specs.Prelude.{◌≡◌, ◌⊎◌, List, [], ℕ}
use Rattle.sx_base.specs.Disk.{Pending, IsImage}
use Rattle.store_model.specs.Requests.{ByImage}
use Rattle.store_model.specs.TurnDues.{InTurns}
use Rattle.store_model.specs.TurnAnswers.{IsOnTurnWay}

-- What it could leave before, with nothing written; or there was a store, and the turns are on the
-- way, with these lines written.
abbrev pub LeftByTurns : (early : Pending) → (before : List ℕ) → InTurns → (written image : List ℕ)
    → Type 0
LeftByTurns early before turns written image =
    (IsImage early image × (written ≡ []))
    ⊎ ByImage before (λ s. IsOnTurnWay turns before s written image) ⊥
