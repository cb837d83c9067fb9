-- What a crash may leave of a store into which files are received. This program's own.
use Rattle.std.specs.Prelude.{◌≡◌, ◌⊎◌, List, [], ℕ}
use Rattle.sx_base.specs.Disk.{Pending, IsImage}
use Rattle.send_model.specs.Guards.{Guard}
use Rattle.store_model.specs.NamedFiles.{NamedFiles}
use Rattle.store_model.specs.Stops.{IsOnTheWay}
use Rattle.store_model.specs.Requests.{ByImage}

-- What it could leave before, with nothing written; or there was a store, and receiving is on the
-- way, with these lines written.
abbrev pub LeftByReceive : (early : Pending) → (before : List ℕ) → List Guard → NamedFiles
    → (written image : List ℕ) → Type 0
LeftByReceive early before guards files written image =
    (IsImage early image × (written ≡ []))
    ⊎ ByImage before (λ s. IsOnTheWay before guards files s written image) ⊥
