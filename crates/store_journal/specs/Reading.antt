-- The bytes of files that are read from a disk.
use Rattle.std.specs.Prelude.{◌≡◌, ℕ, ◌≤◌, List, [], None, Some}
use Rattle.send_model.specs.Clone.{cells_of}
use Rattle.send_model.specs.Store.{Key, Store, find}
use Rattle.store_journal.specs.Shown.{StoreState}

-- The cells of a file of a complete subvolume, none where it is not there.
abbrev pub file_cells : {C : Type 0} → Store C → Key → ℕ → List C
file_cells store key ino = elim (find store key) [ None ↦ [] | Some s ↦ cells_of s ino ]

-- The disk has the size that the store keeps, and all groups before its end. So it is while no part
-- is open, and while one is.
pub record HasSize (len : ℕ) (store : StoreState) : Type 0 where
  pub size : len ≡ store.log.size
  pub groups : store.log.gate ≤ store.log.size
