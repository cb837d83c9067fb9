-- What is known of a disk in memory.
use Rattle.std.specs.Prelude.{ℕ, max, Bool, true, false, Option, Some, None, List, [], ◌∷◌, length}
use Rattle.sx_base.specs.Disk.{Pending}
use Rattle.disk_model.specs.declared.stretch.Stretch.{Stretch}

-- A byte is known where no write since the sync holds its place.
abbrev pub known_of : List Bool → List ℕ → List (Option ℕ)
known_of [] bytes = []
known_of (is_touched ∷ touched) [] = []
known_of (true ∷ touched) (byte ∷ bytes) = None ∷ known_of touched bytes
known_of (false ∷ touched) (byte ∷ bytes) = Some byte ∷ known_of touched bytes

abbrev pub pending_in : Stretch → Pending
pending_in s =
    record {
      known = known_of s.touched.items s.bytes.items;
      greatest = max s.greatest (length s.bytes.items);
    }
