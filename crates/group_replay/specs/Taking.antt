-- What one group of a journal makes of subvolumes whose cells are places on the disk. Of each body
-- either a group with this body makes what is then there, or no group with this body makes
-- anything.
use Rattle.std.specs.Prelude.{◌≡◌, ℕ, Bool, true, false, List, length, Option, None, Some}
use Rattle.extent_map.specs.Pieces.{run_cells}
use Rattle.send_model.specs.Store.{Store, Part, State}
use Rattle.store_model.specs.Stored.{Group, Putting, IsGroup, body_bytes, made}
use Rattle.group_replay.specs.declared.place.Place.{Place}
use Rattle.group_replay.specs.Placing.{further}

-- The places of the bytes of a WRITE, as cells.
abbrev pub as_runs : Putting (Option Place)
as_runs place bytes = run_cells further (record { at = place }) (length bytes)

-- A part that is open.
abbrev pub open_state : Store (Option Place) → Part (Option Place) → State (Option Place)
open_state store part = record { store = store; part = Some part }

-- A group of this format has the body, which stands at a place, and makes one store of another.
pub record MakesGroup (format at : ℕ) (body : List ℕ)
    (old new : Store (Option Place)) : Type 0 where
  pub group : Group
  pub lawful : IsGroup format group
  pub body_is : body_bytes group ≡ body
  pub makes : made None as_runs at old group.content ≡ Some new

-- No group with the body makes anything of the store.
abbrev pub IsAtFault : ℕ → ℕ → List ℕ → Store (Option Place) → Type 0
IsAtFault format at body old =
    (group : Group) → IsGroup format group → body_bytes group ≡ body
    → made None as_runs at old group.content ≡ None

-- A group was taken, or it is at fault.
abbrev pub TakesGroup : ℕ → ℕ → List ℕ → Store (Option Place) → Store (Option Place) → Bool → Type 0
TakesGroup format at body old new true = MakesGroup format at body old new
TakesGroup format at body old new false = IsAtFault format at body old
