-- What the frames of edits make of an open part, the first of which stands at a place on the disk.
use Rattle.std.specs.Prelude.{◌≡◌, ◌⊎◌, ℕ, Bool, true, false, List, Option, None, Some}
use Rattle.std.specs.List.{AllByRecursion}
use Rattle.send_model.specs.Command.{Command}
use Rattle.send_model.specs.Spelling.{canonical_all, attributes_of}
use Rattle.send_model.specs.Reading.{data_place}
use Rattle.send_model.specs.Receive.{bytes_of}
use Rattle.send_model.specs.Store.{State, step_edit}
use Rattle.store_model.specs.Stored.{is_edit, IsEdit, taken, edits_made}
use Rattle.group_replay.specs.declared.place.Place.{Place}
use Rattle.group_replay.specs.Taking.{as_runs}
use Rattle.group_replay.specs.Fronts.{IsInFront, FindsFront}

-- What one edit makes whose frame stands at a place.
abbrev pub one_made : ℕ → ℕ → Command → State (Option Place) → Option (State (Option Place))
one_made version at c state =
    taken (step_edit None (as_runs (data_place version at (attributes_of c)) (bytes_of c)) state c)

-- An edit was taken, or it is none or is refused.
abbrev pub TakesEdit : Bool → ℕ → ℕ → Command → State (Option Place) → State (Option Place) → Type 0
TakesEdit true version at c old new = (is_edit c ≡ true) × (one_made version at c old ≡ Some new)
TakesEdit false version at c old new = is_edit c ≡ true → one_made version at c old ≡ None

-- Bytes are the frames of edits that make one state of another.
pub record AreEdits (version at : ℕ) (bytes : List ℕ)
    (old new : State (Option Place)) : Type 0 where
  pub commands : List Command
  pub lawful : AllByRecursion (IsEdit version) commands
  pub spelled : bytes ≡ canonical_all version commands
  pub makes : edits_made None as_runs version at old commands ≡ Some new

-- Bytes are the frames of no edits that make anything.
abbrev pub AreBadEdits : ℕ → ℕ → List ℕ → State (Option Place) → Type 0
AreBadEdits version at bytes state =
    (commands : List Command) → AllByRecursion (IsEdit version) commands
    → bytes ≡ canonical_all version commands
    → edits_made None as_runs version at state commands ≡ None

-- The edit whose frame is in front was taken.
pub record TookFront (version at : ℕ) (bytes : List ℕ) (old new : State (Option Place))
    (len : ℕ) : Type 0 where
  pub command : Command
  pub front : IsInFront version bytes command len
  pub edits : is_edit command ≡ true
  pub makes : one_made version at command old ≡ Some new

-- A frame is in front, and it is no edit or is refused.
pub record IsRefusedFront (version at : ℕ) (bytes : List ℕ)
    (old : State (Option Place)) : Type 0 where
  pub command : Command
  pub len : ℕ
  pub front : IsInFront version bytes command len
  pub refused : is_edit command ≡ true → one_made version at command old ≡ None

-- The edit in front was taken, or none is in front, or it is refused.
abbrev pub TakesFront : ℕ → ℕ → List ℕ → State (Option Place) → State (Option Place) → Option ℕ
    → Type 0
TakesFront version at bytes old new (Some len) = TookFront version at bytes old new len
TakesFront version at bytes old new None =
    FindsFront version bytes None ⊎ IsRefusedFront version at bytes old
