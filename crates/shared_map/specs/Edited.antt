-- The value at a key is changed where it stands, or set where there is none. Source: this program's
-- own.
use Rattle.std.specs.Prelude.{◌≡◌, Bool, true, false, Option, None, Some}
use Rattle.send_model.specs.Map.{Map}

-- Of a map and an edit: where a key has a value, it becomes another one, and the edit what it is by
-- the value that was there; where it has none, nothing changes. The value as it was is given, and
-- the map with any value at the key.
abbrev pub IsEdited : {K V E : Type 0}
    → (does : V → V × E) (was : Option V) (put : V → Map K V) (old new : Map K V × E) (there : Bool)
    → Type 0
IsEdited does None put old new there = (there ≡ false) × (new.0 ≡ old.0) × (new.1 ≡ old.1)
IsEdited does (Some value) put old new there =
    (there ≡ true) × (new.0 ≡ put (does value).0) × (new.1 ≡ (does value).1)

-- A key that had no value gets one; where it had one, nothing changes. The value that was there is
-- given, and the map with the new one.
abbrev pub PutsNew : {K V : Type 0} → (was : Option V) (put old new : Map K V) (fresh : Bool)
    → Type 0
PutsNew None put old new fresh = (fresh ≡ true) × (new ≡ put)
PutsNew (Some value) put old new fresh = (fresh ≡ false) × (new ≡ old)
