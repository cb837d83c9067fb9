-- UUIDs with an index by which each is found.
use Rattle.std.specs.Prelude.{◌≡◌, ℕ, List}
use Rattle.std.specs.List.{list_any}
use Rattle.std.specs.Str.{bytes_eq}
use Rattle.send_model.specs.Outside.{is_among}

-- The same UUIDs are among the keys and among these.
abbrev pub AreIndexed : List (List ℕ) → List (List ℕ) → Type 0
AreIndexed keys uuids = (uuid : List ℕ) → list_any (bytes_eq uuid) keys ≡ is_among uuids uuid
