-- The name of a part.
use Rattle.std.specs.Prelude.{ℕ, ◌<◌, ◌^◌, List, length}

-- A name fits the length field of an attribute.
abbrev pub IsShort : List ℕ → Type 0
IsShort name = length name < 2 ^ 16
