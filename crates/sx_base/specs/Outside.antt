-- What the objects of the outside tell of the bytes that they give and take.
use Rattle.std.specs.Prelude.{◌≡◌, ℕ, ◌-◌, ◌<◌, ◌≤◌, List, [], ◌∷◌, length, take, drop, None, Some, if◌then◌else◌, ⊤, bytes_eq}
use Rattle.std.specs.declared.option.Option.{Option}
use Rattle.std.specs.Io.KnownBytes.{Appends}

-- Files are a finite map from names to bytes: a list of pairs, in which the first pair of a name
-- counts. A name that is not there is an empty file.
unfoldable pub file_at : List (List ℕ × List ℕ) → List ℕ → List ℕ
file_at [] name = []
file_at (file ∷ rest) name = if bytes_eq file.0 name then file.1 else file_at rest name

-- The first count bytes of a buffer are those of a file from the place at on. There are none only
-- where the buffer is empty or the file ends.
pub record IsPieceAt (file : List ℕ) (at : ℕ) (buf : List ℕ) (count : ℕ) : Type 0 where
  pub bytes : take count buf ≡ take count (drop at file)
  pub within : count ≤ length file - at
  pub at_end : count ≡ 0 → 0 < length buf → length file ≤ at

-- A read of a named file gave such a piece, where the inputs tell their files.
abbrev pub GivesAt : Option (List (List ℕ × List ℕ)) → List ℕ → ℕ → List ℕ → ℕ → Type 0
GivesAt None name at buf count = ⊤
GivesAt (Some files) name at buf count = IsPieceAt (file_at files name) at buf count

-- A sink that tells took a proper prefix of the piece.
abbrev pub AppendsPart : Option (List ℕ) → Option (List ℕ) → List ℕ → Type 0
AppendsPart old new piece =
    (count : ℕ) × (count < length piece) × Appends old new (take count piece)
