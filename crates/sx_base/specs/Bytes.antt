-- Words on lists of bytes.
use Rattle.std.specs.Prelude.{◌≡◌, ℕ, ◌+◌, List, ◌++◌, length, take, drop}

-- The list with the piece in place of as many of its bytes from the place at on, the last of them
-- past its end if the piece is long.
abbrev pub put_at : ℕ → List ℕ → List ℕ → List ℕ
put_at at piece bytes = take at bytes ++ piece ++ drop (at + length piece) bytes

-- The second list begins with the first.
abbrev pub IsFront : List ℕ → List ℕ → Type 0
IsFront front bytes = (rest : List ℕ) × (bytes ≡ front ++ rest)
