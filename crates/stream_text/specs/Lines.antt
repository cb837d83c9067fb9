-- Lines among bytes.
use Rattle.std.specs.Prelude.{◌≡◌, ◌≢◌, ⊤, ℕ, ◌+◌, ◌-◌, ◌<◌, ◌≤◌, List, [], ◌∷◌, ◌++◌, length, take, drop, Option, None, Some}
use Rattle.std.specs.List.{AllByRecursion}
use Rattle.sx_base.specs.Outside.{file_at}

-- Bytes without a newline.
abbrev pub HasNoLine : List ℕ → Type 0
HasNoLine bytes = AllByRecursion (λ byte. byte ≢ 0x0a) bytes

-- The bytes from a place of a file on are these, as many as there are.
pub record IsHeld (at : ℕ) (held file : List ℕ) : Type 0 where
  pub within : at + length held ≤ length file
  pub here : take (length held) (drop at file) ≡ held

-- A line of so many bytes, its newline among them, stands in front.
pub record IsLineIn (held : List ℕ) (len : ℕ) : Type 0 where
  pub some : 0 < len
  pub within : len ≤ length held
  pub text : HasNoLine (take (len - 1) held)
  pub line : take len held ≡ take (len - 1) held ++ 0x0a ∷ []

-- How many bytes the first line has; or there is no newline.
abbrev pub LineEnd : List ℕ → Option ℕ → Type 0
LineEnd bytes (Some len) = IsLineIn bytes len
LineEnd bytes None = HasNoLine bytes

-- This holds of the bytes of a named file, where the inputs tell their files.
abbrev pub IfFile : Option (List (List ℕ × List ℕ)) → List ℕ → (List ℕ → Type 0) → Type 0
IfFile None name P = ⊤
IfFile (Some files) name P = P (file_at files name)
