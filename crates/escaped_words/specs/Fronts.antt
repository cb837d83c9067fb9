-- What stands first in an escaped form.
use Rattle.std.specs.Prelude.{◌≡◌, ◌≤◌, ℕ, List, drop, length, Some}
use Rattle.program_model.specs.EscapedWords.{onto, unescaped}

-- A byte that so many bytes at the front of an escaped form say.
pub record StandsFirst (form : List ℕ) (byte len : ℕ) : Type 0 where
  pub some : 1 ≤ len
  pub within : len ≤ length form
  pub read : unescaped form ≡ onto (Some byte) (unescaped (drop len form))
