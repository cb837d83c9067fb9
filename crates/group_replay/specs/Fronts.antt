-- The command that is spelled in front of bytes.
use Rattle.std.specs.Prelude.{◌≡◌, ℕ, ◌≤◌, List, ◌++◌, length, take, Option, None, Some}
use Rattle.send_model.specs.Command as meant
use Rattle.send_model.specs.Spelling.{canonical, IsSpellable}
use Rattle.send_commands.specs.Meaning.{meaning_of}
use Rattle.group_replay.specs.declared.front.Front.{Front}

-- A command's canonical spelling stands in front of bytes, and is so long.
pub record IsInFront (version : ℕ) (bytes : List ℕ) (c : meant.Command) (len : ℕ) : Type 0 where
  pub spellable : IsSpellable version c
  pub within : len ≤ length bytes
  pub spelled : take len bytes ≡ canonical version c

-- The command in front was found, or there is none.
abbrev pub FindsFront : ℕ → List ℕ → Option Front → Type 0
FindsFront version bytes None =
    (c : meant.Command) (rest : List ℕ) → IsSpellable version c
    → bytes ≡ canonical version c ++ rest → ⊥
FindsFront version bytes (Some front) = IsInFront version bytes (meaning_of front.command) front.len
