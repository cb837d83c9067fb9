-- What the words of composing speak of: the files and the plan, one of the files, and what was
-- reached at a moment.
use Rattle.send_model.specs.Overridden.{Override}
use Rattle.std.specs.Prelude.{ℕ, List, Option}
use Rattle.composer.specs.OverBase.{Plan}
use Rattle.composer.specs.Kept.{Kept}

-- The bytes of the files that are composed, and what is known of them and of the base.
pub record Over : Type 0 where
  pub files : List (List ℕ)
  pub plan : Plan

abbrev pub over : List (List ℕ) → Plan → Over
over files plan = record { files = files; plan = plan }

-- One of the files: its number, counted from 1, the name that is given for it, if one is, and its
-- bytes.
pub record OneFile : Type 0 where
  pub number : ℕ
  pub given : Override
  pub bytes : List ℕ

abbrev pub one_file : ℕ → Override → List ℕ → OneFile
one_file number given bytes = record { number = number; given = given; bytes = bytes }

-- What the composer keeps, and the bytes that the output took, where it tells.
pub record Reached : Type 0 where
  pub kept : Kept
  pub taken : Option (List ℕ)

abbrev pub reached : Kept → Option (List ℕ) → Reached
reached kept taken = record { kept = kept; taken = taken }
