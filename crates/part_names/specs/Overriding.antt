-- What is said in front of files, in the words of contracts: what is read of files with it, and
-- what a call ends with then. This program's own.
use Rattle.std.specs.Prelude.{◌≡◌, ℕ, ◌<◌, ◌^◌, true, List, length, Option, None, Some}
use Rattle.send_model.specs.Store as meant
use Rattle.send_model.specs.Store.{Store}
use Rattle.send_model.specs.Words.{Request}
use Rattle.send_model.specs.Laws.{CanWrite}
use Rattle.send_model.specs.Reading.{is_version}
use Rattle.send_model.specs.Overridden.{Override, Overrides, overridden_as}
use Rattle.send_model.specs.Sources.{Sources, sources, overridden_sources, due_of, EndSaysOf, StandsBeforeOf, StandsCutOf}
use Rattle.send_commands.specs.Meaning.{meaning_of}
use Rattle.send_commands.specs.Writing.{IsWritable}
use Rattle.cmd_reader.specs.declared.item.Item.{Item}
use Rattle.cmd_reader.specs.Next.{item_of}
use Rattle.sx_base.specs.Calls.{EndsAs}
use Rattle.sx_base.specs.declared.outcome.Outcome.{Outcome}
use Rattle.part_names.specs.declared.parent.Parent.{Parent}

-- An attribute has room for a name.
abbrev pub IsShort : List ℕ → Type 0
IsShort name = length name < 2 ^ 16

-- A parent of the code as the key that is meant.
abbrev pub key_of : Parent → meant.Key
key_of parent = record { uuid = parent.uuid; ctransid = parent.ctransid }

-- The name that is said, or else a head's own.
abbrev pub name_or : Override → List ℕ → List ℕ
name_or override own = elim override.name [ None ↦ own | Some name ↦ name ]

-- What is read of files with these overrides.
abbrev pub sources_with : Overrides → List (List ℕ) → Sources
sources_with overrides files = overridden_sources overrides (sources files)

-- An outcome that what was read decides is the one answer that is due to a request over a base, and
-- what was written stands as it says. Where the inputs failed or were changed, or there was no
-- memory, it stands as before an end, and where the output failed, it is cut.
abbrev pub EndsOf : Request → Store ℕ → Sources → Outcome → List ℕ → Type 0
EndsOf request base read outcome written =
    EndsAs (due_of request base read) (EndSaysOf request base read)
    (StandsBeforeOf request base read) (StandsCutOf request base read) outcome written

-- What is given, or else the other.
abbrev pub given_or : {T : Type 0} → T → Option T → T
given_or other None = other
given_or other (Some x) = x

-- An item with what is said in front of its file: what could be written still can, and it is in its
-- canonical form only where it is as it was.
pub record IsOverridden (said : Override) (item new : Item) : Type 0 where
  pub meant : (file : ℕ) → item_of file new ≡ overridden_as said (item_of file item)
  pub writable : (version : ℕ) → IsWritable version (meaning_of item.command)
      → IsWritable version (meaning_of new.command)
  pub can_write : (version : ℕ) → is_version version ≡ true
      → CanWrite version (meaning_of item.command) → CanWrite version (meaning_of new.command)
  pub frame : new.canonical ≡ true
      → (item.canonical ≡ true) × (meaning_of new.command ≡ meaning_of item.command)
