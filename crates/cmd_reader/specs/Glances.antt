-- What is seen of a command that is not made.
use Rattle.std.specs.Prelude.{◌≡◌, ℕ, ◌<◌, ◌≤◌, true, List, Option, Result, option_map, IfSome}
use Rattle.send_model.specs.Reading as reading
use Rattle.send_model.specs.Reading.{is_version}
use Rattle.send_model.specs.Lengths.{limit}
use Rattle.send_commands.specs.Meaning.{meaning_of}
use Rattle.send_commands.specs.Writing.{IsWritable}
use Rattle.cmd_reader.specs.declared.item.Glance.{Glance}
use Rattle.cmd_reader.specs.declared.item.ReadStop.{ReadStop}
use Rattle.cmd_reader.specs.Left.{Reader}
use Rattle.cmd_reader.specs.Next.{HasRead, Says}
use Rattle.cmd_reader.specs.Mentions.{as_mention}

-- There is an item that was gone past, of this version. What it mentions is its command where that
-- begins a part or names a key, and else none.
pub record IsGlance (told : Option (List (List ℕ × List ℕ))) (old new : Reader)
    (glance : Glance) : Type 0 where
  pub item : reading.Item
  pub version : item.version ≡ glance.version
  pub mention : option_map meaning_of glance.mention ≡ as_mention item.command
  pub read : HasRead told old new item

-- What is seen of the next command, or why there is none.
abbrev pub GlanceSays : Option (List (List ℕ × List ℕ)) → Reader → Reader → ℕ → ℕ
    → Result (Option Glance) ReadStop → Type 0
GlanceSays told old new before now result = Says (IsGlance told old new) told old before now result

-- What holds of it by itself.
pub record GlanceFits (old new : Reader) (glance : Glance) : Type 0 where
  pub further : old.offset < new.offset
  pub within : new.offset ≤ limit
  pub version : is_version glance.version ≡ true
  pub writable : IfSome glance.mention (λ command. IsWritable glance.version (meaning_of command))
