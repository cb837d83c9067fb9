-- What is seen of a command, with what is said in front of its file.
use Rattle.std.specs.Prelude.{◌≡◌, ℕ, true, Option, IfSome, option_map}
use Rattle.send_model.specs.Reading.{is_version}
use Rattle.send_model.specs.Laws.{CanWrite}
use Rattle.send_commands.specs.Meaning.{meaning_of}
use Rattle.send_commands.specs.Writing.{IsWritable}
use Rattle.cmd_reader.specs.declared.item.Glance.{Glance}
use Rattle.send_model.specs.Overridden.{Override, command_as}

-- The command that was made, if one was, is as it is meant; and what a version can say of the one,
-- it can say of the other.
pub record IsMeantGlance (said : Override) (old new : Glance) : Type 0 where
  pub version : new.version ≡ old.version
  pub mention : option_map meaning_of new.mention
      ≡ option_map (command_as said) (option_map meaning_of old.mention)
  pub writable : (version : ℕ)
      → IfSome old.mention (λ command. IsWritable version (meaning_of command))
      → IfSome new.mention (λ command. IsWritable version (meaning_of command))
  pub can_write : (version : ℕ) → is_version version ≡ true
      → IfSome old.mention (λ command. CanWrite version (meaning_of command))
      → IfSome new.mention (λ command. CanWrite version (meaning_of command))
