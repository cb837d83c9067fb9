-- The command of a frame where it begins a part or names another subvolume, and nothing of it where
-- it does neither.
use Rattle.std.specs.Prelude.{◌≡◌, ℕ, Bool, true, false, ◌||◌, List, [], ◌∷◌, Option, None, Some, Result, Ok, Err, option_map, is_some, if◌then◌else◌}
use Rattle.send_model.specs.Command as meant
use Rattle.send_model.specs.Command.{Kind, command_with}
use Rattle.send_model.specs.Spelling.{Attribute}
use Rattle.send_model.specs.Reading.{attributes_at, command_of}
use Rattle.send_model.specs.Store.{head_of}
use Rattle.send_model.specs.Outside.{keys_named}
use Rattle.send_model.specs.Laws.{CanWrite}
use Rattle.sx_base.specs.Refusals.{refusal_of}
use Rattle.sx_base.specs.declared.refusal.Refusal as code
use Rattle.send_commands.specs.declared.command.Command.{Command}
use Rattle.send_commands.specs.Meaning.{meaning_of}
use Rattle.cmd_reader.specs.Commands.{body_read}

abbrev pub is_any : {A : Type 0} → List A → Bool
is_any [] = false
is_any (x ∷ xs) = true

-- A command begins a part, or it names a key beside its own.
abbrev pub tells_of_parts : meant.Command → Bool
tells_of_parts command = is_some (head_of command) || is_any (keys_named command)

-- The command itself where it does.
abbrev pub as_mention : meant.Command → Option meant.Command
as_mention command = if tells_of_parts command then Some command else None

-- A command of this kind does, whatever its values are.
abbrev pub is_mention : Kind → Bool
is_mention kind = tells_of_parts (command_with kind (λ wanted. []))

-- The command that the attributes which are read make, and what was made of it.
pub record MentionIs (version number : ℕ) (body : List ℕ) (mention : Option Command) : Type 0 where
  pub attributes : List Attribute
  pub command : meant.Command
  pub read : attributes_at version body ≡ Ok attributes
  pub command_is : command_of version number attributes ≡ Ok command
  pub can_write : CanWrite version command
  pub mention_is : option_map meaning_of mention ≡ as_mention command

abbrev pub ReadsMention : ℕ → ℕ → List ℕ → Result (Option Command) code.Refusal → Type 0
ReadsMention version number body (Ok mention) = MentionIs version number body mention
ReadsMention version number body (Err refusal) =
    body_read version number body ≡ Err (refusal_of refusal)
