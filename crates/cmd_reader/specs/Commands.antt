-- The command of a frame whose body is known.
use Rattle.std.specs.Prelude.{◌≡◌, ℕ, true, false, List, Option, Some, None, Result, Ok, Err}
use Rattle.send_model.specs.Refusal.{Refusal}
use Rattle.send_model.specs.Chain.{◌>>=◌}
use Rattle.send_model.specs.Command as meant
use Rattle.send_model.specs.Spelling.{Attribute, attributes_of}
use Rattle.send_model.specs.Reading.{attributes_at, command_of, data_place}
use Rattle.send_model.specs.Laws.{CanWrite}
use Rattle.sx_base.specs.Refusals.{refusal_of}
use Rattle.sx_base.specs.declared.refusal.Refusal as code
use Rattle.send_commands.specs.Meaning.{meaning_of}
use Rattle.send_commands.specs.Writing.{IsWritable}
use Rattle.send_commands.specs.declared.command.Command.{Command}
use Rattle.cmd_reader.specs.declared.front.Front.{Front}

-- The rules after the checksum, in their order.
abbrev pub body_read : ℕ → ℕ → List ℕ → Result meant.Command Refusal
body_read version number body =
    attributes_at version body >>= λ attributes. command_of version number attributes

-- The command and the place of its data, by the attributes that are read.
pub record CommandIs (at version number : ℕ) (body : List ℕ) (command : meant.Command)
    (data_at : ℕ) : Type 0 where
  pub attributes : List Attribute
  pub read : attributes_at version body ≡ Ok attributes
  pub command_is : command_of version number attributes ≡ Ok command
  pub place : data_at ≡ data_place version at attributes

abbrev pub ReadsCommand : ℕ → ℕ → ℕ → List ℕ → Result Front code.Refusal → Type 0
ReadsCommand at version number body (Ok front) =
    CommandIs at version number body (meaning_of front.command) front.data_at
ReadsCommand at version number body (Err refusal) =
    body_read version number body ≡ Err (refusal_of refusal)

-- The attributes that are read are those of the command and no others, in rising order of their
-- numbers.
abbrev pub HasAlone : ℕ → List ℕ → meant.Command → Type 0
HasAlone version body command =
    (attributes : List Attribute) → attributes_at version body ≡ Ok attributes
    → attributes ≡ attributes_of command

-- What holds of the command by itself.
pub record CommandFits (version : ℕ) (body : List ℕ) (front : Front) : Type 0 where
  pub writable : IsWritable version (meaning_of front.command)
  pub can_write : CanWrite version (meaning_of front.command)
  pub alone : front.canonical ≡ true → HasAlone version body (meaning_of front.command)
  pub others : front.canonical ≡ false → HasAlone version body (meaning_of front.command) → ⊥

-- A body has the attributes of a command alone, in rising order of their numbers, and under this
-- number they are read as that command: the frame is the command's canonical spelling.
pub record IsCanonicalOf (version number : ℕ) (body : List ℕ) (c : meant.Command) : Type 0 where
  pub read : attributes_at version body ≡ Ok (attributes_of c)
  pub command_is : command_of version number (attributes_of c) ≡ Ok c

-- The command whose canonical spelling a frame is, or none where there is none.
abbrev pub FindsCanonical : ℕ → ℕ → List ℕ → Option Command → Type 0
FindsCanonical version number body (Some command) =
    CanWrite version (meaning_of command) × IsCanonicalOf version number body (meaning_of command)
FindsCanonical version number body None =
    (c : meant.Command) → IsCanonicalOf version number body c → ⊥
