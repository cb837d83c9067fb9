-- The commands of a file, counted.
use Rattle.std.specs.Prelude.{◌≡◌, ℕ, ◌<◌, ◌^◌, List, length}
use Rattle.send_model.specs.Command.{Command}
use Rattle.send_model.specs.Reading.{Whole, reads}
use Rattle.send_model.specs.Order.{commands_of}
use Rattle.send_model.specs.Counts.{literal, clones}
use Rattle.send_model.specs.Lengths.{limit}
use Rattle.chain_trial.specs.declared.counting.Counted.{Counted}

-- So many commands, clones among them, and bytes that they write.
pub record AreCounted (counted : Counted) (commands : List Command) : Type 0 where
  pub commands_are : counted.commands ≡ length commands
  pub clones_are : counted.clones ≡ clones commands
  pub literal_is : counted.literal ≡ literal commands

-- A file is read whole, and its commands are counted.
pub record FileCounted (counted : Counted) (bytes : List ℕ) : Type 0 where
  pub whole : (reads 1 bytes).end ≡ Whole
  pub counts : AreCounted counted (commands_of (reads 1 bytes).items)

-- A file is read whole, it ends before the limit, and its writes carry no more bytes than 64 bits
-- count.
pub record IsCountable (bytes : List ℕ) : Type 0 where
  pub whole : (reads 1 bytes).end ≡ Whole
  pub short : length bytes < limit
  pub few : literal (commands_of (reads 1 bytes).items) < 2 ^ 64
