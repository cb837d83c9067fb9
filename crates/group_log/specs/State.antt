-- What a log is seen as, and what becomes of that in each of its calls, whether or not the disk
-- tells.
use Rattle.std.specs.Prelude.{ℕ, ◌+◌, ◌-◌, List, length}
use Rattle.send_model.specs.Checksum.{crc_of}
use Rattle.store_model.specs.Image.{reserve}
use Rattle.group_log.specs.declared.journal.Stage.{Stage}
use Rattle.group_log.specs.declared.journal.Stage.TheVariants.{Reading, AtRest, InProgress, Prepared}

-- The number of the format and the greatest size, by the header; the place of the gate behind the
-- groups, and how many groups these are; the size of the disk; the checksum of what was put into
-- the group in progress; and how far the log is.
pub record LogState : Type 0 where
  pub format : ℕ
  pub limit : ℕ
  pub gate : ℕ
  pub groups : ℕ
  pub size : ℕ
  pub sum : ℕ
  pub stage : Stage

-- all groups were read
abbrev pub resting : LogState → LogState
resting log = record log { stage = AtRest }

-- one group more was read, with a body of this length
abbrev pub past_group : LogState → ℕ → LogState
past_group log len = record log { gate = log.gate + 9 + len; groups = log.groups + 1 }

-- a group was begun: behind its gate there is room for its length
abbrev pub begun : LogState → LogState
begun log = record log { size = log.gate + 9; sum = 0; stage = InProgress }

-- bytes were put into the group in progress
abbrev pub appended : LogState → List ℕ → LogState
appended log bytes = record log { size = log.size + length bytes; sum = crc_of log.sum bytes }

-- the group in progress was closed with its checksum and the next gate
abbrev pub prepared : LogState → LogState
prepared log = record log { size = log.size + reserve; stage = Prepared }

-- the prepared group became one of the groups; the next gate is the last byte
abbrev pub published : LogState → LogState
published log = record log { gate = log.size - 1; groups = log.groups + 1; stage = AtRest }

-- the group that was in progress or prepared was forgotten, if there was one
abbrev pub abandoned_from : Stage → LogState → LogState
abandoned_from Reading log = log
abandoned_from AtRest log = log
abandoned_from InProgress log = resting log
abandoned_from Prepared log = resting log

abbrev pub abandoned : LogState → LogState
abandoned log = abandoned_from log.stage log
