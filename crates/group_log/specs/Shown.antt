-- How a log's fields are seen.
use Rattle.std.specs.Prelude.{◌+◌, ◌^◌, ◌<◌, ◌≤◌}
use Rattle.group_log.specs.State.{LogState}
use Rattle.group_log.specs.declared.journal.Log.TheInside.{Inside}

abbrev pub shown : Inside → LogState
shown log = record {
  format = log.format;
  limit = log.limit;
  gate = log.gate;
  groups = log.groups;
  size = log.size;
  sum = log.sum;
  stage = log.stage;
}

-- The greatest size is one that a disk can have, and each group has a gate.
pub record IsCounted (log : Inside) : Type 0 where
  pub bounded : log.limit < 2 ^ 63
  pub counted : log.groups + 20 ≤ log.gate
