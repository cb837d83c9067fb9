-- How a run ends at a file that can not be read on.
use Rattle.std.specs.Prelude.{ℕ}
use Rattle.sx_base.specs.declared.outcome.Outcome.{Outcome}
use Rattle.sx_base.specs.declared.outcome.Outcome.TheVariants as ended
use Rattle.cmd_reader.specs.declared.item.ReadStop.{ReadStop}
use Rattle.cmd_reader.specs.declared.item.ReadStop.TheVariants as stop

abbrev pub outcome_at : ℕ → ReadStop → Outcome
outcome_at file (stop.Refused verdict) = ended.Refused verdict
outcome_at file stop.InputFault = ended.InputFault
outcome_at file stop.InputTooLong = ended.InputTooLong file
