-- Which answers say that the inputs failed.
use Rattle.std.specs.Prelude.{ℕ}
use Rattle.std.proofs.Common.{sym, subst}
use Rattle.cmd_reader.specs.declared.fault.Fault.{Fault}
use Rattle.cmd_reader.specs.declared.fault.Fault.TheVariants as fault
use Rattle.cmd_reader.specs.declared.item.ReadStop.{ReadStop}
use Rattle.cmd_reader.specs.declared.item.ReadStop.TheVariants as stop
use Rattle.cmd_reader.specs.Items.{StopAt}
use Rattle.cmd_reader.specs.Steadiness.{UnlessFault, UnlessStop}

-- What holds always holds for each reason.
pub whatever_stop : (why : ReadStop) (P : Type 0) → P → UnlessStop why P
whatever_stop (stop.Refused verdict) P p = p
whatever_stop stop.InputFault P p = tt
whatever_stop stop.InputTooLong P p = p

-- A fault, seen at its place, says that the inputs failed where it says so itself.
pub seen_at_place : (file number offset : ℕ) (reason : Fault) (why : ReadStop) (P : Type 0) → StopAt file number offset reason why → UnlessFault reason P → UnlessStop why P
seen_at_place file number offset (fault.Refused refusal) why P s p = whatever_stop why P p
seen_at_place file number offset fault.InputFault why P s p = subst (λ (w : ReadStop). UnlessStop w P) (sym s) tt
seen_at_place file number offset fault.InputTooLong why P s p = whatever_stop why P p
