use Rattle.send_model.proofs.Guarding.{no_guards_change_nothing, allowed_is_accepted, no_guards_on_readings, allowed_reading_is_accepted}
use Rattle.send_model.proofs.Guarded.{accepted_is_within, accepted_reading_is_within}
use Rattle.send_model.proofs.Audited.{audit_is_receiving, audit_stops_at_limit}
use Rattle.send_model.proofs.laws.guards_only_refuse.Goals as goal

pub returns-clause-none : goal.returns-clause-none
returns-clause-none c = no_guards_change_nothing

pub returns-clause-allowed : goal.returns-clause-allowed
returns-clause-allowed c = allowed_is_accepted

pub returns-clause-within : goal.returns-clause-within
returns-clause-within c = accepted_is_within

pub returns-clause-audited : goal.returns-clause-audited
returns-clause-audited c = audit_is_receiving

pub returns-clause-limited : goal.returns-clause-limited
returns-clause-limited c = audit_stops_at_limit

pub returns-clause-none_read : goal.returns-clause-none_read
returns-clause-none_read c = no_guards_on_readings

pub returns-clause-allowed_read : goal.returns-clause-allowed_read
returns-clause-allowed_read c = allowed_reading_is_accepted

pub returns-clause-within_read : goal.returns-clause-within_read
returns-clause-within_read c = accepted_reading_is_within
