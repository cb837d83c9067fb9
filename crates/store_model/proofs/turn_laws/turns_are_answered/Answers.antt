use Rattle.store_model.proofs.TurnEnds.{end_is_front, end_is_taken, short_are_read}
use Rattle.store_model.proofs.TurnStanding.{first_events_stand}
use Rattle.store_model.proofs.TurnTaken.{ends_are_taken}
use Rattle.store_model.proofs.turn_laws.turns_are_answered.Goals as goal

pub returns-clause-front : goal.returns-clause-front
returns-clause-front c = end_is_front

pub returns-clause-taken : goal.returns-clause-taken
returns-clause-taken c = end_is_taken

pub returns-clause-short : goal.returns-clause-short
returns-clause-short c = short_are_read

pub returns-clause-stand : goal.returns-clause-stand
returns-clause-stand c = first_events_stand

pub returns-clause-turned : goal.returns-clause-turned
returns-clause-turned c = ends_are_taken
