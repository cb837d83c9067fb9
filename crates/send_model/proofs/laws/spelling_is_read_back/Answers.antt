use Rattle.send_model.proofs.Canonical.{spelled_read, spelled_front, spelled_once, canonical_spells, spelled_spellable, second_says_more}
use Rattle.send_model.proofs.ReadSpelled.{read_was_spelled, rules_were_spelled}
use Rattle.send_model.proofs.DataPlaces.{data_is_there}
use Rattle.send_model.proofs.laws.spelling_is_read_back.Goals as goal

pub returns-clause-spelled : goal.returns-clause-spelled
returns-clause-spelled c = spelled_read

pub returns-clause-front : goal.returns-clause-front
returns-clause-front c = spelled_front

pub returns-clause-once : goal.returns-clause-once
returns-clause-once c = spelled_once

pub returns-clause-read : goal.returns-clause-read
returns-clause-read c = read_was_spelled

pub returns-clause-rules : goal.returns-clause-rules
returns-clause-rules c = rules_were_spelled

pub returns-clause-places : goal.returns-clause-places
returns-clause-places c = data_is_there

pub returns-clause-canonical : goal.returns-clause-canonical
returns-clause-canonical c = canonical_spells

pub returns-clause-spellable : goal.returns-clause-spellable
returns-clause-spellable c = spelled_spellable

pub returns-clause-second : goal.returns-clause-second
returns-clause-second c = second_says_more
