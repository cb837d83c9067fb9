use Rattle.send_model.proofs.HeadlineLaw.{items_hold, items_spelled, fronts_are_writable, readings_hold, plain_readings_hold, files_are_whole, files_hold, plain_files_hold}
use Rattle.send_model.proofs.laws.composed_streams_are_accepted.Goals as goal
use Rattle.send_model.proofs.BaseReceives.{base_can_receive, base_receives}

pub returns-clause-items : goal.returns-clause-items
returns-clause-items c = items_hold

pub returns-clause-spelled : goal.returns-clause-spelled
returns-clause-spelled c = items_spelled

pub returns-clause-fronts : goal.returns-clause-fronts
returns-clause-fronts c = fronts_are_writable

pub returns-clause-readings : goal.returns-clause-readings
returns-clause-readings c = readings_hold

pub returns-clause-plain_readings : goal.returns-clause-plain_readings
returns-clause-plain_readings c = plain_readings_hold

pub returns-clause-whole : goal.returns-clause-whole
returns-clause-whole c = files_are_whole

pub returns-clause-files : goal.returns-clause-files
returns-clause-files c = files_hold

pub returns-clause-plain : goal.returns-clause-plain
returns-clause-plain c = plain_files_hold

pub returns-clause-base : goal.returns-clause-base
returns-clause-base c = base_can_receive

pub returns-clause-received : goal.returns-clause-received
returns-clause-received c = base_receives
