use Rattle.store_journal.proofs.StandingGroups.{stand, new_stands, holds_stands, builds_stands, holds_one, have_size}
use Rattle.store_journal.proofs.laws.groups_stand_for_subvolumes.Goals as goal

pub returns-clause-stand : goal.returns-clause-stand
returns-clause-stand c = stand

pub returns-clause-new : goal.returns-clause-new
returns-clause-new c = new_stands

pub returns-clause-holds : goal.returns-clause-holds
returns-clause-holds c = holds_stands

pub returns-clause-builds : goal.returns-clause-builds
returns-clause-builds c = builds_stands

pub returns-clause-one : goal.returns-clause-one
returns-clause-one c = holds_one

pub returns-clause-size : goal.returns-clause-size
returns-clause-size c = have_size
