use Rattle.store_model.proofs.TurnOrder.{turns_are_one_by_one}
use Rattle.store_model.proofs.Origins.{parts_are_read}
use Rattle.store_model.proofs.OneSession.{one_is_receiving}
use Rattle.store_model.proofs.AllOver.{all_are_over}
use Rattle.store_model.proofs.PartFiles.{files_are_one_by_one}
use Rattle.store_model.proofs.FilesInTurn.{files_are_in_turn}
use Rattle.store_model.proofs.LawfulTurns.{groups_are_lawful, groups_stand}
use Rattle.store_model.proofs.NoneOpen.{none_is_left_open, files_leave_none_open}
use Rattle.store_model.proofs.laws.turns_have_an_order.Goals as goal

pub returns-clause-order : goal.returns-clause-order
returns-clause-order g c = turns_are_one_by_one

pub returns-clause-parts : goal.returns-clause-parts
returns-clause-parts g c = parts_are_read

pub returns-clause-one : goal.returns-clause-one
returns-clause-one g c = one_is_receiving

pub returns-clause-over : goal.returns-clause-over
returns-clause-over g c = all_are_over

pub returns-clause-streams : goal.returns-clause-streams
returns-clause-streams g c = files_are_one_by_one

pub returns-clause-files : goal.returns-clause-files
returns-clause-files g c = files_are_in_turn

pub returns-clause-groups : goal.returns-clause-groups
returns-clause-groups g c = groups_are_lawful

pub returns-clause-stand : goal.returns-clause-stand
returns-clause-stand g c = groups_stand

pub returns-clause-complete : goal.returns-clause-complete
returns-clause-complete g c = none_is_left_open

pub returns-clause-left : goal.returns-clause-left
returns-clause-left g c = files_leave_none_open
