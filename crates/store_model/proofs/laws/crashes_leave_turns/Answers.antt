use Rattle.store_model.proofs.TurnOrder.{states_are_one_by_one, fronts_are_states, front_states_are_states}
use Rattle.store_model.proofs.TurnStates.{front_groups_are_states, lines_are_complete}
use Rattle.store_model.proofs.laws.crashes_leave_turns.Goals as goal

pub returns-clause-states : goal.returns-clause-states
returns-clause-states g c = states_are_one_by_one

pub returns-clause-fronts : goal.returns-clause-fronts
returns-clause-fronts g c = fronts_are_states

pub returns-clause-further : goal.returns-clause-further
returns-clause-further g c = front_states_are_states

pub returns-clause-groups : goal.returns-clause-groups
returns-clause-groups g c = front_groups_are_states

pub returns-clause-lines : goal.returns-clause-lines
returns-clause-lines g c = lines_are_complete
