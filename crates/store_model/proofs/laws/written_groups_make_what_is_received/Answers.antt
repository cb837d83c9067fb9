use Rattle.store_model.proofs.WrittenGroups.{written_is_received, first_groups_are_states}
use Rattle.store_model.proofs.WrittenLawful.{written_is_lawful}
use Rattle.store_model.proofs.OnTheWay.{nothing_is_on_the_way, all_is_on_the_way, first_is_on_the_way}
use Rattle.store_model.proofs.laws.written_groups_make_what_is_received.Goals as goal

pub returns : goal.returns
returns c = record {
  received = written_is_received;
  states = first_groups_are_states;
  lawful = written_is_lawful;
  nothing = nothing_is_on_the_way;
  all = all_is_on_the_way;
  first = first_is_on_the_way;
}
