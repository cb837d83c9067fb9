use Rattle.store_model.proofs.ReceiveMeanings.{on_the_way_is_told, on_the_way_is_in_front, on_the_way_has_groups, receive_is_told, receive_has_groups, receive_is_done, receive_is_refused, receive_is_due, receive_is_full}
use Rattle.store_model.proofs.meanings.each_line_is_of_a_complete_entry.Goals as goal

pub returns : goal.returns
returns c = record {
  told = on_the_way_is_told;
  front = on_the_way_is_in_front;
  groups = on_the_way_has_groups;
  every = receive_is_told;
  every_group = receive_has_groups;
  done = receive_is_done;
  refused = receive_is_refused;
  due = receive_is_due;
  full = receive_is_full;
}
