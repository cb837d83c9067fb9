use Rattle.store_model.proofs.WordMeanings.{init_is_done, init_is_there, init_is_at_fault, init_is_answered, drop_is_done, drop_is_not_done, drop_is_at_fault, drop_misses, drop_is_full}
use Rattle.store_model.proofs.meanings.init_and_drop_leave_what_they_say.Goals as goal

pub returns : goal.returns
returns c = record {
  made = init_is_done;
  there = init_is_there;
  init_fault = init_is_at_fault;
  init = init_is_answered;
  dropped = drop_is_done;
  kept = drop_is_not_done;
  drop_fault = drop_is_at_fault;
  missing = drop_misses;
  full = drop_is_full;
}
