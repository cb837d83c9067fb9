use Rattle.store_model.proofs.StreamMeanings.{compose_is_due, audit_is_due, export_is_due, dump_is_due, compose_is_done, compose_is_unfinished, compose_is_in_front, audit_is_done, audit_is_cut, audit_is_silent, export_is_done, export_is_refused, export_is_in_front, dump_is_done, dump_is_refused, dump_is_in_front, gen_is_done, trial_is_done, gen_is_in_front, trial_is_in_front, nothing_is_refused}
use Rattle.store_model.proofs.meanings.streams_are_whole_where_they_are_done.Goals as goal

pub returns : goal.returns
returns c = record {
  compose_due = compose_is_due;
  audit_due = audit_is_due;
  export_due = export_is_due;
  dump_due = dump_is_due;
  composed = compose_is_done;
  unfinished = compose_is_unfinished;
  compose_front = compose_is_in_front;
  audited = audit_is_done;
  audit_cut = audit_is_cut;
  audit_silent = audit_is_silent;
  exported = export_is_done;
  export_refused = export_is_refused;
  export_front = export_is_in_front;
  dumped = dump_is_done;
  dump_refused = dump_is_refused;
  dump_front = dump_is_in_front;
  chain = gen_is_done;
  trial = trial_is_done;
  chain_front = gen_is_in_front;
  trial_front = trial_is_in_front;
  nothing_refused = nothing_is_refused;
}
