use Rattle.send_model.proofs.OutputMeanings.{front_has_a_rest, proper_front_lacks_some, stopped_is_no_stream, stopped_is_not_composed, done_is_whole, refused_is_told, end_is_missing}
use Rattle.send_model.proofs.meanings.output_means_what_was_done.Goals as goal

pub returns : goal.returns
returns c = record {
  front = front_has_a_rest;
  proper = proper_front_lacks_some;
  stopped = stopped_is_no_stream;
  not_composed = stopped_is_not_composed;
  done = done_is_whole;
  refused = refused_is_told;
  missing = end_is_missing;
}
