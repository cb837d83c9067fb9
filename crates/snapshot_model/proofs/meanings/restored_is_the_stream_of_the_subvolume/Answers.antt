use Rattle.snapshot_model.specs.Restored.{restored_stream}
use Rattle.snapshot_model.proofs.MeantBySending.{send_is_done, send_misses, send_is_in_front, send_is_cut, nothing_is_sent_over_none, unfinished_lacks_some}
use Rattle.snapshot_model.proofs.meanings.restored_is_the_stream_of_the_subvolume.Goals as goal

pub returns : goal.returns
returns c = record {
  done = send_is_done restored_stream;
  missing = send_misses restored_stream;
  front = send_is_in_front restored_stream;
  cut = send_is_cut restored_stream;
  none = nothing_is_sent_over_none restored_stream;
  unfinished = unfinished_lacks_some restored_stream;
}
