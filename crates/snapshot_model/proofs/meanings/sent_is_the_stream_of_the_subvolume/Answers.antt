use Rattle.snapshot_model.specs.Sent.{sent_stream}
use Rattle.snapshot_model.proofs.MeantBySending.{send_is_done, send_misses, send_is_in_front, send_is_cut, nothing_is_sent_over_none, unfinished_lacks_some}
use Rattle.snapshot_model.proofs.meanings.sent_is_the_stream_of_the_subvolume.Goals as goal

pub returns : goal.returns
returns c = record {
  done = send_is_done sent_stream;
  missing = send_misses sent_stream;
  front = send_is_in_front sent_stream;
  cut = send_is_cut sent_stream;
  none = nothing_is_sent_over_none sent_stream;
  unfinished = unfinished_lacks_some sent_stream;
}
