use Rattle.program_model.proofs.Anew.{readers_keep, sent_is_received_anew, restored_is_received_anew}
use Rattle.program_model.proofs.MeantByAnswers.{show_is_of_named, cat_is_of_named, drop_is_of_named, missing_is_named, send_is_of_named, restore_is_of_named, stream_is_of_named, no_stream_is_named, tar_is_of_named, no_tar_is_named, no_files_are_sent, turns_are_done_so}
use Rattle.program_model.proofs.TextMeanings.{packed_is_text, text_is_packed, text_is_taken}
use Rattle.program_model.proofs.meanings.answers_mean_what_is_meant.Goals as goal

pub returns : goal.returns
returns c = record {
  readers = readers_keep;
  show = show_is_of_named;
  cat = cat_is_of_named;
  dropped = drop_is_of_named;
  missing = missing_is_named;
  sent = send_is_of_named;
  restored = restore_is_of_named;
  sent_anew = sent_is_received_anew;
  restored_anew = restored_is_received_anew;
  streamed = stream_is_of_named;
  no_stream = no_stream_is_named;
  archived = tar_is_of_named;
  no_archive = no_tar_is_named;
  no_files = no_files_are_sent;
  packed = packed_is_text;
  text = text_is_packed;
  taken = text_is_taken;
  turns = turns_are_done_so;
}
