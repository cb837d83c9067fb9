use Rattle.snapshot_model.proofs.SentAgain.{sent_edits_are_taken}
use Rattle.snapshot_model.proofs.SentReceived.{sent_is_received, sent_stream_is_received}
use Rattle.snapshot_model.proofs.SentSpelled.{sent_is_spellable}
use Rattle.snapshot_model.proofs.laws.sent_subvolumes_are_received.Goals as goal

pub returns : goal.returns
returns c = record { edits = sent_edits_are_taken; items = sent_is_received; spelled = sent_is_spellable; stream = sent_stream_is_received }
