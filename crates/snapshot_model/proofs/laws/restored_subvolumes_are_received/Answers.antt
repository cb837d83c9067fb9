use Rattle.snapshot_model.proofs.RestoredAgain.{restored_edits_are_taken}
use Rattle.snapshot_model.proofs.RestoredReceived.{restored_is_received, restored_is_spellable, restored_stream_is_received}
use Rattle.snapshot_model.proofs.laws.restored_subvolumes_are_received.Goals as goal

pub returns : goal.returns
returns c = record { edits = restored_edits_are_taken; items = restored_is_received; spelled = restored_is_spellable; stream = restored_stream_is_received }
