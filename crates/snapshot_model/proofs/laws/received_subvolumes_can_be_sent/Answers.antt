use Rattle.snapshot_model.proofs.SentNumbers.{made_is_sendable}
use Rattle.snapshot_model.proofs.SentTold.{edits_keep_it, kept_is_sendable}
use Rattle.snapshot_model.proofs.laws.received_subvolumes_can_be_sent.Goals as goal

pub returns : goal.returns
returns c = record { numbers = made_is_sendable; kept = edits_keep_it; sendable = kept_is_sendable }
