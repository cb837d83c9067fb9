use Rattle.snapshot_model.proofs.Holes.{held_are_bytes, bytes_are_held, places_are_held, image_is_one_held}
use Rattle.snapshot_model.proofs.StoredKept.{stored_is_kept}
use Rattle.snapshot_model.proofs.StoredSent.{sent_of_stores, restored_of_stores}
use Rattle.snapshot_model.proofs.laws.stored_subvolumes_can_be_sent.Goals as goal

pub returns : goal.returns
returns c = record { bytes = held_are_bytes; held = bytes_are_held; places = places_are_held; one = image_is_one_held; kept = stored_is_kept; sent = sent_of_stores; restored = restored_of_stores }
