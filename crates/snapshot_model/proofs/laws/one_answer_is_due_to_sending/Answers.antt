use Rattle.snapshot_model.proofs.StoredSent.{one_send_due, each_send_is_due, send_is_answered}
use Rattle.snapshot_model.proofs.laws.one_answer_is_due_to_sending.Goals as goal

pub returns : goal.returns
returns c = record { one = one_send_due; each = each_send_is_due; answered = send_is_answered }
