use Rattle.store_model.proofs.StoreAnswers.{one_due, receive_is_audit}
use Rattle.store_model.proofs.LeftStores.{left_is_passed, left_is_state, left_is_received}
use Rattle.store_model.proofs.laws.one_answer_is_due_over_a_store.Goals as goal

pub returns : goal.returns
returns c = record { one = one_due; receive = receive_is_audit; passed = left_is_passed; state = left_is_state; left = left_is_received }
