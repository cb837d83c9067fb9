use Rattle.stream_model.proofs.StreamAnswers.{one_stream_due, each_stream_is_due, stream_is_answered}
use Rattle.stream_model.proofs.laws.one_answer_is_due_to_streaming.Goals as goal

pub returns : goal.returns
returns c = record { one = one_stream_due; each = each_stream_is_due; answered = stream_is_answered }
