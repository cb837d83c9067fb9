use Rattle.store_model.proofs.AnswerLaws.{due_is_answered, one_is_answered, done_alone, nothing_stands_before, nothing_stands_at_fault, readers_keep_the_image, prints_in_front, receive_is_on_the_way, receive_is_cut, drop_keeps}
use Rattle.store_model.proofs.laws.answers_say_what_stands.Goals as goal

pub returns : goal.returns
returns c = record {
  answered = due_is_answered;
  one_answered = one_is_answered;
  done = done_alone;
  before = nothing_stands_before;
  fault = nothing_stands_at_fault;
  readers = readers_keep_the_image;
  printed = prints_in_front;
  on_the_way = receive_is_on_the_way;
  cut = receive_is_cut;
  drop = drop_keeps;
}
