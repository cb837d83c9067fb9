use Rattle.stream_model.proofs.TakenAgain.{own_stream_is_taken, due_is_taken, cut_is_not_whole}
use Rattle.stream_model.proofs.laws.own_streams_are_taken_again.Goals as goal

pub returns : goal.returns
returns c = record { taken = own_stream_is_taken; due = due_is_taken; cut = cut_is_not_whole }
