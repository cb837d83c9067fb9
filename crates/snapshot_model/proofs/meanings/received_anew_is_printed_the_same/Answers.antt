use Rattle.snapshot_model.proofs.MeantBySending.{received_anew_is_there, files_are_there_anew}
use Rattle.snapshot_model.proofs.meanings.received_anew_is_printed_the_same.Goals as goal

pub returns : goal.returns
returns c = record { there = received_anew_is_there; files = files_are_there_anew }
