use Rattle.squash_model.proofs.Judged.{judged_is_one_stream, judged_is_squashed, lawful_stores_squash}
use Rattle.squash_model.proofs.SquashedFiles.{squashed_readings_hold, squashed_files_hold}
use Rattle.squash_model.proofs.JudgedDues.{done_has_no_verdict, done_is_over_the_same_base}
use Rattle.squash_model.proofs.laws.squashed_streams_are_taken.Goals as goal

pub returns : goal.returns
returns c = record { readings = squashed_readings_hold; files = squashed_files_hold; one = judged_is_one_stream; judged = judged_is_squashed; stores = lawful_stores_squash; done = done_has_no_verdict; same_base = done_is_over_the_same_base }
