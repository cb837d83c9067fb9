use Rattle.store_model.proofs.ScrubLaws.{one_scrub, stands_scrubbed}
use Rattle.store_model.proofs.ScrubDecided.{image_scrubbed}
use Rattle.store_model.proofs.laws.scrub_has_one_answer.Goals as goal

pub returns : goal.returns
returns c = record { one = one_scrub; each = image_scrubbed; stored = stands_scrubbed }
