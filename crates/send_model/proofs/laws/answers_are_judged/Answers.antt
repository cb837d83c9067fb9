use Rattle.send_model.proofs.Dues.{is_judged_of, is_judged}
use Rattle.send_model.proofs.laws.answers_are_judged.Goals as goal

pub returns : goal.returns
returns c = record { judged = is_judged_of; files = is_judged }
