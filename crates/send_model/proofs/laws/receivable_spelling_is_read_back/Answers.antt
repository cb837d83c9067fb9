use Rattle.send_model.proofs.Exporting.{receivable_spells, receivable_rises}
use Rattle.send_model.proofs.laws.receivable_spelling_is_read_back.Goals as goal

pub returns-clause-spelled : goal.returns-clause-spelled
returns-clause-spelled c = receivable_spells

pub returns-clause-rises : goal.returns-clause-rises
returns-clause-rises c = receivable_rises
