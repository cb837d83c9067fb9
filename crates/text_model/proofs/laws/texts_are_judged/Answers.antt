use Rattle.text_model.proofs.Judging.{lawful_is_not_bad, one_line_is_bad, some_line_is_bad, one_is_due}
use Rattle.text_model.proofs.laws.texts_are_judged.Goals as goal

pub returns-clause-lawful : goal.returns-clause-lawful
returns-clause-lawful c = lawful_is_not_bad

pub returns-clause-one : goal.returns-clause-one
returns-clause-one c = one_line_is_bad

pub returns-clause-some : goal.returns-clause-some
returns-clause-some c = some_line_is_bad

pub returns-clause-due : goal.returns-clause-due
returns-clause-due c = one_is_due
