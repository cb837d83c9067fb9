use Rattle.text_model.proofs.Judging.{text_has_one_reading, front_has_one_reading, lines_are_short}
use Rattle.text_model.proofs.laws.texts_have_one_reading.Goals as goal

pub returns-clause-text : goal.returns-clause-text
returns-clause-text c = text_has_one_reading

pub returns-clause-front : goal.returns-clause-front
returns-clause-front c = front_has_one_reading

pub returns-clause-short : goal.returns-clause-short
returns-clause-short c = lines_are_short
