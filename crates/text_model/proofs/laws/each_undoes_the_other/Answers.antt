use Rattle.text_model.proofs.ReadAgain.{packed_is_read}
use Rattle.text_model.proofs.WholeFiles.{whole_has_text}
use Rattle.text_model.proofs.laws.each_undoes_the_other.Goals as goal

pub returns-clause-packed : goal.returns-clause-packed
returns-clause-packed c = packed_is_read

pub returns-clause-whole : goal.returns-clause-whole
returns-clause-whole c = whole_has_text
