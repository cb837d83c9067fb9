use Rattle.program_model.proofs.EscapedForms.{escaped_is_read_back, read_is_escaped, bytes_are_meant}
use Rattle.program_model.proofs.laws.escaped_words_are_read_back.Goals as goal

pub returns : goal.returns
returns c = record { back = escaped_is_read_back; only = read_is_escaped; bytes = bytes_are_meant }
