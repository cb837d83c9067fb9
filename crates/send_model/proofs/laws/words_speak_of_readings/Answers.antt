use Rattle.send_model.proofs.SourceLaws.{says_of_files}
use Rattle.send_model.proofs.laws.words_speak_of_readings.Goals as goal

pub returns : goal.returns
returns c = record { files = says_of_files }
