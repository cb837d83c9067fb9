use Rattle.program_model.proofs.GivenWords.{plain_words, files_stand, as_many, given_are_lawful}
use Rattle.program_model.proofs.ParentWords.{parents_are_read, read_is_spelled}
use Rattle.program_model.proofs.laws.words_give_files.Goals as goal

pub returns : goal.returns
returns c = record {
  plain = plain_words;
  some = files_stand;
  many = as_many;
  lawful = given_are_lawful;
  parents = parents_are_read;
  spelled = read_is_spelled;
}
