use Rattle.std.proofs.Common.{map}
use Rattle.std.specs.String.{string_bytes}
use Rattle.send_model.specs.NamedWords.{is_name_word}
use Rattle.file_words.proofs.Standing.{IsUnmet}
use Rattle.file_words.proofs.checking.say_name.Given as goal

abbrev pub invariant-loop-place : goal.invariant-loop-place
invariant-loop-place l = IsUnmet is_name_word (map string_bytes l.words) l.place
