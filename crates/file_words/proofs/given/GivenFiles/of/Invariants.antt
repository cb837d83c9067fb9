use Rattle.std.proofs.Common.{map, drop}
use Rattle.std.specs.String.{string_bytes}
use Rattle.program_model.proofs.GivenWords.{IsRead}
use Rattle.file_words.proofs.given.GivenFiles.of.Given as goal

-- The files so far are read, with what is said in front of them and of the next one.
abbrev pub invariant-loop-place : goal.invariant-loop-place
invariant-loop-place l = IsRead (map string_bytes l.words) (map string_bytes l.files.items) l.overrides l.said (drop l.place (map string_bytes l.words))
