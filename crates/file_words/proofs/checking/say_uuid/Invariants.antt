use Rattle.std.proofs.Common.{map}
use Rattle.std.specs.String.{string_bytes}
use Rattle.file_words.specs.Fronts.{says_uuid}
use Rattle.file_words.proofs.Standing.{IsUnmet}
use Rattle.file_words.proofs.checking.say_uuid.Given as goal

abbrev pub invariant-loop-place : goal.invariant-loop-place
invariant-loop-place l = IsUnmet (says_uuid l.uuid) (map string_bytes l.words) l.place
