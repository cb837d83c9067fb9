use Rattle.std.proofs.Common.{map, drop, ◌≤◌}
use Rattle.std.specs.String.{string_bytes}
use Rattle.file_words.proofs.Standing.{between, AreRead}
use Rattle.file_words.proofs.checking.are_given.Given as goal

abbrev pub invariant-loop-place : goal.invariant-loop-place
invariant-loop-place l = record {
  read : AreRead (map string_bytes l.words) (drop l.place (map string_bytes l.words)) (between string_bytes l.words l.front l.place);
  within : l.front ≤ l.place;
}
