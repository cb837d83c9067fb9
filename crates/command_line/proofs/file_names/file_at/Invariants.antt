use Rattle.std.proofs.Common.{◌≡◌, map, drop}
use Rattle.std.specs.String.{string_bytes}
use Rattle.command_line.specs.Names.{names_in}
use Rattle.command_line.proofs.file_names.file_at.Given as goal

abbrev pub invariant-loop-place : goal.invariant-loop-place
invariant-loop-place l = names_in l.among (map string_bytes l.words) ≡ names_in l.among (drop l.place (map string_bytes l.words))
