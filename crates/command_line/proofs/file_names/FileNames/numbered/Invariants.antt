use Rattle.std.proofs.Common.{◌≡◌}
use Rattle.command_line.specs.Names.{numbered}
use Rattle.command_line.proofs.file_names.FileNames.numbered.Given as goal

abbrev pub invariant-loop-name : goal.invariant-loop-name
invariant-loop-name l = numbered l.name-iterator l.left ≡ numbered l.fn.self l.fn.number
