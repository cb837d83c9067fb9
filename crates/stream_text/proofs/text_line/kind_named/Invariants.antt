use Rattle.stream_text.proofs.TakenLines.{NoneBelow}
use Rattle.stream_text.proofs.text_line.kind_named.Given as goal

-- no command with a number so far has the name
abbrev pub invariant-loop-number : goal.invariant-loop-number
invariant-loop-number l = record { none : NoneBelow l.version l.name l.number }
