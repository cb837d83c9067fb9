use Rattle.stream_text.proofs.ReadLines.{line_some, line_none}
use Rattle.stream_text.proofs.line_reader.line_end.Goals as goal

pub returns-in-Some : goal.returns-in-Some
returns-in-Some c = record { end = line_some c.args.bytes.now c.args.seen c.in-Some.len c.requires.seen c.requires.none c.in-Some.ensures }

pub returns-in-None : goal.returns-in-None
returns-in-None c = record { end = line_none c.args.bytes.now c.args.seen c.requires.seen c.requires.none c.in-None.ensures }
