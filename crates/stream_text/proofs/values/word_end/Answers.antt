use Rattle.stream_text.proofs.WordEnds.{word_some, word_none}
use Rattle.stream_text.proofs.values.word_end.Goals as goal

pub returns-in-Some : goal.returns-in-Some
returns-in-Some c = record { end = word_some c.args.text.now c.args.from c.in-Some.len c.requires.within c.in-Some.ensures }

pub returns-in-None : goal.returns-in-None
returns-in-None c = record { end = word_none c.args.text.now c.args.from c.requires.within c.in-None.ensures }
