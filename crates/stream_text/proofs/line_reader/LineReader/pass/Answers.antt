use Rattle.std.proofs.Common.{arith}
use Rattle.stream_text.proofs.ReadLines.{held_behind, held_len}
use Rattle.stream_text.proofs.line_reader.LineReader.pass.Goals as goal

pub returns-clause-held : goal.returns-clause-held
returns-clause-held c =
    let r = c.args.self.now in
    held_behind r.room.items r.from r.end c.args.len (omega (arith, held_len r c.requires.reader, c.requires.line.within))
