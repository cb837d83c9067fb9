use Rattle.std.proofs.Common.{sym, ◌∙◌}
use Rattle.std.proofs.lemmas.Bool.{false≢true}
use Rattle.stream_dump.specs.Steps.{output}
use Rattle.stream_text.proofs.Steps.{refused_says, end_named, end_whole}
use Rattle.stream_text.proofs.packing.at_end.Goals as goal

pub returns-then-is_whole-clause-says : goal.returns-then-is_whole-clause-says
returns-then-is_whole-clause-says g c = λ file h none early ends written s.
    end_whole c.args.lines.now c.args.packed.now written file _ s c.requires.reader early ends (c.is_whole.ensures.whole.0 c.if-is_whole.true)

pub returns-clause-says : goal.returns-clause-says
returns-clause-says g c = λ file h none early ends written s.
    refused_says c.args.lines.now c.args.packed.now written file s
    (end_named c.args.lines.now c.args.packed.now written file s c.requires.reader h none early ends
    (λ all. false≢true (sym c.if-is_whole.false ∙ c.is_whole.ensures.whole.1 all)))
    (output g.O.Sink c.args.out.now) (output g.O.Sink c.refuse.new.out) c.refuse.result c.refuse.ensures.ends
