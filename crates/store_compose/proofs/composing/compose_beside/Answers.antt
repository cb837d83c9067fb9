use Rattle.std.specs.Prelude.{map}
use Rattle.std.specs.String.{string_bytes}
use Rattle.store_compose.specs.Standing.{bytes_in}
use Rattle.store_compose.proofs.OverEnds.{ends_so}
use Rattle.store_compose.proofs.composing.compose_beside.Goals as goal

pub returns-clause-ends : goal.returns-clause-ends
returns-clause-ends g c tells =
    ends_so (bytes_in g.K.Anchor.image c.args.beside.indexes) c.args.given.now.overrides.now (g.I.Inputs.told c.args.inputs.now) (map string_bytes c.args.given.now.files.now) (g.O.Sink.taken c.args.out.now) (g.O.Sink.taken c.compose_over-outcome.new.out)
    c.compose_over-outcome.result _ c.ended_over.result c.ended_over.ensures (c.compose_over-outcome.ensures.ends tells)
