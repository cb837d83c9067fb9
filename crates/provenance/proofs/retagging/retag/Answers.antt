use Rattle.provenance.proofs.Retags.{ok_is_traced}
use Rattle.provenance.proofs.retagging.retag.Goals as goal

pub returns-clause-places : goal.returns-clause-places
returns-clause-places g c = ok_is_traced c.args.key c.args.sub.now c.retraced.result c.retraced.ensures
