use Rattle.full_send.proofs.Added.{adds_after}
use Rattle.full_send.proofs.pending.Writer.capabilities.Goals as goal

pub returns-clause-adds : goal.returns-clause-adds
returns-clause-adds g c = adds_after _ _ _ _ _ _ c.capabilities-added.result c.go_on.result c.capabilities-added.ensures.added c.go_on.ensures.goes
