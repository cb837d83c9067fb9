use Rattle.full_send.proofs.Added.{adds_after}
use Rattle.full_send.proofs.pending.Writer.truncate.Goals as goal

pub returns-clause-adds : goal.returns-clause-adds
returns-clause-adds g c = adds_after _ _ _ _ _ _ c.truncate-added.result c.go_on.result c.truncate-added.ensures.added c.go_on.ensures.goes
