use Rattle.std.specs.Prelude.{Ok}
use Rattle.full_send.proofs.Added.{adds_after, then_adds}
use Rattle.full_send.proofs.pending.Writer.opening.Goals as goal

pub returns-clause-adds : goal.returns-clause-adds
returns-clause-adds g c =
    then_adds _ _ _ _ _ _ _ _ c.go_on-2.result
    (adds_after _ _ _ _ _ _ c.header-added.result (Ok c.in_ok-go_on.field-0) c.header-added.ensures.added c.in_ok-go_on.ensures.goes)
    (adds_after _ _ _ _ _ _ c.head-added.result c.go_on-2.result c.head-added.ensures.added c.go_on-2.ensures.goes)
