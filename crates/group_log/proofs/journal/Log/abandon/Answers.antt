use Rattle.std.proofs.Common.{refl, sym, subst}
use Rattle.group_log.specs.State.{LogState}
use Rattle.group_log.specs.Shown.{shown}
use Rattle.group_log.specs.Journal.{Grows, IsReady}
use Rattle.group_log.proofs.GroupWrites.{grows_rests, ready_rests}
use Rattle.group_log.proofs.journal.Log.abandon.Goals as goal

pub returns-then-eq-clause-grows : goal.returns-then-eq-clause-grows
returns-then-eq-clause-grows c header bodies body seen pending grows =
    grows_rests header bodies body (shown c.self.inside) _ seen pending refl refl refl refl (subst (λ (l : LogState). Grows header bodies body l seen pending) (sym c.self.view_is) grows)

pub returns-then-eq-clause-ready : goal.returns-then-eq-clause-ready
returns-then-eq-clause-ready c header bodies body seen pending ready =
    ready_rests header bodies body (shown c.self.inside) _ seen pending refl refl refl refl (subst (λ (l : LogState). IsReady header bodies body l seen pending) (sym c.self.view_is) ready)

pub returns-else-eq-2-clause-grows : goal.returns-else-eq-2-clause-grows
returns-else-eq-2-clause-grows c header bodies body seen pending grows =
    grows_rests header bodies body c.args.self.now c.args.self.now seen pending refl refl refl refl grows

pub returns-else-eq-2-clause-ready : goal.returns-else-eq-2-clause-ready
returns-else-eq-2-clause-ready c header bodies body seen pending ready =
    ready_rests header bodies body c.args.self.now c.args.self.now seen pending refl refl refl refl ready
