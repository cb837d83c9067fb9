use Rattle.std.proofs.Common.{sym, subst}
use Rattle.store_journal.specs.Shown.{StoreState}
use Rattle.store_journal.specs.Holding.{bodies_of}
use Rattle.store_journal.proofs.Unpacked.{Builds}
use Rattle.store_journal.proofs.store.Store.abandon.Goals as goal

pub returns-clause-holds : goal.returns-clause-holds
returns-clause-holds c header groups version commands seen pending builds =
    let was = subst (λ (s : StoreState). Builds header groups version commands c.args.part s seen pending) (sym c.self.view_is) builds in
    record { rests = c.abandon.ensures.grows header (bodies_of groups) _ seen pending was.grows; makes = was.makes }
