use Rattle.std.proofs.Common.{inl}
use Rattle.sx_base.proofs.DiskMoments.{joins, weakens}
use Rattle.store_journal.proofs.groups.publish.Goals as goal

pub returns-in_err-prepare-clause-any_moment : goal.returns-in_err-prepare-clause-any_moment
returns-in_err-prepare-clause-any_moment g c tells header bodies body grows = weakens (c.prepare.ensures.any_moment tells header bodies body grows) (λ image has. inl has)

pub returns-clause-any_moment : goal.returns-clause-any_moment
returns-clause-any_moment g c tells header bodies body grows =
    joins (weakens (c.prepare.ensures.any_moment tells header bodies body grows) (λ image has. inl has))
    (c.publish.ensures.any_moment tells header bodies _ (c.in_ok-prepare.ensures.ready tells header bodies body grows))
