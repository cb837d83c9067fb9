use Rattle.std.proofs.Common.{◌⊎◌, ℕ, List, ◌++◌, ◌∷◌, inl, []}
use Rattle.sx_base.specs.Crash.{LeavesOnly}
use Rattle.store_model.specs.Image.{Header, HasGroups, sealed}
use Rattle.group_log.specs.Journal.{Rests}
use Rattle.log_tests.specs.Published.{joined}
use Rattle.sx_base.proofs.DiskMoments.{joins, weakens}
use Rattle.log_tests.proofs.client.publish_group.Given.{Over}
use Rattle.log_tests.proofs.client.publish_group.Goals.{After-publish}
use Rattle.log_tests.proofs.client.publish_group.Goals as goal

pub returns-in_err-body-clause-any_moment : goal.returns-in_err-body-clause-any_moment
returns-in_err-body-clause-any_moment g c tells header bodies rests = weakens (c.body.ensures.any_moment tells header bodies rests) (λ image has. inl has)

pub returns-in_err-append_all-clause-any_moment : goal.returns-in_err-append_all-clause-any_moment
returns-in_err-append_all-clause-any_moment g c tells header bodies rests =
    let begun = weakens (c.body.ensures.any_moment tells header bodies rests) (λ image has. inl has) in
    let empty = c.in_ok-body.ensures.grows tells header bodies rests in
    joins begun (weakens (c.append_all.ensures.any_moment tells header bodies [] empty) (λ image has. inl has))

pub returns-in_err-prepare-clause-any_moment : goal.returns-in_err-prepare-clause-any_moment
returns-in_err-prepare-clause-any_moment g c tells header bodies rests =
    let begun = weakens (c.body.ensures.any_moment tells header bodies rests) (λ image has. inl has) in
    let empty = c.in_ok-body.ensures.grows tells header bodies rests in
    let filled = c.in_ok-append_all.ensures.grows tells header bodies [] empty in
    joins (joins begun (weakens (c.append_all.ensures.any_moment tells header bodies [] empty) (λ image has. inl has)))
    (weakens (c.prepare.ensures.any_moment tells header bodies _ filled) (λ image has. inl has))

-- What stands at each moment up to the end of the publishing, whether or not it failed.
moments : (g : Over) (c : After-publish g) → g.D.Disk.tells → (header : Header) (bodies : List (List ℕ)) → Rests header bodies c.args.log.now (g.D.Disk.seen c.args.disk.now) (g.D.Disk.pending c.args.disk.now)
    → LeavesOnly g.D.Disk.moment g.D.Disk.left_since c.args.disk.now c.publish.new.disk (λ image. HasGroups header bodies image ⊎ HasGroups header (bodies ++ sealed (joined c.args.pieces.now) ∷ []) image)
moments g c tells header bodies rests =
    let begun = weakens (c.body.ensures.any_moment tells header bodies rests) (λ image has. inl has) in
    let empty = c.in_ok-body.ensures.grows tells header bodies rests in
    let filled = c.in_ok-append_all.ensures.grows tells header bodies [] empty in
    joins (joins (joins begun (weakens (c.append_all.ensures.any_moment tells header bodies [] empty) (λ image has. inl has)))
    (weakens (c.prepare.ensures.any_moment tells header bodies _ filled) (λ image has. inl has)))
    (c.publish.ensures.any_moment tells header bodies _ (c.in_ok-prepare.ensures.ready tells header bodies _ filled))

pub returns-in_err-publish-clause-any_moment : goal.returns-in_err-publish-clause-any_moment
returns-in_err-publish-clause-any_moment g c = moments g (goal.at.returns-in_err-publish-clause-any_moment g c).After-publish

pub returns-clause-any_moment : goal.returns-clause-any_moment
returns-clause-any_moment g c = moments g (goal.at.returns-clause-any_moment g c).After-publish

pub returns-clause-rests : goal.returns-clause-rests
returns-clause-rests g c tells header bodies rests =
    c.in_ok-publish.ensures.rests tells header bodies _
    (c.in_ok-prepare.ensures.ready tells header bodies _ (c.in_ok-append_all.ensures.grows tells header bodies [] (c.in_ok-body.ensures.grows tells header bodies rests)))
