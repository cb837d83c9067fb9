use Rattle.std.proofs.Common.{ℕ, List, [], ◌∷◌, ◌++◌, ◌⊎◌, refl, sym, ◌∙◌, ap, subst, arith}
use Rattle.sx_base.specs.Disk.{Pending, IsImage, settled}
use Rattle.sx_base.specs.Crash.{LeavesOnly}
use Rattle.store_model.specs.Image.{Header, HasGroups}
use Rattle.sx_base.proofs.DiskMoments.{begins, goes_on}
use Rattle.group_log.specs.State.{LogState}
use Rattle.group_log.specs.Shown.{shown}
use Rattle.group_log.specs.Journal.{IsPrepared, IsReady}
use Rattle.group_log.proofs.GatedGroups.{ready_has, opening_has, open_has, published_rests, length-ready}
use Rattle.group_log.proofs.journal.Log.publish.Given.{Over}
use Rattle.group_log.proofs.journal.Log.publish.Goals.{After-write_at}
use Rattle.group_log.proofs.journal.Log.publish.Goals as goal

-- With the gate written a crash leaves the groups that there were, or the new one too, at each
-- moment so far.
opening : (g : Over) (c : After-write_at g) → g.D.Disk.tells → (header : Header) (bodies : List (List ℕ)) (body : List ℕ) → IsReady header bodies body (shown c.self.inside) (g.D.Disk.seen c.args.disk.now) (g.D.Disk.pending c.args.disk.now)
    → LeavesOnly g.D.Disk.moment g.D.Disk.left_since c.args.disk.now c.write_at.new.self (λ image. HasGroups header bodies image ⊎ HasGroups header (bodies ++ body ∷ []) image)
opening g c tells header bodies body was =
    let log = shown c.self.inside in
    let start = begins c.args.disk.now (λ image. g.met.D.Disk.only_now c.args.disk.now image tells) (ready_has header bodies body log _ _ was) in
    goes_on start c.write_at.ensures.passes tells (opening_has header bodies body log _ _ was _ (c.write_at.ensures.pending tells))

pub returns-in_err-write_at-clause-any_moment : goal.returns-in_err-write_at-clause-any_moment
returns-in_err-write_at-clause-any_moment g c tells header bodies body ready =
    let was = subst (λ (l : LogState). IsReady header bodies body l (g.D.Disk.seen c.args.disk.now) (g.D.Disk.pending c.args.disk.now)) (sym c.self.view_is) ready in
    opening g (goal.at.returns-in_err-write_at-clause-any_moment g c).After-write_at tells header bodies body was

pub returns-in_err-sync-clause-any_moment : goal.returns-in_err-sync-clause-any_moment
returns-in_err-sync-clause-any_moment g c tells header bodies body ready =
    let log = shown c.self.inside in
    let was = subst (λ (l : LogState). IsReady header bodies body l (g.D.Disk.seen c.args.disk.now) (g.D.Disk.pending c.args.disk.now)) (sym c.self.view_is) ready in
    goes_on (opening g (goal.at.returns-in_err-sync-clause-any_moment g c).After-write_at tells header bodies body was) c.sync.ensures.passes tells
    (opening_has header bodies body log _ _ was _ (c.in_err-sync.ensures.pending_err tells ∙ c.write_at.ensures.pending tells))

pub returns-clause-any_moment : goal.returns-clause-any_moment
returns-clause-any_moment g c tells header bodies body ready =
    let log = shown c.self.inside in
    let was = subst (λ (l : LogState). IsReady header bodies body l (g.D.Disk.seen c.args.disk.now) (g.D.Disk.pending c.args.disk.now)) (sym c.self.view_is) ready in
    goes_on (opening g (goal.at.returns-clause-any_moment g c).After-write_at tells header bodies body was) c.sync.ensures.passes tells
    (λ image is. open_has header bodies body log _ _ was _ (c.in_ok-write_at.ensures.seen tells) image (subst (λ (p : Pending). IsImage p image) (c.in_ok-sync.ensures.pending tells) is))

pub returns-clause-rests : goal.returns-clause-rests
returns-clause-rests g c tells header bodies body ready =
    let log = shown c.self.inside in
    let was = subst (λ (l : LogState). IsReady header bodies body l (g.D.Disk.seen c.args.disk.now) (g.D.Disk.pending c.args.disk.now)) (sym c.self.view_is) ready in
    let fits = subst (λ (l : LogState). IsPrepared (g.D.Disk.len c.args.disk.now) l) (sym c.self.view_is) c.requires in
    let sized = g.met.D.Disk.sized c.args.disk.now tells in
    published_rests header bodies body log _ _ was _ (g.D.Disk.seen c.sync.new.self) (g.D.Disk.pending c.sync.new.self)
    (omega (arith, fits.size, fits.begun, sized, length-ready header bodies body log _ _ was)) refl refl refl
    (c.sync.ensures.seen tells ∙ c.in_ok-write_at.ensures.seen tells) (c.in_ok-sync.ensures.pending tells ∙ ap settled (sym (c.sync.ensures.seen tells)))
