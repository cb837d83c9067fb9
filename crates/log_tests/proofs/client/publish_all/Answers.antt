use Rattle.std.proofs.Common.{ℕ, ◌+◌, ◌++◌, List, ◌∷◌, [], take, sym, ◌∙◌, ap, subst, ⊎_elim, ◌≡◌}
use Rattle.std.proofs.lemmas.List.{append-nil}
use Rattle.sx_base.proofs.DiskMoments.{begins, joins, weakens, leaves_now}
use Rattle.store_model.specs.Image.{HasGroups, sealed}
use Rattle.group_log.specs.Journal.{Rests}
use Rattle.log_tests.specs.Published.{joined, body_of, bodies_of}
use Rattle.group_log.proofs.GatedGroups.{rests_has}
use Rattle.log_tests.proofs.Publishing.{bodies_next, has_first, all_taken, front_kept}
use Rattle.log_tests.proofs.client.publish_all.Goals as goal

pub loop-pieces-init : goal.loop-pieces-init
loop-pieces-init g c = record {
  at_rest = c.requires;
  rests = λ tells header bodies rests. subst (λ (l : List (List ℕ)). Rests header l c.args.log.now (g.D.Disk.seen c.args.disk.now) (g.D.Disk.pending c.args.disk.now)) (sym (append-nil bodies)) rests;
  any_moment = λ tells header bodies rests. begins c.args.disk.now (λ image. g.met.D.Disk.only_now c.args.disk.now image tells)
      (λ image is. has_first header bodies c.args.groups.now 0 image (subst (λ (l : List (List ℕ)). HasGroups header l image) (sym (append-nil bodies)) (rests_has header bodies c.args.log.now _ _ rests image is)));
}

pub loop-pieces-preserved : goal.loop-pieces-preserved
loop-pieces-preserved g c =
    let i = c.loop-pieces.pieces-index in
    let groups = c.args.groups.now in
    let before = c.loop-pieces.invariant in
    let same : sealed (joined c.as_slice.result.now) ≡ body_of c.pieces-item.result = ap (λ (l : List _). sealed (joined l)) c.as_slice.ensures.value in
    let next : (bodies : List (List ℕ)) → (bodies ++ bodies_of (take i groups)) ++ sealed (joined c.as_slice.result.now) ∷ [] ≡ bodies ++ bodies_of (take (i + 1) groups) =
    λ bodies. ap (λ (b : List ℕ). (bodies ++ bodies_of (take i groups)) ++ b ∷ []) same ∙ bodies_next bodies groups i c.pieces-item.result c.loop-pieces-test.true c.pieces-item.is in
    record {
      at_rest = c.in_ok-publish_group.ensures.at_rest;
      rests = λ tells header bodies rests.
          subst (λ (l : List (List ℕ)). Rests header l c.publish_group.new.log (g.D.Disk.seen c.publish_group.new.disk) (g.D.Disk.pending c.publish_group.new.disk)) (next bodies)
          (c.in_ok-publish_group.ensures.rests tells header (bodies ++ bodies_of (take i groups)) (before.rests tells header bodies rests));
      any_moment = λ tells header bodies rests. joins (before.any_moment tells header bodies rests)
          (weakens (c.publish_group.ensures.any_moment tells header (bodies ++ bodies_of (take i groups)) (before.rests tells header bodies rests))
          (λ image has. ⊎_elim (λ had. has_first header bodies groups i image had) (λ more. has_first header bodies groups (i + 1) image (subst (λ (l : List (List ℕ)). HasGroups header l image) (next bodies) more)) has));
    }

pub returns-in_err-publish_group-clause-any_moment : goal.returns-in_err-publish_group-clause-any_moment
returns-in_err-publish_group-clause-any_moment g c tells header bodies rests =
    let i = c.loop-pieces.pieces-index in
    let groups = c.args.groups.now in
    let before = c.loop-pieces.invariant in
    let same : sealed (joined c.as_slice.result.now) ≡ body_of c.pieces-item.result = ap (λ (l : List _). sealed (joined l)) c.as_slice.ensures.value in
    let next : (bodies ++ bodies_of (take i groups)) ++ sealed (joined c.as_slice.result.now) ∷ [] ≡ bodies ++ bodies_of (take (i + 1) groups) =
    ap (λ (b : List ℕ). (bodies ++ bodies_of (take i groups)) ++ b ∷ []) same ∙ bodies_next bodies groups i c.pieces-item.result c.loop-pieces-test.true c.pieces-item.is in
    joins (before.any_moment tells header bodies rests)
    (weakens (c.publish_group.ensures.any_moment tells header (bodies ++ bodies_of (take i groups)) (before.rests tells header bodies rests))
    (λ image has. ⊎_elim (λ had. has_first header bodies groups i image had) (λ more. has_first header bodies groups (i + 1) image (subst (λ (l : List (List ℕ)). HasGroups header l image) next more)) has))

pub returns-in_err-publish_group-clause-now : goal.returns-in_err-publish_group-clause-now
unfolding returns-in_err-publish_group-clause-any_moment
returns-in_err-publish_group-clause-now g c tells header bodies rests =
    leaves_now g.D.Disk.pending (returns-in_err-publish_group-clause-any_moment g c tells header bodies rests) (λ image later is. g.met.D.Disk.counts_now _ _ image tells later is)

pub returns-clause-rests : goal.returns-clause-rests
returns-clause-rests g c tells header bodies rests =
    subst (λ (l : List (List ℕ)). Rests header l c.loop-pieces.log (g.D.Disk.seen c.loop-pieces.disk) (g.D.Disk.pending c.loop-pieces.disk)) (all_taken bodies c.args.groups.now c.loop-pieces.pieces-index c.loop-pieces-test.false)
    (c.loop-pieces.invariant.rests tells header bodies rests)

pub returns-clause-places : goal.returns-clause-places
returns-clause-places g c tells header bodies rests =
    front_kept header bodies (bodies_of (take c.loop-pieces.pieces-index c.args.groups.now)) c.args.log.now c.loop-pieces.log _ _ _ _ rests (c.loop-pieces.invariant.rests tells header bodies rests)

pub returns-clause-now : goal.returns-clause-now
returns-clause-now g c tells header bodies rests =
    leaves_now g.D.Disk.pending (c.loop-pieces.invariant.any_moment tells header bodies rests) (λ image later is. g.met.D.Disk.counts_now _ _ image tells later is)
