use Rattle.std.specs.Prelude.{◌+◌, length}
use Rattle.std.proofs.Common.{ℕ, List, [], ◌∷◌, ◌++◌, ◌⊎◌, inl, ◌∙◌, ◌≡◌, subst}
use Rattle.store_model.specs.Image.{HasGroups, sealed}
use Rattle.sx_base.specs.Crash.{LeavesOnly}
use Rattle.sx_base.proofs.DiskMoments.{begins}
use Rattle.group_log.proofs.GatedGroups.{rests_has}
use Rattle.store_journal.specs.Filling.{first_full, group_asks}
use Rattle.store_journal.proofs.Stopped.{whether_full}
use Rattle.store_journal.proofs.groups.write_drop.Goals as goal

pub returns-in_err-spell_drop-clause-any_moment : goal.returns-in_err-spell_drop-clause-any_moment
returns-in_err-spell_drop-clause-any_moment g c tells header bodies rests =
    begins c.args.disk.now (λ image. g.met.D.Disk.only_now c.args.disk.now image tells) (λ image is. inl (rests_has header bodies c.args.log.now _ _ rests image is))

pub returns-in_err-write_group-clause-any_moment : goal.returns-in_err-write_group-clause-any_moment
returns-in_err-write_group-clause-any_moment g c tells header bodies rests =
    let same : c.as_slice.result.now ≡ 6 ∷ c.args.name.now = c.as_slice.ensures.bytes ∙ c.in_ok-spell_drop.ensures.spelled in
    subst (λ (l : List ℕ). LeavesOnly g.D.Disk.moment g.D.Disk.left_since c.args.disk.now c.write_group.new.disk (λ image. HasGroups header bodies image ⊎ HasGroups header (bodies ++ sealed l ∷ []) image)) same
    (c.write_group.ensures.any_moment tells header bodies rests)

pub returns-clause-any_moment : goal.returns-clause-any_moment
returns-clause-any_moment g c tells header bodies rests =
    let same : c.as_slice.result.now ≡ 6 ∷ c.args.name.now = c.as_slice.ensures.bytes ∙ c.in_ok-spell_drop.ensures.spelled in
    subst (λ (l : List ℕ). LeavesOnly g.D.Disk.moment g.D.Disk.left_since c.args.disk.now c.write_group.new.disk (λ image. HasGroups header bodies image ⊎ HasGroups header (bodies ++ sealed l ∷ []) image)) same
    (c.write_group.ensures.any_moment tells header bodies rests)

pub returns-in_err-spell_drop-clause-no_room : goal.returns-in_err-spell_drop-clause-no_room
returns-in_err-spell_drop-clause-no_room g c tells header bodies rests =
    whether_full _ (first_full c.args.log.now.limit (group_asks c.args.log.now.gate (1 + length c.args.name.now)))
    (begins c.args.disk.now (λ image. g.met.D.Disk.only_now c.args.disk.now image tells) (rests_has header bodies c.args.log.now _ _ rests))
