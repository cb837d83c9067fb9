use Rattle.std.proofs.Common.{◌-◌, ◌<◌, ◌^◌, ℕ, get_or, min, refl, sym, ◌∙◌, ap, subst}
use Rattle.sx_base.specs.Disk.{IsImage, settled}
use Rattle.sx_base.specs.Crash.{LeavesOnly}
use Rattle.sx_base.proofs.DiskMoments.{begins, goes_on, joins, weakens}
use Rattle.group_log.proofs.GroupReads.{after_sync, header_opened}
use Rattle.group_log.proofs.journal.Log.open.Given.{Over}
use Rattle.group_log.proofs.journal.Log.open.Goals.{After-size, After-fill, After-fill-2}
use Rattle.group_log.proofs.journal.Log.open.Goals as goal

-- At each moment up to the size, and up to each of the two readings, a crash leaves what it could
-- have left at first.
sized : (g : Over) (c : After-size g) → g.D.Disk.tells → LeavesOnly g.D.Disk.moment g.D.Disk.left_since c.args.disk.now c.size.new.self (IsImage (g.D.Disk.pending c.args.disk.now))
sized g c tells =
    let before = g.D.Disk.pending c.args.disk.now in
    let was = g.met.D.Disk.seen_is_image c.args.disk.now tells in
    let sized_is = (c.size.ensures.same tells).pending ∙ c.in_ok-sync.ensures.pending tells in
    let start = begins c.args.disk.now (λ image. g.met.D.Disk.only_now c.args.disk.now image tells) (λ image is. is) in
    let synced = goes_on start c.sync.ensures.passes tells (λ image. after_sync before _ _ image (c.in_ok-sync.ensures.pending tells) was) in
    goes_on synced c.size.ensures.passes tells (λ image. after_sync before _ _ image sized_is was)

filled : (g : Over) (c : After-fill g) → g.D.Disk.tells → LeavesOnly g.D.Disk.moment g.D.Disk.left_since c.args.disk.now c.size.new.self (IsImage (g.D.Disk.pending c.args.disk.now)) → LeavesOnly g.D.Disk.moment g.D.Disk.left_since c.args.disk.now c.fill.new.disk (IsImage (g.D.Disk.pending c.args.disk.now))
filled g c tells so_far =
    let was = g.met.D.Disk.seen_is_image c.args.disk.now tells in
    let sized_is = (c.size.ensures.same tells).pending ∙ c.in_ok-sync.ensures.pending tells in
    joins so_far (weakens (c.fill.ensures.any_moment tells) (λ image. after_sync _ _ _ image sized_is was))

filled_twice : (g : Over) (c : After-fill-2 g) → g.D.Disk.tells → LeavesOnly g.D.Disk.moment g.D.Disk.left_since c.args.disk.now c.fill.new.disk (IsImage (g.D.Disk.pending c.args.disk.now)) → LeavesOnly g.D.Disk.moment g.D.Disk.left_since c.args.disk.now c.fill-2.new.disk (IsImage (g.D.Disk.pending c.args.disk.now))
filled_twice g c tells so_far =
    let was = g.met.D.Disk.seen_is_image c.args.disk.now tells in
    let sized_is = (c.size.ensures.same tells).pending ∙ c.in_ok-sync.ensures.pending tells in
    joins so_far (weakens (c.fill-2.ensures.any_moment tells) (λ image. after_sync _ _ _ image ((c.fill.ensures.same tells).pending ∙ sized_is) was))

pub returns-in_err-size-clause-any_moment : goal.returns-in_err-size-clause-any_moment
returns-in_err-size-clause-any_moment g c = sized g (goal.at.returns-in_err-size-clause-any_moment g c).After-size

pub returns-then-size-lt-HEADER-clause-any_moment : goal.returns-then-size-lt-HEADER-clause-any_moment
returns-then-size-lt-HEADER-clause-any_moment g c = sized g (goal.at.returns-then-size-lt-HEADER-clause-any_moment g c).After-size

pub returns-in_err-fill-clause-any_moment : goal.returns-in_err-fill-clause-any_moment
returns-in_err-fill-clause-any_moment g c tells = let p = goal.at.returns-in_err-fill-clause-any_moment g c in filled g p.After-fill tells (sized g p.After-size tells)

pub returns-in_err-fill-2-clause-any_moment : goal.returns-in_err-fill-2-clause-any_moment
returns-in_err-fill-2-clause-any_moment g c tells = let p = goal.at.returns-in_err-fill-2-clause-any_moment g c in filled_twice g p.After-fill-2 tells (filled g p.After-fill tells (sized g p.After-size tells))

pub returns-in_default-clause-any_moment : goal.returns-in_default-clause-any_moment
returns-in_default-clause-any_moment g c tells = let p = goal.at.returns-in_default-clause-any_moment g c in filled_twice g p.After-fill-2 tells (filled g p.After-fill tells (sized g p.After-size tells))

pub returns-clause-any_moment : goal.returns-clause-any_moment
returns-clause-any_moment g c tells = let p = goal.at.returns-clause-any_moment g c in filled_twice g p.After-fill-2 tells (filled g p.After-fill tells (sized g p.After-size tells))

pub returns-clause-opened : goal.returns-clause-opened
returns-clause-opened g c tells =
    let are_bytes : (i : ℕ) → get_or c.fill-2.new.buf i 0 < 256 = c.fill-2.ensures.are_bytes in
    let size_seen = (c.size.ensures.same tells).seen in
    let fill_seen = (c.fill.ensures.same tells).seen in
    let last_seen = (c.fill-2.ensures.same tells).seen in
    let last : _ = last_seen ∙ fill_seen in
    let known = (c.fill-2.ensures.same tells).pending ∙ (c.fill.ensures.same tells).pending ∙ (c.size.ensures.same tells).pending ∙ c.in_ok-sync.ensures.pending tells in
    header_opened _ c.in-Some.format (g.D.Disk.seen c.size.new.self) (g.D.Disk.seen c.fill.new.disk) (g.D.Disk.seen c.fill-2.new.disk) _ c.fill.new.buf c.fill-2.new.buf c.in-Some.ensures.some.0 c.in-Some.ensures.some.1 (c.in_ok-fill.ensures.bytes tells) c.fill-2.auto.buf are_bytes fill_seen (c.in_ok-fill-2.ensures.bytes tells)
    (subst (λ (n : ℕ). n < 2 ^ 64) c.from_le_bytes.ensures c.from_le_bytes.type_inv) refl (c.min.ensures ∙ ap (λ (n : ℕ). min n (2 ^ 63 - 1)) c.from_le_bytes.ensures) refl refl refl last (known ∙ ap settled (sym (last ∙ size_seen ∙ c.sync.ensures.seen tells)))
