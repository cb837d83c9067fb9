use Rattle.std.proofs.Common.{◌≡◌, ℕ, ◌+◌, ◌-◌, ◌≤◌, [], ◌∷◌, ◌++◌, List, get_or, length, refl, sym, ◌∙◌, ap, subst, arith}
use Rattle.sx_base.specs.Disk.{settled}
use Rattle.sx_base.specs.Crash.{LeavesOnly, IsStableFront}
use Rattle.store_model.specs.Image.{Header, HasGroups, front_of}
use Rattle.sx_base.proofs.DiskMoments.{begins, goes_on}
use Rattle.group_log.specs.State.{LogState}
use Rattle.group_log.specs.Shown.{shown}
use Rattle.group_log.specs.Journal.{IsInProgress, Grows}
use Rattle.group_log.proofs.GatedGroups.{stable_has, grows_has}
use Rattle.group_log.proofs.GroupWrites.{behind_same, keeps_written, length-grows, length-sealed, sealed_is, sealed_has}
use Rattle.group_log.proofs.journal.Log.prepare.Given.{Over}
use Rattle.group_log.proofs.journal.Log.prepare.Goals.{After-write_at-2}
use Rattle.group_log.proofs.journal.Log.prepare.Goals as goal

pub returns-in_err-write_at-clause-any_moment : goal.returns-in_err-write_at-clause-any_moment
returns-in_err-write_at-clause-any_moment g c tells header bodies body grows =
    let log = shown c.self.inside in
    let grew = subst (λ (l : LogState). Grows header bodies body l (g.D.Disk.seen c.args.disk.now) (g.D.Disk.pending c.args.disk.now)) (sym c.self.view_is) grows in
    let at_gate : log.gate + 1 ≤ log.gate + 1 = omega arith in
    let start = begins c.args.disk.now (λ image. g.met.D.Disk.only_now c.args.disk.now image tells) (grows_has header bodies body log _ _ grew) in
    let first = keeps_written header bodies log grew.gate (log.gate + 1) _ _ _ grew.behind at_gate (c.write_at.ensures.pending tells) grew.stable in
    let sized = goes_on start c.write_at.ensures.passes tells (λ image. stable_has header bodies log grew.gate _ image grew.behind grew.closed first) in
    sized

-- With the length and the sum written a crash leaves the groups that there were, at each moment so
-- far and from now on.
summed : (g : Over) (c : After-write_at-2 g) → g.D.Disk.tells → (header : Header) (bodies : List (List ℕ)) (body : List ℕ) (grew : Grows header bodies body (shown c.self.inside) (g.D.Disk.seen c.args.disk.now) (g.D.Disk.pending c.args.disk.now))
    → LeavesOnly g.D.Disk.moment g.D.Disk.left_since c.args.disk.now c.write_at-2.new.self (HasGroups header bodies) × IsStableFront (front_of header bodies ++ grew.gate ∷ []) (g.D.Disk.pending c.write_at-2.new.self)
summed g c tells header bodies body grew =
    let log = shown c.self.inside in
    let fits = subst (λ (l : LogState). IsInProgress (g.D.Disk.len c.args.disk.now) l) (sym c.self.view_is) c.requires in
    let at_gate : log.gate + 1 ≤ log.gate + 1 = omega arith in
    let start = begins c.args.disk.now (λ image. g.met.D.Disk.only_now c.args.disk.now image tells) (grows_has header bodies body log _ _ grew) in
    let first = keeps_written header bodies log grew.gate (log.gate + 1) _ _ _ grew.behind at_gate (c.write_at.ensures.pending tells) grew.stable in
    let sized = goes_on start c.write_at.ensures.passes tells (λ image. stable_has header bodies log grew.gate _ image grew.behind grew.closed first) in
    let past : log.gate + 1 ≤ log.size = omega (arith, fits.begun) in
    let second = keeps_written header bodies log grew.gate log.size _ _ _ grew.behind past (c.write_at-2.ensures.pending tells) first in
    (goes_on sized c.write_at-2.ensures.passes tells (λ image. stable_has header bodies log grew.gate _ image grew.behind grew.closed second), second)

pub returns-in_err-write_at-2-clause-any_moment : goal.returns-in_err-write_at-2-clause-any_moment
returns-in_err-write_at-2-clause-any_moment g c tells header bodies body grows =
    let grew = subst (λ (l : LogState). Grows header bodies body l (g.D.Disk.seen c.args.disk.now) (g.D.Disk.pending c.args.disk.now)) (sym c.self.view_is) grows in
    (summed g (goal.at.returns-in_err-write_at-2-clause-any_moment g c).After-write_at-2 tells header bodies body grew).0

pub returns-in_err-sync-clause-any_moment : goal.returns-in_err-sync-clause-any_moment
returns-in_err-sync-clause-any_moment g c tells header bodies body grows =
    let log = shown c.self.inside in
    let grew = subst (λ (l : LogState). Grows header bodies body l (g.D.Disk.seen c.args.disk.now) (g.D.Disk.pending c.args.disk.now)) (sym c.self.view_is) grows in
    let so_far = summed g (goal.at.returns-in_err-sync-clause-any_moment g c).After-write_at-2 tells header bodies body grew in
    let same = subst (IsStableFront _) (sym (c.in_err-sync.ensures.pending_err tells)) so_far.1 in
    goes_on so_far.0 c.sync.ensures.passes tells (λ image. stable_has header bodies log grew.gate _ image grew.behind grew.closed same)

-- what stands there when all is done
pub returns-clause-ready : goal.returns-clause-ready
returns-clause-ready g c tells header bodies body grows =
    let log = shown c.self.inside in
    let grew = subst (λ (l : LogState). Grows header bodies body l (g.D.Disk.seen c.args.disk.now) (g.D.Disk.pending c.args.disk.now)) (sym c.self.view_is) grows in
    let fits = subst (λ (l : LogState). IsInProgress (g.D.Disk.len c.args.disk.now) l) (sym c.self.view_is) c.requires in
    let sized = g.met.D.Disk.sized c.args.disk.now tells in
    let long = length-grows header bodies body log _ _ grew in
    let same : log.size + 4 - log.gate - 9 ≡ 4 + length body = omega (arith, fits.size, sized, long) in
    let end : log.size ≡ length (g.D.Disk.seen c.args.disk.now) = sym fits.size ∙ sized in
    let tail = ap (λ (l : List ℕ). get_or l 0 0 ∷ get_or l 1 0 ∷ get_or l 2 0 ∷ get_or l 3 0 ∷ 0 ∷ []) c.to_le_bytes-sum.ensures in
    let bytes = sealed_is header bodies body log _ _ grew log.size (log.size + 4 - log.gate - 9) log.sum c.to_le_bytes.result _ _ (g.D.Disk.seen c.write_at-2.new.self) c.to_le_bytes.ensures same refl tail (c.in_ok-write_at.ensures.seen tells) end (c.in_ok-write_at-2.ensures.seen tells) in
    record {
      behind = behind_same header bodies log _ refl refl refl refl grew.behind;
      gate = grew.gate;
      closed = grew.closed;
      short = omega (arith, long, length-sealed body, sized, fits.size, fits.room, c.self.invariant.bounded);
      bytes = c.sync.ensures.seen tells ∙ bytes;
      stable = c.in_ok-sync.ensures.pending tells ∙ ap settled (sym (c.sync.ensures.seen tells));
    }

pub returns-clause-any_moment : goal.returns-clause-any_moment
unfolding returns-clause-ready
returns-clause-any_moment g c tells header bodies body grows =
    let log = shown c.self.inside in
    let grew = subst (λ (l : LogState). Grows header bodies body l (g.D.Disk.seen c.args.disk.now) (g.D.Disk.pending c.args.disk.now)) (sym c.self.view_is) grows in
    let ready = returns-clause-ready g c tells header bodies body grows in
    goes_on (summed g (goal.at.returns-clause-any_moment g c).After-write_at-2 tells header bodies body grew).0 c.sync.ensures.passes tells
    (λ image. sealed_has header bodies body log _ _ grew (g.D.Disk.seen c.sync.new.self) (g.D.Disk.pending c.sync.new.self) _ ready.bytes ready.stable image)
