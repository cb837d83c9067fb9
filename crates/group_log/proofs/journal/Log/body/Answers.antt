use Rattle.std.proofs.Common.{ℕ, ◌+◌, ◌≤◌, List, [], ◌∷◌, refl, sym, subst, arith}
use Rattle.sx_base.specs.Crash.{LeavesOnly}
use Rattle.store_model.specs.Image.{Header, HasGroups}
use Rattle.sx_base.proofs.DiskMoments.{begins, goes_on}
use Rattle.group_log.specs.State.{LogState}
use Rattle.group_log.specs.Shown.{shown}
use Rattle.group_log.specs.Journal.{Rests}
use Rattle.group_log.proofs.GatedGroups.{stable_has, rests_has}
use Rattle.group_log.proofs.GroupWrites.{behind_same, keeps_written, keeps_shortened, cut_is, begun_is, none_summed}
use Rattle.group_log.proofs.journal.Log.body.Given.{Over}
use Rattle.group_log.proofs.journal.Log.body.Goals.{After-write_at}
use Rattle.group_log.proofs.journal.Log.body.Goals as goal

pub returns-then-saturating_sub-clause-any_moment : goal.returns-then-saturating_sub-clause-any_moment
returns-then-saturating_sub-clause-any_moment g c tells header bodies rests =
    let log = shown c.self.inside in
    let was = subst (λ (l : LogState). Rests header bodies l (g.D.Disk.seen c.args.disk.now) (g.D.Disk.pending c.args.disk.now)) (sym c.self.view_is) rests in
    begins c.args.disk.now (λ image. g.met.D.Disk.only_now c.args.disk.now image tells) (rests_has header bodies log _ _ was)

pub returns-in_err-cut-clause-any_moment : goal.returns-in_err-cut-clause-any_moment
returns-in_err-cut-clause-any_moment g c tells header bodies rests =
    let log = shown c.self.inside in
    let was = subst (λ (l : LogState). Rests header bodies l (g.D.Disk.seen c.args.disk.now) (g.D.Disk.pending c.args.disk.now)) (sym c.self.view_is) rests in
    let at_gate : log.gate + 1 ≤ log.gate + 1 = omega arith in
    let start = begins c.args.disk.now (λ image. g.met.D.Disk.only_now c.args.disk.now image tells) (rests_has header bodies log _ _ was) in
    let short = keeps_shortened header bodies log was.gate (log.gate + 1) _ _ was.behind at_gate (c.cut.ensures.pending tells) was.stable in
    goes_on start c.cut.ensures.passes tells (λ image. stable_has header bodies log was.gate _ image was.behind was.closed short)

-- At each moment a crash leaves the groups that there were.
written : (g : Over) (c : After-write_at g) → g.D.Disk.tells → (header : Header) (bodies : List (List ℕ)) → Rests header bodies c.args.self.now (g.D.Disk.seen c.args.disk.now) (g.D.Disk.pending c.args.disk.now)
    → LeavesOnly g.D.Disk.moment g.D.Disk.left_since c.args.disk.now c.write_at.new.self (HasGroups header bodies)
written g c tells header bodies rests =
    let log = shown c.self.inside in
    let was = subst (λ (l : LogState). Rests header bodies l (g.D.Disk.seen c.args.disk.now) (g.D.Disk.pending c.args.disk.now)) (sym c.self.view_is) rests in
    let at_gate : log.gate + 1 ≤ log.gate + 1 = omega arith in
    let start = begins c.args.disk.now (λ image. g.met.D.Disk.only_now c.args.disk.now image tells) (rests_has header bodies log _ _ was) in
    let short = keeps_shortened header bodies log was.gate (log.gate + 1) _ _ was.behind at_gate (c.cut.ensures.pending tells) was.stable in
    let stable = keeps_written header bodies log was.gate (log.gate + 1) _ _ _ was.behind at_gate (c.write_at.ensures.pending tells) short in
    goes_on (goes_on start c.cut.ensures.passes tells (λ image. stable_has header bodies log was.gate _ image was.behind was.closed short)) c.write_at.ensures.passes tells (λ image. stable_has header bodies log was.gate _ image was.behind was.closed stable)

pub returns-in_err-write_at-clause-any_moment : goal.returns-in_err-write_at-clause-any_moment
returns-in_err-write_at-clause-any_moment g c = written g (goal.at.returns-in_err-write_at-clause-any_moment g c).After-write_at

pub returns-clause-any_moment : goal.returns-clause-any_moment
returns-clause-any_moment g c = written g (goal.at.returns-clause-any_moment g c).After-write_at

pub returns-clause-grows : goal.returns-clause-grows
returns-clause-grows g c tells header bodies rests =
    let log = shown c.self.inside in
    let was = subst (λ (l : LogState). Rests header bodies l (g.D.Disk.seen c.args.disk.now) (g.D.Disk.pending c.args.disk.now)) (sym c.self.view_is) rests in
    let at_gate : log.gate + 1 ≤ log.gate + 1 = omega arith in
    let short = keeps_shortened header bodies log was.gate (log.gate + 1) _ _ was.behind at_gate (c.cut.ensures.pending tells) was.stable in
    let cut = cut_is header bodies log was.gate was.rest _ _ was.behind was.bytes (c.in_ok-cut.ensures.seen tells) in
    record {
      behind = behind_same header bodies log _ refl refl refl refl was.behind;
      sum = none_summed;
      gate = was.gate;
      closed = was.closed;
      space = 0 ∷ 0 ∷ 0 ∷ 0 ∷ 0 ∷ 0 ∷ 0 ∷ 0 ∷ [];
      eight = refl;
      bytes = begun_is header bodies log was.gate (0 ∷ 0 ∷ 0 ∷ 0 ∷ 0 ∷ 0 ∷ 0 ∷ 0 ∷ []) _ _ was.behind cut (c.in_ok-write_at.ensures.seen tells);
      stable = keeps_written header bodies log was.gate (log.gate + 1) _ _ _ was.behind at_gate (c.write_at.ensures.pending tells) short;
    }
