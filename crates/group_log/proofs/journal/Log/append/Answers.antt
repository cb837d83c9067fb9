use Rattle.std.proofs.Common.{◌≡◌, ℕ, ◌+◌, ◌≤◌, List, length, refl, sym, ◌∙◌, ap, subst, arith}
use Rattle.sx_base.specs.Crash.{LeavesOnly}
use Rattle.sx_base.proofs.DiskMoments.{begins, goes_on}
use Rattle.send_model.specs.Checksum.{crc_of}
use Rattle.store_model.specs.Image.{Header, HasGroups, front_of}
use Rattle.send_model.proofs.ChecksumLaws.{crc_of-append}
use Rattle.group_log.specs.State.{LogState}
use Rattle.group_log.specs.Shown.{shown}
use Rattle.group_log.specs.Journal.{IsInProgress, Grows}
use Rattle.group_log.proofs.GatedGroups.{stable_has, grows_has}
use Rattle.group_log.proofs.GroupWrites.{behind_same, keeps_written, added_is}
use Rattle.group_log.proofs.journal.Log.append.Given.{Over}
use Rattle.group_log.proofs.journal.Log.append.Goals.{After-write_at}
use Rattle.group_log.proofs.journal.Log.append.Goals as goal

pub returns-then-self-at-clause-any_moment : goal.returns-then-self-at-clause-any_moment
returns-then-self-at-clause-any_moment g c tells header bodies body grows =
    let log = shown c.self.inside in
    let grew = subst (λ (l : LogState). Grows header bodies body l (g.D.Disk.seen c.args.disk.now) (g.D.Disk.pending c.args.disk.now)) (sym c.self.view_is) grows in
    begins c.args.disk.now (λ image. g.met.D.Disk.only_now c.args.disk.now image tells) (grows_has header bodies body log _ _ grew)

-- At each moment a crash leaves the groups that there were.
added : (g : Over) (c : After-write_at g) → g.D.Disk.tells → (header : Header) (bodies : List (List ℕ)) (body : List ℕ) → Grows header bodies body c.args.self.now (g.D.Disk.seen c.args.disk.now) (g.D.Disk.pending c.args.disk.now)
    → LeavesOnly g.D.Disk.moment g.D.Disk.left_since c.args.disk.now c.write_at.new.self (HasGroups header bodies)
added g c tells header bodies body grows =
    let log = shown c.self.inside in
    let grew = subst (λ (l : LogState). Grows header bodies body l (g.D.Disk.seen c.args.disk.now) (g.D.Disk.pending c.args.disk.now)) (sym c.self.view_is) grows in
    let fits = subst (λ (l : LogState). IsInProgress (g.D.Disk.len c.args.disk.now) l) (sym c.self.view_is) c.requires in
    let past : log.gate + 1 ≤ log.size = omega (arith, fits.begun) in
    let start = begins c.args.disk.now (λ image. g.met.D.Disk.only_now c.args.disk.now image tells) (grows_has header bodies body log _ _ grew) in
    let stable = keeps_written header bodies log grew.gate log.size _ _ _ grew.behind past (c.write_at.ensures.pending tells) grew.stable in
    goes_on start c.write_at.ensures.passes tells (λ image. stable_has header bodies log grew.gate _ image grew.behind grew.closed stable)

pub returns-in_err-write_at-clause-any_moment : goal.returns-in_err-write_at-clause-any_moment
returns-in_err-write_at-clause-any_moment g c = added g (goal.at.returns-in_err-write_at-clause-any_moment g c).After-write_at

pub returns-clause-any_moment : goal.returns-clause-any_moment
returns-clause-any_moment g c = added g (goal.at.returns-clause-any_moment g c).After-write_at

pub returns-clause-grows : goal.returns-clause-grows
returns-clause-grows g c tells header bodies body grows =
    let log = shown c.self.inside in
    let grew = subst (λ (l : LogState). Grows header bodies body l (g.D.Disk.seen c.args.disk.now) (g.D.Disk.pending c.args.disk.now)) (sym c.self.view_is) grows in
    let fits = subst (λ (l : LogState). IsInProgress (g.D.Disk.len c.args.disk.now) l) (sym c.self.view_is) c.requires in
    let past : log.gate + 1 ≤ log.size = omega (arith, fits.begun) in
    let end : log.size ≡ length (g.D.Disk.seen c.args.disk.now) = sym fits.size ∙ g.met.D.Disk.sized c.args.disk.now tells in
    record {
      behind = behind_same header bodies log _ refl refl refl refl grew.behind;
      sum = c.update-self-inside.ensures ∙ ap (λ (n : ℕ). crc_of n c.args.bytes.now) grew.sum ∙ sym (crc_of-append 0 body c.args.bytes.now);
      gate = grew.gate;
      closed = grew.closed;
      space = grew.space;
      eight = grew.eight;
      bytes = added_is (front_of header bodies) grew.gate log.size grew.space body c.args.bytes.now _ _ grew.bytes end (c.in_ok-write_at.ensures.seen tells);
      stable = keeps_written header bodies log grew.gate log.size _ _ _ grew.behind past (c.write_at.ensures.pending tells) grew.stable;
    }
