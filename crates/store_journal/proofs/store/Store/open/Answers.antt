use Rattle.std.specs.Prelude.{◌≡◌, ℕ, ◌+◌, Bool, true, List, take, drop, Option, None, Err}
use Rattle.std.proofs.Common.{sym, ap, subst, ◌∙◌, arith}
use Rattle.std.proofs.lemmas.Result.{err_from_is_err_and}
use Rattle.sx_base.specs.Crash.{LeavesOnly}
use Rattle.sx_base.specs.Disk.{Pending, IsImage}
use Rattle.sx_base.proofs.DiskMoments.{joins, weakens}
use Rattle.send_model.specs.Store.{Store}
use Rattle.store_model.specs.Stored.{StandsFor, StandsForNone}
use Rattle.group_log.specs.State.{LogState}
use Rattle.group_log.specs.Journal.{IsReading, Finds, GoesOn}
use Rattle.group_log.specs.declared.journal.GroupPlace.{GroupPlace}
use Rattle.group_log.specs.declared.stops.LogStop.{LogStop}
use Rattle.group_replay.specs.declared.place.Place.{Place}
use Rattle.group_replay.specs.Kept.{AreKept}
use Rattle.group_replay.specs.Taking.{TakesGroup}
use Rattle.group_replay.proofs.KeptParts.{all_further}
use Rattle.store_journal.specs.Holding.{bodies_of}
use Rattle.store_journal.specs.Opening.{HoldsSome}
use Rattle.store_journal.specs.Shown.{StoreState}
use Rattle.store_journal.specs.Standing.{with_bytes}
use Rattle.store_journal.proofs.Opened.{HasRead, no_groups, next_read, next_fails, cut_is_fault, names_fault, later_image}
use Rattle.store_journal.proofs.StandingGroups.{holds_stands}
use Rattle.store_journal.proofs.store.Store.open.Given.{Over}
use Rattle.store_journal.proofs.store.Store.open.Goals.{After-next, After-take_group}
use Rattle.store_journal.proofs.store.Store.open.Goals as goal

pub loop-window-init : goal.loop-window-init
loop-window-init g c =
    let D = g.D.Disk in
    let log = c.in_ok-log.log in
    record {
      reading = c.in_ok-log.ensures.reading;
      kept = subst (λ (s : Store (Option Place)). AreKept log.gate s) (sym c.new-core.ensures) tt;
      len = c.open.ensures.len;
      steady = c.in_ok-log.ensures.steady;
      seen = c.open.ensures.seen;
      any_moment = c.open.ensures.any_moment;
      read = λ tells.
          let opened = c.in_ok-log.ensures.opened tells in
          no_groups opened.header c.new-core.result log (D.seen c.open.new.disk) (D.pending c.open.new.disk) c.new-core.ensures opened.reads;
    }

-- What a crash may leave while the groups are read.
module _ (g : Over) where
  next_moments : (c : After-next g) → g.D.Disk.tells → LeavesOnly g.D.Disk.moment g.D.Disk.left_since c.args.disk.now c.next.new.disk (IsImage (g.D.Disk.pending c.args.disk.now))
  next_moments c tells =
      let D = g.D.Disk in
      let before = c.loop-window.invariant in
      joins (before.any_moment tells)
      (weakens (c.next.ensures.any_moment tells) (later_image D.pending D.seen c.args.disk.now c.loop-window.disk c.loop-window.core c.loop-window.log (g.met.D.Disk.seen_is_image c.args.disk.now tells) (before.read tells) (before.seen tells)))

  taken_moments : (c : After-take_group g) → g.D.Disk.tells → LeavesOnly g.D.Disk.moment g.D.Disk.left_since c.args.disk.now c.next.new.disk (IsImage (g.D.Disk.pending c.args.disk.now))
      → LeavesOnly g.D.Disk.moment g.D.Disk.left_since c.args.disk.now c.take_group.new.disk (IsImage (g.D.Disk.pending c.args.disk.now))
  taken_moments c tells so_far =
      let D = g.D.Disk in
      let before = c.loop-window.invariant in
      let first = later_image D.pending D.seen c.args.disk.now c.loop-window.disk c.loop-window.core c.loop-window.log (g.met.D.Disk.seen_is_image c.args.disk.now tells) (before.read tells) (before.seen tells) in
      joins so_far (weakens (c.take_group.ensures.any_moment tells) (λ image is. first image (subst (λ (p : Pending). IsImage p image) (c.next.ensures.same tells).pending is)))

pub returns-in_err-next-clause-any_moment : goal.returns-in_err-next-clause-any_moment
returns-in_err-next-clause-any_moment g c tells = next_moments g (goal.at.returns-in_err-next-clause-any_moment g c).After-next tells

pub returns-in-None-clause-any_moment : goal.returns-in-None-clause-any_moment
returns-in-None-clause-any_moment g c tells = next_moments g (goal.at.returns-in-None-clause-any_moment g c).After-next tells

pub returns-in_err-take_group-in-Some-clause-any_moment : goal.returns-in_err-take_group-in-Some-clause-any_moment
returns-in_err-take_group-in-Some-clause-any_moment g c tells =
    let at = goal.at.returns-in_err-take_group-in-Some-clause-any_moment g c in
    taken_moments g at.After-take_group tells (next_moments g at.After-next tells)

pub returns-then-not-branch-clause-any_moment : goal.returns-then-not-branch-clause-any_moment
returns-then-not-branch-clause-any_moment g c tells =
    let at = goal.at.returns-then-not-branch-clause-any_moment g c in
    taken_moments g at.After-take_group tells (next_moments g at.After-next tells)

pub loop-window-preserved : goal.loop-window-preserved
loop-window-preserved g c =
    let D = g.D.Disk in
    let place = goal.at.loop-window-preserved g c in
    let before = c.loop-window.invariant in
    let group = c.in-Some.group in
    let goes = subst (λ (o : Option GroupPlace). GoesOn (D.len c.next.new.disk) c.loop-window.log c.next.new.self o) c.in-Some.is (c.in_ok-next.ensures.ok before.reading.stage) in
    let gate : c.next.new.self.gate ≡ group.at + group.len = ap (λ (l : LogState). l.gate) goes.0 ∙ ap (λ (n : ℕ). n + group.len) (sym goes.3) in
    let was : AreKept group.at c.loop-window.core = all_further c.loop-window.log.gate group.at (omega (arith, goes.3)) c.loop-window.core before.kept in
    record {
      reading = subst (λ (n : ℕ). IsReading n c.next.new.self) (sym c.take_group.ensures.len) goes.1;
      kept = subst (λ (n : ℕ). AreKept n c.take_group.new.core) (sym gate) (c.in_ok-take_group-in-Some.ensures.kept was c.if-not-branch.false);
      len = c.take_group.ensures.len ∙ c.next.ensures.len ∙ before.len;
      steady = c.in_ok-take_group-in-Some.ensures.steady ∙ c.in_ok-next.ensures.steady ∙ before.steady;
      seen = λ tells. (c.take_group.ensures.same tells).seen ∙ (c.next.ensures.same tells).seen ∙ before.seen tells;
      any_moment = λ tells. taken_moments g place.After-take_group tells (next_moments g place.After-next tells);
      read = λ tells.
          let read = before.read tells in
          let found = subst (λ (o : Option GroupPlace). Finds read.header (bodies_of read.groups) c.next.new.self (D.seen c.next.new.disk) (D.pending c.next.new.disk) o) c.in-Some.is (c.in_ok-next.ensures.found tells read.header (bodies_of read.groups) read.reads) in
          let took = subst (λ (b : Bool). TakesGroup c.next.new.self.format group.at (take group.len (drop group.at (D.seen c.next.new.disk))) c.loop-window.core c.take_group.new.core b) c.if-not-branch.false (c.in_ok-take_group-in-Some.ensures.taken tells) in
          subst (λ (p : Pending). HasRead c.take_group.new.core c.next.new.self (D.seen c.take_group.new.disk) p) (sym (c.take_group.ensures.same tells).pending)
          (subst (λ (l : List ℕ). HasRead c.take_group.new.core c.next.new.self l (D.pending c.next.new.disk)) (sym (c.take_group.ensures.same tells).seen)
          (next_read read.header read.groups c.next.new.self (D.seen c.next.new.disk) (D.pending c.next.new.disk) group found c.loop-window.core read.makes c.take_group.new.core took));
    }

-- At the closed gate the groups that were read are all.
pub returns-in-None-clause-holds : goal.returns-in-None-clause-holds
returns-in-None-clause-holds g c tells =
    let D = g.D.Disk in
    let read = c.loop-window.invariant.read tells in
    let found = subst (λ (o : Option GroupPlace). Finds read.header (bodies_of read.groups) c.next.new.self (D.seen c.next.new.disk) (D.pending c.next.new.disk) o) c.in-None.is (c.in_ok-next.ensures.found tells read.header (bodies_of read.groups) read.reads) in
    subst (λ (s : StoreState). HoldsSome (D.seen c.next.new.disk) (D.pending c.next.new.disk) s) (sym c.opened.ensures)
    (record { header = read.header; groups = read.groups; holds = record { rests = found; makes = read.makes } })

pub returns-in-None-clause-says : goal.returns-in-None-clause-says
returns-in-None-clause-says g c tells =
    let D = g.D.Disk in
    let read = c.loop-window.invariant.read tells in
    let found = subst (λ (o : Option GroupPlace). Finds read.header (bodies_of read.groups) c.next.new.self (D.seen c.next.new.disk) (D.pending c.next.new.disk) o) c.in-None.is (c.in_ok-next.ensures.found tells read.header (bodies_of read.groups) read.reads) in
    let store : StoreState = record { core = c.loop-window.core; log = c.next.new.self; open_part = None; is_live = true } in
    let stands = holds_stands read.header read.groups store (D.seen c.next.new.disk) (D.seen c.next.new.disk) (D.pending c.next.new.disk) (record { rests = found; makes = read.makes }) (g.met.D.Disk.seen_is_image c.next.new.disk tells) in
    subst (λ (s : StoreState). StandsFor (D.seen c.args.disk.now) (with_bytes (D.seen c.args.disk.now) s.core)) (sym c.opened.ensures)
    (subst (λ (l : List ℕ). StandsFor l (with_bytes l c.loop-window.core)) ((c.next.ensures.same tells).seen ∙ c.loop-window.invariant.seen tells) stands)

-- A group that is not taken is at fault, and so is one that is cut short.
pub returns-then-not-branch-clause-says : goal.returns-then-not-branch-clause-says
returns-then-not-branch-clause-says g c tells =
    let D = g.D.Disk in
    let group = c.in-Some.group in
    let read = c.loop-window.invariant.read tells in
    let found = subst (λ (o : Option GroupPlace). Finds read.header (bodies_of read.groups) c.next.new.self (D.seen c.next.new.disk) (D.pending c.next.new.disk) o) c.in-Some.is (c.in_ok-next.ensures.found tells read.header (bodies_of read.groups) read.reads) in
    let bad = subst (λ (b : Bool). TakesGroup c.next.new.self.format group.at (take group.len (drop group.at (D.seen c.next.new.disk))) c.loop-window.core c.take_group.new.core b) c.if-not-branch.true (c.in_ok-take_group-in-Some.ensures.taken tells) in
    subst (λ (l : List ℕ). StandsForNone l group.number) ((c.next.ensures.same tells).seen ∙ c.loop-window.invariant.seen tells)
    (next_fails read.header read.groups c.next.new.self (D.seen c.next.new.disk) (D.pending c.next.new.disk) group found c.loop-window.core read.makes c.take_group.new.core bad)

pub returns-in_err-next-clause-says : goal.returns-in_err-next-clause-says
returns-in_err-next-clause-says g c tells =
    let D = g.D.Disk in
    let p = err_from_is_err_and c.from_residual-in_err-next.result c.from_residual-in_err-next.ensures.1 in
    let before = c.loop-window.invariant in
    let read = before.read tells in
    rw (p.1, p.2) (names_fault c.in_err-next.field-0.0 (c.loop-window.log.groups + 1) _ (D.seen c.args.disk.now) c.in_err-next.ensures.stops
    (λ same. subst (λ (l : List ℕ). StandsForNone l (c.loop-window.log.groups + 1)) (before.seen tells)
    (cut_is_fault c.loop-window.core c.loop-window.log (D.seen c.loop-window.disk) (D.pending c.loop-window.disk) read
    (c.in_err-next.ensures.not_store tells read.header (bodies_of read.groups) read.reads (ap (λ (e : LogStop). Err e) same)))))
