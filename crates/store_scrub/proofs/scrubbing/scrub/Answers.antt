use Rattle.std.specs.Prelude.{◌≡◌, ℕ, ◌+◌, ◌≤◌, Bool, true, false, not, List, Option, Err, if◌then◌else◌}
use Rattle.std.proofs.Common.{refl, sym, ap, subst, ◌∙◌, arith}
use Rattle.std.proofs.lemmas.Result.{err_from_is_err_and}
use Rattle.sx_base.specs.Disk.{Pending, IsImage}
use Rattle.sx_base.specs.Crash.{LeavesOnly}
use Rattle.sx_base.proofs.DiskMoments.{joins, weakens}
use Rattle.group_log.specs.State.{LogState}
use Rattle.group_log.specs.Journal.{IsReading, Finds, GoesOn}
use Rattle.group_log.specs.declared.journal.GroupPlace.{GroupPlace}
use Rattle.group_log.specs.declared.stops.LogStop.{LogStop}
use Rattle.store_scrub.specs.Found.{HasScrubbed}
use Rattle.store_scrub.proofs.Journals.{later_image, next_whole, next_stops, at_rest, all_scrubbed, next_cut}
use Rattle.store_scrub.proofs.scrubbing.scrub.Given.{Over}
use Rattle.store_scrub.proofs.scrubbing.scrub.Goals.{After-next, After-scrub_group}
use Rattle.store_scrub.proofs.scrubbing.scrub.Goals as goal
use mir.Val.{bool_byte}

-- up to the search for the next group a crash leaves what it might leave at first
searched : (g : Over) (c : After-next g) → g.D.Disk.tells → LeavesOnly g.D.Disk.moment g.D.Disk.left_since c.args.disk.now c.next.new.disk (IsImage (g.D.Disk.pending c.args.disk.now))
searched g c tells =
    let before = c.loop-group.invariant in
    joins (before.any_moment tells) (weakens (c.next.ensures.any_moment tells) (λ image. later_image (g.D.Disk.pending c.args.disk.now) (g.D.Disk.pending c.loop-group.disk) (g.D.Disk.seen c.loop-group.disk) (g.D.Disk.seen c.args.disk.now) image c.loop-group.log c.loop-group.found.unsealed (before.scrubbed tells) (before.seen tells) (g.met.D.Disk.seen_is_image c.args.disk.now tells)))

read_on : (g : Over) (c : After-scrub_group g) → g.D.Disk.tells → LeavesOnly g.D.Disk.moment g.D.Disk.left_since c.args.disk.now c.next.new.disk (IsImage (g.D.Disk.pending c.args.disk.now)) → LeavesOnly g.D.Disk.moment g.D.Disk.left_since c.args.disk.now c.scrub_group.new.disk (IsImage (g.D.Disk.pending c.args.disk.now))
read_on g c tells so_far =
    let before = c.loop-group.invariant in
    joins so_far (weakens (c.scrub_group.ensures.any_moment tells) (λ image is. later_image (g.D.Disk.pending c.args.disk.now) (g.D.Disk.pending c.loop-group.disk) (g.D.Disk.seen c.loop-group.disk) (g.D.Disk.seen c.args.disk.now) image c.loop-group.log c.loop-group.found.unsealed (before.scrubbed tells) (before.seen tells) (g.met.D.Disk.seen_is_image c.args.disk.now tells)
    (subst (λ (p : Pending). IsImage p image) (c.next.ensures.same tells).pending is)))

-- a group without a checksum counts as one
missing : (s : Bool) → bool_byte (not s) ≡ (if s then 0 else 1)
missing true = refl
missing false = refl

one_at_most : (s : Bool) → bool_byte (not s) ≤ 1
one_at_most true = omega arith
one_at_most false = omega arith

pub returns-in_err-group-clause-stopped : goal.returns-in_err-group-clause-stopped
returns-in_err-group-clause-stopped g c tells =
    let before = c.loop-group.invariant in
    let has = before.scrubbed tells in
    let p = err_from_is_err_and c.from_residual-in_err-group.result c.from_residual-in_err-group.ensures.1 in
    rw (p.1, p.2) (next_cut c.loop-group.log (g.D.Disk.seen c.loop-group.disk) (g.D.Disk.seen c.args.disk.now) (g.D.Disk.pending c.loop-group.disk) c.loop-group.found.unsealed has (before.seen tells) _ c.in_err-group.field-0.0 c.in_err-group.ensures.stops
    (λ same. c.in_err-group.ensures.not_store tells has.header has.bodies has.reads (ap (λ (e : LogStop). Err e) same)))

pub returns-in_err-group-clause-any_moment : goal.returns-in_err-group-clause-any_moment
returns-in_err-group-clause-any_moment g c = searched g (goal.at.returns-in_err-group-clause-any_moment g c).After-next

pub returns-in_err-sealed-clause-stopped : goal.returns-in_err-sealed-clause-stopped
returns-in_err-sealed-clause-stopped g c tells =
    let before = c.loop-group.invariant in
    let has = before.scrubbed tells in
    let seen : List ℕ = g.D.Disk.seen c.next.new.disk in
    let pending : Pending = g.D.Disk.pending c.next.new.disk in
    let next = subst (λ (o : Option GroupPlace). Finds has.header has.bodies c.next.new.self seen pending o) c.in-Some.is (c.in_ok-group.ensures.found tells has.header has.bodies has.reads) in
    let p = err_from_is_err_and c.from_residual-in_err-sealed.result c.from_residual-in_err-sealed.ensures.1 in
    rw (p.1, p.2) (next_stops c.loop-group.log c.next.new.self (g.D.Disk.seen c.loop-group.disk) (g.D.Disk.pending c.loop-group.disk) c.loop-group.found.unsealed has seen pending c.in-Some.group next (g.D.Disk.seen c.args.disk.now) ((c.next.ensures.same tells).seen ∙ before.seen tells)
    c.in_err-sealed.field-0.0 (c.in_err-sealed.ensures.stopped tells))

pub returns-in_err-sealed-clause-any_moment : goal.returns-in_err-sealed-clause-any_moment
returns-in_err-sealed-clause-any_moment g c tells = let p = goal.at.returns-in_err-sealed-clause-any_moment g c in read_on g p.After-scrub_group tells (searched g p.After-next tells)

pub loop-group-preserved : goal.loop-group-preserved
loop-group-preserved g c =
    let before = c.loop-group.invariant in
    let goes = subst (λ (o : Option GroupPlace). GoesOn (g.D.Disk.len c.next.new.disk) c.loop-group.log c.next.new.self o) c.in-Some.is (c.in_ok-group.ensures.ok before.reading.stage) in
    let new_groups : c.next.new.self.groups ≡ c.loop-group.log.groups + 1 = ap (λ (l : LogState). l.groups) goes.0 in
    let more : bool_byte (not c.in_ok-sealed.sealed) ≡ (if c.in_ok-sealed.sealed then 0 else 1) = missing c.in_ok-sealed.sealed in
    record {
      reading = subst (λ (n : ℕ). IsReading n c.next.new.self) (sym c.scrub_group.ensures.len) goes.1;
      counted = omega (arith, goes.2, new_groups);
      fewer = omega (arith, before.fewer, before.counted, goes.2, one_at_most c.in_ok-sealed.sealed);
      len = c.scrub_group.ensures.len ∙ c.next.ensures.len ∙ before.len;
      seen = λ tells. (c.scrub_group.ensures.same tells).seen ∙ (c.next.ensures.same tells).seen ∙ before.seen tells;
      any_moment = λ tells. let p = goal.at.loop-group-preserved g c in read_on g p.After-scrub_group tells (searched g p.After-next tells);
      steady = c.in_ok-sealed.ensures.steady ∙ c.in_ok-group.ensures.steady ∙ before.steady;
      scrubbed = λ tells.
          let has = before.scrubbed tells in
          let seen : List ℕ = g.D.Disk.seen c.next.new.disk in
          let pending : Pending = g.D.Disk.pending c.next.new.disk in
          let next = subst (λ (o : Option GroupPlace). Finds has.header has.bodies c.next.new.self seen pending o) c.in-Some.is (c.in_ok-group.ensures.found tells has.header has.bodies has.reads) in
          subst (λ (n : ℕ). HasScrubbed c.next.new.self (g.D.Disk.seen c.scrub_group.new.disk) (g.D.Disk.pending c.scrub_group.new.disk) (c.loop-group.found.unsealed + n)) (sym more)
          (next_whole c.loop-group.log c.next.new.self (g.D.Disk.seen c.loop-group.disk) (g.D.Disk.pending c.loop-group.disk) c.loop-group.found.unsealed has seen pending c.in-Some.group next c.in_ok-sealed.sealed _ _ (c.scrub_group.ensures.same tells).seen (c.scrub_group.ensures.same tells).pending
          (c.in_ok-sealed.ensures.whole tells));
    }

pub returns-clause-scrubbed : goal.returns-clause-scrubbed
returns-clause-scrubbed g c tells =
    let before = c.loop-group.invariant in
    let has = before.scrubbed tells in
    let found = c.in_ok-group.ensures.found tells has.header has.bodies has.reads in
    let rests = at_rest has.header has.bodies c.next.new.self (g.D.Disk.seen c.next.new.disk) (g.D.Disk.pending c.next.new.disk) c.in_ok-group.field-0 found c.in_default.not-Some in
    all_scrubbed c.loop-group.log c.next.new.self (g.D.Disk.seen c.loop-group.disk) (g.D.Disk.pending c.loop-group.disk) c.loop-group.found.unsealed has (g.D.Disk.seen c.next.new.disk) (g.D.Disk.seen c.args.disk.now) (g.D.Disk.pending c.next.new.disk) rests ((c.next.ensures.same tells).seen ∙ before.seen tells) c.loop-group.found.groups before.counted

pub returns-clause-any_moment : goal.returns-clause-any_moment
returns-clause-any_moment g c = searched g (goal.at.returns-clause-any_moment g c).After-next
