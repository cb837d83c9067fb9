use Rattle.std.specs.Prelude.{◌≡◌, ℕ, ◌+◌, List, Option, Err}
use Rattle.std.proofs.Common.{rules, refl, sym, ap, subst, ◌∙◌, arith}
use Rattle.std.proofs.lemmas.Result.{err_from_is_err_and}
use Rattle.sx_base.specs.Disk.{Pending, IsImage}
use Rattle.sx_base.specs.Crash.{LeavesOnly}
use Rattle.sx_base.proofs.DiskMoments.{joins, weakens}
use Rattle.group_log.specs.State.{LogState}
use Rattle.group_log.specs.Journal.{IsReading, Finds, GoesOn}
use Rattle.group_log.specs.declared.journal.GroupPlace.{GroupPlace}
use Rattle.group_log.specs.declared.stops.LogStop.{LogStop}
use Rattle.std.specs.Prelude.{IfSome}
use Rattle.edits_copy.specs.declared.place.EditsPlace.{EditsPlace}
use Rattle.edits_copy.specs.Finding.{IsWithin, HasFound}
use Rattle.edits_copy.proofs.Groups.{later_within, none_found, next_found, at_rest, all_found, later_image, next_cut}
use Rattle.edits_copy.proofs.finding.find_edits.Given.{Over}
use Rattle.edits_copy.proofs.finding.find_edits.Goals.{After-next, After-edits_at}
use Rattle.edits_copy.proofs.finding.find_edits.Goals as goal

-- up to the search for the next group a crash leaves what it might leave at first
searched : (g : Over) (c : After-next g) → g.D.Disk.tells → LeavesOnly g.D.Disk.moment g.D.Disk.left_since c.args.disk.now c.next.new.disk (IsImage (g.D.Disk.pending c.args.disk.now))
searched g c tells =
    let before = c.loop-group.invariant in
    joins (before.any_moment tells) (weakens (c.next.ensures.any_moment tells) (λ image. later_image (g.D.Disk.pending c.args.disk.now) (g.D.Disk.pending c.loop-group.disk) (g.D.Disk.seen c.loop-group.disk) (g.D.Disk.seen c.args.disk.now) image c.loop-group.log c.args.uuid c.loop-group.found (before.has tells) ((before.same tells).seen) (g.met.D.Disk.seen_is_image c.args.disk.now tells)))

read_on : (g : Over) (c : After-edits_at g) → g.D.Disk.tells → LeavesOnly g.D.Disk.moment g.D.Disk.left_since c.args.disk.now c.next.new.disk (IsImage (g.D.Disk.pending c.args.disk.now)) → LeavesOnly g.D.Disk.moment g.D.Disk.left_since c.args.disk.now c.edits_at.new.disk (IsImage (g.D.Disk.pending c.args.disk.now))
read_on g c tells so_far =
    let before = c.loop-group.invariant in
    joins so_far (weakens (c.edits_at.ensures.any_moment tells) (λ image is. later_image (g.D.Disk.pending c.args.disk.now) (g.D.Disk.pending c.loop-group.disk) (g.D.Disk.seen c.loop-group.disk) (g.D.Disk.seen c.args.disk.now) image c.loop-group.log c.args.uuid c.loop-group.found (before.has tells) ((before.same tells).seen) (g.met.D.Disk.seen_is_image c.args.disk.now tells)
    (subst (λ (p : Pending). IsImage p image) (c.next.ensures.same tells).pending is)))

pub loop-group-init : goal.loop-group-init
loop-group-init g c = record {
  reading = c.requires.reading;
  within = tt;
  len = refl;
  same = search rules;
  any_moment = search rules;
  steady = refl;
  has = λ tells. none_found c.args.uuid c.args.log.now (g.D.Disk.seen c.args.disk.now) (g.D.Disk.pending c.args.disk.now) (c.requires.opened tells);
}

pub returns-in_err-group-clause-not_store : goal.returns-in_err-group-clause-not_store
returns-in_err-group-clause-not_store g c tells =
    let before = c.loop-group.invariant in
    let has = before.has tells in
    let p = err_from_is_err_and c.from_residual.result c.from_residual.ensures.1 in
    rw (p.1, p.2) (next_cut c.args.uuid c.loop-group.log (g.D.Disk.seen c.loop-group.disk) (g.D.Disk.seen c.args.disk.now) (g.D.Disk.pending c.loop-group.disk) c.loop-group.found has ((before.same tells).seen) _ c.in_err-group.field-0.0 c.in_err-group.ensures.stops
    (λ same. c.in_err-group.ensures.not_store tells has.header has.bodies has.reads (ap (λ (e : LogStop). Err e) same)))

pub returns-in_err-group-clause-any_moment : goal.returns-in_err-group-clause-any_moment
returns-in_err-group-clause-any_moment g c = searched g (goal.at.returns-in_err-group-clause-any_moment g c).After-next

pub loop-group-preserved : goal.loop-group-preserved
loop-group-preserved g c =
    let before = c.loop-group.invariant in
    let goes = subst (λ (o : Option GroupPlace). GoesOn (g.D.Disk.len c.next.new.disk) c.loop-group.log c.next.new.self o) c.in-Some.is (c.in_ok-group.ensures.ok before.reading.stage) in
    record {
      reading = subst (λ (n : ℕ). IsReading n c.next.new.self) (sym c.edits_at.ensures.len) goes.1;
      within =
          let size : c.next.new.self.size ≡ c.loop-group.log.size = ap (λ (l : LogState). l.size) goes.0 in
          let gate : c.next.new.self.gate ≡ c.loop-group.log.gate + 9 + c.in-Some.group.len = ap (λ (l : LogState). l.gate) goes.0 in
          subst (λ (o : Option EditsPlace). IfSome o (IsWithin c.next.new.self.size)) (sym c.later-found.ensures)
          (later_within (c.in-Some.group.at + c.in-Some.group.len) c.next.new.self.size c.loop-group.found c.in_ok-here.here (omega (arith, gate, goes.3, goes.1.whole))
          (subst (λ (n : ℕ). IfSome c.loop-group.found (IsWithin n)) (sym size) before.within) c.in_ok-here.ensures.within);
      len = c.edits_at.ensures.len ∙ c.next.ensures.len ∙ before.len;
      same = search rules;
      any_moment = λ tells. let p = goal.at.loop-group-preserved g c in read_on g p.After-edits_at tells (searched g p.After-next tells);
      steady = c.in_ok-here.ensures.steady ∙ c.in_ok-group.ensures.steady ∙ before.steady;
      has = λ tells.
          let has = before.has tells in
          let seen : List ℕ = g.D.Disk.seen c.next.new.disk in
          let pending : Pending = g.D.Disk.pending c.next.new.disk in
          let next = subst (λ (o : Option GroupPlace). Finds has.header has.bodies c.next.new.self seen pending o) c.in-Some.is (c.in_ok-group.ensures.found tells has.header has.bodies has.reads) in
          subst (λ (o : Option EditsPlace). HasFound c.args.uuid c.next.new.self (g.D.Disk.seen c.edits_at.new.disk) (g.D.Disk.pending c.edits_at.new.disk) o) (sym c.later-found.ensures)
          (next_found c.args.uuid c.loop-group.log c.next.new.self (g.D.Disk.seen c.loop-group.disk) (g.D.Disk.pending c.loop-group.disk) c.loop-group.found has seen pending c.in-Some.group next c.in_ok-here.here (g.D.Disk.seen c.edits_at.new.disk) (g.D.Disk.pending c.edits_at.new.disk)
          (sym (c.next.ensures.same tells).seen) (c.edits_at.ensures.same tells).seen (c.edits_at.ensures.same tells).pending c.in_ok-here.ensures.within
          (c.in_ok-here.ensures.found tells));
    }

pub returns-clause-found : goal.returns-clause-found
returns-clause-found g c tells =
    let before = c.loop-group.invariant in
    let has = before.has tells in
    let found = c.in_ok-group.ensures.found tells has.header has.bodies has.reads in
    let rests = at_rest has.header has.bodies c.next.new.self (g.D.Disk.seen c.next.new.disk) (g.D.Disk.pending c.next.new.disk) c.in_ok-group.field-0 found c.in_default.not-Some in
    all_found c.args.uuid c.loop-group.log c.next.new.self (g.D.Disk.seen c.loop-group.disk) (g.D.Disk.pending c.loop-group.disk) c.loop-group.found has (g.D.Disk.seen c.next.new.disk) (g.D.Disk.seen c.args.disk.now) (g.D.Disk.pending c.next.new.disk) rests
    ((before.same tells).seen) ((c.next.ensures.same tells).seen ∙ (before.same tells).seen)

pub returns-clause-any_moment : goal.returns-clause-any_moment
returns-clause-any_moment g c = searched g (goal.at.returns-clause-any_moment g c).After-next
