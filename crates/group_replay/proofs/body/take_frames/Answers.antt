use Rattle.std.specs.Prelude.{◌≡◌, ℕ, ◌-◌, ◌≤◌, List, length, take, drop, Option, IfSome}
use Rattle.std.proofs.Common.{refl, sym, ap, subst, ◌∙◌, arith}
use Rattle.send_model.specs.Checksum.{crc_of}
use Rattle.sx_base.specs.Disk.{Pending, IsImage}
use Rattle.sx_base.proofs.DiskMoments.{begins, joins, weakens}
use Rattle.group_replay.specs.declared.window.Ahead.{Ahead}
use Rattle.group_replay.specs.Kept.{IsKept}
use Rattle.group_replay.specs.Taking.{open_state}
use Rattle.group_replay.specs.Aheads.{Shows, GoesPast}
use Rattle.group_replay.specs.Edits.{AreEdits}
use Rattle.group_replay.specs.Bodies.{TakesShown}
use Rattle.group_replay.proofs.FrameRuns.{none_taken, sum_of_none, sums_join, frames_join, frames_bad}
use Rattle.group_replay.proofs.KeptParts.{all_further}
use Rattle.group_replay.proofs.body.take_frames.Given.{Over}
use Rattle.group_replay.proofs.body.take_frames.Goals.{In_ok-next}
use Rattle.group_replay.proofs.body.take_frames.Goals as goal

pub loop-ahead-init : goal.loop-ahead-init
loop-ahead-init g c = record {
  begun = omega arith;
  within = c.requires.within.0;
  key = refl;
  ahead = c.requires.ahead;
  len = refl;
  same = λ tells. record { seen = refl; pending = refl };
  any_moment = λ tells. begins c.args.disk.now (λ image. g.met.D.Disk.only_now c.args.disk.now image tells) (λ image is. is);
  later = omega arith;
  steady = refl;
  shows = c.requires.shows;
  edits = λ tells. none_taken c.args.run.now.frames.version c.args.first.at (g.D.Disk.seen c.args.disk.now) (open_state c.args.core.now c.args.part.now);
  sum_is = λ tells. sum_of_none c.args.first.sum c.args.first.at (g.D.Disk.seen c.args.disk.now);
  kept = λ all own. own;
}

-- what the window shows once it is filled up, and what is known up to there
module _ (g : Over) (c : In_ok-next g) where
  shows_now : g.D.Disk.tells → Shows (g.D.Disk.seen c.args.disk.now) c.refill.new.window c.in_ok-ahead.ahead
  shows_now tells =
      let before = c.loop-ahead.invariant in
      subst (λ (l : List ℕ). Shows l c.refill.new.window c.in_ok-ahead.ahead) ((c.refill.ensures.same tells).seen ∙ (before.same tells).seen)
      (c.in_ok-ahead.ensures.shows tells (subst (λ (l : List ℕ). Shows l c.loop-ahead.window c.loop-ahead.ahead) (sym (before.same tells).seen) (before.shows tells)))

  so_far : g.D.Disk.tells → AreEdits c.args.run.now.frames.version c.args.first.at (take (c.in_ok-ahead.ahead.at - c.args.first.at) (drop c.args.first.at (g.D.Disk.seen c.args.disk.now))) (open_state c.args.core.now c.args.part.now) (open_state c.args.core.now c.loop-ahead.part)
  so_far tells =
      subst (λ (n : ℕ). AreEdits c.args.run.now.frames.version c.args.first.at (take (n - c.args.first.at) (drop c.args.first.at (g.D.Disk.seen c.args.disk.now))) (open_state c.args.core.now c.args.part.now) (open_state c.args.core.now c.loop-ahead.part))
      (sym c.in_ok-ahead.ensures.refills.same) (c.loop-ahead.invariant.edits tells)

  begun : c.args.first.at ≤ c.in_ok-ahead.ahead.at
  begun = let same = c.in_ok-ahead.ensures.refills.same in omega (arith, same, c.loop-ahead.invariant.begun)

  goes_on : c.in_ok-ahead.ahead.at ≤ c.args.run.now.frames.end
  goes_on = let same = c.in_ok-ahead.ensures.refills.same in omega (arith, same, c.loop-ahead.invariant.within)

  there : g.D.Disk.tells → c.in_ok-ahead.ahead.at ≤ length (g.D.Disk.seen c.args.disk.now)
  there tells = omega (arith, goes_on, c.requires.within.1, c.requires.within.2, c.requires.fits, g.met.D.Disk.sized c.args.disk.now tells)

pub loop-ahead-preserved : goal.loop-ahead-preserved
loop-ahead-preserved g c =
    let before = c.loop-ahead.invariant in
    let at = (goal.at.loop-ahead-preserved g c).In_ok-next in
    let D = g.D.Disk in
    let seen = D.seen c.args.disk.now in
    let now = c.in_ok-ahead.ahead in
    let next = c.in-Some.next in
    let first = c.args.first in
    let window = c.refill.new.window in
    let s = open_state c.args.core.now c.args.part.now in
    let t = open_state c.args.core.now c.loop-ahead.part in
    let u = open_state c.args.core.now c.take_shown.new.part in
    let refills = c.in_ok-ahead.ensures.refills in
    let past = subst (λ (o : Option Ahead). IfSome o (GoesPast c.args.run.now.frames.end c.args.run.now.frames.stop (length window) now)) c.in-Some.is c.in_ok-next.ensures.past in
    let later = past.later in
    let took = λ (tells : D.tells). subst (λ (o : Option Ahead). TakesShown c.args.run.now.frames now (record { seen = seen; window = window }) t u o) c.in-Some.is (c.in_ok-next.ensures.taken seen (shows_now g at tells)) in
    let less : now.at ≤ next.at = omega (arith, later) in
    record {
      begun = omega (arith, later, begun g at);
      within = past.within;
      key = c.take_shown.ensures.key ∙ before.key;
      ahead = past.ahead;
      len = c.refill.ensures.len ∙ before.len;
      same = λ tells. record { seen = (c.refill.ensures.same tells).seen ∙ (before.same tells).seen; pending = (c.refill.ensures.same tells).pending ∙ (before.same tells).pending };
      any_moment = λ tells. joins (before.any_moment tells) (weakens (c.refill.ensures.any_moment tells) (λ image is. subst (λ (p : Pending). IsImage p image) (before.same tells).pending is));
      later = omega (arith, before.later, c.refill.ensures.later);
      steady = c.in_ok-ahead.ensures.steady ∙ before.steady;
      shows = λ tells. (took tells).shows;
      edits = λ tells. frames_join first.at now.at next.at seen (begun g at) less c.args.run.now.frames.version s t (there g at tells) (so_far g at tells) u (took tells).edits;
      sum_is = λ tells. (took tells).sum ∙ ap (λ (n : ℕ). crc_of n (take (next.at - now.at) (drop now.at seen)))
          (refills.sum ∙ before.sum_is tells ∙ ap (λ (n : ℕ). crc_of first.sum (take (n - first.at) (drop first.at seen))) (sym refills.same))
          ∙ sums_join first.at now.at next.at seen (begun g at) less first.sum;
      kept = λ all own. subst (λ (o : Option Ahead). IfSome o (λ n. IsKept n.at c.take_shown.new.part.subvolume)) c.in-Some.is
          (c.in_ok-next.ensures.kept (all_further first.at now.at (begun g at) c.args.core.now all)
          (subst (λ (n : ℕ). IsKept n c.loop-ahead.part.subvolume) (sym refills.same) (before.kept all own)));
    }

pub returns-in-None-clause-taken : goal.returns-in-None-clause-taken
returns-in-None-clause-taken g c tells right =
    let at = (goal.at.returns-in-None-clause-taken g c).In_ok-next in
    let seen = g.D.Disk.seen c.args.disk.now in
    let now = c.in_ok-ahead.ahead in
    let s = open_state c.args.core.now c.args.part.now in
    let t = open_state c.args.core.now c.loop-ahead.part in
    let u = open_state c.args.core.now c.take_shown.new.part in
    let bad = subst (λ (o : Option Ahead). TakesShown c.args.run.now.frames now (record { seen = seen; window = c.refill.new.window }) t u o) c.in-None.is (c.in_ok-next.ensures.taken seen (shows_now g at tells)) in
    frames_bad c.args.first.at now.at c.args.run.now.frames.end seen (begun g at) (goes_on g at) c.args.run.now.frames.version s t (there g at tells) (so_far g at tells) bad

pub returns-clause-kept : goal.returns-clause-kept
returns-clause-kept g c all own right =
    let end : c.loop-ahead.ahead.at ≡ c.args.run.now.frames.end = omega (arith, c.loop-ahead-test.false, c.loop-ahead.invariant.within) in
    subst (λ (n : ℕ). IsKept n c.loop-ahead.part.subvolume) end (c.loop-ahead.invariant.kept all own)
