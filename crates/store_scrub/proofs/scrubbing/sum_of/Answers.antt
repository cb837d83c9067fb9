use Rattle.std.specs.Prelude.{◌≡◌, ℕ, ◌-◌, List, [], length, take, drop}
use Rattle.std.proofs.Common.{refl, ap, subst, ◌∙◌, arith}
use Rattle.std.proofs.lemmas.List.{take_at}
use Rattle.send_model.specs.Checksum.{crc_of}
use Rattle.sx_base.specs.Disk.{Pending, IsImage}
use Rattle.sx_base.proofs.DiskMoments.{begins, joins, weakens}
use Rattle.store_scrub.proofs.Sums.{sum_join}
use Rattle.store_scrub.proofs.scrubbing.sum_of.Goals as goal

none_so_far : (at : ℕ) (l : List ℕ) → [] ≡ take (at - at) l
none_so_far at l = ap (λ (n : ℕ). take n l) (let e : 0 ≡ at - at = omega arith in e)

pub loop-at-init : goal.loop-at-init
unfolding crc_of
loop-at-init g c = record {
  begun = omega arith;
  within = c.requires.within.0;
  len = refl;
  same = λ tells. record { seen = refl; pending = refl };
  any_moment = λ tells. begins c.args.disk.now (λ image. g.met.D.Disk.only_now c.args.disk.now image tells) (λ image is. is);
  steady = refl;
  sum_is = λ tells. ap (crc_of c.args.start) (none_so_far c.args.from (drop c.args.from (g.D.Disk.seen c.args.disk.now)));
}

pub loop-at-preserved : goal.loop-at-preserved
loop-at-preserved g c =
    let before = c.loop-at.invariant in
    let count = c.min-count.result in
    let buf = c.read.new.buf in
    let few = c.min-count.ensures in
    let size : length buf ≡ count = omega (arith, c.read.auto.buf, few) in
    record {
      begun = omega (arith, before.begun);
      within = omega (arith, few, c.loop-at-test.true);
      len = c.read.ensures.len ∙ before.len;
      same = λ tells. record { seen = (c.read.ensures.same tells).seen ∙ (before.same tells).seen; pending = (c.read.ensures.same tells).pending ∙ (before.same tells).pending };
      any_moment = λ tells. joins (before.any_moment tells) (weakens (c.read.ensures.any_moment tells) (λ image is. subst (λ (p : Pending). IsImage p image) (before.same tells).pending is));
      steady = c.in_ok-read.ensures.steady ∙ before.steady;
      sum_is = λ tells. c.update-sum.ensures
          ∙ ap (crc_of c.loop-at.sum) (take_at buf _ count size ∙ c.in_ok-read.ensures.bytes tells ∙ ap (λ (n : ℕ). take n (drop c.loop-at.at (g.D.Disk.seen c.loop-at.disk))) size ∙ ap (λ (l : List ℕ). take count (drop c.loop-at.at l)) (before.same tells).seen)
          ∙ sum_join c.args.from c.loop-at.at (g.D.Disk.seen c.args.disk.now) before.begun c.args.start c.loop-at.sum count (before.sum_is tells);
    }
