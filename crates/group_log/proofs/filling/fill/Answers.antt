use Rattle.std.proofs.Common.{arith, rules, refl, ◌+◌, ℕ, List, take, drop, ◌∙◌, ap, subst}
use Rattle.sx_base.specs.Disk.{Pending, IsImage}
use Rattle.sx_base.proofs.DiskMoments.{begins, goes_on}
use Rattle.sx_base.proofs.FilledBuffers.{filled_more, length_filled}
use Rattle.group_log.proofs.filling.fill.Goals as goal

pub loop-done-init : goal.loop-done-init
loop-done-init g c = record {
  are_bytes = λ i. omega (arith, c.type_inv.buf i);
  within = search rules;
  len = search rules;
  bytes = λ tells. search rules;
  same = λ tells. search rules;
  any_moment = λ tells. begins c.args.disk.now (λ image left. g.met.D.Disk.only_now c.args.disk.now image tells left) (λ image is. is);
  steady = refl;
}

pub loop-done-preserved : goal.loop-done-preserved
loop-done-preserved g c =
    let i = c.loop-done.invariant in
    let r = c.in_ok-done.ensures in
    record {
      are_bytes = λ i. omega (arith, c.type_inv.buf i);
      within = length_filled c.loop-done.done c.in_ok-done.field-0 c.loop-done.buf c.read.new.buf _ i.within r.bound;
      len = search rules;
      bytes = λ tells. filled_more c.args.at c.loop-done.done c.in_ok-done.field-0 c.loop-done.buf c.read.new.buf _ (g.D.Disk.seen c.args.disk.now) i.within r.bound (i.bytes tells)
          ((r.bytes tells).same ∙ ap (λ (l : List ℕ). take c.in_ok-done.field-0 (drop (c.args.at + c.loop-done.done) l)) (i.same tells).seen);
      same = λ tells. record { seen = (c.read.ensures.same tells).seen ∙ (i.same tells).seen; pending = (c.read.ensures.same tells).pending ∙ (i.same tells).pending };
      any_moment = λ tells. goes_on (i.any_moment tells) c.read.ensures.passes tells
          (λ image is. subst (λ (p : Pending). IsImage p image) ((c.read.ensures.same tells).pending ∙ (i.same tells).pending) is);
      steady = c.in_ok-done.ensures.steady ∙ i.steady;
    }
