use Rattle.std.proofs.Common.{◌≡◌, ◌++◌, OnOk, ℕ, List, refl, subst}
use Rattle.stream_dump.proofs.Octal.{room, octal_first, octal_next, octal_end}
use Rattle.stream_dump.proofs.numbers.push_octal.Goals as goal

pub loop-left-init : goal.loop-left-init
loop-left-init c = octal_first c.args.n _ refl c.ranges.n.fits

pub overflow_sub-at-in-loop-left : goal.overflow_sub-at-in-loop-left
overflow_sub-at-in-loop-left c = room c.loop-left.at c.loop-left.left c.loop-left.invariant.fits c.loop-left-test.true

pub loop-left-preserved : goal.loop-left-preserved
loop-left-preserved c = octal_next c.args.n c.loop-left.digits c.loop-left.at c.loop-left.left c.loop-left.invariant c.loop-left-test.true

pub returns-clause-pushed : goal.returns-clause-pushed
returns-clause-pushed c =
    subst (λ (l : List ℕ). OnOk c.push_all.result (c.push_all.new.self ≡ c.args.to.now ++ l))
    (octal_end c.args.n c.loop-left.digits c.loop-left.at c.loop-left.left c.loop-left.invariant c.loop-left-test.false)
    c.push_all.ensures.appended
