use Rattle.std.proofs.Common.{length, length-append, refl, sym, ap, ◌∙◌, arith}
use Rattle.extent_map.proofs.joining.append.Goals as goal

pub same-left : goal.same-left
same-left g c = refl

pub same-left-2 : goal.same-left-2
same-left-2 g c = refl

pub same-right : goal.same-right
same-right g c = refl

pub join-requires-clause-some_left : goal.join-requires-clause-some_left
join-requires-clause-some_left g c = omega (arith, c.if-height-eq0.false, c.height.ensures.height)

pub join-requires-clause-some_right : goal.join-requires-clause-some_right
join-requires-clause-some_right g c = omega (arith, c.if-height-eq0-2.false, c.height-2.ensures.height)

pub join-requires-clause-fits : goal.join-requires-clause-fits
join-requires-clause-fits g c = c.requires.fits

pub root-requires-clause-two : goal.root-requires-clause-two
root-requires-clause-two g c =
    let t = c.in_ok-two.ensures in
    record { are = refl; height = refl; same = λ h. t.same h ∙ sym t.height }

pub root-requires-clause-fits : goal.root-requires-clause-fits
root-requires-clause-fits g c = omega (arith, c.requires.fits, ap length c.in_ok-two.ensures.are, length-append c.args.left.cells c.args.right.cells)
