use Rattle.std.proofs.Common.{◌≡◌, ◌+◌, ◌++◌, refl, sym, ◌∙◌, arith}
use Rattle.std.proofs.lemmas.Result.{IfOk-weaker}
use Rattle.extent_map.specs.Seen.{IsTwo, joined}
use Rattle.extent_map.specs.declared.making.Two.{Two}
use Rattle.extent_map.proofs.Makes.{appended_fork, appended_kids}
use Rattle.extent_map.proofs.joining.join_forks.Goals as goal

pub overflow_add-len : goal.overflow_add-len
overflow_add-len g c = omega (arith, c.requires.fits, c.span.ensures, c.span-2.ensures)

pub forked-requires : goal.forked-requires
forked-requires g c = c.requires.high

pub same-right : goal.same-right
same-right g c = refl

pub forked-requires-2 : goal.forked-requires-2
forked-requires-2 g c = omega (arith, c.requires.high, c.requires.level)

pub forks-requires-clause-fork : goal.forks-requires-clause-fork
forks-requires-clause-fork g c =
    appended_fork c.args.left c.args.right c.in_ok-kids.kids.height c.in_ok-more.more.height (c.span.result + c.span-2.result) c.in_ok-kids.kids.trees.items c.in_ok-more.more.trees.items c.append.new.self.items
    c.in_ok-kids.ensures c.in_ok-more.ensures c.requires.level c.in_ok-append.ensures.items (omega (arith, c.span.ensures, c.span-2.ensures))

pub forks-requires-clause-fits : goal.forks-requires-clause-fits
forks-requires-clause-fits g c = omega (arith, c.requires.fits, c.span.ensures, c.span-2.ensures)

pub returns : goal.returns
returns g c =
    let e : joined c.append.new.self.items ≡ c.args.left.cells ++ c.args.right.cells =
    appended_kids c.args.left c.args.right c.in_ok-kids.kids.height c.in_ok-more.more.height c.in_ok-kids.kids.trees.items c.in_ok-more.more.trees.items c.append.new.self.items c.in_ok-kids.ensures c.in_ok-more.ensures c.in_ok-append.ensures.items in
    IfOk-weaker c.forks.result
    (λ (two : Two g.row.O.Denot). IsTwo (joined c.append.new.self.items) c.in_ok-kids.kids.height two.first two.second)
    (λ (two : Two g.row.O.Denot). IsTwo (c.args.left.cells ++ c.args.right.cells) c.args.left.height two.first two.second)
    (λ two t. record { are = t.are ∙ e; height = t.height ∙ sym c.in_ok-kids.ensures.as_high; same = λ h. t.same h ∙ sym c.in_ok-kids.ensures.as_high })
    c.forks.ensures
