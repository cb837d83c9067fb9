use Rattle.std.proofs.Common.{◌++◌, length, take, drop, length-append, length-drop, sym, ap, ◌∙◌, arith}
use Rattle.std.proofs.lemmas.List.{take-append-drop, length-take-le}
use Rattle.extent_map.proofs.LeafEdits.{removed}
use Rattle.extent_map.proofs.leaf.take_out.Goals as goal

pub loop-init : goal.loop-init
loop-init g c = (omega arith, sym (take-append-drop c.args.from c.args.pieces.now.items))

pub remove-requires : goal.remove-requires
remove-requires g c =
    let old = c.args.pieces.now.items in
    omega (
      arith,
      c.loop-test.true,
      c.loop.auto.counter,
      c.requires.within,
      ap length c.loop.invariant.1,
      length-append (take c.args.from old) (drop c.loop.counter old),
      length-take-le c.args.from old (omega (arith, c.loop-test.true, c.loop.auto.counter, c.requires.within)),
      length-drop c.loop.counter old,
      c.loop.pieces.ok,
    )

pub loop-preserved : goal.loop-preserved
loop-preserved g c = (
  omega (arith, c.loop.auto.counter),
  removed c.args.pieces.now.items c.loop.pieces.items c.remove.new.self.items c.args.from c.loop.counter c.loop.auto.counter (omega (arith, c.loop-test.true, c.requires.within)) c.loop.invariant.1 c.remove.ensures.items,
)

pub returns : goal.returns
returns g c =
    c.loop.invariant.1
    ∙ ap (λ k. take c.args.from c.args.pieces.now.items ++ drop k c.args.pieces.now.items) (omega (arith, c.loop-test.false, c.loop.auto.counter-end c.requires.order))
