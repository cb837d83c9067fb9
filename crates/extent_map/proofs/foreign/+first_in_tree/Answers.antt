use Rattle.std.proofs.Common.{◌≡◌, ◌+◌, ◌≤◌, ℕ, Vec, Global, length, subst, sym, ap, ◌∙◌, arith}
use Rattle.extent_map.specs.Opened.{AreKidsOf}
use Rattle.extent_map.specs.Seen.{Seen}
use Rattle.extent_map.proofs.Foreigns.{kid_low, kid_sum, kid_fits, kid_none, kid_first, kids_end}
use Rattle.extent_map.proofs.Shapes.{fork_opened}
use Rattle.extent_map.proofs.foreign.+first_in_tree.Goals as goal

pub overflow_add-end : goal.overflow_add-end
overflow_add-end g t c =
    let ks : AreKidsOf c.args.tree.now c.in-Fork.field-0 c.as_slice-kids.result.now =
    subst (AreKidsOf c.args.tree.now c.in-Fork.field-0) (sym (c.as_slice-kids.ensures.value ∙ ap (λ (v : Vec (Seen g.row.O.Denot) Global). v.items) c.as_ref-in-Fork.ensures))
    (fork_opened g.O.Origin.advanced g.O.Origin.reach c.args.tree.now c.tree.inside.shape c.in-Fork.field-0 c.in-Fork.field-1 c.in-Fork.field-2 c.in-Fork.kids c.tree.view_is c.tree.invariant.parts c.in-Fork.is) in
    omega (arith, c.requires.fits, c.span-in-loop-kid.ensures, kid_fits g.O.Origin.foreign c.args.tree.now c.in-Fork.field-0 c.as_slice-kids.result.now ks c.args.at c.loop-kid.kid-index c.loop-kid.start c.loop-kid.invariant.begins c.loop-kid.invariant.none c.kid-item.result c.loop-kid-test.true c.kid-item.is)

pub first_in_tree-requires : goal.first_in_tree-requires
first_in_tree-requires g t c κs within =
    let ks : AreKidsOf c.args.tree.now c.in-Fork.field-0 c.as_slice-kids.result.now =
    subst (AreKidsOf c.args.tree.now c.in-Fork.field-0) (sym (c.as_slice-kids.ensures.value ∙ ap (λ (v : Vec (Seen g.row.O.Denot) Global). v.items) c.as_ref-in-Fork.ensures))
    (fork_opened g.O.Origin.advanced g.O.Origin.reach c.args.tree.now c.tree.inside.shape c.in-Fork.field-0 c.in-Fork.field-1 c.in-Fork.field-2 c.in-Fork.kids c.tree.view_is c.tree.invariant.parts c.in-Fork.is) in
    let fits : c.loop-kid.start + length c.kid-item.result.cells ≤ length c.args.tree.now.cells = kid_fits g.O.Origin.foreign c.args.tree.now c.in-Fork.field-0 c.as_slice-kids.result.now ks c.args.at c.loop-kid.kid-index c.loop-kid.start c.loop-kid.invariant.begins c.loop-kid.invariant.none c.kid-item.result c.loop-kid-test.true c.kid-item.is in
    (omega (arith, c.decreases, kid_low g.O.Origin.foreign c.args.tree.now c.in-Fork.field-0 c.as_slice-kids.result.now ks c.args.at c.loop-kid.kid-index c.loop-kid.start c.loop-kid.invariant.begins c.loop-kid.invariant.none c.kid-item.result c.loop-kid-test.true c.kid-item.is), (within, (omega (arith, c.saturating_sub.ensures, c.span-in-loop-kid.ensures, c.if-end-at.false), omega (arith, c.requires.fits, fits))))

pub overflow_add-place : goal.overflow_add-place
overflow_add-place g t c =
    let ks : AreKidsOf c.args.tree.now c.in-Fork.field-0 c.as_slice-kids.result.now =
    subst (AreKidsOf c.args.tree.now c.in-Fork.field-0) (sym (c.as_slice-kids.ensures.value ∙ ap (λ (v : Vec (Seen g.row.O.Denot) Global). v.items) c.as_ref-in-Fork.ensures))
    (fork_opened g.O.Origin.advanced g.O.Origin.reach c.args.tree.now c.tree.inside.shape c.in-Fork.field-0 c.in-Fork.field-1 c.in-Fork.field-2 c.in-Fork.kids c.tree.view_is c.tree.invariant.parts c.in-Fork.is) in
    omega (arith, c.requires.fits, c.first_in_tree.ensures.within, kid_fits g.O.Origin.foreign c.args.tree.now c.in-Fork.field-0 c.as_slice-kids.result.now ks c.args.at c.loop-kid.kid-index c.loop-kid.start c.loop-kid.invariant.begins c.loop-kid.invariant.none c.kid-item.result c.loop-kid-test.true c.kid-item.is)

pub returns-then-place-end : goal.returns-then-place-end
returns-then-place-end g t c =
    let ks : AreKidsOf c.args.tree.now c.in-Fork.field-0 c.as_slice-kids.result.now =
    subst (AreKidsOf c.args.tree.now c.in-Fork.field-0) (sym (c.as_slice-kids.ensures.value ∙ ap (λ (v : Vec (Seen g.row.O.Denot) Global). v.items) c.as_ref-in-Fork.ensures))
    (fork_opened g.O.Origin.advanced g.O.Origin.reach c.args.tree.now c.tree.inside.shape c.in-Fork.field-0 c.in-Fork.field-1 c.in-Fork.field-2 c.in-Fork.kids c.tree.view_is c.tree.invariant.parts c.in-Fork.is) in
    kid_first g.O.Origin.foreign c.args.tree.now c.in-Fork.field-0 c.as_slice-kids.result.now ks c.args.at c.loop-kid.kid-index c.loop-kid.start c.loop-kid.invariant.begins c.loop-kid.invariant.none c.kid-item.result c.loop-kid-test.true c.kid-item.is
    c.first_in_tree.result c.saturating_sub.result c.saturating_sub.ensures c.first_in_tree.ensures
    (omega (arith, c.if-place-end.true, c.span-in-loop-kid.ensures))

pub loop-kid-preserved : goal.loop-kid-preserved
loop-kid-preserved g t c =
    let ks : AreKidsOf c.args.tree.now c.in-Fork.field-0 c.as_slice-kids.result.now =
    subst (AreKidsOf c.args.tree.now c.in-Fork.field-0) (sym (c.as_slice-kids.ensures.value ∙ ap (λ (v : Vec (Seen g.row.O.Denot) Global). v.items) c.as_ref-in-Fork.ensures))
    (fork_opened g.O.Origin.advanced g.O.Origin.reach c.args.tree.now c.tree.inside.shape c.in-Fork.field-0 c.in-Fork.field-1 c.in-Fork.field-2 c.in-Fork.kids c.tree.view_is c.tree.invariant.parts c.in-Fork.is) in
    let n : c.span-in-loop-kid.result ≡ length c.kid-item.result.cells = c.span-in-loop-kid.ensures in
    record {
      begins = ap (λ (n : ℕ). c.loop-kid.start + n) n ∙ kid_sum g.O.Origin.foreign c.args.tree.now c.in-Fork.field-0 c.as_slice-kids.result.now ks c.args.at c.loop-kid.kid-index c.loop-kid.start c.loop-kid.invariant.begins c.loop-kid.invariant.none c.kid-item.result c.loop-kid-test.true c.kid-item.is;
      none = λ k low high. kid_none g.O.Origin.foreign c.args.tree.now c.in-Fork.field-0 c.as_slice-kids.result.now ks c.args.at c.loop-kid.kid-index c.loop-kid.start c.loop-kid.invariant.begins c.loop-kid.invariant.none c.kid-item.result c.loop-kid-test.true c.kid-item.is
          c.first_in_tree.result c.saturating_sub.result c.saturating_sub.ensures c.first_in_tree.ensures
          (omega (arith, c.if-place-end.false, n)) k low (omega (arith, high, n));
    }

pub returns-after-loop-kid : goal.returns-after-loop-kid
returns-after-loop-kid g t c =
    let ks : AreKidsOf c.args.tree.now c.in-Fork.field-0 c.as_slice-kids.result.now =
    subst (AreKidsOf c.args.tree.now c.in-Fork.field-0) (sym (c.as_slice-kids.ensures.value ∙ ap (λ (v : Vec (Seen g.row.O.Denot) Global). v.items) c.as_ref-in-Fork.ensures))
    (fork_opened g.O.Origin.advanced g.O.Origin.reach c.args.tree.now c.tree.inside.shape c.in-Fork.field-0 c.in-Fork.field-1 c.in-Fork.field-2 c.in-Fork.kids c.tree.view_is c.tree.invariant.parts c.in-Fork.is) in
    kids_end g.O.Origin.foreign c.args.tree.now c.in-Fork.field-0 c.as_slice-kids.result.now ks c.args.at c.loop-kid.kid-index c.loop-kid.start c.loop-kid.invariant.begins c.loop-kid.invariant.none
    (omega (arith, c.loop-kid-test.false)) c.requires.within
