use Rattle.std.proofs.Common.{◌+◌, ◌-◌, List, ap, subst, arith}
use Rattle.extent_map.specs.declared.piece.Piece.{Piece}
use Rattle.extent_map.specs.Parts.{IsFound}
use Rattle.extent_map.proofs.Spans.{found_part, found_sum, found_below}
use Rattle.extent_map.proofs.LeafEdits.{added_sum, gone_sum, front_lead, tail_back, written}
use Rattle.extent_map.proofs.leaf.write_over.Goals as goal

pub add_at-requires-2-clause-fits : goal.add_at-requires-2-clause-fits
add_at-requires-2-clause-fits g c =
    let old = c.args.pieces.now.items in
    let f : IsFound (λ p. p.len) c.args.pieces.now.items c.args.at c.find-first.result.0 c.find-first.result.1 =
    subst (λ (l : List (Piece g.row.O.Denot)). IsFound (λ p. p.len) l c.args.at c.find-first.result.0 c.find-first.result.1) c.deref.ensures.value c.find-first.ensures in
    let l : IsFound (λ p. p.len) c.args.pieces.now.items (c.args.at + c.args.new.len - 1) c.find-last.result.0 c.find-last.result.1 =
    subst (λ (l : List (Piece g.row.O.Denot)). IsFound (λ p. p.len) l (c.args.at + c.args.new.len - 1) c.find-last.result.0 c.find-last.result.1) c.deref-2.ensures.value c.find-last.ensures in
    omega (
      arith,
      c.requires.within,
      c.requires.fits,
      c.requires.some,
      f.from,
      l.from,
      l.to,
      c.front-lead.ensures.len,
      c.behind-tail.ensures.len,
      ap (λ (q : Piece g.row.O.Denot). q.len) (found_part (λ p. p.len) old (c.args.at + c.args.new.len - 1) c.find-last.result.0 c.find-last.result.1 l c.index-2.result.now c.index-2.ensures),
      found_sum (λ p. p.len) old (c.args.at + c.args.new.len - 1) c.find-last.result.0 c.find-last.result.1 l,
      gone_sum g.O.Origin.advanced g.O.Origin.reach old c.take_out.new.pieces.items c.args.at (c.args.at + c.args.new.len - 1) c.find-first.result.0 c.find-first.result.1 c.find-last.result.0 c.find-last.result.1 f l c.take_out.ensures,
      added_sum g.O.Origin.advanced g.O.Origin.reach c.take_out.new.pieces.items c.add_at.new.pieces.items c.find-first.result.0 c.in_ok-place.place c.front-lead.result c.in_ok-place.ensures,
    )

pub add_at-requires-3-clause-fits : goal.add_at-requires-3-clause-fits
add_at-requires-3-clause-fits g c =
    let old = c.args.pieces.now.items in
    let f : IsFound (λ p. p.len) c.args.pieces.now.items c.args.at c.find-first.result.0 c.find-first.result.1 =
    subst (λ (l : List (Piece g.row.O.Denot)). IsFound (λ p. p.len) l c.args.at c.find-first.result.0 c.find-first.result.1) c.deref.ensures.value c.find-first.ensures in
    let l : IsFound (λ p. p.len) c.args.pieces.now.items (c.args.at + c.args.new.len - 1) c.find-last.result.0 c.find-last.result.1 =
    subst (λ (l : List (Piece g.row.O.Denot)). IsFound (λ p. p.len) l (c.args.at + c.args.new.len - 1) c.find-last.result.0 c.find-last.result.1) c.deref-2.ensures.value c.find-last.ensures in
    omega (
      arith,
      c.requires.within,
      c.requires.fits,
      c.requires.some,
      f.from,
      l.from,
      l.to,
      c.front-lead.ensures.len,
      c.behind-tail.ensures.len,
      ap (λ (q : Piece g.row.O.Denot). q.len) (found_part (λ p. p.len) old (c.args.at + c.args.new.len - 1) c.find-last.result.0 c.find-last.result.1 l c.index-2.result.now c.index-2.ensures),
      found_sum (λ p. p.len) old (c.args.at + c.args.new.len - 1) c.find-last.result.0 c.find-last.result.1 l,
      gone_sum g.O.Origin.advanced g.O.Origin.reach old c.take_out.new.pieces.items c.args.at (c.args.at + c.args.new.len - 1) c.find-first.result.0 c.find-first.result.1 c.find-last.result.0 c.find-last.result.1 f l c.take_out.ensures,
      added_sum g.O.Origin.advanced g.O.Origin.reach c.take_out.new.pieces.items c.add_at.new.pieces.items c.find-first.result.0 c.in_ok-place.place c.front-lead.result c.in_ok-place.ensures,
      added_sum g.O.Origin.advanced g.O.Origin.reach c.add_at.new.pieces.items c.add_at-2.new.pieces.items c.in_ok-place.place c.in_ok-place-2.place c.args.new c.in_ok-place-2.ensures,
    )

pub close_at-requires-clause-fits : goal.close_at-requires-clause-fits
close_at-requires-clause-fits g c =
    let old = c.args.pieces.now.items in
    let f : IsFound (λ p. p.len) c.args.pieces.now.items c.args.at c.find-first.result.0 c.find-first.result.1 =
    subst (λ (l : List (Piece g.row.O.Denot)). IsFound (λ p. p.len) l c.args.at c.find-first.result.0 c.find-first.result.1) c.deref.ensures.value c.find-first.ensures in
    let l : IsFound (λ p. p.len) c.args.pieces.now.items (c.args.at + c.args.new.len - 1) c.find-last.result.0 c.find-last.result.1 =
    subst (λ (l : List (Piece g.row.O.Denot)). IsFound (λ p. p.len) l (c.args.at + c.args.new.len - 1) c.find-last.result.0 c.find-last.result.1) c.deref-2.ensures.value c.find-last.ensures in
    omega (
      arith,
      c.requires.within,
      c.requires.fits,
      c.requires.some,
      f.from,
      l.from,
      l.to,
      c.front-lead.ensures.len,
      c.behind-tail.ensures.len,
      ap (λ (q : Piece g.row.O.Denot). q.len) (found_part (λ p. p.len) old (c.args.at + c.args.new.len - 1) c.find-last.result.0 c.find-last.result.1 l c.index-2.result.now c.index-2.ensures),
      found_sum (λ p. p.len) old (c.args.at + c.args.new.len - 1) c.find-last.result.0 c.find-last.result.1 l,
      gone_sum g.O.Origin.advanced g.O.Origin.reach old c.take_out.new.pieces.items c.args.at (c.args.at + c.args.new.len - 1) c.find-first.result.0 c.find-first.result.1 c.find-last.result.0 c.find-last.result.1 f l c.take_out.ensures,
      added_sum g.O.Origin.advanced g.O.Origin.reach c.take_out.new.pieces.items c.add_at.new.pieces.items c.find-first.result.0 c.in_ok-place.place c.front-lead.result c.in_ok-place.ensures,
      added_sum g.O.Origin.advanced g.O.Origin.reach c.add_at.new.pieces.items c.add_at-2.new.pieces.items c.in_ok-place.place c.in_ok-place-2.place c.args.new c.in_ok-place-2.ensures,
      added_sum g.O.Origin.advanced g.O.Origin.reach c.add_at-2.new.pieces.items c.add_at-3.new.pieces.items c.in_ok-place-2.place c.in_ok-place-3.place c.behind-tail.result c.in_ok-place-3.ensures,
    )

pub returns : goal.returns
returns g c =
    let old = c.args.pieces.now.items in
    let f : IsFound (λ p. p.len) c.args.pieces.now.items c.args.at c.find-first.result.0 c.find-first.result.1 =
    subst (λ (l : List (Piece g.row.O.Denot)). IsFound (λ p. p.len) l c.args.at c.find-first.result.0 c.find-first.result.1) c.deref.ensures.value c.find-first.ensures in
    let l : IsFound (λ p. p.len) c.args.pieces.now.items (c.args.at + c.args.new.len - 1) c.find-last.result.0 c.find-last.result.1 =
    subst (λ (l : List (Piece g.row.O.Denot)). IsFound (λ p. p.len) l (c.args.at + c.args.new.len - 1) c.find-last.result.0 c.find-last.result.1) c.deref-2.ensures.value c.find-last.ensures in
    let start = c.find-first.result.1 in
    let last_start = c.find-last.result.1 in
    written g.O.Origin.advanced g.O.Origin.reach old c.take_out.new.pieces.items c.add_at.new.pieces.items c.add_at-2.new.pieces.items c.add_at-3.new.pieces.items c.close_at.new.pieces.items
    c.args.at c.find-first.result.0 c.find-last.result.0 c.in_ok-place.place c.in_ok-place-2.place c.in_ok-place-3.place c.front-lead.result c.args.new c.behind-tail.result
    (omega (arith, found_below (λ p. p.len) old c.args.at c.find-first.result.0 start f))
    c.take_out.ensures c.in_ok-place.ensures c.in_ok-place-2.ensures c.in_ok-place-3.ensures c.close_at.ensures
    (front_lead g.O.Origin.advanced g.O.Origin.reach old c.args.at c.args.at c.find-first.result.0 start c.index.result.now c.front-lead.result f c.index.ensures f.from (omega (arith, f.to)) c.front-lead.ensures.cells)
    (tail_back g.O.Origin.advanced g.O.Origin.reach old (c.args.at + c.args.new.len - 1) (c.args.at + c.args.new.len) c.find-last.result.0 last_start c.index-2.result.now c.behind-tail.result l c.index-2.ensures (omega (arith, l.from)) (omega (arith, l.to, c.requires.some)) c.behind-tail.ensures.cells)
