use Rattle.std.proofs.Common.{◌≡◌, length, sym, ap, ◌∙◌, arith}
use Rattle.extent_map.proofs.CellLists.{length-between}
use Rattle.plain_stands.proofs.Alike.{range_front}
use Rattle.plain_stands.proofs.search.first_piece.Goals as goal

pub unreachable-requires : goal.unreachable-requires
unreachable-requires c =
    let l = length-between c.args.at c.args.len c.args.contents.now c.requires.within in
    let e = ap length (sym c.pieces.ensures ∙ c.in_default.ensures.steps.0) in
    omega (arith, c.requires.some, l, e)

pub unreachable-unreachable : goal.unreachable-unreachable
unreachable-unreachable c =
    let l = length-between c.args.at c.args.len c.args.contents.now c.requires.within in
    let e = ap length (sym c.pieces.ensures ∙ c.in_default.ensures.steps.0) in
    absurd (omega (arith, c.requires.some, l, e))

pub returns : goal.returns
returns c =
    let s = c.in-Some.ensures.steps in
    let f = range_front c.args.at c.args.len c.in-Some.piece.1 c.args.contents.now c.next.new.self
    c.in-Some.piece.0 c.requires.within (sym c.pieces.ensures ∙ s.2) in
    record { some = s.0; most = f.0; cells = f.1 }
