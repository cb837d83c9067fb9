use Rattle.std.proofs.Common.{List, subst}
use Rattle.extent_map.specs.declared.piece.Piece.{Piece}
use Rattle.extent_map.specs.Parts.{IsFound}
use Rattle.extent_map.proofs.LeafEdits.{split_front, split_back}
use Rattle.extent_map.proofs.leaf.split_at.Goals as goal

pub returns-clause-front : goal.returns-clause-front
returns-clause-front g c =
    split_front g.O.Origin.advanced g.O.Origin.reach c.args.pieces.now.items c.split_off.new.self.items c.add_at.new.pieces.items c.args.at c.find-index.result.0 c.find-index.result.1 c.in_ok-add_at.field-0 c.index.result.now c.front-lead.result
    (subst (λ (l : List (Piece g.row.O.Denot)). IsFound (λ p. p.len) l c.args.at c.find-index.result.0 c.find-index.result.1) c.deref.ensures.value c.find-index.ensures) c.index.ensures c.front-lead.ensures.cells c.in_ok-back.ensures.items c.in_ok-add_at.ensures

pub returns-clause-back : goal.returns-clause-back
returns-clause-back g c =
    split_back g.O.Origin.advanced g.O.Origin.reach c.args.pieces.now.items c.in_ok-back.back.items c.args.at c.find-index.result.0 c.find-index.result.1 c.index-2.result.now c.behind-tail.result
    (subst (λ (l : List (Piece g.row.O.Denot)). IsFound (λ p. p.len) l c.args.at c.find-index.result.0 c.find-index.result.1) c.deref.ensures.value c.find-index.ensures) c.index-2.ensures c.requires.pieces c.behind-tail.ensures.cells c.behind-tail.ensures.len c.behind-tail.ensures.reaches c.in_ok-back.ensures.tail
