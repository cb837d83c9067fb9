use Rattle.std.proofs.Common.{sym, ◌∙◌}
use Rattle.extent_map.proofs.Foreigns.{first_in_foreign, first_in_other}
use Rattle.extent_map.proofs.piece.Piece.first_foreign.Goals as goal

pub returns-then-has_foreign : goal.returns-then-has_foreign
returns-then-has_foreign g c = first_in_foreign g.O.Origin.advanced g.O.Origin.foreign g.O.Origin.reach g.met.O.Origin.foreign_stays c.args.self.now c.requires.piece c.args.at (sym c.has_foreign.ensures ∙ c.if-has_foreign.true) c.requires.within

pub returns-else-has_foreign : goal.returns-else-has_foreign
returns-else-has_foreign g c = first_in_other g.O.Origin.advanced g.O.Origin.foreign g.O.Origin.reach g.met.O.Origin.foreign_stays c.args.self.now c.requires.piece c.args.at (sym c.has_foreign.ensures ∙ c.if-has_foreign.false) c.requires.within
