use Rattle.std.proofs.Common.{sym, ap, ◌∙◌}
use Rattle.std.proofs.lemmas.List.Folds.{list_any_at}
use Rattle.extent_map.proofs.parts.any_foreign.Goals as goal

pub returns-then-has_foreign : goal.returns-then-has_foreign
returns-then-has_foreign g c =
    sym (list_any_at g.T.Part.foreign c.args.parts.now c.loop-part.part-index c.part-item.result c.loop-part-test.true
    (ap g.T.Part.foreign (sym c.part-item.is) ∙ sym c.has_foreign.ensures ∙ c.if-has_foreign.true))
