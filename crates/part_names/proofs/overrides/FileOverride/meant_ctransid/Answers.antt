use Rattle.std.proofs.Common.{map, sym, ap, ◌∙◌, arith}
use Rattle.send_model.specs.Overridden.{Override, meant_ctransid}
use Rattle.part_names.specs.Overriding.{key_of}
use Rattle.part_names.proofs.Places.{key_there, none_left, goes_on, meant_here, meant_nowhere}
use Rattle.part_names.proofs.overrides.FileOverride.meant_ctransid.Goals as goal

pub returns-then-eq : goal.returns-then-eq
returns-then-eq c =
    let here = key_there key_of c.self.inside.parents.items c.loop-place.place c.index.result.now (omega (arith, c.loop-place-test.true, c.len-place-end.ensures)) c.index.ensures in
    meant_here (map key_of c.self.inside.parents.items) c.args.uuid c.loop-place.place c.args.own (key_of c.index.result.now) here (sym c.eq.ensures ∙ c.if-eq.true) c.loop-place.invariant
    ∙ ap (λ (o : Override). meant_ctransid o.parents c.args.uuid c.args.own) c.self.view_is

pub loop-place-preserved : goal.loop-place-preserved
loop-place-preserved c =
    let here = key_there key_of c.self.inside.parents.items c.loop-place.place c.index.result.now (omega (arith, c.loop-place-test.true, c.len-place-end.ensures)) c.index.ensures in
    goes_on (map key_of c.self.inside.parents.items) c.args.uuid c.loop-place.place (key_of c.index.result.now) here (sym c.eq.ensures ∙ c.if-eq.false) c.loop-place.invariant

pub returns : goal.returns
returns c =
    meant_nowhere (map key_of c.self.inside.parents.items) c.args.uuid c.loop-place.place c.args.own
    (none_left key_of c.self.inside.parents.items c.loop-place.place (omega (arith, c.loop-place-test.false, c.len-place-end.ensures))) c.loop-place.invariant
    ∙ ap (λ (o : Override). meant_ctransid o.parents c.args.uuid c.args.own) c.self.view_is
