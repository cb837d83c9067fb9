use Rattle.std.proofs.Common.{◌-◌, Option, ap, sym, ◌∙◌, arith}
use Rattle.send_model.specs.Provenance.{Place}
use Rattle.provenance.specs.Cuts.{carried_len}
use Rattle.provenance.specs.Plans.{spot_in, place_at}
use Rattle.provenance.proofs.Found.{found_run, found_rest}
use Rattle.provenance.proofs.step.step_at.Goals as goal

pub returns-in_default : goal.returns-in_default
returns-in_default g c =
    let f = c.front_at-first in
    found_rest (g.E.Ends.ends c.args.ends.now) c.args.contents.now c.args.at c.args.end c.requires.within (spot_in f.result.spot) f.result.len f.ensures.some f.ensures.within f.ensures.follows f.ensures.stops
    (ap (λ (o : Option Place). carried_len (g.E.Ends.ends c.args.ends.now) o f.result.len (c.args.end - c.args.at)) (ap spot_in c.in_default.is)) c.passed_of-passed.result c.passed_of-passed.ensures

pub returns-then-carried-eq0 : goal.returns-then-carried-eq0
returns-then-carried-eq0 g c =
    let f = c.front_at-first in
    found_rest (g.E.Ends.ends c.args.ends.now) c.args.contents.now c.args.at c.args.end c.requires.within (spot_in f.result.spot) f.result.len f.ensures.some f.ensures.within f.ensures.follows f.ensures.stops
    (sym c.carried_of-carried.ensures ∙ c.if-carried-eq0.true) c.passed_of-passed.result c.passed_of-passed.ensures

pub returns : goal.returns
returns g c =
    let f = c.front_at-first in
    found_run (g.E.Ends.ends c.args.ends.now) c.args.contents.now c.args.at c.args.end c.requires.within (spot_in f.result.spot) f.result.len f.ensures.some f.ensures.within f.ensures.follows f.ensures.stops
    (place_at c.in-Some.spot) (ap spot_in c.in-Some.is) c.carried_of-carried.result c.carried_of-carried.ensures (omega (arith, c.if-carried-eq0.false))
