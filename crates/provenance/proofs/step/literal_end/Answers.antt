use Rattle.std.proofs.Common.{◌≡◌, ℕ, ◌+◌, ◌-◌, ap, ◌∙◌, arith}
use Rattle.provenance.specs.Cuts.{Rest, join_cut, cuts_between}
use Rattle.provenance.specs.Plans.{place_at}
use Rattle.provenance.proofs.CutLaws.{join_rests}
use Rattle.provenance.proofs.Found.{none_left, rest_then_run, rest_then_none}
use Rattle.provenance.proofs.step.literal_end.Goals as goal

pub returns-in-Carried-clause-cuts : goal.returns-in-Carried-clause-cuts
returns-in-Carried-clause-cuts g c = λ at len.
    let E = g.E.Ends.ends c.args.ends.now in
    c.loop-at.invariant.passed at len
    ∙ rest_then_run at (len + (c.loop-at.at - c.args.start)) (place_at c.in-Carried.spot) c.in-Carried.len (cuts_between E c.args.contents.now c.loop-at.at c.args.end)
    (cuts_between E c.args.contents.now (c.loop-at.at + c.in-Carried.len) c.args.end) c.in-Carried.ensures.2

pub loop-at-preserved : goal.loop-at-preserved
loop-at-preserved g c =
    let E = g.E.Ends.ends c.args.ends.now in
    let inv = c.loop-at.invariant in
    let s = c.in-Passed.ensures in
    record {
      from = omega (arith, inv.from);
      to = s.1;
      passed = λ at len.
          let more = cuts_between E c.args.contents.now (c.loop-at.at + c.in-Passed.len) c.args.end in
          let e : len + (c.loop-at.at - c.args.start) + c.in-Passed.len ≡ len + (c.loop-at.at + c.in-Passed.len - c.args.start) = omega (arith, inv.from) in
          inv.passed at len
          ∙ ap (join_cut (Rest at (len + (c.loop-at.at - c.args.start)))) s.2
          ∙ join_rests at (len + (c.loop-at.at - c.args.start)) c.loop-at.at c.in-Passed.len more
          ∙ ap (λ (k : ℕ). join_cut (Rest at k) more) e;
    }

pub returns-clause-cuts : goal.returns-clause-cuts
returns-clause-cuts g c = λ at len.
    let E = g.E.Ends.ends c.args.ends.now in
    c.loop-at.invariant.passed at len
    ∙ rest_then_none at (len + (c.loop-at.at - c.args.start)) (cuts_between E c.args.contents.now c.loop-at.at c.args.end)
    (none_left E c.args.contents.now c.loop-at.at c.args.end c.requires.within (omega (arith, c.loop-at.invariant.to, c.loop-at-test.false)))
