use Rattle.std.proofs.Common.{ap, sym, ◌∙◌}
use Rattle.send_model.specs.Attribute.{Form}
use Rattle.send_model.specs.Reading.{form_fits}
use Rattle.send_commands.proofs.WantedOnes.{next_wanted, one_missing, one_misfits, one_there, one_formed, all_there}
use Rattle.send_commands.proofs.wanted.find_wanted.Goals as goal

pub returns-then-not-fits-clause-exact : goal.returns-then-not-fits-clause-exact
returns-then-not-fits-clause-exact c = λ attributes stands.
    one_misfits c.args.table.now c.args.wanted.now c.loop-i.i _ c.in-Some.bytes.now attributes c.loop-i.invariant.left stands (next_wanted c.args.wanted.now c.loop-i.i c.loop-i-test.true)
    (sym c.in-Some.ensures.value) (ap (λ (f : Form). form_fits f c.in-Some.bytes.now) (sym c.of.ensures.form) ∙ sym c.fits.ensures ∙ c.if-not-fits.true)

pub returns-in-None-clause-exact : goal.returns-in-None-clause-exact
returns-in-None-clause-exact c = λ attributes stands.
    one_missing c.args.table.now c.args.wanted.now c.loop-i.i _ attributes c.loop-i.invariant.left stands (next_wanted c.args.wanted.now c.loop-i.i c.loop-i-test.true) (sym c.in-None.ensures.value)

pub loop-i-preserved : goal.loop-i-preserved
loop-i-preserved c =
    let next = next_wanted c.args.wanted.now c.loop-i.i c.loop-i-test.true in
    let fits = ap (λ (f : Form). form_fits f c.in-Some.bytes.now) (sym c.of.ensures.form) ∙ sym c.fits.ensures ∙ c.if-not-fits.false in
    record {
      left = one_there c.args.table.now c.args.wanted.now c.loop-i.i _ c.in-Some.bytes.now c.loop-i.invariant.left next (sym c.in-Some.ensures.value) fits;
      forms = one_formed c.args.table.now c.args.wanted.now c.loop-i.i _ c.in-Some.bytes.now c.loop-i.invariant.forms next (sym c.in-Some.ensures.value) fits;
    }

pub returns-clause-exact : goal.returns-clause-exact
returns-clause-exact c = λ attributes stands. all_there c.args.table.now c.args.wanted.now c.loop-i.i attributes c.loop-i.invariant.left stands c.loop-i-test.false
