use Rattle.std.proofs.Common.{ℕ, List, sym, ap, ◌∙◌, arith, zero-le}
use Rattle.send_model.specs.Subvolume.{named, root}
use Rattle.stream_export.proofs.FreeNames.{from_first, goes_on, is_free, is_last}
use Rattle.stream_export.proofs.separators.free_name.Goals as goal

pub loop-number-init : goal.loop-number-init
loop-number-init g c = record {
  within = zero-le;
  name = c.in_ok-name.ensures.name;
  short = c.in_ok-name.ensures.short;
  rest = from_first c.args.tree.now c.name_count-most.result c.name_count-most.ensures;
}

pub returns-in_default-clause-name : goal.returns-in_default-clause-name
returns-in_default-clause-name g c =
    c.loop-number.invariant.name
    ∙ sym (c.loop-number.invariant.rest ∙ is_free c.args.tree.now c.name_count-most.result c.loop-number.number c.loop-number-test.true
    (ap (λ (n : List ℕ). named c.args.tree.now root n) (sym (c.as_slice.ensures.bytes ∙ c.loop-number.invariant.name)) ∙ sym c.name_in.ensures ∙ c.in_default.is))

pub loop-number-preserved : goal.loop-number-preserved
loop-number-preserved g c = record {
  within = omega (arith, c.loop-number-test.true);
  name = c.in_ok-name-2.ensures.name;
  short = c.in_ok-name-2.ensures.short;
  rest =
      c.loop-number.invariant.rest ∙ goes_on c.args.tree.now c.name_count-most.result c.loop-number.number c.in-Some.field-0 c.loop-number-test.true
      (ap (λ (n : List ℕ). named c.args.tree.now root n) (sym (c.as_slice.ensures.bytes ∙ c.loop-number.invariant.name)) ∙ sym c.name_in.ensures ∙ c.in-Some.is);
}

pub returns-clause-name : goal.returns-clause-name
returns-clause-name g c =
    c.loop-number.invariant.name
    ∙ sym (c.loop-number.invariant.rest ∙ is_last c.args.tree.now c.name_count-most.result c.loop-number.number (omega (arith, c.loop-number-test.false)))
