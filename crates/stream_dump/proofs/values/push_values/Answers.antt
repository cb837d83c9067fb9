use Rattle.std.proofs.Common.{◌++◌, ◌<◌, ℕ, List, length, slice_index_or, sym, ap, subst, ◌∙◌}
use Rattle.stream_dump.specs.Values.{field_of, form_of, one_value}
use Rattle.sx_base.proofs.KeptFronts.{kept_then}
use Rattle.stream_dump.proofs.ValueLines.{value_printed}
use Rattle.stream_dump.proofs.values.push_values.Goals as goal

pub loop-place-preserved : goal.loop-place-preserved
loop-place-preserved c =
    let kinds : List ℕ = c.wanted-wanted.result.now in
    let wanted : c.loop-place.place < length kinds = subst (λ (n : ℕ). c.loop-place.place < n) (c.requires.count ∙ sym (ap length c.wanted-wanted.ensures.wanted)) c.loop-place-test.true in
    record {
      printed = value_printed (form_of c.args.contents) c.args.to.now c.loop-place.to c.push_value.new.to kinds c.args.values.now c.loop-place.place c.index-values-place.result
          c.loop-place.invariant.printed wanted c.loop-place-test.true
          (c.in_ok-push_value.ensures.pushed ∙ ap (λ v. c.loop-place.to ++ one_value (form_of c.args.contents) (slice_index_or kinds c.loop-place.place 0) (field_of v)) c.index-values-place.is);
      kept = kept_then c.args.to.now c.loop-place.to c.push_value.new.to c.loop-place.invariant.kept c.push_value.ensures.kept;
    }

pub returns-in_err-push_value-clause-kept : goal.returns-in_err-push_value-clause-kept
returns-in_err-push_value-clause-kept c =
    kept_then c.args.to.now c.loop-place.to c.push_value.new.to c.loop-place.invariant.kept c.push_value.ensures.kept
