use Rattle.std.proofs.Common.{◌≡◌, ℕ, ◌++◌, ◌+◌, ◌-◌, List, length, take, drop, true, ap, sym, ◌∙◌, append_assoc, arith}
use Rattle.std.proofs.lemmas.Result.{on_ok_weaker}
use Rattle.std.specs.Prelude.{slice_index_or}
use Rattle.sx_base.proofs.EscapedSteps.{run_and_rest, run_grows, run_ends, run_at_end}
use Rattle.send_model.specs.Printed.{escaped_byte, is_plain}
use Rattle.sx_base.proofs.escaping.push_all_escaped.Goals as goal

pub loop-at-preserved-then-stands_for_itself : goal.loop-at-preserved-then-stands_for_itself
loop-at-preserved-then-stands_for_itself c =
    let bytes = c.args.bytes.now in
    let plain : is_plain (slice_index_or bytes c.loop-at.at 0) ≡ true = cc in
    record {
      before = omega arith;
      wanted = ap (λ (l : List ℕ). c.loop-at.to ++ l) (run_grows bytes c.loop-at.from c.loop-at.at c.loop-at.invariant.before c.loop-at-test.true plain)
          ∙ c.loop-at.invariant.wanted;
      kept = c.loop-at.invariant.kept;
    }

pub loop-at-preserved : goal.loop-at-preserved
loop-at-preserved c =
    let bytes = c.args.bytes.now in
    let at = c.loop-at.at in
    let run : List ℕ = take (at - c.loop-at.from) (drop c.loop-at.from bytes) in
    let form : List ℕ = escaped_byte (slice_index_or bytes at 0) in
    let pushed : c.push_escaped.new.to ≡ (c.loop-at.to ++ run) ++ form =
    c.in_ok-push_escaped.ensures.appended ∙ ap (λ (l : List ℕ). l ++ form) c.in_ok-push_all.ensures.appended in
    let kept = c.loop-at.invariant.kept in
    record {
      before = omega arith;
      wanted = ap (λ (l : List ℕ). l ++ run_and_rest bytes (at + 1) (at + 1)) pushed
          ∙ run_ends c.loop-at.to bytes c.loop-at.from at c.loop-at-test.true
          ∙ c.loop-at.invariant.wanted;
      kept = (
        (kept.0 ++ run) ++ form,
        pushed
            ∙ ap (λ (l : List ℕ). (l ++ run) ++ form) kept.1
            ∙ ap (λ (l : List ℕ). l ++ form) (append_assoc c.args.to.now kept.0 run)
            ∙ append_assoc c.args.to.now (kept.0 ++ run) form,
      );
    }

pub returns-clause-appended : goal.returns-clause-appended
returns-clause-appended c =
    let bytes = c.args.bytes.now in
    let from = c.loop-at.from in
    let at_end : c.loop-at.at ≡ length bytes = omega arith in
    let wanted = run_at_end c.loop-at.to bytes from c.loop-at.at c.loop-at-test.false ∙ c.loop-at.invariant.wanted in
    let rest = ap (λ (n : ℕ). c.loop-at.to ++ take (n - from) (drop from bytes)) (sym at_end) in
    on_ok_weaker c.push_all-2.result (λ done. done ∙ rest ∙ wanted) c.push_all-2.ensures.appended
