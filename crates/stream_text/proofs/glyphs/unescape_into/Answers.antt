use Rattle.std.proofs.Common.{◌≡◌, ◌≤◌, ◌+◌, ◌-◌, ◌*◌, ◌%◌, ◌++◌, ℕ, List, take, drop, length, arith, ap, ◌∙◌}
use Rattle.std.proofs.lemmas.List.{take_all, length-drop}
use Rattle.std.proofs.lemmas.Result.{on_ok_weaker}
use Rattle.sx_base.proofs.KeptFronts.{kept_then}
use Rattle.stream_text.proofs.Escapes.{run_plain, run_short, run_escape, run_end}
use Rattle.stream_text.proofs.glyphs.unescape_into.Goals as goal

pub loop-at-preserved-then-text-at-ne92 : goal.loop-at-preserved-then-text-at-ne92
loop-at-preserved-then-text-at-ne92 c =
    let i = c.loop-at.invariant in
    record {
      low = omega (arith, i.low);
      within = omega (arith, c.loop-at-test.true);
      kept = i.kept;
      reads = run_plain c.args.text.now c.args.to.now c.loop-at.to c.loop-at.from c.loop-at.at i.low c.loop-at-test.true c.if-text-at-ne92.true i.reads;
    }

pub loop-at-preserved-then-text-at-lt4 : goal.loop-at-preserved-then-text-at-lt4
loop-at-preserved-then-text-at-lt4 c =
    let i = c.loop-at.invariant in
    record {
      low = omega (arith, i.low);
      within = omega (arith, c.loop-at-test.true);
      kept = i.kept;
      reads = run_short c.args.text.now c.args.to.now c.loop-at.to c.loop-at.from c.loop-at.at i.low c.loop-at-test.true c.if-text-at-lt4.true i.reads;
    }

pub loop-at-preserved : goal.loop-at-preserved
loop-at-preserved c =
    let i = c.loop-at.invariant in
    let ran = c.in_ok-push_all.ensures.appended in
    let added = c.in_ok-push_all-2.ensures.appended in
    record {
      low = omega arith;
      within = omega (arith, c.loop-at-test.true, c.if-text-at-lt4.false);
      kept = kept_then c.args.to.now c.push_all.new.self c.push_all-in-loop-at.new.self (kept_then c.args.to.now c.loop-at.to c.push_all.new.self i.kept (_, ran)) (_, added);
      reads = run_escape c.args.text.now c.args.to.now c.loop-at.to c.push_all.new.self c.push_all-in-loop-at.new.self c.loop-at.from c.loop-at.at _ i.low c.if-text-at-lt4.false c.if-text-at-ne92.false ran
          (λ j. (c.digit_of.ensures.value j % 16) * 16 + c.digit_of-in-loop-at.ensures.value j % 16) added i.reads;
    }

pub returns-clause-read : goal.returns-clause-read
returns-clause-read c =
    let i = c.loop-at.invariant in
    let text : List ℕ = c.args.text.now in
    let past : length text ≤ c.loop-at.at = omega (arith, c.loop-at-test.false) in
    let run : take (c.loop-at.at - c.loop-at.from) (drop c.loop-at.from text) ≡ drop c.loop-at.from text = take_all (c.loop-at.at - c.loop-at.from) (drop c.loop-at.from text) (omega (arith, length-drop c.loop-at.from text, past)) in
    let whole : take (length text - c.loop-at.from) (drop c.loop-at.from text) ≡ drop c.loop-at.from text = take_all (length text - c.loop-at.from) (drop c.loop-at.from text) (omega (arith, length-drop c.loop-at.from text)) in
    on_ok_weaker c.push_all-2.result
    (λ is bytes are says. is ∙ ap (λ (l : List ℕ). c.loop-at.to ++ l) whole ∙ run_end text c.args.to.now c.loop-at.to c.loop-at.from c.loop-at.at past i.reads run bytes are says) c.push_all-2.ensures.appended
