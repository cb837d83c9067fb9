use Rattle.std.proofs.Common.{◌==◌, ◌+◌, ◌-◌, ℕ, List, Bool, true, false, get_or, length, take, drop, refl, ap, subst, ◌∙◌}
use Rattle.sx_base.proofs.KeptFronts.{kept_then}
use Rattle.stream_text.specs.ValueReading.{ReadsValue}
use Rattle.stream_text.proofs.ValueTexts.{missing_at, wrong_at, right_at, end_at}
use Rattle.stream_text.proofs.values.ValueReader.read_all.Goals as goal

pub returns-in_default-clause-read : goal.returns-in_default-clause-read
returns-in_default-clause-read c =
    let i = c.loop-place.invariant in
    i.goes c.loop-place.to false (missing_at c.args.frame.now.version c.args.kinds.now c.args.text.now c.loop-place.place c.loop-place.at c.loop-place-test.true c.loop-place.to c.in_default.ensures.none)

pub returns-then-not-branch-clause-read : goal.returns-then-not-branch-clause-read
returns-then-not-branch-clause-read c =
    let i = c.loop-place.invariant in
    let kind : ℕ = get_or c.args.kinds.now c.loop-place.place 0 in
    let end = c.word_end-end.result in
    let from : ℕ = c.loop-place.at + c.in-Some.lead in
    let value : List ℕ = take (end - from) (drop from c.args.text.now) in
    let read = subst (λ (v : ℕ). ReadsValue v kind value c.loop-place.to c.read.new.to false) (ap (λ f. f.version) i.same)
    (subst (λ (b : Bool). ReadsValue c.loop-place.frame.version kind value c.loop-place.to c.read.new.to b) c.if-not-branch.true c.in_ok-read.ensures.read) in
    i.goes c.read.new.to false (wrong_at c.args.frame.now.version c.args.kinds.now c.args.text.now c.loop-place.place c.loop-place.at c.loop-place-test.true c.in-Some.lead end c.loop-place.to c.read.new.to c.in-Some.ensures.some.1 c.word_end-end.ensures.end read)

pub loop-place-preserved : goal.loop-place-preserved
loop-place-preserved c =
    let i = c.loop-place.invariant in
    let kind : ℕ = get_or c.args.kinds.now c.loop-place.place 0 in
    let end = c.word_end-end.result in
    let from : ℕ = c.loop-place.at + c.in-Some.lead in
    let value : List ℕ = take (end - from) (drop from c.args.text.now) in
    let read = subst (λ (v : ℕ). ReadsValue v kind value c.loop-place.to c.read.new.to true) (ap (λ f. f.version) i.same)
    (subst (λ (b : Bool). ReadsValue c.loop-place.frame.version kind value c.loop-place.to c.read.new.to b) c.if-not-branch.false c.in_ok-read.ensures.read) in
    record {
      within = c.word_end-end.ensures.end.high;
      same = c.in_ok-read.ensures.frame ∙ i.same;
      kept = kept_then c.args.to.now c.loop-place.to c.read.new.to i.kept c.in_ok-read.ensures.kept;
      goes = λ after b rest.
          i.goes after b (right_at c.args.frame.now.version c.args.kinds.now c.args.text.now c.loop-place.place c.loop-place.at c.loop-place-test.true c.in-Some.lead end c.loop-place.to c.read.new.to after b c.in-Some.ensures.some.1 c.word_end-end.ensures.end read rest);
    }

pub returns-clause-read : goal.returns-clause-read
returns-clause-read c =
    let i = c.loop-place.invariant in
    i.goes c.loop-place.to (c.loop-place.at == length c.args.text.now)
    (end_at c.args.frame.now.version c.args.kinds.now c.args.text.now c.loop-place.to c.loop-place.place c.loop-place.at c.loop-place-test.false i.within (c.loop-place.at == length c.args.text.now) refl)
