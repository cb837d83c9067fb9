use Rattle.std.proofs.Common.{◌≡◌, refl, ap, subst, ◌∙◌, ◌+◌, length, arith, ℕ}
use Rattle.std.specs.String.{string_bytes}
use Rattle.tlv_frame.specs.Feeding.{Fed}
use Rattle.cmd_reader.specs.Sources.{unit_len}
use Rattle.cmd_reader.specs.Steadiness.{UnlessFault}
use Rattle.cmd_reader.proofs.Asked.{reads_nothing, reads_then}
use Rattle.cmd_reader.proofs.Sourcing.{passes, left_after, unit_passed, unit_due, kept_ahead, refused_pass, waited, no_more, not_more, given_more}
use Rattle.cmd_reader.proofs.source.Source.pass.Goals as goal

pub returns-in-Ok-Some-clause-source : goal.returns-in-Ok-Some-clause-source
returns-in-Ok-Some-clause-source g c =
    let i = c.loop-unit.invariant in
    let e = c.in-Ok-Some.ensures in
    let left = left_after c.loop-unit.self.feed c.pass.new.self c.in-Ok-Some.unit e.after (unit_due c.loop-unit.self.feed.due c.in-Ok-Some.unit c.in-Ok-Some.field-0 c.in-Ok-Some.field-0-is e.due) (unit_passed c.pass.new.self _ c.in-Ok-Some.unit c.in-Ok-Some.field-0 c.in-Ok-Some.field-0-is e.answer) in
    record { up_to = omega (arith, i.source.up_to, left, c.len_of.ensures.len); within = i.source.within; room = i.source.room }

pub returns-in-Ok-Some-clause-says : goal.returns-in-Ok-Some-clause-says
returns-in-Ok-Some-clause-says g c =
    let i = c.loop-unit.invariant in
    let e = c.in-Ok-Some.ensures in
    let mid = c.loop-unit.self.feed in
    let unit = c.in-Ok-Some.unit in
    let ahead = kept_ahead (g.I.Inputs.told c.args.inputs.now) (g.I.Inputs.told c.loop-unit.inputs) (string_bytes c.args.self.now.name) (string_bytes c.loop-unit.self.name) c.args.self.now.at c.loop-unit.self.at mid i.same (ap string_bytes i.name) i.place i.ahead in
    passes (g.I.Inputs.told c.args.inputs.now) (string_bytes c.args.self.now.name) c.args.self.now.at _ c.args.self.now.feed mid c.pass.new.self unit i.due e.after (ap (λ (n : ℕ). c.loop-unit.self.at + n) c.len_of.ensures.len ∙ ap (λ (n : ℕ). n + unit_len unit) i.place)
    (unit_due mid.due unit c.in-Ok-Some.field-0 c.in-Ok-Some.field-0-is e.due) (unit_passed c.pass.new.self _ unit c.in-Ok-Some.field-0 c.in-Ok-Some.field-0-is e.answer) ahead

pub returns-in-Err-clause-says : goal.returns-in-Err-clause-says
returns-in-Err-clause-says g c =
    let i = c.loop-unit.invariant in
    let mid = c.loop-unit.self.feed in
    let ahead = kept_ahead (g.I.Inputs.told c.args.inputs.now) (g.I.Inputs.told c.loop-unit.inputs) (string_bytes c.args.self.now.name) (string_bytes c.loop-unit.self.name) c.args.self.now.at c.loop-unit.self.at mid i.same (ap string_bytes i.name) i.place i.ahead in
    refused_pass (g.I.Inputs.told c.args.inputs.now) (string_bytes c.args.self.now.name) c.args.self.now.at c.loop-unit.self.at 0 0 c.args.self.now.feed mid c.pass.new.self c.in-Err.refusal i.place i.due i.ended c.in-Err.ensures.after c.in-Err.ensures.answer ahead

pub returns-in-Ok-false-clause-says : goal.returns-in-Ok-false-clause-says
returns-in-Ok-false-clause-says g c =
    let i = c.loop-unit.invariant in
    let mid = c.loop-unit.self.feed in
    let w = waited mid c.pass.new.self c.in-Ok-None.field-0 c.in-Ok-None.field-0-is c.in-Ok-None.ensures.after c.in-Ok-None.ensures.answer in
    no_more (g.I.Inputs.told c.args.inputs.now) (g.I.Inputs.told c.loop-unit.inputs) (string_bytes c.args.self.now.name) c.args.self.now.at 0 0 0 0 c.args.self.now.feed mid _ c.more.new.self c.in-Ok-false.field-0 c.in-Ok-false.field-0-test c.in-Ok-false.ensures.says c.in-Ok-false.ensures.place
    (record { same = i.same; named = ap string_bytes i.name; place = i.place; mid_is = w.1; due = i.due; ended = i.ended; waits = w.0 })

pub returns-in-Err-more-clause-says : goal.returns-in-Err-more-clause-says
returns-in-Err-more-clause-says g c =
    let i = c.loop-unit.invariant in
    let mid = c.loop-unit.self.feed in
    let w = waited mid c.pass.new.self c.in-Ok-None.field-0 c.in-Ok-None.field-0-is c.in-Ok-None.ensures.after c.in-Ok-None.ensures.answer in
    let ahead = kept_ahead (g.I.Inputs.told c.args.inputs.now) (g.I.Inputs.told c.loop-unit.inputs) (string_bytes c.args.self.now.name) (string_bytes c.loop-unit.self.name) c.args.self.now.at c.loop-unit.self.at mid i.same (ap string_bytes i.name) i.place i.ahead in
    not_more (g.I.Inputs.told c.args.inputs.now) (g.I.Inputs.told c.loop-unit.inputs) (string_bytes c.args.self.now.name) c.args.self.now.at _ _ _ c.args.self.now.feed mid (record { name = c.loop-unit.self.name; feed = c.pass.new.self; piece = c.loop-unit.self.piece; at = c.loop-unit.self.at; fed = c.loop-unit.self.fed }) c.more.new.self c.in-Err-more.fault c.in-Err-more.ensures.says (omega (arith, i.steady)) c.in-Err-more.ensures.place
    (omega (arith, ap (λ (f : Fed). length f.left) w.1, i.source.up_to))
    (record { same = i.same; named = ap string_bytes i.name; place = i.place; mid_is = w.1; due = i.due; ended = i.ended; waits = w.0 }) ahead

pub returns-in-Err-more-clause-steady : goal.returns-in-Err-more-clause-steady
returns-in-Err-more-clause-steady g c =
    subst (λ (n : ℕ). UnlessFault c.in-Err-more.fault (g.I.Inputs.faults c.more.new.inputs ≡ n)) c.loop-unit.invariant.steady c.in-Err-more.ensures.steady

pub returns-in-Err-more-clause-ends_steady : goal.returns-in-Err-more-clause-ends_steady
returns-in-Err-more-clause-ends_steady g c =
    subst (λ (n : ℕ). UnlessFault c.in-Err-more.fault (g.I.Inputs.ends c.more.new.inputs ≡ n)) c.loop-unit.invariant.ends_steady c.in-Err-more.ensures.ends_steady

pub loop-unit-init : goal.loop-unit-init
loop-unit-init g c = record {
  same = refl;
  steady = refl;
  ends_steady = refl;
  asked = reads_nothing g.I.Inputs _ _ _;
  source = c.requires.source;
  name = refl;
  place = refl;
  due = refl;
  ended = refl;
  ahead = c.requires.ahead;
}

pub loop-unit-preserved : goal.loop-unit-preserved
loop-unit-preserved g c =
    let i = c.loop-unit.invariant in
    let e = c.in-Ok-true.ensures in
    let mid = c.loop-unit.self.feed in
    let w = waited mid c.pass.new.self c.in-Ok-None.field-0 c.in-Ok-None.field-0-is c.in-Ok-None.ensures.after c.in-Ok-None.ensures.answer in
    let more = given_more (g.I.Inputs.told c.loop-unit.inputs) (g.I.Inputs.told c.more.new.inputs) (record { name = c.loop-unit.self.name; feed = c.pass.new.self; piece = c.loop-unit.self.piece; at = c.loop-unit.self.at; fed = c.loop-unit.self.fed })
    c.more.new.self 0 0 c.in-Ok-true.field-0 c.in-Ok-true.field-0-test e.same e.name e.says in
    record {
      same = e.same ∙ i.same;
      steady = e.steady ∙ i.steady;
      ends_steady = e.ends_steady ∙ i.ends_steady;
      asked = reads_then g.I.Inputs _ _ _ _ _ _ _ _ _ (ap string_bytes i.name) refl i.asked e.asked;
      source = e.source;
      name = e.name ∙ i.name;
      place = e.place ∙ i.place;
      due = more.0 ∙ ap (λ (f : Fed). f.due) w.1 ∙ i.due;
      ended = more.1 ∙ ap (λ (f : Fed). f.ended) w.1 ∙ i.ended;
      ahead = more.2;
    }

pub returns-in-Ok-false-clause-asked : goal.returns-in-Ok-false-clause-asked
returns-in-Ok-false-clause-asked g c = reads_then g.I.Inputs _ _ _ _ _ _ _ _ _ (ap string_bytes c.loop-unit.invariant.name) refl c.loop-unit.invariant.asked c.in-Ok-false.ensures.asked

pub returns-in-Err-more-clause-asked : goal.returns-in-Err-more-clause-asked
returns-in-Err-more-clause-asked g c = reads_then g.I.Inputs _ _ _ _ _ _ _ _ _ (ap string_bytes c.loop-unit.invariant.name) refl c.loop-unit.invariant.asked c.in-Err-more.ensures.asked
