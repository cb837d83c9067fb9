use Rattle.std.specs.Prelude.{not}
use Rattle.std.proofs.Common.{sym, ap, ◌∙◌}
use Rattle.program_model.proofs.TurnGuards.{digit_not, digit_more, digits_all}
use Rattle.command_line.proofs.turn_arguments.is_schedule.Goals as goal

pub returns-then-not-is_turn : goal.returns-then-not-is_turn
returns-then-not-is_turn c = digit_not c.args.files c.args.word.now c.loop-place.place c.loop-place-test.true (sym c.is_turn.ensures ∙ c.if-not-is_turn.true) c.loop-place.invariant

pub returns : goal.returns
returns c = ap (λ b. not b) c.is_empty.ensures ∙ digits_all c.args.files c.args.word.now c.loop-place.place c.loop-place-test.false c.loop-place.invariant

pub loop-place-preserved : goal.loop-place-preserved
loop-place-preserved c = digit_more c.args.files c.args.word.now c.loop-place.place c.loop-place-test.true (sym c.is_turn.ensures ∙ c.if-not-is_turn.false) c.loop-place.invariant
