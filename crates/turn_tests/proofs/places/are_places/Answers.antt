use Rattle.turn_tests.proofs.Schedules.{place_more, none_left}
use Rattle.turn_tests.proofs.places.are_places.Goals as goal

pub loop-place-preserved : goal.loop-place-preserved
loop-place-preserved c = place_more c.args.count c.args.schedule.now c.loop-place.place c.loop-place-test.true (c.is_place.ensures c.if-not-is_place.false) c.loop-place.invariant

pub returns : goal.returns
returns c is = c.loop-place.invariant (none_left c.args.count c.args.schedule.now c.loop-place.place c.loop-place-test.false)
