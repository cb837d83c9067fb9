use Rattle.std.specs.Prelude.{ℕ, ◌+◌, ◌-◌, take, drop, Option}
use Rattle.std.proofs.Common.{subst}
use Rattle.group_replay.specs.Taking.{open_state}
use Rattle.group_replay.specs.Edits.{TakesFront}
use Rattle.group_replay.proofs.ShownFrames.{goes_past, took_shown, summed, shown_bad}
use Rattle.group_replay.proofs.body.take_shown.Goals as goal

pub sum_past-requires : goal.sum_past-requires
sum_past-requires c =
    let count = c.min-count.result in
    let s = open_state c.args.core.now c.args.part.now in
    let u = open_state c.args.core.now c.take_front.new.part in
    let took = subst (λ (o : Option ℕ). TakesFront c.args.frames.version c.args.ahead.at (take (c.args.ahead.used + count - c.args.ahead.used) (drop c.args.ahead.used c.args.window.now)) s u o) c.in-Some.is c.in_ok-len.ensures.taken in
    summed c.args.frames c.args.ahead c.args.window.now s u count c.min-count.ensures c.requires.ahead c.requires.within.0 c.requires.within.1 c.in-Some.len 0 took

pub returns-in-Some-clause-past : goal.returns-in-Some-clause-past
returns-in-Some-clause-past c =
    let count = c.min-count.result in
    let s = open_state c.args.core.now c.args.part.now in
    let u = open_state c.args.core.now c.take_front.new.part in
    let took = subst (λ (o : Option ℕ). TakesFront c.args.frames.version c.args.ahead.at (take (c.args.ahead.used + count - c.args.ahead.used) (drop c.args.ahead.used c.args.window.now)) s u o) c.in-Some.is c.in_ok-len.ensures.taken in
    goes_past c.args.frames c.args.ahead c.args.window.now s u count c.min-count.ensures c.requires.ahead c.requires.within.0 c.requires.within.1 c.in-Some.len c.sum_past.result took

pub returns-in-Some-clause-taken : goal.returns-in-Some-clause-taken
returns-in-Some-clause-taken c seen shows =
    let count = c.min-count.result in
    let s = open_state c.args.core.now c.args.part.now in
    let u = open_state c.args.core.now c.take_front.new.part in
    let took = subst (λ (o : Option ℕ). TakesFront c.args.frames.version c.args.ahead.at (take (c.args.ahead.used + count - c.args.ahead.used) (drop c.args.ahead.used c.args.window.now)) s u o) c.in-Some.is c.in_ok-len.ensures.taken in
    took_shown c.args.frames c.args.ahead c.args.window.now s u count c.min-count.ensures c.requires.ahead c.requires.within.0 c.requires.within.1 c.in-Some.len c.sum_past.result took seen shows c.sum_past.ensures

pub returns-in-None-clause-taken : goal.returns-in-None-clause-taken
returns-in-None-clause-taken c seen shows =
    let count = c.min-count.result in
    let s = open_state c.args.core.now c.args.part.now in
    let u = open_state c.args.core.now c.take_front.new.part in
    let bad = subst (λ (o : Option ℕ). TakesFront c.args.frames.version c.args.ahead.at (take (c.args.ahead.used + count - c.args.ahead.used) (drop c.args.ahead.used c.args.window.now)) s u o) c.in-None.is c.in_ok-len.ensures.taken in
    shown_bad c.args.frames c.args.ahead c.args.window.now s u count c.min-count.ensures c.requires.ahead c.requires.within.0 c.requires.within.1 seen shows c.requires.filled bad
