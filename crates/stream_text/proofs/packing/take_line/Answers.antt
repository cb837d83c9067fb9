use Rattle.std.specs.Prelude.{Option}
use Rattle.std.proofs.Common.{◌-◌, ℕ, List, Bool, true, false, length, take, subst, ap, arith, length-drop}
use Rattle.stream_dump.specs.Steps.{output}
use Rattle.stream_text.specs.LineTaking.{TakesLine}
use Rattle.stream_text.specs.Reading.{held}
use Rattle.stream_text.proofs.ReadLines.{fed_is}
use Rattle.stream_text.proofs.Steps.{line_breaks, line_stops, line_wrong, line_right}
use Rattle.stream_text.proofs.packing.take_line.Goals as goal

pub returns-in_default-clause-says : goal.returns-in_default-clause-says
returns-in_default-clause-says g c = λ file h written s.
    line_breaks c.args.lines.now c.args.packed.now written file _ _ s c.in_default.ensures.sent

pub returns-in-Err-clause-says : goal.returns-in-Err-clause-says
returns-in-Err-clause-says g c = λ file h written s.
    line_stops c.args.lines.now c.args.packed.now written file c.args.len c.send_if_much.new.packed.bytes _ _ s h c.requires.line c.in-Ok.ensures.sent

pub returns-in-Ok-true-clause-fed : goal.returns-in-Ok-true-clause-fed
returns-in-Ok-true-clause-fed g c =
    let r = c.args.lines.now in
    let next = c.pass.new.self in
    omega (arith, fed_is r c.requires.reader, fed_is next c.pass.ensures.reader, c.pass.ensures.place, ap length c.pass.ensures.held, length-drop c.args.len (held r), c.requires.line.within)

pub returns-in-Ok-true-clause-says : goal.returns-in-Ok-true-clause-says
returns-in-Ok-true-clause-says g c = λ file h written s.
    let mid = c.send_if_much.new.packed in
    let next = c.add.new.self in
    let text : List ℕ = take (c.args.len - 1) (held c.args.lines.now) in
    let taken = subst (λ (d : Option ℕ). TakesLine d text mid.bytes next.bytes next.due true) c.in-Ok.ensures.due
    (subst (λ (l : List ℕ). TakesLine mid.due l mid.bytes next.bytes next.due true) c.line.ensures.line
    (subst (λ (b : Bool). TakesLine mid.due c.line.result.now mid.bytes next.bytes next.due b) c.in-Ok-true.field-0-test c.in-Ok-true.ensures.taken)) in
    line_right c.args.lines.now c.pass.new.self c.args.packed.now next written file c.args.len mid.bytes _ _ s h c.requires.line c.in-Ok.ensures.sent taken
    c.pass.ensures.place c.pass.ensures.number c.pass.ensures.held

pub returns-in-Ok-false-clause-says : goal.returns-in-Ok-false-clause-says
returns-in-Ok-false-clause-says g c = λ file h written s.
    let mid = c.send_if_much.new.packed in
    let next = c.add.new.self in
    let text : List ℕ = take (c.args.len - 1) (held c.args.lines.now) in
    let none = subst (λ (d : Option ℕ). TakesLine d text mid.bytes next.bytes next.due false) c.in-Ok.ensures.due
    (subst (λ (l : List ℕ). TakesLine mid.due l mid.bytes next.bytes next.due false) c.line.ensures.line
    (subst (λ (b : Bool). TakesLine mid.due c.line.result.now mid.bytes next.bytes next.due b) c.in-Ok-false.field-0-test c.in-Ok-false.ensures.taken)) in
    line_wrong c.args.lines.now c.args.packed.now written file c.args.len mid.bytes next.bytes next.due (g.O.Sink.taken c.args.out.now)
    (output g.O.Sink c.send_if_much.new.out) (output g.O.Sink c.refuse.new.out) c.refuse.result s c.requires.reader h c.requires.line c.in-Ok.ensures.sent none c.refuse.ensures.ends
