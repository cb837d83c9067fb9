use Rattle.std.proofs.Common.{◌≤◌, ◌++◌, ℕ, List, ap, ◌∙◌, sym, arith}
use Rattle.stream_gen.proofs.DrawnNumbers.{number_second, number_next, first_bytes, later_bytes}
use Rattle.stream_gen.proofs.chain.push_part.Goals as goal

pub returns-then-parts-eq0-clause-appended : goal.returns-then-parts-eq0-clause-appended
returns-then-parts-eq0-clause-appended c =
    c.in_ok-push_first_part.ensures.appended
    ∙ ap (λ (l : List ℕ). c.args.to.now ++ l) (first_bytes c.args.seed c.args.parts c.uuid_of.result c.if-parts-eq0.true c.uuid_of.ensures.uuid)

pub returns-then-parts-eq0-clause-next : goal.returns-then-parts-eq0-clause-next
returns-then-parts-eq0-clause-next c = c.requires.number ∙ sym (number_second c.args.seed c.args.parts c.if-parts-eq0.true)

pub returns-clause-appended : goal.returns-clause-appended
returns-clause-appended c =
    let some : 1 ≤ c.args.parts = let no = c.if-parts-eq0.false in grind arith in
    let d = c.draw-drawn.result in
    let e = c.draw-drawn.ensures in
    c.in_ok-push_later_part.ensures.appended
    ∙ ap (λ (l : List ℕ). c.args.to.now ++ l)
    (later_bytes c.args.seed c.args.parts c.args.number c.uuid_of-uuid.result c.uuid_of-2.result d.file d.block d.byte d.source d.source_block d.goal d.goal_block some c.requires.number
    c.uuid_of-uuid.ensures.uuid c.uuid_of-2.ensures.uuid e.file e.block e.byte e.source e.source_block e.goal e.goal_block)

pub returns-clause-next : goal.returns-clause-next
returns-clause-next c =
    let some : 1 ≤ c.args.parts = let no = c.if-parts-eq0.false in grind arith in
    number_next c.args.seed c.args.parts c.args.number c.draw-drawn.result.number some c.requires.number c.draw-drawn.ensures.number
