use Rattle.std.proofs.Common.{sym, ap, ◌∙◌}
use Rattle.full_send.specs.Versions.{is_flagged, any_flagged}
use Rattle.full_send.proofs.Walking.{at_first, step_none, step_some, smaller, not_flagged, is_one}
use Rattle.full_send.proofs.flags.some_flags.Goals as goal

pub loop-paths-init : goal.loop-paths-init
loop-paths-init g c =
    let s = c.args.tree.now in
    let b = at_first s c.requires.lawful c.in_ok-paths.paths c.in_ok-paths.ensures.begins in record { none = (b.0, ap (any_flagged s) (sym b.1)) }

pub returns-then-has_flags : goal.returns-then-has_flags
returns-then-has_flags g c =
    let s = c.args.tree.now in
    let so_far = c.loop-paths.invariant.none in
    let goes = step_some s c.loop-paths.paths so_far.0 c.next.new.self c.in-Some.ino c.in_ok-ino.field-0 c.in-Some.is c.in_ok-ino.ensures.steps in
    is_one s c.next.new.self goes.reached (is_flagged s 256) (ap (is_flagged s) goes.ino_is ∙ sym c.has_flags.ensures ∙ c.if-has_flags.true)

pub loop-paths-smaller : goal.loop-paths-smaller
loop-paths-smaller g c =
    let s = c.args.tree.now in
    let so_far = c.loop-paths.invariant.none in
    smaller s c.loop-paths.paths c.next.new.self so_far.0 c.in-Some.ino
    (step_some s c.loop-paths.paths so_far.0 c.next.new.self c.in-Some.ino c.in_ok-ino.field-0 c.in-Some.is c.in_ok-ino.ensures.steps)

pub loop-paths-preserved : goal.loop-paths-preserved
loop-paths-preserved g c =
    let s = c.args.tree.now in
    let so_far = c.loop-paths.invariant.none in
    let goes = step_some s c.loop-paths.paths so_far.0 c.next.new.self c.in-Some.ino c.in_ok-ino.field-0 c.in-Some.is c.in_ok-ino.ensures.steps in record {
      none = (
        goes.reached,
        not_flagged s _ (c.next.new.self.at, c.in-Some.ino) _ so_far.1 (sym c.has_flags.ensures ∙ c.if-has_flags.false) ∙ ap (any_flagged s) (sym goes.so_far_is),
      );
    }

pub returns : goal.returns
returns g c =
    let s = c.args.tree.now in
    let so_far = c.loop-paths.invariant.none in so_far.1 ∙ ap (any_flagged s) (step_none s c.loop-paths.paths so_far.0 c.next.new.self c.in_ok-ino.field-0 c.in_default.is c.in_ok-ino.ensures.steps)
