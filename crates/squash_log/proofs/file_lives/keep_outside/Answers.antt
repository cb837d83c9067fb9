use Rattle.std.proofs.Common.{◌-◌, ◌∙◌, ap, min, arith}
use Rattle.squash_log.proofs.KeptCells.{outside_is, outside_none}
use Rattle.squash_log.proofs.file_lives.keep_outside.Goals as goal

pub returns-then-at-size : goal.returns-then-at-size
returns-then-at-size c = outside_none c.args.at c.args.len c.args.cells.now (omega (arith, c.size-size.ensures.count, c.if-at-size.true))

pub returns : goal.returns
returns c =
    outside_is c.args.at c.args.len c.min.result c.args.cells.now c.zero_run.new.self
    (c.min.ensures ∙ ap (λ n. min c.args.len (n - c.args.at)) c.size-size.ensures.count)
    (omega (arith, c.size-size.ensures.count, c.if-at-size.false)) c.in_ok-zero_run.ensures
