use Rattle.std.proofs.Common.{◌-◌, ◌∙◌, ap, min}
use Rattle.squash_log.proofs.KeptCells.{part_is, part_fits}
use Rattle.squash_log.proofs.file_lives.part_of.Goals as goal

pub returns-clause-part : goal.returns-clause-part
returns-clause-part c =
    part_is c.args.at c.args.len c.min.result c.args.cells.now c.new-part.result c.copy_range.new.self
    (c.min.ensures ∙ ap (λ n. min c.args.len (n - c.args.at)) c.size-size.ensures.count) c.new-part.ensures c.in_ok-copy_range.ensures

pub returns-clause-within : goal.returns-clause-within
returns-clause-within c =
    part_fits c.args.at c.args.len c.min.result c.args.cells.now c.new-part.result c.copy_range.new.self
    (c.min.ensures ∙ ap (λ n. min c.args.len (n - c.args.at)) c.size-size.ensures.count) c.new-part.ensures c.in_ok-copy_range.ensures
