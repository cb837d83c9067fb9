use Rattle.std.proofs.Common.{◌+◌, ◌-◌, length, sym, ◌∙◌, ap, arith}
use Rattle.extent_map.proofs.CellLists.{length-between}
use Rattle.squash_log.proofs.FateRuns.{one_piece}
use Rattle.squash_log.proofs.fates.has_last.Goals as goal

pub returns-in-Some : goal.returns-in-Some
returns-in-Some c =
    let s = c.in-Some.ensures.steps in
    c.is_some.ensures
    ∙ sym (one_piece _ c.args.cells.now c.args.at (c.args.len - 1) c.in-Some.field-0-1 c.in-Some.origin c.next.new.self (sym c.pieces.ensures ∙ s.2) s.0)

pub returns-in-None : goal.returns-in-None
returns-in-None c =
    let s = c.in-None.ensures.steps in
    let none = ap length (sym c.pieces.ensures ∙ s.0) in
    absurd (omega (
      arith,
      none,
      c.requires,
      c.if-at-size.false,
      c.if-len-size.false,
      c.size-size.ensures.count,
      length-between (c.args.at + (c.args.len - 1)) 1 c.args.cells.now (omega (arith, c.requires, c.if-at-size.false, c.if-len-size.false, c.size-size.ensures.count)),
    ))
