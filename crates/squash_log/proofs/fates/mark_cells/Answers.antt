use Rattle.std.proofs.Common.{refl, sym, ◌∙◌, arith}
use Rattle.squash_log.specs.Cells.{lives_from}
use Rattle.squash_log.proofs.FateRuns.{whole_mark, parts_mark, some_left}
use Rattle.squash_log.proofs.fates.mark_cells.Goals as goal

pub returns-then-is_whole : goal.returns-then-is_whole
returns-then-is_whole c =
    whole_mark (lives_from c.args.cells.now c.args.range.now.at) c.args.range.now c.args.spans.now.items c.args.spans.now.items (sym c.is_whole.ensures ∙ c.if-is_whole.true) refl

pub has_to_lengthen-lengthens-requires : goal.has_to_lengthen-lengthens-requires
has_to_lengthen-lengthens-requires c =
    some_left (lives_from c.args.cells.now c.args.range.now.at) c.args.range.now.len (sym c.is_whole.ensures ∙ c.if-is_whole.false)

pub returns : goal.returns
returns c =
    parts_mark (lives_from c.args.cells.now c.args.range.now.at) c.args.range.now c.args.spans.now.items c.push_spans.new.to.items _ c.has_to_lengthen-lengthens.result
    (sym c.is_whole.ensures ∙ c.if-is_whole.false) c.in_ok-push_spans.ensures
    (omega (arith, c.len.ensures, c.len-have.ensures, c.push_spans.new.to.ok.0, c.args.spans.now.ok.0)) c.has_to_lengthen-lengthens.ensures
