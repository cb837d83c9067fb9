use Rattle.std.specs.Prelude.{◌≡◌, take, drop}
use Rattle.std.proofs.Common.{sym, ap, ◌∙◌}
use Rattle.uuid.specs.Text.{parsed}
use Rattle.file_words.proofs.ParentSteps.{not_parsed, no_uuid_read}
use Rattle.file_words.proofs.parents.parent_given.Goals as goal

pub returns-in_default : goal.returns-in_default
returns-in_default c =
    let text : c.first.result.now ≡ take 36 (drop 7 c.args.word.now) = c.first.ensures ∙ ap (take 36) (c.behind.ensures ∙ ap (drop 7) c.as_bytes-word.ensures.value) in
    no_uuid_read c.args.word.now (ap parsed (sym text) ∙ not_parsed c.try_parse_ascii.result c.first.result.now c.in_default.field-0 c.in_default.is c.try_parse_ascii.ensures.ok)
