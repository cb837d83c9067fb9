use Rattle.std.specs.Prelude.{is_some}
use Rattle.std.proofs.Common.{sym, ap, ◌∙◌}
use Rattle.group_replay.proofs.Resuming.{same_entry, is_some_map}
use Rattle.group_replay.proofs.edits.is_unfinished.Goals as goal

pub returns : goal.returns
returns c = c.is_some.ensures ∙ sym (is_some_map _ c.unfinished_at.result) ∙ ap (λ o. is_some o) c.unfinished_at.ensures ∙ ap (λ o. is_some o) (same_entry c.args.uuid c.args.core.now)
