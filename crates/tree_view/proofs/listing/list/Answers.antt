use Rattle.std.proofs.Common.{ap}
use Rattle.stream_dump.specs.declared.gathering.Gathered.{Gathered}
use Rattle.tree_view.proofs.Texts.{text_ends}
use Rattle.tree_view.proofs.listing.list.Goals as goal

pub returns-in-Ok-clause-listed : goal.returns-in-Ok-clause-listed
returns-in-Ok-clause-listed g c = text_ends _ _ _ _ _ _ _ _ c.finish.result (ap (λ (t : Gathered). t.bytes) c.new-text.ensures.empty) c.in-Ok.ensures.added c.finish.ensures.ends
