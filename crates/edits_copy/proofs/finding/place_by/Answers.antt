use Rattle.std.specs.Prelude.{take, drop}
use Rattle.std.proofs.Common.{sym, ◌∙◌}
use Rattle.edits_copy.proofs.Bodies.{found_by_head, same_bytes}
use Rattle.edits_copy.proofs.finding.place_by.Goals as goal

pub returns-clause-found : goal.returns-clause-found
returns-clause-found c body size front format group is own =
    found_by_head format c.args.group.at c.args.group.len c.in_ok-seal.seal c.args.uuid body c.args.head.now group is own size front (sym c.seal_of.ensures ∙ c.in_ok-seal.was) c.if-group-seal.false
    (same_bytes (take 16 (drop 1 c.args.head.now)) c.uuid_in.result c.args.uuid (sym c.uuid_in.ensures) (sym c.ne.ensures ∙ c.if-ne.false))
