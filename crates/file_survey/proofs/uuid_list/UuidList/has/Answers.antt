use Rattle.std.proofs.Common.{ap, ◌∙◌}
use Rattle.send_model.specs.Outside.{is_among}
use Rattle.file_survey.proofs.IndexedUuids.{compared}
use Rattle.file_survey.proofs.uuid_list.UuidList.has.Goals as goal

pub returns : goal.returns
returns c = c.contains.ensures ∙ compared c.args.uuid c.self.inside.index.keys ∙ c.self.invariant c.args.uuid ∙ ap (λ uuids. is_among uuids c.args.uuid) c.self.view_is
