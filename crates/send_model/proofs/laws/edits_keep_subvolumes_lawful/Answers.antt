use Rattle.send_model.proofs.LawfulEdits.{edit_keeps_lawful, clone_keeps_lawful, root_alone_is_lawful}
use Rattle.send_model.proofs.laws.edits_keep_subvolumes_lawful.Goals as goal

pub returns-clause-start : goal.returns-clause-start
returns-clause-start c s = root_alone_is_lawful

pub returns-clause-edits : goal.returns-clause-edits
returns-clause-edits c s = edit_keeps_lawful

pub returns-clause-clones : goal.returns-clause-clones
returns-clause-clones c s = λ zero_cell source is_own values. clone_keeps_lawful zero_cell source is_own values.path values.offset values.clone_path values.from values.len
