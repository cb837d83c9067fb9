use Rattle.std.proofs.Common.{rules, append_assoc}
use Rattle.auditor.proofs.auditing.line_of.Goals as goal

pub returns : goal.returns
returns c = search (rules, append_assoc)
