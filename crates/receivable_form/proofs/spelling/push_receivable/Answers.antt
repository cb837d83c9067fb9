use Rattle.std.proofs.Common.{rules}
use Rattle.receivable_form.proofs.spelling.push_receivable.Goals as goal

pub returns-in-MkNod-clause-added : goal.returns-in-MkNod-clause-added
returns-in-MkNod-clause-added c = search rules

pub returns-in-Utimes-clause-added : goal.returns-in-Utimes-clause-added
returns-in-Utimes-clause-added c = search rules
