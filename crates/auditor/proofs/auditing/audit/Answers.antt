use Rattle.std.specs.Prelude.{map}
use Rattle.std.specs.String.{string_bytes}
use Rattle.sx_base.proofs.Ended.{stopped_steady, steady_anyway}
use Rattle.auditor.proofs.Answering.{audit_accepts, audit_stops}
use Rattle.auditor.proofs.auditing.audit.Goals as goal

pub returns-in-Ok-clause-audited : goal.returns-in-Ok-clause-audited
returns-in-Ok-clause-audited g c = λ store same.
    audit_accepts _ c.args.given.now.overrides.now (map string_bytes c.args.given.now.files.now) c.args.core store _ c.new-follower.result c.follow_files.result c.in-Ok.totals _ _ _ _ c.write_accepted.result
    same c.new-follower.ensures.start c.in-Ok.is c.follow_files.ensures.followed c.write_accepted.ensures.written

pub returns-clause-audited : goal.returns-clause-audited
returns-clause-audited g c = λ store same.
    audit_stops _ c.args.given.now.overrides.now (map string_bytes c.args.given.now.files.now) c.args.core store _ c.new-follower.result c.follow_files.result _ c.in-Err.outcome
    same c.new-follower.ensures.start c.in-Err.is c.follow_files.ensures.followed

pub returns-in-Ok-clause-steady : goal.returns-in-Ok-clause-steady
returns-in-Ok-clause-steady g c = steady_anyway _ _ c.write_accepted.result c.in-Ok.ensures.inputs.steady

pub returns-in-Ok-clause-ends_steady : goal.returns-in-Ok-clause-ends_steady
returns-in-Ok-clause-ends_steady g c = steady_anyway _ _ c.write_accepted.result c.in-Ok.ensures.inputs.ends_steady

pub returns-clause-steady : goal.returns-clause-steady
returns-clause-steady g c = stopped_steady _ _ c.in-Err.outcome c.in-Err.ensures.stops

pub returns-clause-ends_steady : goal.returns-clause-ends_steady
returns-clause-ends_steady g c = stopped_steady _ _ c.in-Err.outcome c.in-Err.ensures.stops

pub returns-clause-out_steady : goal.returns-clause-out_steady
returns-clause-out_steady g c = stopped_steady _ _ c.in-Err.outcome c.in-Err.ensures.stops
