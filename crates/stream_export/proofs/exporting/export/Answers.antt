use Rattle.std.specs.Prelude.{map}
use Rattle.std.specs.String.{string_bytes}
use Rattle.std.proofs.Common.{ℕ, subst}
use Rattle.sx_base.specs.Calls.{SteadyIfDone}
use Rattle.sx_base.specs.declared.outcome.Outcome.TheVariants as ended
use Rattle.sx_base.proofs.Ended.{stopped_steady, steady_anyway}
use Rattle.stream_export.proofs.Answering.{export_done, done_small, export_stops, stops_small, caused_end}
use Rattle.stream_export.proofs.exporting.export.Goals as goal

pub returns-in-Ok-clause-exported : goal.returns-in-Ok-clause-exported
returns-in-Ok-clause-exported g c =
    export_done _ c.args.given.now.overrides.now (map string_bytes c.args.given.now.files.now) c.args.core c.new-exporter.result c.new-gathered.result c.export_files.new.gathered.bytes _ _ _ _ _ c.finish.result
    c.new-exporter.ensures.start c.new-gathered.ensures.empty c.in-Ok.ensures.exported c.finish.ensures.ends

pub returns-in-Ok-clause-small : goal.returns-in-Ok-clause-small
returns-in-Ok-clause-small g c =
    done_small _ c.args.given.now.overrides.now (map string_bytes c.args.given.now.files.now) c.args.core c.new-exporter.result c.new-gathered.result c.export_files.new.gathered.bytes _ _ c.finish.result
    c.new-exporter.ensures.start c.new-gathered.ensures.empty c.in-Ok.ensures.exported

pub returns-in-Ok-clause-cause : goal.returns-in-Ok-clause-cause
returns-in-Ok-clause-cause g c =
    caused_end _ _ _ _ _ c.export_files.new.gathered.bytes ended.Done c.finish.result _ _ c.finish.ensures.later c.in-Ok.ensures.out.later c.finish.ensures.ends tt

pub returns-clause-exported : goal.returns-clause-exported
returns-clause-exported g c =
    export_stops _ c.args.given.now.overrides.now (map string_bytes c.args.given.now.files.now) c.args.core c.new-exporter.result c.new-gathered.result c.export_files.new.gathered.bytes _ _ _ _ _ c.in-Err.outcome c.finish-in-Err.result
    c.new-exporter.ensures.start c.new-gathered.ensures.empty c.in-Err.ensures.exported c.finish-in-Err.ensures.ends

pub returns-clause-small : goal.returns-clause-small
returns-clause-small g c =
    stops_small _ c.args.given.now.overrides.now (map string_bytes c.args.given.now.files.now) c.args.core c.new-exporter.result c.new-gathered.result c.export_files.new.gathered.bytes _ _ _ _ _ c.in-Err.outcome c.finish-in-Err.result
    c.new-exporter.ensures.start c.new-gathered.ensures.empty c.in-Err.ensures.exported c.finish-in-Err.ensures.ends

pub returns-clause-cause : goal.returns-clause-cause
returns-clause-cause g c =
    caused_end _ _ _ _ _ c.export_files.new.gathered.bytes c.in-Err.outcome c.finish-in-Err.result _ _ c.finish-in-Err.ensures.later c.in-Err.ensures.out.later c.finish-in-Err.ensures.ends c.in-Err.ensures.cause

pub returns-in-Ok-clause-steady : goal.returns-in-Ok-clause-steady
returns-in-Ok-clause-steady g c = steady_anyway _ _ c.finish.result c.in-Ok.ensures.inputs.steady

pub returns-in-Ok-clause-ends_steady : goal.returns-in-Ok-clause-ends_steady
returns-in-Ok-clause-ends_steady g c = steady_anyway _ _ c.finish.result c.in-Ok.ensures.inputs.ends_steady

pub returns-in-Ok-clause-out_steady : goal.returns-in-Ok-clause-out_steady
returns-in-Ok-clause-out_steady g c = subst (λ (n : ℕ). SteadyIfDone n (g.O.Sink.faults c.finish.new.out) c.finish.result) c.in-Ok.ensures.out.steady c.finish.ensures.steady

pub returns-clause-steady : goal.returns-clause-steady
returns-clause-steady g c = stopped_steady _ _ c.finish-in-Err.result (c.finish-in-Err.ensures.stops c.in-Err.ensures.stops)

pub returns-clause-ends_steady : goal.returns-clause-ends_steady
returns-clause-ends_steady g c = stopped_steady _ _ c.finish-in-Err.result (c.finish-in-Err.ensures.stops c.in-Err.ensures.stops)

pub returns-clause-out_steady : goal.returns-clause-out_steady
returns-clause-out_steady g c = stopped_steady _ _ c.finish-in-Err.result (c.finish-in-Err.ensures.stops c.in-Err.ensures.stops)
