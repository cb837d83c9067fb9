use Rattle.std.specs.Prelude.{◌≡◌, true, map, length, is_some}
use Rattle.std.specs.String.{string_bytes}
use Rattle.sx_base.proofs.Ended.{stopped_steady}
use Rattle.composer.proofs.HandedOn.{last_there, stop_not_done}
use Rattle.composer.proofs.Starting.{starts, starts_had, starts_there}
use Rattle.composer.proofs.whole.compose_over.Goals as goal

pub write_files-requires-clause-start : goal.write_files-requires-clause-start
write_files-requires-clause-start g c tells = starts _ (map string_bytes c.args.task.now.files.now) (g.E.Known.base c.args.task.now.known.now) c.args.task.now.survey.now c.args.core c.new-composer.result c.new-composer.ensures.start (c.requires.traced tells)

pub write_files-requires-clause-had : goal.write_files-requires-clause-had
write_files-requires-clause-had g c = starts_had (length c.args.task.now.files.now) (g.E.Known.base c.args.task.now.known.now) c.args.core c.new-composer.result c.new-composer.ensures.start c.requires.had

pub write_files-requires-clause-there : goal.write_files-requires-clause-there
write_files-requires-clause-there g c = starts_there _ (map string_bytes c.args.task.now.files.now) (g.E.Known.base c.args.task.now.known.now) c.args.core c.new-composer.result c.new-composer.ensures.start c.requires.had

pub returns-clause-steady : goal.returns-clause-steady
returns-clause-steady g c = stopped_steady _ _ c.in-Err.outcome c.in-Err.ensures.stops

pub returns-clause-ends_steady : goal.returns-clause-ends_steady
returns-clause-ends_steady g c = stopped_steady _ _ c.in-Err.outcome c.in-Err.ensures.stops

pub returns-clause-bytes_steady : goal.returns-clause-bytes_steady
returns-clause-bytes_steady g c = stopped_steady _ _ c.in-Err.outcome c.in-Err.ensures.stops

pub returns-clause-out_steady : goal.returns-clause-out_steady
returns-clause-out_steady g c = stopped_steady _ _ c.in-Err.outcome c.in-Err.ensures.stops

pub returns-in-Ok-clause-begun : goal.returns-in-Ok-clause-begun
returns-in-Ok-clause-begun g c done = last_there c.write_files.new.composer.latest c.args.task.now.survey.now.last c.in-Ok.ensures.last

pub returns-clause-begun : goal.returns-clause-begun
returns-clause-begun g c = stop_not_done c.in-Err.outcome (is_some c.args.task.now.survey.now.last ≡ true) c.in-Err.ensures.stops
