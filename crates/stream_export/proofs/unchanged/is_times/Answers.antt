use Rattle.std.proofs.Common.{sym, ◌∙◌}
use Rattle.send_commands.specs.Meaning.{time_of}
use Rattle.stream_export.proofs.ReadFrames.{all_times}
use Rattle.stream_export.proofs.unchanged.is_times.Goals as goal

pub returns-in-Some : goal.returns-in-Some
returns-in-Some c = record {
  same = λ version same. all_times version (time_of c.args.mtime) (time_of c.args.atime) c.args.path.now c.args.frame.now c.in-Some.rest.now c.in-Some.ensures.rest (sym c.is_empty.ensures ∙ same);
}
