use Rattle.std.specs.Prelude.{MatchOption}
use Rattle.std.proofs.Common.{◌≡◌, ◌+◌, ◌-◌, ◌≤◌, ◌++◌, drop, length, min}
use Rattle.extent_map.specs.Cells.{cells_between}
use Rattle.squash_log.specs.Cells.{lives_from}
use Rattle.squash_log.specs.Fates.{spans}
use Rattle.squash_log.proofs.SpanRuns.{left_spans}
use Rattle.squash_log.proofs.fates.push_spans.Given as goal

abbrev pub invariant-loop-origin : goal.invariant-loop-origin
invariant-loop-origin l = record {
  within : l.place ≤ min l.fn.len (length l.cells - l.fn.at);
  left : l.origin-iterator ≡ drop l.place (cells_between l.fn.at (min l.fn.len (length l.cells - l.fn.at)) l.cells);
  begun : MatchOption l.running (Unit {0}) (λ s. s.at + s.len ≡ l.place);
  spans : l.to.items ++ left_spans (lives_from l.cells l.fn.at) l.running l.place (l.fn.len - l.place)
      ≡ l.initial.to.items ++ spans (lives_from l.cells l.fn.at) 0 l.fn.len;
}
