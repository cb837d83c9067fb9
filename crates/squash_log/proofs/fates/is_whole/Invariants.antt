use Rattle.std.proofs.Common.{◌≡◌, ℕ, ◌<◌, ◌≤◌, true, drop}
use Rattle.extent_map.specs.Cells.{cells_between}
use Rattle.squash_log.specs.Cells.{lives_from}
use Rattle.squash_log.proofs.fates.is_whole.Given as goal

abbrev pub invariant-loop-origin : goal.invariant-loop-origin
invariant-loop-origin l = record {
  within : l.place ≤ l.fn.len;
  left : l.origin-iterator ≡ drop l.place (cells_between l.fn.at l.fn.len l.cells);
  all : (k : ℕ) → k < l.place → lives_from l.cells l.fn.at k ≡ true;
}
