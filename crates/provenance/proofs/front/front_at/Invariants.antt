use Rattle.std.proofs.Common.{◌≡◌, ◌-◌, ◌+◌, ◌<◌, ◌≤◌, drop, map}
use Rattle.extent_map.specs.Cells.{cells_between}
use Rattle.provenance.specs.Traces.{place_in}
use Rattle.provenance.specs.Cuts.{Follows}
use Rattle.provenance.specs.Plans.{spot_in}
use Rattle.provenance.proofs.front.front_at.Given as goal

-- the cells before those that are left come from successive places, and there are some
abbrev pub invariant-loop-more : goal.invariant-loop-more
invariant-loop-more l = record {
  can : (goal.iterator-loop-more).can_next l.more-iterator;
  finite : (goal.iterator-loop-more).is_finite l.more-iterator;
  some : 0 < l.have;
  within : l.at + l.have ≤ l.end;
  left : drop l.have (cells_between l.at (l.end - l.at) l.contents) ≡ l.more-iterator;
  follows : Follows (spot_in l.first) l.have (map place_in (cells_between l.at (l.end - l.at) l.contents));
}
