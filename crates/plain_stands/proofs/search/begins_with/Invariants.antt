use Rattle.std.proofs.Common.{◌≡◌, ℕ, ◌+◌, ◌-◌, ◌≤◌, map, drop, Option}
use Rattle.extent_map.specs.Cells.{cells_between}
use Rattle.standing_model.specs.Standing.{begin_with}
use Rattle.provenance.specs.declared.trace.Trace.{Trace}
use Rattle.plain_stands.specs.Tags.{tagged}
use Rattle.plain_stands.proofs.search.begins_with.Given as goal

-- So far the tags are the same.
abbrev pub invariant-loop-done : goal.invariant-loop-done
invariant-loop-done l = (l.done ≤ l.len) × ((byte : Option Trace → ℕ) →
    begin_with (map (tagged byte) (drop l.at l.there))
    (map (tagged byte) (cells_between l.from l.len l.contents))
    ≡ begin_with (map (tagged byte) (drop (l.at + l.done) l.there))
    (map (tagged byte) (cells_between (l.from + l.done) (l.len - l.done) l.contents)))

abbrev pub decreases-loop-done : goal.decreases-loop-done
decreases-loop-done l = l.len - l.done
