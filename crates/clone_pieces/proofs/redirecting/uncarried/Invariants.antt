use Rattle.std.specs.List.{sum_by}
use Rattle.std.proofs.Common.{◌≡◌, ◌+◌, map}
use Rattle.extent_map.specs.Cells.{cells_between}
use Rattle.provenance.specs.Traces.{place_in}
use Rattle.provenance.specs.Cuts.{cuts_of}
use Rattle.clone_pieces.specs.Cutting.{rest_len}
use Rattle.clone_pieces.proofs.redirecting.uncarried.Given as goal

-- What was counted and what is left are all.
abbrev pub invariant-loop-plan : goal.invariant-loop-plan
invariant-loop-plan g l = record {
  can : (goal.iterator-loop-plan g).can_next l.plan-iterator;
  finite : (goal.iterator-loop-plan g).is_finite l.plan-iterator;
  all : l.sum + sum_by rest_len l.plan-iterator ≡ sum_by rest_len (cuts_of (g.E.Ends.ends l.known) l.from (map place_in (cells_between l.from l.len l.contents)));
}
