use Rattle.std.proofs.Common.{◌≡◌, length}
use Rattle.std.specs.List.{flat_map}
use Rattle.send_model.specs.Map.{IsMap, named_cmp}
use Rattle.send_model.specs.Subvolume.{HasLawfulNames}
use Rattle.shared_map.specs.Sought.{entries_above}
use Rattle.store_model.specs.StoreLines.{name_line}
use Rattle.tree_view.proofs.Texts.{Printed}
use Rattle.tree_view.proofs.showing.write_names.Given as goal

-- The lines of the names up to the last one are added; those of the names above it are left, and no
-- count rose.
abbrev pub invariant-loop-next : goal.invariant-loop-next
invariant-loop-next g l = record {
  steady : g.O.Sink.faults l.out ≡ g.O.Sink.faults l.fn.out;
  printed : IsMap named_cmp l.tree.names → HasLawfulNames l.tree
      → Printed (flat_map name_line l.tree.names) (flat_map name_line (entries_above named_cmp (l.directory, l.last) l.tree.names)) l.fn.text.bytes l.text.bytes (g.O.Sink.taken l.fn.out) (g.O.Sink.taken l.out);
}

abbrev pub decreases-loop-next : goal.decreases-loop-next
decreases-loop-next g l = length (entries_above named_cmp (l.directory, l.last) l.tree.names)
