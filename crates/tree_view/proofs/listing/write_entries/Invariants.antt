use Rattle.std.proofs.Common.{◌≡◌}
use Rattle.std.specs.List.{flat_map}
use Rattle.store_model.specs.StoreLines.{listed, entry_line}
use Rattle.tree_view.proofs.Texts.{Printed}
use Rattle.tree_view.proofs.listing.write_entries.Given as goal

-- The lines of the entries so far are added; those of the others are left, and no count rose.
abbrev pub invariant-loop-entry : goal.invariant-loop-entry
invariant-loop-entry g l = record {
  steady : g.O.Sink.faults l.out ≡ g.O.Sink.faults l.fn.out;
  printed : Printed (listed l.catalog) (flat_map entry_line l.entry-iterator) l.fn.text.bytes
      l.text.bytes (g.O.Sink.taken l.fn.out) (g.O.Sink.taken l.out);
}
