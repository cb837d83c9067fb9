use Rattle.std.proofs.Common.{◌≡◌}
use Rattle.std.specs.List.{flat_map}
use Rattle.store_model.specs.StoreLines.{xattr_line}
use Rattle.tree_view.proofs.Texts.{Printed}
use Rattle.tree_view.proofs.showing.write_xattrs.Given as goal

-- The lines of the attributes so far are added; those of the others are left, and no count rose.
abbrev pub invariant-loop-name : goal.invariant-loop-name
invariant-loop-name g l = record {
  steady : g.O.Sink.faults l.out ≡ g.O.Sink.faults l.fn.out;
  printed : Printed (flat_map (xattr_line l.ino) l.fn.xattrs) (flat_map (xattr_line l.ino) l.name-iterator) l.fn.text.bytes l.text.bytes (g.O.Sink.taken l.fn.out) (g.O.Sink.taken l.out);
}
