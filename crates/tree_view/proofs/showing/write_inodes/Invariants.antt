use Rattle.std.proofs.Common.{◌≡◌, length}
use Rattle.std.specs.List.{flat_map}
use Rattle.std.specs.Ordering.{nat_cmp}
use Rattle.send_model.specs.Map.{IsMap}
use Rattle.shared_map.specs.Sought.{entries_above}
use Rattle.store_model.specs.StoreLines.{inode_lines}
use Rattle.tree_view.proofs.Texts.{Printed}
use Rattle.tree_view.proofs.showing.write_inodes.Given as goal

-- The lines of the inodes up to the last one are added; those of the inodes above it are left, and
-- no count rose.
abbrev pub invariant-loop-ino : goal.invariant-loop-ino
invariant-loop-ino g l = record {
  steady : g.O.Sink.faults l.out ≡ g.O.Sink.faults l.fn.out;
  printed : IsMap nat_cmp l.tree.inodes
      → Printed (flat_map inode_lines (entries_above nat_cmp 0 l.tree.inodes)) (flat_map inode_lines (entries_above nat_cmp l.last l.tree.inodes)) l.fn.text.bytes l.text.bytes (g.O.Sink.taken l.fn.out) (g.O.Sink.taken l.out);
}

abbrev pub decreases-loop-ino : goal.decreases-loop-ino
decreases-loop-ino g l = length (entries_above nat_cmp l.last l.tree.inodes)
