use Rattle.std.proofs.Common.{ap, ◌∙◌}
use Rattle.std.specs.List.{flat_map}
use Rattle.std.specs.Ordering.{nat_cmp}
use Rattle.std.specs.Cmp.{nat_cmp_total}
use Rattle.store_model.specs.StoreLines.{inode_lines}
use Rattle.tree_view.proofs.Entries.{next_key, next_with, has_value, no_next_key}
use Rattle.tree_view.proofs.Texts.{handed_on, lines_next, printed_next, printed_stops, printed_all}
use Rattle.tree_view.proofs.showing.write_inodes.Goals as goal

pub unreachable-requires : goal.unreachable-requires
unreachable-requires g c = has_value nat_cmp nat_cmp_total c.loop-ino.last c.in-Some.ino c.args.tree.now.inodes c.in-Some.ensures c.in_default-inode.ensures

pub returns-in_err-write_with_xattrs-clause-added : goal.returns-in_err-write_with_xattrs-clause-added
returns-in_err-write_with_xattrs-clause-added g c = λ ordered.
    let at = next_with nat_cmp nat_cmp_total c.loop-ino.last c.in-Some.ino c.args.tree.now.inodes c.in-Some-inode.inode.now c.in-Some.ensures c.in-Some-inode.ensures in
    handed_on _ _ c.write_with_xattrs.new.text.bytes _ _ _ _ c.from_residual.result _ c.from_residual.ensures.1
    (printed_stops _ _ (inode_lines (c.in-Some.ino, c.in-Some-inode.inode.now)) _ _ c.loop-ino.text.bytes c.write_with_xattrs.new.text.bytes _ _ _ _ (g.O.Sink.faults c.loop-ino.out) _ _
    (lines_next inode_lines _ _ _ (at.above ordered)) c.loop-ino.invariant.steady c.in_err-write_with_xattrs.ensures.added (c.loop-ino.invariant.printed ordered))

pub loop-ino-smaller : goal.loop-ino-smaller
loop-ino-smaller g c = (next_key nat_cmp nat_cmp_total c.loop-ino.last c.in-Some.ino c.args.tree.now.inodes c.in-Some.ensures).1.fewer

pub loop-ino-preserved : goal.loop-ino-preserved
loop-ino-preserved g c =
    let at = next_with nat_cmp nat_cmp_total c.loop-ino.last c.in-Some.ino c.args.tree.now.inodes c.in-Some-inode.inode.now c.in-Some.ensures c.in-Some-inode.ensures in
    record {
      steady = c.in_ok-write_with_xattrs.ensures.out.steady ∙ c.loop-ino.invariant.steady;
      printed = λ ordered. printed_next _ _ (inode_lines (c.in-Some.ino, c.in-Some-inode.inode.now)) _ _ c.loop-ino.text.bytes _ _ _ _
          (lines_next inode_lines _ _ _ (at.above ordered)) c.in_ok-write_with_xattrs.ensures.added (c.loop-ino.invariant.printed ordered);
    }

pub returns-clause-added : goal.returns-clause-added
returns-clause-added g c = λ ordered. printed_all _ _ _ _ _ _ (ap (flat_map inode_lines) (no_next_key nat_cmp c.loop-ino.last c.args.tree.now.inodes c.in_default.ensures)) (c.loop-ino.invariant.printed ordered)
