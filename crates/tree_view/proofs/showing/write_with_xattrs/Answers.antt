use Rattle.std.proofs.Common.{List, ℕ, subst}
use Rattle.std.specs.List.{flat_map}
use Rattle.send_model.specs.Map.{Map}
use Rattle.store_model.specs.StoreLines.{inode_line, xattr_line}
use Rattle.tree_view.proofs.Unpacked.{AddsText}
use Rattle.tree_view.proofs.Texts.{handed_on, stops_early, then_adds}
use Rattle.tree_view.proofs.showing.write_with_xattrs.Goals as goal

pub returns-in_err-write_inode-clause-added : goal.returns-in_err-write_inode-clause-added
returns-in_err-write_inode-clause-added g c =
    handed_on _ _ c.write_inode.new.text.bytes _ _ _ _ c.from_residual.result _ c.from_residual.ensures.1
    (stops_early (inode_line c.args.ino c.args.inode.now) (flat_map (xattr_line c.args.ino) c.args.inode.now.xattrs) _ c.write_inode.new.text.bytes _ _ _ _ _ c.in_err-write_inode.ensures.added)

pub returns-clause-added : goal.returns-clause-added
returns-clause-added g c =
    then_adds (inode_line c.args.ino c.args.inode.now) (flat_map (xattr_line c.args.ino) c.args.inode.now.xattrs) _ c.write_inode.new.text.bytes c.write_xattrs.new.text.bytes _ _ _ _ (g.O.Sink.faults c.write_inode.new.out) _ c.write_xattrs.result
    c.in_ok-write_inode.ensures.added c.in_ok-write_inode.ensures.out.steady
    (subst (λ (m : Map (List ℕ) (List ℕ)). AddsText (flat_map (xattr_line c.args.ino) m) c.write_inode.new.text.bytes c.write_xattrs.new.text.bytes (g.O.Sink.taken c.write_inode.new.out) (g.O.Sink.taken c.write_xattrs.new.out)
    (g.O.Sink.faults c.write_inode.new.out) (g.O.Sink.faults c.write_xattrs.new.out) c.write_xattrs.result) c.xattrs.ensures c.write_xattrs.ensures.added)
