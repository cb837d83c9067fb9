use Rattle.std.proofs.Common.{◌≡◌, ℕ, ◌<◌, List, length, Option, Some, None, sym, ap, ◌∙◌, arith}
use Rattle.std.specs.Option.{option_map}
use Rattle.std.specs.Ordering.{nat_cmp}
use Rattle.extent_map.specs.Cells.{cells_between}
use Rattle.extent_map.proofs.CellLists.{length-between}
use Rattle.send_model.specs.Subvolume.{Subvolume}
use Rattle.shared_map.specs.Sought.{entry_after}
use Rattle.provenance.specs.declared.trace.Trace.{Trace}
use Rattle.plain_stands.proofs.Searching.{zero_low, not_here, next_low, found_first, found_none, fewer_left}
use Rattle.plain_stands.proofs.search.stand_of.Goals as goal

has_cells : (from len : ℕ) (cells : List (Option Trace))
    → length (cells_between from len cells) ≡ len → 0 < len
    → 0 < length (cells_between from len cells)
has_cells from len cells is some = omega (arith, is, some)

pub returns-in-Some : goal.returns-in-Some
returns-in-Some c =
    let some = has_cells c.args.from c.args.len c.args.contents.now
    (length-between c.args.from c.args.len c.args.contents.now c.requires.within)
    c.requires.some in
    found_first c.args.sub.now c.args.dest
    (cells_between c.args.from c.args.len c.args.contents.now) some
    c.requires.lawful.sound.inodes_in_order c.stands_are_least.ensures.least
    c.tree-tree.result.now c.tree-tree.ensures 0 c.in-Some.at c.in-Some.ensures
    (zero_low c.args.sub.now c.args.dest
    (cells_between c.args.from c.args.len c.args.contents.now) some
    c.requires.lawful.sound.inodes_in_order)

pub loop-next-init : goal.loop-next-init
loop-next-init c =
    let some = has_cells c.args.from c.args.len c.args.contents.now
    (length-between c.args.from c.args.len c.args.contents.now c.requires.within)
    c.requires.some in
    not_here c.args.sub.now c.args.dest
    (cells_between c.args.from c.args.len c.args.contents.now) some
    c.requires.lawful.sound.inodes_in_order
    c.tree-tree.result.now c.tree-tree.ensures 0 c.in_default.ensures
    (zero_low c.args.sub.now c.args.dest
    (cells_between c.args.from c.args.len c.args.contents.now) some
    c.requires.lawful.sound.inodes_in_order)

pub returns-in-Some-stand_in : goal.returns-in-Some-stand_in
returns-in-Some-stand_in c =
    let some = has_cells c.args.from c.args.len c.args.contents.now
    (length-between c.args.from c.args.len c.args.contents.now c.requires.within)
    c.requires.some in
    found_first c.args.sub.now c.args.dest
    (cells_between c.args.from c.args.len c.args.contents.now) some
    c.requires.lawful.sound.inodes_in_order c.stands_are_least.ensures.least
    c.tree-tree.result.now c.tree-tree.ensures c.in-Some-inode_after.next c.in-Some-stand_in.at
    c.in-Some-stand_in.ensures
    (next_low c.args.sub.now c.args.dest
    (cells_between c.args.from c.args.len c.args.contents.now) some
    c.requires.lawful.sound.inodes_in_order c.tree-tree.result.now c.tree-tree.ensures
    c.loop-next.ino c.in-Some-inode_after.next
    c.in-Some-inode_after.ensures c.loop-next.invariant)

pub loop-next-smaller : goal.loop-next-smaller
loop-next-smaller c =
    fewer_left c.args.sub.now.inodes c.loop-next.ino c.in-Some-inode_after.next
    c.requires.lawful.sound.inodes_in_order
    (c.in-Some-inode_after.ensures
    ∙ ap (λ (x : Subvolume (Option Trace)). option_map (λ e. e.0)
    (entry_after nat_cmp c.loop-next.ino x.inodes)) c.tree-tree.ensures)

pub loop-next-preserved : goal.loop-next-preserved
loop-next-preserved c =
    let some = has_cells c.args.from c.args.len c.args.contents.now
    (length-between c.args.from c.args.len c.args.contents.now c.requires.within)
    c.requires.some in
    not_here c.args.sub.now c.args.dest
    (cells_between c.args.from c.args.len c.args.contents.now) some
    c.requires.lawful.sound.inodes_in_order
    c.tree-tree.result.now c.tree-tree.ensures c.in-Some-inode_after.next
    c.in_default-stand_in.ensures
    (next_low c.args.sub.now c.args.dest
    (cells_between c.args.from c.args.len c.args.contents.now) some
    c.requires.lawful.sound.inodes_in_order c.tree-tree.result.now c.tree-tree.ensures
    c.loop-next.ino c.in-Some-inode_after.next
    c.in-Some-inode_after.ensures c.loop-next.invariant)

pub returns : goal.returns
returns c =
    let some = has_cells c.args.from c.args.len c.args.contents.now
    (length-between c.args.from c.args.len c.args.contents.now c.requires.within)
    c.requires.some in
    found_none c.args.sub.now c.args.dest
    (cells_between c.args.from c.args.len c.args.contents.now) some
    c.requires.lawful.sound.inodes_in_order c.stands_are_least.ensures.least
    c.tree-tree.result.now c.tree-tree.ensures c.loop-next.ino c.in_default-inode_after.ensures
    c.loop-next.invariant
