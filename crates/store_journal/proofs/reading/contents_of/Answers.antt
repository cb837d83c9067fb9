use Rattle.std.specs.Prelude.{Option, None, Some}
use Rattle.std.proofs.Common.{sym, ap, ◌∙◌}
use Rattle.send_model.specs.Store.{Store, find}
use Rattle.subvol_catalog.specs.Entries.{key_of}
use Rattle.group_replay.specs.declared.place.Place.{Place}
use Rattle.store_journal.proofs.ReadFiles.{some_there, inode_cells}
use Rattle.store_journal.proofs.reading.contents_of.Goals as goal

pub returns-in_default-inode : goal.returns-in_default-inode
returns-in_default-inode c =
    some_there c.args.core.now (key_of c.args.key) c.args.ino c.in-Some.sub.now _ (c.in-Some.ensures.found ∙ ap (λ (s : Store (Option Place)). find s (key_of c.args.key)) c.catalog.ensures.core)
    (inode_cells c.tree.result.now c.in-Some.sub.now c.args.ino None c.tree.ensures c.in_default-inode.ensures)

pub returns : goal.returns
returns c =
    some_there c.args.core.now (key_of c.args.key) c.args.ino c.in-Some.sub.now c.contents.result.now (c.in-Some.ensures.found ∙ ap (λ (s : Store (Option Place)). find s (key_of c.args.key)) c.catalog.ensures.core)
    (inode_cells c.tree.result.now c.in-Some.sub.now c.args.ino (Some c.in-Some-inode.inode.now) c.tree.ensures c.in-Some-inode.ensures ∙ sym c.contents.ensures)
