use Rattle.std.proofs.Common.{sym, ap, ◌∙◌}
use Rattle.send_model.specs.Subvolume.{inode_at, walk}
use Rattle.send_model.specs.Store.{find}
use Rattle.subvol_catalog.specs.Entries.{key_of}
use Rattle.composer.proofs.AddingItems.{contents_found, no_inode}
use Rattle.composer.proofs.composing.contents_of.Goals as goal

pub returns-in-Some : goal.returns-in-Some
returns-in-Some c source at f w file =
    contents_found c.args.core.now (key_of c.args.key) c.args.path.now c.in_ok-sub.sub.now c.in-Ok.ino c.in-Some.inode.now c.contents.result.now
    (c.in_ok-sub.ensures.found ∙ ap (λ s. find s (key_of c.args.key)) c.catalog.ensures.core)
    (ap (λ s. walk s c.args.path.now) (sym c.tree.ensures) ∙ c.in-Ok.ensures)
    (c.in-Some.ensures ∙ ap (λ s. inode_at s c.in-Ok.ino) c.tree-2.ensures)
    c.contents.ensures source at f w

pub returns-in-None : goal.returns-in-None
returns-in-None c source at f w file =
    absurd (no_inode c.args.core.now (key_of c.args.key) c.args.path.now c.in_ok-sub.sub.now c.in-Ok.ino
    (c.in_ok-sub.ensures.found ∙ ap (λ s. find s (key_of c.args.key)) c.catalog.ensures.core)
    (ap (λ s. walk s c.args.path.now) (sym c.tree.ensures) ∙ c.in-Ok.ensures)
    (c.in-None.ensures ∙ ap (λ s. inode_at s c.in-Ok.ino) c.tree-2.ensures) source at f w file)
