-- A name behind the front stands in its directory, and one alone in the root.
use Rattle.std.proofs.Common.{◌≡◌, true, subst, rules}
use Rattle.send_model.specs.Path.{is_name}
use Rattle.inode_tree.specs.Walked.{IsKnown}
use Rattle.inode_tree.proofs.Known.{name_behind, name_alone}
use Rattle.inode_tree.proofs.KnownEdits.{remembered}
use Rattle.inode_tree.proofs.RenameSteps.{sound_of}
use Rattle.inode_tree.proofs.tree.Tree.near.Goals as goal

pub returns-then-name_ok : goal.returns-then-name_ok
returns-then-name_ok g c =
    let whole : c.self.inside.whole ≡ true = search rules in
    let last = c.self.inside.last in
    let known = subst (λ s. IsKnown s last) c.self.view_is (remembered _ _ last whole c.self.invariant.1) in
    let good : is_name c.in-Some.rest.now ≡ true = search rules in
    rw (c.new.ensures, c.directory.ensures) (name_behind c.args.self.now last.front last.directory known.front c.args.path.now c.in-Some.rest.now c.in-Some.ensures good)

pub returns-then-name_ok-2 : goal.returns-then-name_ok-2
returns-then-name_ok-2 g c =
    let whole : c.self.inside.whole ≡ true = search rules in
    let sound = sound_of _ _ c.self.view_is _ _ whole c.self.invariant.0 in
    let good : is_name c.args.path.now ≡ true = search rules in
    rw c.new-then-name_ok-2.ensures (name_alone c.args.self.now sound.root_there c.args.path.now good)
