-- What goes on behind the front begins at its directory.
use Rattle.std.proofs.Common.{◌≡◌, true, ap, ◌∙◌, sym, subst, rules}
use Rattle.inode_tree.specs.Walked.{spot_below, IsKnown}
use Rattle.inode_tree.proofs.Known.{front_begins}
use Rattle.inode_tree.proofs.KnownEdits.{remembered}
use Rattle.inode_tree.proofs.tree.Tree.behind_front.Goals as goal

pub returns-in-Ok : goal.returns-in-Ok
returns-in-Ok g c =
    let whole : c.self.inside.whole ≡ true = search rules in
    let last = c.self.inside.last in
    let known = subst (λ s. IsKnown s last) c.self.view_is (remembered _ _ last whole c.self.invariant.1) in
    front_begins c.args.self.now last.front last.directory known.front c.args.path.now c.in_ok-rest.rest.now c.in-Ok.names c.in_ok-rest.ensures c.in-Ok.ensures
    ∙ ap (λ d. spot_below c.args.self.now d c.in-Ok.names) (sym c.directory.ensures)
