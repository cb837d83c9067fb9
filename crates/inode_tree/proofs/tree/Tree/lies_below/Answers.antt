-- Each way out of the way to a place.
use Rattle.std.proofs.Common.{◌≡◌, ◌≢◌, [], ◌∷◌, Some, None, sym, ap, ◌∙◌, rules}
use Rattle.std.proofs.lemmas.Bool.{eq-eqb, ne_eqb}
use Rattle.send_model.specs.Path.{path_names}
use Rattle.send_model.specs.Subvolume.{named, root}
use Rattle.inode_tree.proofs.RenameSteps.{passes_on, below_none, below_begins, pass_root, pass_ends, pass_there, pass_lost, pass_goes_on}
use Rattle.inode_tree.proofs.tree.Tree.lies_below.Goals as goal

pub returns-in_default : goal.returns-in_default
returns-in_default g c = sym (below_none c.args.self.now c.args.ino c.args.path.now c.in_default.ensures)

pub returns-in_default-next : goal.returns-in_default-next
returns-in_default-next g c =
    let e : path_names c.args.path.now ≡ Some [] = c.in-Ok.ensures ∙ ap Some c.in_default-next.ensures.steps.0 in
    sym (below_begins c.args.self.now c.args.ino c.args.path.now [] e ∙ pass_root c.args.self.now c.args.ino)

pub loop-further-init : goal.loop-further-init
loop-further-init g c =
    let e : path_names c.args.path.now ≡ Some (c.in-Some.name.now ∷ c.next.new.self) = c.in-Ok.ensures ∙ ap Some c.in-Some.ensures.steps in
    below_begins c.args.self.now c.args.ino c.args.path.now _ e
    ∙ ap (λ r. passes_on c.args.self.now c.args.ino root (c.in-Some.name.now ∷ r)) (sym c.into_iter-further-iterator.ensures.into_iter_gives)

pub returns-then-directory-ino : goal.returns-then-directory-ino
returns-then-directory-ino g c =
    let s = c.args.self.now in
    let same : c.loop-further.directory ≡ c.args.ino = search rules in
    sym (c.loop-further.invariant ∙ ap (λ r. passes_on s c.args.ino c.loop-further.directory (c.loop-further.name.now ∷ r)) c.in-Some-further.ensures.steps
    ∙ pass_there s c.args.ino c.loop-further.directory c.loop-further.name.now c.in-Some-further.further.now c.next-in-loop-further.new.self (eq-eqb _ _ same))

pub returns-in_default-named : goal.returns-in_default-named
returns-in_default-named g c =
    let s = c.args.self.now in
    let differ : c.loop-further.directory ≢ c.args.ino = search rules in
    let none : named s c.new.result.0 c.new.result.1 ≡ None = search rules in
    let lost = rw c.new.ensures at none in
    sym (c.loop-further.invariant ∙ ap (λ r. passes_on s c.args.ino c.loop-further.directory (c.loop-further.name.now ∷ r)) c.in-Some-further.ensures.steps
    ∙ pass_lost s c.args.ino c.loop-further.directory c.loop-further.name.now c.in-Some-further.further.now c.next-in-loop-further.new.self (ne_eqb _ _ differ) lost)

pub loop-further-preserved : goal.loop-further-preserved
loop-further-preserved g c =
    let s = c.args.self.now in
    let differ : c.loop-further.directory ≢ c.args.ino = search rules in
    let some : named s c.new.result.0 c.new.result.1 ≡ Some c.in-Some-named.below = search rules in
    let there = rw c.new.ensures at some in
    c.loop-further.invariant ∙ ap (λ r. passes_on s c.args.ino c.loop-further.directory (c.loop-further.name.now ∷ r)) c.in-Some-further.ensures.steps
    ∙ pass_goes_on s c.args.ino c.loop-further.directory c.loop-further.name.now c.in-Some-further.further.now c.next-in-loop-further.new.self c.in-Some-named.below (ne_eqb _ _ differ) there

pub returns : goal.returns
returns g c =
    let s = c.args.self.now in
    sym (c.loop-further.invariant ∙ ap (λ r. passes_on s c.args.ino c.loop-further.directory (c.loop-further.name.now ∷ r)) c.in-None.ensures.steps.0
    ∙ pass_ends s c.args.ino c.loop-further.directory c.loop-further.name.now)
