-- Each way out of the making.
use Rattle.std.proofs.Common.{◌≡◌, ◌≢◌, ◌+◌, Ok, true, false, refl, ap, ◌∙◌, sym, subst, rules}
use Rattle.std.specs.Prelude.{is_some}
use Rattle.std.specs.Ordering.{nat_cmp}
use Rattle.std.proofs.lemmas.Result.{err_from_is_err_and}
use Rattle.send_model.specs.Map.{with_value}
use Rattle.send_model.specs.Subvolume.{named}
use Rattle.send_model.specs.Edit.{greatest_number}
use Rattle.inode_tree.specs.Kinds.{kind_of, new_of_kind}
use Rattle.inode_tree.specs.Places.{spot_of}
use Rattle.inode_tree.proofs.EditSteps.{make_nowhere, make_there}
use Rattle.inode_tree.proofs.FreePlaces.{was_taken, was_free, same_fields}
use Rattle.inode_tree.proofs.TreeLaws.{whole_is, numberless, made_whole}
use Rattle.inode_tree.proofs.KnownEdits.{Made, remembered, made_known}
use Rattle.inode_tree.proofs.tree.Tree.make.Given.{Over}
use Rattle.inode_tree.proofs.tree.Tree.make.Goals.{In_ok-insert}
use Rattle.inode_tree.proofs.tree.Tree.make.Goals as goal

pub returns-in_err-place-clause-made : goal.returns-in_err-place-clause-made
returns-in_err-place-clause-made g c =
    let p = err_from_is_err_and c.from_residual.result c.from_residual.ensures.1 in
    rw (p.1, p.2) (make_nowhere c.args.self.now c.args.path.now _ _ c.in_err-place.ensures.found, c.in_err-place.ensures.same)

pub returns-then-is_some-clause-made : goal.returns-then-is_some-clause-made
returns-then-is_some-clause-made g c =
    let place = c.in_ok-place.place in
    let same = c.in_ok-place.ensures.same in
    let there : is_some (named c.place.new.self place.0 place.1) ≡ true = search rules in
    (make_there c.args.self.now c.args.path.now _ (spot_of place) c.in_ok-place.ensures.found (subst (λ s. is_some (named s place.0 place.1) ≡ true) same there), same)

pub returns-then-self-clause-made : goal.returns-then-self-clause-made
returns-then-self-clause-made g c =
    let place = c.in_ok-place.place in
    let same = c.in_ok-place.ensures.same in
    let free : is_some (named c.place.new.self place.0 place.1) ≡ false = search rules in
    let last : c.self.inside.next ≡ greatest_number = search rules in
    (numberless _ _ (c.self.view_is ∙ same) _ c.args.path.now place c.in_ok-place.ensures.found (subst (λ s. is_some (named s place.0 place.1) ≡ false) same free) last, same)

pub returns-then-not-branch-clause-made : goal.returns-then-not-branch-clause-made
returns-then-not-branch-clause-made g c =
    let place = c.in_ok-place.place in
    let same = c.in_ok-place.ensures.same in
    let stale : c.in_ok-insert_new.field-0 ≡ false = search rules in
    let stays = was_taken _ _ _ _ _ stale c.in_ok-insert_new.ensures.ok in (
      make_there c.args.self.now c.args.path.now _ (spot_of place) c.in_ok-place.ensures.found (subst (λ s. is_some (named s place.0 place.1) ≡ true) (c.self.view_is ∙ same) stays.0),
      same_fields _ _ refl stays.1 refl ∙ c.self.view_is ∙ same,
    )

-- The new inode stands at its place.
made : (g : Over) (c : In_ok-insert g)
    → Made c.args.self.now (record { inodes = c.insert.new.self; names = c.insert_new.new.self; next = c.self.inside.next + 1 }) c.self.inside.further c.self.inside.last c.args.path.now (new_of_kind (kind_of c.args.kind) c.args.rdev c.args.target.now) c.self.inside.next
made g c =
    let place = c.in_ok-place.place in
    let same = c.in_ok-place.ensures.same in
    let fresh : c.in_ok-insert_new.field-0 ≡ true = search rules in
    let puts = was_free _ _ _ _ _ fresh c.in_ok-insert_new.ensures.ok in
    let free = subst (λ s. is_some (named s place.0 place.1) ≡ false) (c.self.view_is ∙ same) (ap is_some puts.0) in
    let more : c.self.inside.next ≢ greatest_number = search rules in
    let whole : c.self.inside.whole ≡ true = search rules in
    let tree = whole_is _ _ _ whole c.self.invariant.0 in
    let inode = new_of_kind (kind_of c.args.kind) c.args.rdev c.args.target.now in
    let inodes = c.in_ok-insert.ensures.ok ∙ ap (λ i. with_value nat_cmp c.self.inside.next i c.self.inside.inodes) (c.in_ok-new.ensures ∙ c.in_ok-inode.ensures) in
    let kept = made_whole _ _ (c.self.view_is ∙ same) c.self.inside.further tree place inode c.args.path.now c.in_ok-place.ensures.found free more _ inodes puts.1 refl in
    let known = made_known _ _ (c.self.view_is ∙ same) c.self.inside.last (remembered _ _ c.self.inside.last whole c.self.invariant.1) tree.sound c.args.path.now place inode c.in_ok-place.ensures.found free _ inodes puts.1 in
    record { edited = record { tree = kept.tree; known = known.0; says = kept.says }; leads = known.1 }

pub invariant_of-self-2 : goal.invariant_of-self-2
invariant_of-self-2 g c = let m = made g (goal.at.invariant_of-self-2 g c).In_ok-insert in (m.edited.tree, m.edited.known)

pub learn-requires : goal.learn-requires
learn-requires g c = (made g (goal.at.learn-requires g c).In_ok-insert).leads

pub returns-clause-made : goal.returns-clause-made
returns-clause-made g c = (made g (goal.at.returns-clause-made g c).In_ok-insert).edited.says ∙ ap Ok (sym c.learn.ensures)
