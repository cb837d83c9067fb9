-- Each way out of a link.
use Rattle.std.proofs.Common.{◌≡◌, ◌+◌, Ok, true, false, refl, ap, ◌∙◌, sym, subst, rules}
use Rattle.std.specs.Prelude.{is_some}
use Rattle.std.specs.Ordering.{nat_cmp}
use Rattle.std.proofs.lemmas.Result.{err_from_is_err_and}
use Rattle.send_model.specs.Map.{with_value}
use Rattle.send_model.specs.Subvolume.{named, is_directory, spot}
use Rattle.send_model.specs.Edit as meant
use Rattle.inode_tree.specs.Places.{spot_of}
use Rattle.inode_tree.specs.Trees.{further_names}
use Rattle.inode_tree.proofs.EditSteps.{link_bad, link_lost, link_directory, link_nowhere, link_there}
use Rattle.inode_tree.proofs.TreeLaws.{whole_is, linked_whole}
use Rattle.inode_tree.proofs.KnownEdits.{Edited, remembered, linked_known}
use Rattle.inode_tree.proofs.tree.Tree.link.Given.{Over}
use Rattle.inode_tree.proofs.tree.Tree.link.Goals.{In_ok-insert-2}
use Rattle.inode_tree.proofs.tree.Tree.link.Goals as goal

pub returns-in_default : goal.returns-in_default
returns-in_default g c = (link_bad c.args.self.now c.args.path.now c.args.existing.now c.in_default.ensures, refl)

pub returns-in_err-ino : goal.returns-in_err-ino
returns-in_err-ino g c =
    let p = err_from_is_err_and c.from_residual.result c.from_residual.ensures.1 in
    rw (p.1, p.2) (link_lost c.args.self.now c.args.path.now c.args.existing.now _ c.in-Ok.ensures _ c.in_err-ino.ensures.found, c.in_err-ino.ensures.same)

pub returns-then-is_directory : goal.returns-then-is_directory
returns-then-is_directory g c =
    let same = c.in_ok-ino.ensures.same in
    let d : is_directory c.reach.new.self c.in_ok-ino.ino ≡ true = search rules in
    (link_directory c.args.self.now c.args.path.now c.args.existing.now _ c.in-Ok.ensures c.in_ok-ino.ino c.in_ok-ino.ensures.found (subst (λ s. is_directory s c.in_ok-ino.ino ≡ true) same d), same)

pub returns-in_err-place : goal.returns-in_err-place
returns-in_err-place g c =
    let same = c.in_ok-ino.ensures.same in
    let d : is_directory c.reach.new.self c.in_ok-ino.ino ≡ false = search rules in
    let p = err_from_is_err_and c.from_residual-in_err-place.result c.from_residual-in_err-place.ensures.1 in
    rw (p.1, p.2) (
      link_nowhere c.args.self.now c.args.path.now c.args.existing.now _ c.in-Ok.ensures c.in_ok-ino.ino c.in_ok-ino.ensures.found (subst (λ s. is_directory s c.in_ok-ino.ino ≡ false) same d) _
          (rw (sym same) c.in_err-place.ensures.found),
      c.in_err-place.ensures.same ∙ same,
    )

pub returns-then-is_some : goal.returns-then-is_some
returns-then-is_some g c =
    let place = c.in_ok-place.place in
    let same = c.in_ok-ino.ensures.same in
    let still = c.in_ok-place.ensures.same ∙ same in
    let d : is_directory c.reach.new.self c.in_ok-ino.ino ≡ false = search rules in
    let there : is_some (named c.place.new.self place.0 place.1) ≡ true = search rules in (
      link_there c.args.self.now c.args.path.now c.args.existing.now _ c.in-Ok.ensures c.in_ok-ino.ino c.in_ok-ino.ensures.found (subst (λ s. is_directory s c.in_ok-ino.ino ≡ false) same d) (spot_of place)
          (subst (λ s. spot s c.args.path.now ≡ Ok (spot_of place)) same c.in_ok-place.ensures.found) (subst (λ s. is_some (named s place.0 place.1) ≡ true) still there),
      still,
    )

-- The inode has one name more.
linked : (g : Over) (c : In_ok-insert-2 g)
    → Edited (record { inodes = c.self.inside.inodes; names = c.insert.new.self; next = c.self.inside.next }) c.insert-2.new.self c.self.inside.last (meant.link c.args.path.now c.args.existing.now c.args.self.now)
linked g c =
    let place = c.in_ok-place.place in
    let same = c.in_ok-ino.ensures.same in
    let still = c.in_ok-place.ensures.same ∙ same in
    let d : is_directory c.reach.new.self c.in_ok-ino.ino ≡ false = search rules in
    let free_there : is_some (named c.place.new.self place.0 place.1) ≡ false = search rules in
    let free = subst (λ s. is_some (named s place.0 place.1) ≡ false) still free_there in
    let whole : c.self.inside.whole ≡ true = search rules in
    let count : c.in-Some.further ≡ further_names c.self.inside.further c.in_ok-ino.ino + 1 = search rules in
    let kept = linked_whole _ _ (c.self.view_is ∙ still) c.self.inside.further (whole_is _ _ _ whole c.self.invariant.0) place c.args.path.now c.args.existing.now _ c.in_ok-ino.ino c.in-Ok.ensures c.in_ok-ino.ensures.found
    (subst (λ s. is_directory s c.in_ok-ino.ino ≡ false) same d) (subst (λ s. spot s c.args.path.now ≡ Ok (spot_of place)) same c.in_ok-place.ensures.found) free
    _ refl c.in_ok-insert.ensures.ok refl _ (c.in_ok-insert-2.ensures.ok ∙ ap (λ n. with_value nat_cmp c.in_ok-ino.ino n c.self.inside.further) count) in
    record {
      tree = kept.tree;
      known = linked_known _ _ (c.self.view_is ∙ still) c.self.inside.last (remembered _ _ c.self.inside.last whole c.self.invariant.1) place c.in_ok-ino.ino free _ refl c.in_ok-insert.ensures.ok;
      says = kept.says;
    }

pub invariant_of-self-2 : goal.invariant_of-self-2
invariant_of-self-2 g c = let left = linked g (goal.at.invariant_of-self-2 g c).In_ok-insert-2 in (left.tree, left.known)

pub returns : goal.returns
returns g c = (linked g (goal.at.returns g c).In_ok-insert-2).says
