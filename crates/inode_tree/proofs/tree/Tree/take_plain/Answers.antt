-- What is left once the name at a place was taken out.
use Rattle.std.proofs.Common.{◌≡◌, ◌<◌, ◌-◌, true, false, refl, sym, ap, ◌∙◌, rules}
use Rattle.std.specs.Ordering.{nat_cmp}
use Rattle.send_model.specs.Refusal.{NoEntry, IsDirectory}
use Rattle.send_model.specs.Map.{named_cmp, with_value}
use Rattle.send_model.specs.Subvolume.{is_directory_kind}
use Rattle.inode_tree.specs.Places.{spot_of, unlink_at}
use Rattle.inode_tree.specs.Trees.{further_names}
use Rattle.inode_tree.proofs.TreeLaws.{whole_is}
use Rattle.inode_tree.proofs.KnownEdits.{Edited, remembered}
use Rattle.inode_tree.proofs.PlainSteps.{Stayed, nothing_there, one_less, directory_back, last_gone}
use Rattle.inode_tree.proofs.Standing.{never_lost}
use Rattle.inode_tree.proofs.tree.Tree.take_plain.Given.{Over}
use Rattle.inode_tree.proofs.tree.Tree.take_plain.Goals.{In_default, After-forget_name, In_ok-insert-3, After-forget_name-2}
use Rattle.inode_tree.proofs.tree.Tree.take_plain.Goals as goal

-- Nothing stood at the place.
nothing : (g : Over) (c : In_default g)
    → Stayed c.args.self.now (record { inodes = c.self.inside.inodes; names = c.remove.new.self; next = c.self.inside.next }) c.self.inside.further c.self.inside.last (unlink_at (spot_of c.args.place.now) c.args.self.now) NoEntry
nothing g c =
    let whole : c.self.inside.whole ≡ true = search rules in
    let tree = whole_is _ _ _ whole c.self.invariant.0 in
    let known = remembered _ _ c.self.inside.last whole c.self.invariant.1 in
    nothing_there _ _ c.self.view_is c.self.inside.further c.self.inside.last tree known c.args.place.now (sym c.in_ok-ino.ensures.was ∙ c.in_default.is) _ refl c.in_ok-ino.ensures.ok refl

pub invariant_of-self-in_default : goal.invariant_of-self-in_default
invariant_of-self-in_default g c = let left = nothing g (goal.at.invariant_of-self-in_default g c).In_default in (left.tree, left.known)

pub returns-in_default : goal.returns-in_default
returns-in_default g c = (nothing g (goal.at.returns-in_default g c).In_default).says

-- The inode has other names.
others_stay : (g : Over) (c : After-forget_name g)
    → Edited (record { inodes = c.self.inside.inodes; names = c.remove.new.self; next = c.self.inside.next }) c.insert.new.self c.forget_name.new.self (unlink_at (spot_of c.args.place.now) c.args.self.now)
others_stay g c =
    let whole : c.self.inside.whole ≡ true = search rules in
    let tree = whole_is _ _ _ whole c.self.invariant.0 in
    let known = remembered _ _ c.self.inside.last whole c.self.invariant.1 in
    let there = sym c.in_ok-ino.ensures.was ∙ c.in-Some.is in
    let some : 0 < further_names c.self.inside.further c.in-Some.ino = search rules in
    let less = c.in_ok-insert.ensures.ok ∙ ap (λ n. with_value nat_cmp c.in-Some.ino (n - 1) c.self.inside.further) c.further_names-further.ensures in
    one_less _ _ c.self.view_is c.self.inside.further c.self.inside.last tree known c.args.place.now c.in-Some.ino there some _ refl c.in_ok-ino.ensures.ok refl _ less _ c.forget_name.ensures

pub invariant_of-self-then-further-gt0 : goal.invariant_of-self-then-further-gt0
invariant_of-self-then-further-gt0 g c = let left = others_stay g (goal.at.invariant_of-self-then-further-gt0 g c).After-forget_name in (left.tree, left.known)

pub returns-then-further-gt0 : goal.returns-then-further-gt0
returns-then-further-gt0 g c = (others_stay g (goal.at.returns-then-further-gt0 g c).After-forget_name).says

-- The inode that the name led to is there.
pub unreachable-requires : goal.unreachable-requires
unreachable-requires g c =
    let whole : c.self.inside.whole ≡ true = search rules in
    let tree = whole_is _ _ _ whole c.self.invariant.0 in
    let there = sym c.in_ok-ino.ensures.was ∙ c.in-Some.is in
    absurd (never_lost _ tree.sound c.args.place.now c.in-Some.ino there (sym c.in_ok-inode.ensures.was ∙ c.in_default-2.is))

-- A directory is put back.
put_back : (g : Over) (c : In_ok-insert-3 g)
    → Stayed c.args.self.now (record { inodes = c.insert-then-is_directory-2.new.self; names = c.insert-then-is_directory.new.self; next = c.self.inside.next }) c.self.inside.further c.self.inside.last (unlink_at (spot_of c.args.place.now) c.args.self.now) IsDirectory
put_back g c =
    let whole : c.self.inside.whole ≡ true = search rules in
    let tree = whole_is _ _ _ whole c.self.invariant.0 in
    let known = remembered _ _ c.self.inside.last whole c.self.invariant.1 in
    let there = sym c.in_ok-ino.ensures.was ∙ c.in-Some.is in
    let found = sym c.in_ok-inode.ensures.was ∙ c.in-Some-2.is in
    let directory : is_directory_kind c.in-Some-2.inode.kind ≡ true = search rules in
    let inodes = c.in_ok-insert-3.ensures.ok ∙ ap (with_value nat_cmp c.in-Some.ino c.in-Some-2.inode) c.in_ok-inode.ensures.ok in
    let names = c.in_ok-insert-2.ensures.ok ∙ ap (with_value named_cmp c.args.place.now c.in-Some.ino) c.in_ok-ino.ensures.ok in
    directory_back _ _ c.self.view_is c.self.inside.further c.self.inside.last tree known c.args.place.now c.in-Some.ino there c.in-Some-2.inode found directory _ inodes names refl

pub invariant_of-self-then-is_directory : goal.invariant_of-self-then-is_directory
invariant_of-self-then-is_directory g c = let left = put_back g (goal.at.invariant_of-self-then-is_directory g c).In_ok-insert-3 in (left.tree, left.known)

pub returns-then-is_directory : goal.returns-then-is_directory
returns-then-is_directory g c = (put_back g (goal.at.returns-then-is_directory g c).In_ok-insert-3).says

-- The inode goes with its last name.
gone : (g : Over) (c : After-forget_name-2 g)
    → Edited (record { inodes = c.remove-2.new.self; names = c.remove.new.self; next = c.self.inside.next }) c.self.inside.further c.forget_name-2.new.self (unlink_at (spot_of c.args.place.now) c.args.self.now)
gone g c =
    let whole : c.self.inside.whole ≡ true = search rules in
    let tree = whole_is _ _ _ whole c.self.invariant.0 in
    let known = remembered _ _ c.self.inside.last whole c.self.invariant.1 in
    let there = sym c.in_ok-ino.ensures.was ∙ c.in-Some.is in
    let found = sym c.in_ok-inode.ensures.was ∙ c.in-Some-2.is in
    let plain : is_directory_kind c.in-Some-2.inode.kind ≡ false = search rules in
    let none : further_names c.self.inside.further c.in-Some.ino ≡ 0 = search rules in
    last_gone _ _ c.self.view_is c.self.inside.further c.self.inside.last tree known c.args.place.now c.in-Some.ino there c.in-Some-2.inode found plain none _ c.in_ok-inode.ensures.ok c.in_ok-ino.ensures.ok refl _ c.forget_name-2.ensures

pub invariant_of-self-2 : goal.invariant_of-self-2
invariant_of-self-2 g c = let left = gone g (goal.at.invariant_of-self-2 g c).After-forget_name-2 in (left.tree, left.known)

pub returns : goal.returns
returns g c = (gone g (goal.at.returns g c).After-forget_name-2).says
