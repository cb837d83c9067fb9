-- What the name after the least place in the directory says of it.
use Rattle.std.proofs.Common.{◌≡◌, [], Some, None, true, false, ap, ◌∙◌, rules, sym, subst}
use Rattle.std.specs.Prelude.{is_some}
use Rattle.send_model.specs.Map.{IsMap, named_cmp}
use Rattle.send_model.specs.Subvolume.{named}
use Rattle.shared_map.specs.Sought.{entry_after}
use Rattle.inode_tree.proofs.Empties.{other_directory, empty_by, full_by}
use Rattle.inode_tree.proofs.tree.Tree.is_empty.Goals as goal

pub returns-then-is_some : goal.returns-then-is_some
returns-then-is_some g c =
    let there : is_some (named c.args.self.now c.new.result.0 c.new.result.1) ≡ true = search rules in
    let some = rw c.new.ensures at there in
    sym (full_by c.args.self.now c.args.ino some)

pub returns : goal.returns
returns g c =
    let s = c.args.self.now in
    let absent : is_some (named c.args.self.now c.new.result.0 c.new.result.1) ≡ false = search rules in
    let none = rw c.new.ensures at absent in
    let sorted : IsMap named_cmp s.names = subst (λ x. IsMap named_cmp x.names) c.self.view_is c.iter-names.ensures.ordered in
    let next : entry_after named_cmp (c.args.ino, []) s.names ≡ Some c.in-Some.next.now =
    sym (c.in-Some.ensures ∙ ap (λ k. entry_after named_cmp k c.self.inside.names) c.new-2.ensures ∙ ap (λ x. entry_after named_cmp (c.args.ino, []) x.names) c.self.view_is) in
    rw c.directory.ensures (sym (empty_by s c.args.ino sorted none ∙ ap (other_directory c.args.ino) next))

pub returns-in_default : goal.returns-in_default
returns-in_default g c =
    let s = c.args.self.now in
    let absent : is_some (named c.args.self.now c.new.result.0 c.new.result.1) ≡ false = search rules in
    let none = rw c.new.ensures at absent in
    let sorted : IsMap named_cmp s.names = subst (λ x. IsMap named_cmp x.names) c.self.view_is c.iter-names.ensures.ordered in
    let next : entry_after named_cmp (c.args.ino, []) s.names ≡ None =
    sym (c.in_default.ensures ∙ ap (λ k. entry_after named_cmp k c.self.inside.names) c.new-2.ensures ∙ ap (λ x. entry_after named_cmp (c.args.ino, []) x.names) c.self.view_is) in
    sym (empty_by s c.args.ino sorted none ∙ ap (other_directory c.args.ino) next)
