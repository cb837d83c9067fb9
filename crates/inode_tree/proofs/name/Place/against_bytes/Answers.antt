-- The numbers tell, or else the bytes.
use Rattle.std.proofs.Common.{◌≡◌, sym, subst}
use Rattle.send_model.specs.Map.{bytes_cmp}
use Rattle.inode_tree.specs.Openings.{whole, within}
use Rattle.inode_tree.proofs.OpeningLaws.{opened_first, opened_both, first_tells, next_tells}
use Rattle.inode_tree.proofs.name.Place.against_bytes.Goals as goal

pub returns-in_default : goal.returns-in_default
returns-in_default c =
    let k = c.key.inside in
    let s = c.self.inside in
    let bytes = whole k.rest k.opening in
    let opened = opened_first bytes k.opening (within k.rest) c.key.invariant c.eight_in.result c.eight_in.ensures in
    subst (λ x. c.cmp.result ≡ bytes_cmp x.1 c.args.self.now.1) c.key.view_is (subst (λ y. c.cmp.result ≡ bytes_cmp bytes y.1) c.self.view_is
    (sym (first_tells bytes s.name.now c.eight_in.result _ s.first s.next opened c.self.invariant c.cmp.result c.cmp.ensures (λ e. c.in_default.not-Equal e))))

pub returns-in_default-cmp : goal.returns-in_default-cmp
returns-in_default-cmp c =
    let k = c.key.inside in
    let s = c.self.inside in
    let bytes = whole k.rest k.opening in
    let opened = opened_both bytes k.opening (within k.rest) c.key.invariant c.eight_in.result c.eight_in-2.result c.eight_in.ensures c.eight_in-2.ensures in
    subst (λ x. c.cmp-2.result ≡ bytes_cmp x.1 c.args.self.now.1) c.key.view_is (subst (λ y. c.cmp-2.result ≡ bytes_cmp bytes y.1) c.self.view_is
    (sym (next_tells bytes s.name.now c.eight_in.result c.eight_in-2.result s.first s.next opened c.self.invariant c.in-Equal.ensures c.cmp-2.result c.cmp-2.ensures (λ e. c.in_default-cmp.not-Equal e))))
