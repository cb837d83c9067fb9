use Rattle.std.proofs.Common.{◌++◌, ℕ, List, [], ◌∷◌, codes, refl, ap}
use Rattle.std.proofs.lemmas.Result.{on_ok_weaker}
use Rattle.send_model.specs.Answer.{and_field, and_number}
use Rattle.send_model.specs.Attribute.{Time}
use Rattle.send_model.specs.Subvolume.{NodeKind}
use Rattle.send_model.specs.Printed.{octal, time_text}
use Rattle.store_model.specs.StoreLines.{kind_text, extra_text, inode_line}
use Rattle.tree_view.proofs.LineByField.{more}
use Rattle.tree_view.proofs.lines.push_inode.Goals as goal

pub returns : goal.returns
unfolding inode_line
returns g c =
    let to : List ℕ = c.args.to.now in
    let t0 : List ℕ = codes "inode" in
    let e0 = c.in_ok-push_all.ensures.appended in
    let f1 : List ℕ = and_number c.args.ino in
    let t1 : List ℕ = t0 ++ f1 in
    let e1 = more to t0 _ f1 _ _ refl e0 c.in_ok-push_number.ensures.pushed in
    let f2 : List ℕ = and_field (kind_text c.args.inode.now.kind) in
    let t2 : List ℕ = t1 ++ f2 in
    let e2 = more to t1 _ f2 _ _ (ap (λ (k : NodeKind). and_field (kind_text k)) c.kind.ensures) e1 c.in_ok-push_kind.ensures.pushed in
    let f3 : List ℕ = and_field (octal c.args.inode.now.mode) in
    let t3 : List ℕ = t2 ++ f3 in
    let e3 = more to t2 _ f3 _ _ (ap (λ (n : ℕ). and_field (octal n)) c.mode.ensures) e2 c.in_ok-push_mode.ensures.pushed in
    let f4 : List ℕ = and_number c.args.inode.now.uid in
    let t4 : List ℕ = t3 ++ f4 in
    let e4 = more to t3 _ f4 _ _ (ap (λ (n : ℕ). and_number n) c.uid.ensures) e3 c.in_ok-push_number-2.ensures.pushed in
    let f5 : List ℕ = and_number c.args.inode.now.gid in
    let t5 : List ℕ = t4 ++ f5 in
    let e5 = more to t4 _ f5 _ _ (ap (λ (n : ℕ). and_number n) c.gid.ensures) e4 c.in_ok-push_number-3.ensures.pushed in
    let f6 : List ℕ = and_field (time_text c.args.inode.now.atime) in
    let t6 : List ℕ = t5 ++ f6 in
    let e6 = more to t5 _ f6 _ _ (ap (λ (t : Time). and_field (time_text t)) c.atime.ensures) e5 c.in_ok-push_moment.ensures.pushed in
    let f7 : List ℕ = and_field (time_text c.args.inode.now.mtime) in
    let t7 : List ℕ = t6 ++ f7 in
    let e7 = more to t6 _ f7 _ _ (ap (λ (t : Time). and_field (time_text t)) c.mtime.ensures) e6 c.in_ok-push_moment-2.ensures.pushed in
    let f8 : List ℕ = and_number c.args.inode.now.flags in
    let t8 : List ℕ = t7 ++ f8 in
    let e8 = more to t7 _ f8 _ _ (ap (λ (n : ℕ). and_number n) c.flags.ensures) e7 c.in_ok-push_number-4.ensures.pushed in
    let f9 : List ℕ = and_field (extra_text c.args.inode.now.kind c.args.inode.now) in
    let t9 : List ℕ = t8 ++ f9 in
    let e9 = more to t8 _ f9 _ _ refl e8 c.in_ok-push_extra.ensures.pushed in
    record { pushed = on_ok_weaker c.push_all-2.result (λ done. more to t9 _ (10 ∷ []) _ _ refl e9 done) c.push_all-2.ensures.appended }
