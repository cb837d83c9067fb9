use Rattle.std.specs.Prelude.{◌≡◌, ◌<◌, ◌^◌, ℕ, true, false, List, is_some, Ok, Err}
use Rattle.std.proofs.Common.{rules, sym, ap, subst, ◌∙◌}
use Rattle.send_model.specs.Command.{Rename}
use Rattle.send_model.specs.Subvolume.{named}
use Rattle.snapshot_model.specs.Sent.{making}
use Rattle.snapshot_model.specs.Restored.{has_temporary}
use Rattle.snapshot_model.proofs.TemporaryNames.{temporary_fits}
use Rattle.inode_commands.specs.Spelled.{IsShortPath}
use Rattle.full_send.specs.Adding.{Adds}
use Rattle.full_send.proofs.Added.{none_added, handed_on, stops_early, then_adds}
use Rattle.full_send.proofs.HeldInodes.{empty_path, some_path}
use Rattle.full_send.proofs.RestoredPaths.{arrives_root, arrives_at_once, arrives_by_name}
use Rattle.full_send.proofs.pending.Writer.arrived.Goals as goal

pub returns-then-is_empty-clause-adds : goal.returns-then-is_empty-clause-adds
returns-then-is_empty-clause-adds g c =
    let O = g.O.Sink in
    let F = g.F.Form in
    let path : List ℕ = c.args.at.now.path.now in
    subst (λ (l : List ℕ). Adds l c.args.bytes.now c.args.bytes.now (O.taken c.args.out.now) (O.taken c.args.out.now) (Ok tt))
    (sym (arrives_root F.spelled c.args.self.now.spelling.version c.args.at.now.ino c.args.inode.now (has_temporary c.args.self.now.tree.now c.args.at.now.ino) path (empty_path path (sym c.is_empty.ensures ∙ c.if-is_empty.true))))
    (none_added c.args.bytes.now (O.taken c.args.out.now))

pub made-requires-2-clause-short : goal.made-requires-2-clause-short
made-requires-2-clause-short g c =
    let low : c.args.at.now.ino < 2 ^ 64 = search rules in
    subst IsShortPath (sym (c.as_slice-2.ensures.bytes ∙ c.in-Ok.ensures)) (temporary_fits c.args.at.now.ino low).0

pub rename-requires-clause-short : goal.rename-requires-clause-short
rename-requires-clause-short g c =
    let low : c.args.at.now.ino < 2 ^ 64 = search rules in
    subst IsShortPath (sym (c.as_slice-3.ensures.bytes ∙ c.in-Ok.ensures)) (temporary_fits c.args.at.now.ino low).0

pub returns-then-is_some-clause-adds : goal.returns-then-is_some-clause-adds
returns-then-is_some-clause-adds g c =
    let O = g.O.Sink in
    let F = g.F.Form in
    let path : List ℕ = c.args.at.now.path.now in
    let s = c.args.self.now.tree.now in
    let there : has_temporary s c.args.at.now.ino ≡ true = ap (λ (name : List ℕ). is_some (named s 256 name)) (sym (c.as_slice.ensures.bytes ∙ c.in-Ok.ensures)) ∙ ap is_some (sym c.name_in.ensures) ∙ sym c.is_some.ensures ∙ c.if-is_some.true in
    subst (λ (l : List ℕ). Adds l c.args.bytes.now c.made.new.bytes (O.taken c.args.out.now) (O.taken c.made.new.out) c.made.result)
    (sym (arrives_at_once F.spelled c.args.self.now.spelling.version c.args.at.now.ino c.args.inode.now (has_temporary s c.args.at.now.ino) path (some_path path (sym c.is_empty.ensures ∙ c.if-is_empty.false)) there))
    c.made.ensures.adds

pub returns-in_err-made-clause-adds : goal.returns-in_err-made-clause-adds
returns-in_err-made-clause-adds g c =
    let O = g.O.Sink in
    let F = g.F.Form in
    let v : ℕ = c.args.self.now.spelling.version in
    let path : List ℕ = c.args.at.now.path.now in
    let s = c.args.self.now.tree.now in
    let inode = c.args.inode.now in
    let way : List ℕ = c.in-Ok.way in
    let gone : has_temporary s c.args.at.now.ino ≡ false = ap (λ (name : List ℕ). is_some (named s 256 name)) (sym (c.as_slice.ensures.bytes ∙ c.in-Ok.ensures)) ∙ ap is_some (sym c.name_in.ensures) ∙ sym c.is_some.ensures ∙ c.if-is_some.false in
    handed_on _ _ c.made-2.new.bytes _ _ c.from_residual.result _ c.from_residual.ensures.1
    (subst (λ (l : List ℕ). Adds l c.args.bytes.now c.made-2.new.bytes (O.taken c.args.out.now) (O.taken c.made-2.new.out) (Err c.in_err-made.field-0.0))
    (sym (arrives_by_name F.spelled v c.args.at.now.ino inode (has_temporary s c.args.at.now.ino) path way (some_path path (sym c.is_empty.ensures ∙ c.if-is_empty.false)) gone c.in-Ok.ensures))
    (stops_early (F.spelled v (making way inode.kind inode)) (F.spelled v (Rename way path)) c.args.bytes.now c.made-2.new.bytes _ _ _
    (subst (λ (w : List ℕ). Adds (F.spelled v (making w inode.kind inode)) c.args.bytes.now c.made-2.new.bytes (O.taken c.args.out.now) (O.taken c.made-2.new.out) (Err c.in_err-made.field-0.0)) c.as_slice-2.ensures.bytes c.in_err-made.ensures.adds)))

pub returns-clause-adds : goal.returns-clause-adds
returns-clause-adds g c =
    let O = g.O.Sink in
    let F = g.F.Form in
    let v : ℕ = c.args.self.now.spelling.version in
    let path : List ℕ = c.args.at.now.path.now in
    let s = c.args.self.now.tree.now in
    let inode = c.args.inode.now in
    let way : List ℕ = c.in-Ok.way in
    let gone : has_temporary s c.args.at.now.ino ≡ false = ap (λ (name : List ℕ). is_some (named s 256 name)) (sym (c.as_slice.ensures.bytes ∙ c.in-Ok.ensures)) ∙ ap is_some (sym c.name_in.ensures) ∙ sym c.is_some.ensures ∙ c.if-is_some.false in
    subst (λ (l : List ℕ). Adds l c.args.bytes.now c.rename.new.bytes (O.taken c.args.out.now) (O.taken c.rename.new.out) c.rename.result)
    (sym (arrives_by_name F.spelled v c.args.at.now.ino inode (has_temporary s c.args.at.now.ino) path way (some_path path (sym c.is_empty.ensures ∙ c.if-is_empty.false)) gone c.in-Ok.ensures))
    (then_adds (F.spelled v (making way inode.kind inode)) (F.spelled v (Rename way path)) c.args.bytes.now c.made-2.new.bytes c.rename.new.bytes _ _ _ c.rename.result
    (subst (λ (w : List ℕ). Adds (F.spelled v (making w inode.kind inode)) c.args.bytes.now c.made-2.new.bytes (O.taken c.args.out.now) (O.taken c.made-2.new.out) (Ok c.in_ok-made.field-0)) c.as_slice-2.ensures.bytes c.in_ok-made.ensures.adds)
    (subst (λ (w : List ℕ). Adds (F.spelled v (Rename w path)) c.made-2.new.bytes c.rename.new.bytes (O.taken c.made-2.new.out) (O.taken c.rename.new.out) c.rename.result) c.as_slice-3.ensures.bytes c.rename.ensures.adds))
