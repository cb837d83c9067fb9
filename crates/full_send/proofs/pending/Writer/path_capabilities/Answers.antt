use Rattle.std.specs.Prelude.{ℕ, List, Ok}
use Rattle.std.proofs.Common.{sym, ap, subst, ◌∙◌}
use Rattle.snapshot_model.specs.Listing.{listed}
use Rattle.snapshot_model.specs.Restored.{capability_commands}
use Rattle.inode_commands.specs.Spelled.{spelled_all}
use Rattle.full_send.specs.Adding.{Adds}
use Rattle.full_send.proofs.Added.{none_added}
use Rattle.full_send.proofs.LastCapabilities.{none_here, its_own}
use Rattle.full_send.proofs.pending.Writer.path_capabilities.Goals as goal

pub returns-in-Some-clause-adds : goal.returns-in-Some-clause-adds
returns-in-Some-clause-adds g c =
    let O = g.O.Sink in
    let F = g.F.Form in
    let v : ℕ = c.args.self.now.spelling.version in
    subst (λ (l : List ℕ). Adds l c.args.bytes.now c.args.bytes.now (O.taken c.args.out.now) (O.taken c.args.out.now) (Ok tt))
    (ap (spelled_all F.spelled v) (sym (none_here c.args.self.now.tree.now c.args.last.now.paths.now c.requires.passed c.args.last.now.ino c.in-Some._first.now (sym c.in-Some.ensures))))
    (none_added c.args.bytes.now (O.taken c.args.out.now))

pub returns-in-None-clause-adds : goal.returns-in-None-clause-adds
returns-in-None-clause-adds g c =
    let O = g.O.Sink in
    let F = g.F.Form in
    let v : ℕ = c.args.self.now.spelling.version in
    let s = c.args.self.now.tree.now in
    subst (λ (l : List ℕ). Adds l c.args.bytes.now c.inode_capabilities.new.bytes (O.taken c.args.out.now) (O.taken c.inode_capabilities.new.out) c.inode_capabilities.result)
    (ap (λ (p : List ℕ). spelled_all F.spelled v (capability_commands p (listed s c.args.last.now.ino).inode)) c.path.ensures
    ∙ ap (spelled_all F.spelled v) (sym (its_own s c.args.last.now.paths.now c.requires.passed c.args.last.now.ino (sym c.in-None.ensures))))
    c.inode_capabilities.ensures.adds
