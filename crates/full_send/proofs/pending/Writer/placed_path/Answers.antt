use Rattle.std.specs.Prelude.{◌≡◌, ◌++◌, ◌∷◌, [], ℕ, List, OnOk}
use Rattle.std.proofs.Common.{refl, sym, ap, subst, ◌∙◌, append-nil}
use Rattle.send_model.specs.Command.{Link}
use Rattle.send_model.specs.Map.{Map}
use Rattle.snapshot_model.specs.Listing.{listed}
use Rattle.snapshot_model.specs.Restored.{placed_inode, has_temporary}
use Rattle.inode_commands.specs.Spelled.{IsShortPath, spelled_all}
use Rattle.full_send.specs.Adding.{Adds}
use Rattle.full_send.specs.Directories.{paths_passed, directories_in}
use Rattle.full_send.specs.Held.{with_holes}
use Rattle.full_send.proofs.HeldInodes.{short_path, short_first}
use Rattle.full_send.proofs.RestoredPaths.{placed_link, placed_own, link_in, on_ok}
use Rattle.full_send.proofs.pending.Writer.placed_path.Goals as goal

pub link-requires-clause-short : goal.link-requires-clause-short
link-requires-clause-short g c = subst IsShortPath (sym c.path.ensures) (short_path c.args.self.now.tree.now c.args.self.now.store.now.log.gate c.requires.kept c.args.last.now.paths.now.at c.args.last.now.ino c.requires.leads)

pub link-requires-clause-short_first : goal.link-requires-clause-short_first
link-requires-clause-short_first g c = short_first c.args.self.now.tree.now c.requires.kept.lawful c.args.last.now.paths.now c.requires.passed c.args.last.now.ino c.requires.leads c.in-Some.first.now (sym c.in-Some.ensures)

pub returns-in-Some-clause-adds : goal.returns-in-Some-clause-adds
returns-in-Some-clause-adds g c tells =
    let O = g.O.Sink in
    let F = g.F.Form in
    let v : ℕ = c.args.self.now.spelling.version in
    let image : List ℕ = g.D.Disk.seen c.args.disk.now in
    subst (λ (l : List ℕ). Adds l c.args.bytes.now c.link.new.bytes (O.taken c.args.out.now) (O.taken c.link.new.out) c.link.result)
    (ap (λ (p : List ℕ). F.spelled v (Link p c.in-Some.first.now)) c.path.ensures ∙ sym (append-nil (F.spelled v (Link c.args.last.now.paths.now.at c.in-Some.first.now)))
    ∙ ap (spelled_all F.spelled v) (sym (placed_link c.args.self.now.tree.now c.requires.kept.lawful c.args.last.now.paths.now c.requires.passed c.args.last.now.ino c.requires.leads image c.in-Some.first.now (sym c.in-Some.ensures))))
    c.link.ensures.adds

pub returns-in-Some-clause-directories : goal.returns-in-Some-clause-directories
returns-in-Some-clause-directories g c =
    let s = c.args.self.now.tree.now in
    let before : Map (List ℕ) ℕ = paths_passed c.args.directories.now.items in
    on_ok c.link.result _
    (sym (append-nil before) ∙ ap (λ (m : Map (List ℕ) ℕ). before ++ m)
    (sym (link_in s c.requires.kept.lawful c.args.last.now.paths.now.at c.args.last.now.ino c.requires.leads c.args.last.now.paths.now c.requires.passed refl c.in-Some.first.now (sym c.in-Some.ensures))))

pub returns-in-None-clause-adds : goal.returns-in-None-clause-adds
returns-in-None-clause-adds g c tells =
    let O = g.O.Sink in
    let F = g.F.Form in
    let v : ℕ = c.args.self.now.spelling.version in
    let image : List ℕ = g.D.Disk.seen c.args.disk.now in
    let s = c.args.self.now.tree.now in
    subst (λ (l : List ℕ). Adds l c.args.bytes.now c.placed_inode.new.bytes (O.taken c.args.out.now) (O.taken c.placed_inode.new.out) c.placed_inode.result)
    (ap (λ (p : List ℕ). spelled_all F.spelled v (placed_inode (has_temporary s c.args.last.now.ino) c.args.last.now.ino p (listed (with_holes image s) c.args.last.now.ino).inode)) c.path-in-None.ensures
    ∙ ap (spelled_all F.spelled v) (sym (placed_own s c.requires.kept.lawful c.args.last.now.paths.now c.requires.passed c.args.last.now.ino c.requires.leads image (sym c.in-None.ensures))))
    (c.placed_inode.ensures.adds tells)

pub returns-in-None-clause-directories : goal.returns-in-None-clause-directories
returns-in-None-clause-directories g c =
    subst (λ (p : List ℕ). OnOk c.placed_inode.result (paths_passed c.placed_inode.new.directories.items ≡ paths_passed c.args.directories.now.items ++ directories_in c.args.self.now.tree.now ((p, c.args.last.now.ino) ∷ []))) c.path-in-None.ensures
    c.placed_inode.ensures.directories
