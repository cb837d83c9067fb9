use Rattle.std.specs.Prelude.{ℕ, List}
use Rattle.std.proofs.Common.{sym, ap, subst, ◌∙◌, append-nil}
use Rattle.send_model.specs.Command.{Link}
use Rattle.snapshot_model.specs.Listing.{listed}
use Rattle.snapshot_model.specs.Sent.{inode_commands}
use Rattle.inode_commands.specs.Spelled.{IsShortPath, spelled_all}
use Rattle.full_send.specs.Adding.{Adds}
use Rattle.full_send.specs.Held.{with_holes}
use Rattle.full_send.proofs.HeldInodes.{short_path, short_first, listed_link, listed_own}
use Rattle.full_send.proofs.pending.Writer.sent_path.Goals as goal

pub link-requires-clause-short : goal.link-requires-clause-short
link-requires-clause-short g c = subst IsShortPath (sym c.path.ensures) (short_path c.args.self.now.tree.now c.args.self.now.store.now.log.gate c.requires.kept c.args.last.now.paths.now.at c.args.last.now.ino c.requires.leads)

pub link-requires-clause-short_first : goal.link-requires-clause-short_first
link-requires-clause-short_first g c = short_first c.args.self.now.tree.now c.requires.kept.lawful c.args.last.now.paths.now c.requires.passed c.args.last.now.ino c.requires.leads c.in-Some.first.now (sym c.in-Some.ensures)

pub returns-in-Some-clause-adds : goal.returns-in-Some-clause-adds
returns-in-Some-clause-adds g c tells =
    let O = g.O.Sink in
    let F = g.F.Form in
    let v : ℕ = c.args.self.now.spelling.version in
    let image : List ℕ = g.D.Disk.seen c.args.disk.now in
    subst (λ (l : List ℕ). Adds l c.args.bytes.now c.link.new.bytes (O.taken c.args.out.now) (O.taken c.link.new.out) c.link.result)
    (ap (λ (p : List ℕ). F.spelled v (Link p c.in-Some.first.now)) c.path.ensures ∙ sym (append-nil (F.spelled v (Link c.args.last.now.paths.now.at c.in-Some.first.now)))
    ∙ ap (spelled_all F.spelled v) (sym (listed_link c.args.self.now.tree.now c.requires.kept.lawful c.args.last.now.paths.now c.requires.passed c.args.last.now.ino c.requires.leads image c.in-Some.first.now (sym c.in-Some.ensures))))
    c.link.ensures.adds

pub returns-in-None-clause-adds : goal.returns-in-None-clause-adds
returns-in-None-clause-adds g c tells =
    let O = g.O.Sink in
    let F = g.F.Form in
    let v : ℕ = c.args.self.now.spelling.version in
    let image : List ℕ = g.D.Disk.seen c.args.disk.now in
    subst (λ (l : List ℕ). Adds l c.args.bytes.now c.sent_inode.new.bytes (O.taken c.args.out.now) (O.taken c.sent_inode.new.out) c.sent_inode.result)
    (ap (λ (p : List ℕ). spelled_all F.spelled v (inode_commands p (listed (with_holes image c.args.self.now.tree.now) c.args.last.now.ino).inode)) c.path-in-None.ensures
    ∙ ap (spelled_all F.spelled v) (sym (listed_own c.args.self.now.tree.now c.requires.kept.lawful c.args.last.now.paths.now c.requires.passed c.args.last.now.ino c.requires.leads image (sym c.in-None.ensures))))
    (c.sent_inode.ensures.adds tells)
