use Rattle.std.specs.Prelude.{ℕ, List, Err}
use Rattle.std.proofs.Common.{sym, subst, ◌∙◌}
use Rattle.send_model.specs.Command.{Command}
use Rattle.snapshot_model.specs.Sent.{making}
use Rattle.inode_commands.specs.Spelled.{spelled_all}
use Rattle.subvol_catalog.specs.Entries.{key_of}
use Rattle.full_send.specs.Adding.{Adds}
use Rattle.full_send.specs.Held.{field_commands}
use Rattle.full_send.proofs.Added.{handed_on, stops_early, then_adds}
use Rattle.full_send.proofs.HeldInodes.{short_path, inode_there, inode_said, its_cells, at_root, at_path, empty_path, some_path}
use Rattle.full_send.proofs.pending.Writer.sent_inode.Goals as goal

pub unreachable-requires : goal.unreachable-requires
unreachable-requires g c = inode_there c.args.self.now.tree.now c.args.self.now.store.now.log.gate c.requires.kept c.args.at.now.path.now c.args.at.now.ino c.requires.leads (sym c.in_default.ensures)

pub fields-requires-clause-said : goal.fields-requires-clause-said
fields-requires-clause-said g c = inode_said c.args.self.now.tree.now c.args.self.now.store.now.log.gate c.requires.kept c.args.at.now.path.now c.args.at.now.ino c.requires.leads c.in-Some.inode.now (sym c.in-Some.ensures)

pub fields-requires-clause-cells : goal.fields-requires-clause-cells
fields-requires-clause-cells g c = its_cells c.args.self.now.tree.now c.args.self.now.store.now.log.gate c.requires.kept c.args.at.now.path.now c.args.at.now.ino c.requires.leads c.in-Some.inode.now (sym c.in-Some.ensures) c.args.self.now.store.now.core (key_of c.args.self.now.key) c.requires.found

pub made-requires-clause-short : goal.made-requires-clause-short
made-requires-clause-short g c = short_path c.args.self.now.tree.now c.args.self.now.store.now.log.gate c.requires.kept c.args.at.now.path.now c.args.at.now.ino c.requires.leads

pub made-requires-clause-said : goal.made-requires-clause-said
made-requires-clause-said g c = inode_said c.args.self.now.tree.now c.args.self.now.store.now.log.gate c.requires.kept c.args.at.now.path.now c.args.at.now.ino c.requires.leads c.in-Some.inode.now (sym c.in-Some.ensures)

pub fields-requires-2-clause-short : goal.fields-requires-2-clause-short
fields-requires-2-clause-short g c = short_path c.args.self.now.tree.now c.args.self.now.store.now.log.gate c.requires.kept c.args.at.now.path.now c.args.at.now.ino c.requires.leads

pub fields-requires-2-clause-said : goal.fields-requires-2-clause-said
fields-requires-2-clause-said g c = inode_said c.args.self.now.tree.now c.args.self.now.store.now.log.gate c.requires.kept c.args.at.now.path.now c.args.at.now.ino c.requires.leads c.in-Some.inode.now (sym c.in-Some.ensures)

pub fields-requires-2-clause-cells : goal.fields-requires-2-clause-cells
fields-requires-2-clause-cells g c = its_cells c.args.self.now.tree.now c.args.self.now.store.now.log.gate c.requires.kept c.args.at.now.path.now c.args.at.now.ino c.requires.leads c.in-Some.inode.now (sym c.in-Some.ensures) c.args.self.now.store.now.core (key_of c.args.self.now.key) c.requires.found

pub returns-then-is_empty-clause-adds : goal.returns-then-is_empty-clause-adds
returns-then-is_empty-clause-adds g c tells =
    let O = g.O.Sink in
    let F = g.F.Form in
    let v : ℕ = c.args.self.now.spelling.version in
    let path : List ℕ = c.args.at.now.path.now in
    let s = c.args.self.now.tree.now in
    let inode = c.in-Some.inode.now in
    let image : List ℕ = g.D.Disk.seen c.args.disk.now in
    subst (λ (cs : List Command). Adds (spelled_all F.spelled v cs) c.args.bytes.now c.fields.new.bytes (O.taken c.args.out.now) (O.taken c.fields.new.out) c.fields.result)
    (sym (at_root s c.args.self.now.store.now.log.gate c.requires.kept path c.args.at.now.ino c.requires.leads inode (sym c.in-Some.ensures) image (empty_path path (sym c.is_empty.ensures ∙ c.if-is_empty.true)))) (c.fields.ensures.adds tells)

pub returns-in_err-made-clause-adds : goal.returns-in_err-made-clause-adds
returns-in_err-made-clause-adds g c tells =
    let O = g.O.Sink in
    let F = g.F.Form in
    let v : ℕ = c.args.self.now.spelling.version in
    let path : List ℕ = c.args.at.now.path.now in
    let s = c.args.self.now.tree.now in
    let inode = c.in-Some.inode.now in
    let image : List ℕ = g.D.Disk.seen c.args.disk.now in
    handed_on _ _ c.made.new.bytes _ _ c.from_residual.result _ c.from_residual.ensures.1
    (subst (λ (cs : List Command). Adds (spelled_all F.spelled v cs) c.args.bytes.now c.made.new.bytes (O.taken c.args.out.now) (O.taken c.made.new.out) (Err c.in_err-made.field-0.0))
    (sym (at_path s c.args.self.now.store.now.log.gate c.requires.kept path c.args.at.now.ino c.requires.leads inode (sym c.in-Some.ensures) image (some_path path (sym c.is_empty.ensures ∙ c.if-is_empty.false))))
    (stops_early (F.spelled v (making path inode.kind inode)) (spelled_all F.spelled v (field_commands image path inode)) c.args.bytes.now c.made.new.bytes _ _ _ c.in_err-made.ensures.adds))

pub returns-clause-adds : goal.returns-clause-adds
returns-clause-adds g c tells =
    let O = g.O.Sink in
    let F = g.F.Form in
    let v : ℕ = c.args.self.now.spelling.version in
    let path : List ℕ = c.args.at.now.path.now in
    let s = c.args.self.now.tree.now in
    let inode = c.in-Some.inode.now in
    let image : List ℕ = g.D.Disk.seen c.args.disk.now in
    subst (λ (cs : List Command). Adds (spelled_all F.spelled v cs) c.args.bytes.now c.fields-2.new.bytes (O.taken c.args.out.now) (O.taken c.fields-2.new.out) c.fields-2.result)
    (sym (at_path s c.args.self.now.store.now.log.gate c.requires.kept path c.args.at.now.ino c.requires.leads inode (sym c.in-Some.ensures) image (some_path path (sym c.is_empty.ensures ∙ c.if-is_empty.false))))
    (then_adds (F.spelled v (making path inode.kind inode)) (spelled_all F.spelled v (field_commands image path inode)) c.args.bytes.now c.made.new.bytes c.fields-2.new.bytes _ _ _ c.fields-2.result c.in_ok-made.ensures.adds (c.fields-2.ensures.adds tells))
