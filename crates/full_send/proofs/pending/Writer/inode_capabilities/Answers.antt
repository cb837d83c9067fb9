use Rattle.std.specs.Prelude.{ℕ, List, Option}
use Rattle.std.proofs.Common.{sym, ap, subst}
use Rattle.send_model.specs.Subvolume.{Inode}
use Rattle.snapshot_model.specs.Restored.{capability_commands}
use Rattle.inode_commands.specs.Spelled.{spelled_all}
use Rattle.group_replay.specs.declared.place.Place.{Place}
use Rattle.full_send.specs.Adding.{Adds}
use Rattle.full_send.proofs.HeldInodes.{short_path, inode_there, inode_said}
use Rattle.full_send.proofs.RestoredPaths.{listed_is}
use Rattle.full_send.proofs.pending.Writer.inode_capabilities.Goals as goal

pub unreachable-requires : goal.unreachable-requires
unreachable-requires g c = inode_there c.args.self.now.tree.now c.args.self.now.store.now.log.gate c.requires.kept c.args.at.now.path.now c.args.at.now.ino c.requires.leads (sym c.in_default.ensures)

pub capabilities-requires-clause-short : goal.capabilities-requires-clause-short
capabilities-requires-clause-short g c = short_path c.args.self.now.tree.now c.args.self.now.store.now.log.gate c.requires.kept c.args.at.now.path.now c.args.at.now.ino c.requires.leads

pub capabilities-requires-clause-said : goal.capabilities-requires-clause-said
capabilities-requires-clause-said g c = inode_said c.args.self.now.tree.now c.args.self.now.store.now.log.gate c.requires.kept c.args.at.now.path.now c.args.at.now.ino c.requires.leads c.in-Some.inode.now (sym c.in-Some.ensures)

pub returns-clause-adds : goal.returns-clause-adds
returns-clause-adds g c =
    let O = g.O.Sink in
    let F = g.F.Form in
    let v : ℕ = c.args.self.now.spelling.version in
    subst (λ (l : List ℕ). Adds l c.args.bytes.now c.capabilities.new.bytes (O.taken c.args.out.now) (O.taken c.capabilities.new.out) c.capabilities.result)
    (ap (λ (j : Inode (Option Place)). spelled_all F.spelled v (capability_commands c.args.at.now.path.now j))
    (sym (listed_is c.args.self.now.tree.now c.args.self.now.store.now.log.gate c.requires.kept c.args.at.now.path.now c.args.at.now.ino c.requires.leads c.in-Some.inode.now (sym c.in-Some.ensures))))
    c.capabilities.ensures.adds
