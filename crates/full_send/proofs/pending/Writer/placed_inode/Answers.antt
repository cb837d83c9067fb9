use Rattle.std.specs.Prelude.{◌≡◌, ◌++◌, [], ℕ, Bool, true, false, List, Err, OnOk}
use Rattle.std.proofs.Common.{refl, sym, ap, subst, ◌∙◌, append-nil}
use Rattle.send_model.specs.Map.{Map}
use Rattle.send_model.specs.Subvolume.{is_directory_kind}
use Rattle.snapshot_model.specs.Restored.{arriving, has_temporary}
use Rattle.inode_commands.specs.Spelled.{spelled_all}
use Rattle.subvol_catalog.specs.Entries.{key_of}
use Rattle.full_send.specs.Adding.{Adds}
use Rattle.full_send.specs.Directories.{paths_passed}
use Rattle.full_send.proofs.Added.{handed_on, stops_early, then_adds}
use Rattle.full_send.proofs.HeldInodes.{short_path, inode_there, inode_said, its_cells}
use Rattle.full_send.proofs.RestoredPaths.{spelled_first, rest_of, directory_in, none_in, on_ok, kept_adds}
use Rattle.full_send.proofs.pending.Writer.placed_inode.Goals as goal

pub unreachable-requires : goal.unreachable-requires
unreachable-requires g c = inode_there c.args.self.now.tree.now c.args.self.now.store.now.log.gate c.requires.kept c.args.at.now.path.now c.args.at.now.ino c.requires.leads (sym c.in_default.ensures)

pub arrived-requires-clause-short : goal.arrived-requires-clause-short
arrived-requires-clause-short g c = short_path c.args.self.now.tree.now c.args.self.now.store.now.log.gate c.requires.kept c.args.at.now.path.now c.args.at.now.ino c.requires.leads

pub arrived-requires-clause-said : goal.arrived-requires-clause-said
arrived-requires-clause-said g c = inode_said c.args.self.now.tree.now c.args.self.now.store.now.log.gate c.requires.kept c.args.at.now.path.now c.args.at.now.ino c.requires.leads c.in-Some.inode.now (sym c.in-Some.ensures)

pub filled-requires-clause-short : goal.filled-requires-clause-short
filled-requires-clause-short g c = short_path c.args.self.now.tree.now c.args.self.now.store.now.log.gate c.requires.kept c.args.at.now.path.now c.args.at.now.ino c.requires.leads

pub filled-requires-clause-said : goal.filled-requires-clause-said
filled-requires-clause-said g c = inode_said c.args.self.now.tree.now c.args.self.now.store.now.log.gate c.requires.kept c.args.at.now.path.now c.args.at.now.ino c.requires.leads c.in-Some.inode.now (sym c.in-Some.ensures)

pub filled-requires-clause-cells : goal.filled-requires-clause-cells
filled-requires-clause-cells g c = its_cells c.args.self.now.tree.now c.args.self.now.store.now.log.gate c.requires.kept c.args.at.now.path.now c.args.at.now.ino c.requires.leads c.in-Some.inode.now (sym c.in-Some.ensures) c.args.self.now.store.now.core (key_of c.args.self.now.key) c.requires.found

pub returns-in_err-arrived-clause-adds : goal.returns-in_err-arrived-clause-adds
returns-in_err-arrived-clause-adds g c tells =
    let O = g.O.Sink in
    let F = g.F.Form in
    let v : ℕ = c.args.self.now.spelling.version in
    let s = c.args.self.now.tree.now in
    let inode = c.in-Some.inode.now in
    let image : List ℕ = g.D.Disk.seen c.args.disk.now in
    let once : Bool = has_temporary s c.args.at.now.ino in
    let b : Bool = is_directory_kind inode.kind in
    let is = sym c.in-Some.ensures in
    let end : ℕ = c.args.self.now.store.now.log.gate in
    handed_on _ _ c.arrived.new.bytes _ _ c.from_residual.result _ c.from_residual.ensures.1
    (subst (λ (l : List ℕ). Adds l c.args.bytes.now c.arrived.new.bytes (O.taken c.args.out.now) (O.taken c.arrived.new.out) (Err c.in_err-arrived.field-0.0))
    (sym (spelled_first s end c.requires.kept c.args.at.now.path.now c.args.at.now.ino c.requires.leads inode is image F.spelled v once b refl))
    (stops_early (spelled_all F.spelled v (arriving once c.args.at.now.ino c.args.at.now.path.now inode)) (rest_of s end c.requires.kept c.args.at.now.path.now c.args.at.now.ino c.requires.leads inode is image F.spelled v once b) c.args.bytes.now c.arrived.new.bytes _ _ _ c.in_err-arrived.ensures.adds))

pub returns-then-is_directory-clause-adds : goal.returns-then-is_directory-clause-adds
returns-then-is_directory-clause-adds g c tells =
    let O = g.O.Sink in
    let F = g.F.Form in
    let v : ℕ = c.args.self.now.spelling.version in
    let s = c.args.self.now.tree.now in
    let inode = c.in-Some.inode.now in
    let image : List ℕ = g.D.Disk.seen c.args.disk.now in
    let once : Bool = has_temporary s c.args.at.now.ino in
    let is = sym c.in-Some.ensures in
    let end : ℕ = c.args.self.now.store.now.log.gate in
    let kind : is_directory_kind inode.kind ≡ true = sym c.is_directory.ensures ∙ c.if-is_directory.true in
    subst (λ (l : List ℕ). Adds l c.args.bytes.now c.arrived.new.bytes (O.taken c.args.out.now) (O.taken c.arrived.new.out) c.kept.result)
    (sym (spelled_first s end c.requires.kept c.args.at.now.path.now c.args.at.now.ino c.requires.leads inode is image F.spelled v once true kind))
    (then_adds (spelled_all F.spelled v (arriving once c.args.at.now.ino c.args.at.now.path.now inode)) [] c.args.bytes.now c.arrived.new.bytes c.arrived.new.bytes _ _ _ c.kept.result c.in_ok-arrived.ensures.adds
    (kept_adds c.arrived.new.bytes (O.taken c.arrived.new.out) c.kept.result c.kept.ensures.memory))

pub returns-then-is_directory-clause-directories : goal.returns-then-is_directory-clause-directories
returns-then-is_directory-clause-directories g c =
    let kind : is_directory_kind c.in-Some.inode.now.kind ≡ true = sym c.is_directory.ensures ∙ c.if-is_directory.true in
    subst (λ (m : Map (List ℕ) ℕ). OnOk c.kept.result (paths_passed c.kept.new.directories.items ≡ paths_passed c.args.directories.now.items ++ m))
    (sym (directory_in c.args.self.now.tree.now c.args.self.now.store.now.log.gate c.requires.kept c.args.at.now.path.now c.args.at.now.ino c.requires.leads c.in-Some.inode.now (sym c.in-Some.ensures) kind))
    c.kept.ensures.kept

pub returns-clause-adds : goal.returns-clause-adds
returns-clause-adds g c tells =
    let O = g.O.Sink in
    let F = g.F.Form in
    let v : ℕ = c.args.self.now.spelling.version in
    let s = c.args.self.now.tree.now in
    let inode = c.in-Some.inode.now in
    let image : List ℕ = g.D.Disk.seen c.args.disk.now in
    let once : Bool = has_temporary s c.args.at.now.ino in
    let is = sym c.in-Some.ensures in
    let end : ℕ = c.args.self.now.store.now.log.gate in
    let kind : is_directory_kind inode.kind ≡ false = sym c.is_directory.ensures ∙ c.if-is_directory.false in
    subst (λ (l : List ℕ). Adds l c.args.bytes.now c.filled.new.bytes (O.taken c.args.out.now) (O.taken c.filled.new.out) c.filled.result)
    (sym (spelled_first s end c.requires.kept c.args.at.now.path.now c.args.at.now.ino c.requires.leads inode is image F.spelled v once false kind))
    (then_adds (spelled_all F.spelled v (arriving once c.args.at.now.ino c.args.at.now.path.now inode)) (rest_of s end c.requires.kept c.args.at.now.path.now c.args.at.now.ino c.requires.leads inode is image F.spelled v once false) c.args.bytes.now c.arrived.new.bytes c.filled.new.bytes _ _ _ c.filled.result c.in_ok-arrived.ensures.adds
    (c.filled.ensures.adds tells))

pub returns-clause-directories : goal.returns-clause-directories
returns-clause-directories g c =
    let before : Map (List ℕ) ℕ = paths_passed c.args.directories.now.items in
    let kind : is_directory_kind c.in-Some.inode.now.kind ≡ false = sym c.is_directory.ensures ∙ c.if-is_directory.false in
    on_ok c.filled.result _
    (sym (append-nil before) ∙ ap (λ (m : Map (List ℕ) ℕ). before ++ m)
    (sym (none_in c.args.self.now.tree.now c.args.self.now.store.now.log.gate c.requires.kept c.args.at.now.path.now c.args.at.now.ino c.requires.leads c.in-Some.inode.now (sym c.in-Some.ensures) kind)))
