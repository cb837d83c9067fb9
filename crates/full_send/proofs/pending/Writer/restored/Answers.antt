use Rattle.std.specs.Prelude.{◌≡◌, ◌++◌, ℕ, List, Ok}
use Rattle.std.specs.List.{AllByRecursion}
use Rattle.std.proofs.Common.{rules, refl, sym, ap, subst, ◌∙◌}
use Rattle.send_model.specs.Map.{Map}
use Rattle.send_model.specs.Subvolume.{walk}
use Rattle.snapshot_model.specs.Listing.{paths_of}
use Rattle.inode_commands.specs.Spelled.{spelled_all}
use Rattle.full_send.specs.Directories.{paths_passed}
use Rattle.full_send.proofs.Added.{handed_on}
use Rattle.full_send.proofs.LastCapabilities.{comes}
use Rattle.full_send.proofs.LastDirectories.{ends_back, back_is, last_ends, last_leads, rest_lead, none_left}
use Rattle.full_send.proofs.Parts.{part_first, part_next, part_stops, part_last}
use Rattle.full_send.proofs.RestoredPaths.{places, directories_behind, directories_lead}
use Rattle.full_send.proofs.pending.Writer.restored.Goals as goal

pub returns-in_err-placed-clause-adds : goal.returns-in_err-placed-clause-adds
returns-in_err-placed-clause-adds g c tells =
    let F = g.F.Form in
    let v : ℕ = c.args.self.now.spelling.version in
    let image : List ℕ = g.D.Disk.seen c.args.disk.now in
    handed_on _ _ c.placed.new.bytes _ _ c.from_residual.result _ c.from_residual.ensures.1
    (part_stops _ _ _ _ _ _ c.placed.new.bytes _ _ _ _ (directories_behind image c.args.self.now.tree.now F.spelled v) (part_first _ _ _ _ refl) (c.in_err-placed.ensures.adds tells))

pub loop-directory-init : goal.loop-directory-init
loop-directory-init g c =
    let F = g.F.Form in
    let v : ℕ = c.args.self.now.spelling.version in
    let s = c.args.self.now.tree.now in
    let image : List ℕ = g.D.Disk.seen c.args.disk.now in
    let are = c.in_ok-placed.ensures.directories in
    record {
      len = search rules;
      same = search rules;
      any_moment = search rules;
      steady = search rules;
      out_steady = search rules;
      lead = subst (λ (m : Map (List ℕ) ℕ). AllByRecursion (λ e. walk s e.0 ≡ Ok e.1) m) (sym are) (directories_lead s c.requires.kept.lawful);
      added = λ tells.
          part_next _ _ _ _ _ _ _ _ _ _
          (directories_behind image s F.spelled v ∙ ap (λ (l : List ℕ). spelled_all F.spelled v (places image s (paths_of s)) ++ (l ++ spelled_all F.spelled v (comes s (paths_of s)))) (ap (spelled_all F.spelled v) (back_is image s (paths_of s) ∙ ap (ends_back s) (sym are))))
          (part_first _ _ _ _ refl) (c.in_ok-placed.ensures.adds tells);
    }

pub finished-requires-clause-leads : goal.finished-requires-clause-leads
finished-requires-clause-leads g c = last_leads c.args.self.now.tree.now c.loop-directory.directories.items c.pop.new.self.items c.in-Some.directory c.in-Some.ensures.items c.loop-directory.invariant.lead

pub returns-in_err-finished-clause-adds : goal.returns-in_err-finished-clause-adds
returns-in_err-finished-clause-adds g c tells =
    let F = g.F.Form in
    let v : ℕ = c.args.self.now.spelling.version in
    handed_on _ _ c.finished.new.bytes _ _ c.from_residual-in_err-finished.result _ c.from_residual-in_err-finished.ensures.1
    (part_stops _ _ _ _ _ _ c.finished.new.bytes _ _ _ _ (last_ends c.args.self.now.tree.now c.loop-directory.directories.items c.pop.new.self.items c.in-Some.directory c.in-Some.ensures.items F.spelled v (spelled_all F.spelled v (comes c.args.self.now.tree.now (paths_of c.args.self.now.tree.now)))) (c.loop-directory.invariant.added tells)
    c.in_err-finished.ensures.adds)

pub loop-directory-preserved : goal.loop-directory-preserved
loop-directory-preserved g c =
    let F = g.F.Form in
    let v : ℕ = c.args.self.now.spelling.version in
    let i = c.loop-directory.invariant in
    record {
      len = search rules;
      same = search rules;
      any_moment = search rules;
      steady = search rules;
      out_steady = search rules;
      lead = rest_lead c.args.self.now.tree.now c.loop-directory.directories.items c.pop.new.self.items c.in-Some.directory c.in-Some.ensures.items i.lead;
      added = λ tells.
          part_next _ _ _ _ _ _ _ _ _ _ (last_ends c.args.self.now.tree.now c.loop-directory.directories.items c.pop.new.self.items c.in-Some.directory c.in-Some.ensures.items F.spelled v (spelled_all F.spelled v (comes c.args.self.now.tree.now (paths_of c.args.self.now.tree.now)))) (i.added tells)
          c.in_ok-finished.ensures.adds;
    }

pub returns-in_default-clause-adds : goal.returns-in_default-clause-adds
returns-in_default-clause-adds g c tells =
    let F = g.F.Form in
    let v : ℕ = c.args.self.now.spelling.version in
    let s = c.args.self.now.tree.now in
    part_last _ _ _ _ _ _ _ _ _ _ (ap (λ (ds : List _). spelled_all F.spelled v (ends_back s (paths_passed ds)) ++ spelled_all F.spelled v (comes s (paths_of s)))
    (none_left c.loop-directory.directories.items c.pop.new.self.items _ c.in_default.ensures.items c.in_default.ensures.rest c.in_default.ensures.cases.0)) (c.loop-directory.invariant.added tells) c.all_capabilities.ensures.adds
