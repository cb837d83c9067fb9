use Rattle.std.specs.Prelude.{ℕ, List, Ok}
use Rattle.std.proofs.Common.{rules, refl, ap, ◌∙◌}
use Rattle.send_model.specs.Map.{Map}
use Rattle.inode_commands.specs.Spelled.{spelled_all}
use Rattle.path_walk.proofs.Passes.{root_walks}
use Rattle.full_send.proofs.Added.{handed_on}
use Rattle.full_send.proofs.LastCapabilities.{comes, comes_begin, next_comes}
use Rattle.full_send.proofs.Parts.{part_first, part_next, part_stops, part_all}
use Rattle.full_send.proofs.RestoredPaths.{part_no_memory}
use Rattle.full_send.proofs.Walking.{at_first, step_some, rest_none, smaller, walks_here}
use Rattle.full_send.proofs.pending.Writer.all_capabilities.Goals as goal

pub inode_capabilities-requires-clause-leads : goal.inode_capabilities-requires-clause-leads
inode_capabilities-requires-clause-leads g c = root_walks c.args.self.now.tree.now

pub loop-ino-init : goal.loop-ino-init
loop-ino-init g c =
    let F = g.F.Form in
    let v : ℕ = c.args.self.now.spelling.version in
    let s = c.args.self.now.tree.now in
    let b = at_first s c.requires.kept.lawful c.in-Ok.paths c.in-Ok.ensures.begins in record {
      out_steady = search rules;
      added = (b.0, part_next _ _ _ _ _ _ _ _ _ _ (comes_begin s F.spelled v c.in-Ok.paths b.0 b.1) (part_first _ _ _ _ refl) c.in_ok-inode_capabilities.ensures.adds);
    }

pub returns-in_err-inode_capabilities-clause-adds : goal.returns-in_err-inode_capabilities-clause-adds
returns-in_err-inode_capabilities-clause-adds g c =
    let F = g.F.Form in
    let v : ℕ = c.args.self.now.spelling.version in
    let s = c.args.self.now.tree.now in
    let b = at_first s c.requires.kept.lawful c.in-Ok.paths c.in-Ok.ensures.begins in
    handed_on _ _ c.inode_capabilities.new.bytes _ _ c.from_residual.result _ c.from_residual.ensures.1
    (part_stops _ _ _ _ _ _ c.inode_capabilities.new.bytes _ _ _ _ (comes_begin s F.spelled v c.in-Ok.paths b.0 b.1) (part_first _ _ _ _ refl) c.in_err-inode_capabilities.ensures.adds)

pub path_capabilities-requires-clause-leads : goal.path_capabilities-requires-clause-leads
path_capabilities-requires-clause-leads g c =
    let s = c.args.self.now.tree.now in
    let r = c.loop-ino.invariant.added.0 in
    let goes = step_some s c.loop-ino.paths r c.next.new.self c.in-Ok-Some.ino c.in-Ok-Some.field-0 c.in-Ok-Some.field-0-is c.in-Ok-Some.ensures.steps in
    walks_here s c.next.new.self goes.reached c.requires.kept.lawful ∙ ap (λ (n : ℕ). Ok n) goes.ino_is

pub path_capabilities-requires-clause-passed : goal.path_capabilities-requires-clause-passed
path_capabilities-requires-clause-passed g c =
    let s = c.args.self.now.tree.now in
    let r = c.loop-ino.invariant.added.0 in
    (step_some s c.loop-ino.paths r c.next.new.self c.in-Ok-Some.ino c.in-Ok-Some.field-0 c.in-Ok-Some.field-0-is c.in-Ok-Some.ensures.steps).reached.same

pub loop-ino-smaller : goal.loop-ino-smaller
loop-ino-smaller g c =
    let s = c.args.self.now.tree.now in
    let r = c.loop-ino.invariant.added.0 in
    smaller s c.loop-ino.paths c.next.new.self r c.in-Ok-Some.ino
    (step_some s c.loop-ino.paths r c.next.new.self c.in-Ok-Some.ino c.in-Ok-Some.field-0 c.in-Ok-Some.field-0-is c.in-Ok-Some.ensures.steps)

pub loop-ino-preserved : goal.loop-ino-preserved
loop-ino-preserved g c =
    let F = g.F.Form in
    let v : ℕ = c.args.self.now.spelling.version in
    let s = c.args.self.now.tree.now in
    let i = c.loop-ino.invariant in
    let r = i.added.0 in
    let goes = step_some s c.loop-ino.paths r c.next.new.self c.in-Ok-Some.ino c.in-Ok-Some.field-0 c.in-Ok-Some.field-0-is c.in-Ok-Some.ensures.steps in record {
      out_steady = search rules;
      added = (
        goes.reached,
        part_next _ _ _ _ _ _ _ _ _ _ (next_comes s F.spelled v c.loop-ino.paths c.next.new.self r c.in-Ok-Some.ino goes) i.added.1 c.in_ok-path_capabilities-in-Ok-Some.ensures.adds,
      );
    }

pub returns-in_err-path_capabilities-in-Ok-Some-clause-adds : goal.returns-in_err-path_capabilities-in-Ok-Some-clause-adds
returns-in_err-path_capabilities-in-Ok-Some-clause-adds g c =
    let F = g.F.Form in
    let v : ℕ = c.args.self.now.spelling.version in
    let s = c.args.self.now.tree.now in
    let i = c.loop-ino.invariant in
    let r = i.added.0 in
    let goes = step_some s c.loop-ino.paths r c.next.new.self c.in-Ok-Some.ino c.in-Ok-Some.field-0 c.in-Ok-Some.field-0-is c.in-Ok-Some.ensures.steps in
    handed_on _ _ c.path_capabilities.new.bytes _ _ c.from_residual-in_err-path_capabilities-in-Ok-Some.result _ c.from_residual-in_err-path_capabilities-in-Ok-Some.ensures.1
    (part_stops _ _ _ _ _ _ c.path_capabilities.new.bytes _ _ _ _ (next_comes s F.spelled v c.loop-ino.paths c.next.new.self r c.in-Ok-Some.ino goes) i.added.1 c.in_err-path_capabilities-in-Ok-Some.ensures.adds)

pub returns-in-Ok-None-clause-adds : goal.returns-in-Ok-None-clause-adds
returns-in-Ok-None-clause-adds g c =
    let F = g.F.Form in
    let v : ℕ = c.args.self.now.spelling.version in
    let s = c.args.self.now.tree.now in
    let i = c.loop-ino.invariant in
    let none = rest_none s c.loop-ino.paths i.added.0 c.next.new.self c.in-Ok-None.field-0 c.in-Ok-None.field-0-is c.in-Ok-None.ensures.steps in
    part_all _ _ _ _ _ _ (ap (λ (m : Map (List ℕ) ℕ). spelled_all F.spelled v (comes s m)) none) i.added.1

pub returns-in-Err-clause-adds : goal.returns-in-Err-clause-adds
returns-in-Err-clause-adds g c = part_no_memory _ _ _ _ _ _ c.loop-ino.invariant.added.1
