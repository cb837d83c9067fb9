use Rattle.std.specs.Prelude.{◌++◌, ◌∷◌, [], ℕ, List, Ok, Err}
use Rattle.std.proofs.Common.{rules, refl, sym, ap, subst, ◌∙◌}
use Rattle.send_model.specs.Map.{Map}
use Rattle.snapshot_model.specs.Restored.{placed}
use Rattle.inode_commands.specs.Spelled.{spelled_all}
use Rattle.path_walk.proofs.Passes.{root_walks}
use Rattle.full_send.specs.Adding.{Adds}
use Rattle.full_send.specs.Directories.{paths_passed, directories_in}
use Rattle.full_send.specs.Held.{with_holes}
use Rattle.full_send.proofs.Added.{handed_on}
use Rattle.full_send.proofs.Parts.{part_first, part_next, part_stops, part_all}
use Rattle.full_send.proofs.RestoredPaths.{places, places_begin, next_places, directories_next, part_no_memory}
use Rattle.full_send.proofs.Walking.{so_far, at_first, step_some, step_none, rest_none, smaller, walks_here}
use Rattle.full_send.proofs.pending.Writer.placed.Goals as goal

pub placed_inode-requires-clause-leads : goal.placed_inode-requires-clause-leads
placed_inode-requires-clause-leads g c = root_walks c.args.self.now.tree.now

pub returns-in_err-placed_inode-clause-adds : goal.returns-in_err-placed_inode-clause-adds
returns-in_err-placed_inode-clause-adds g c tells =
    let O = g.O.Sink in
    let F = g.F.Form in
    let v : ℕ = c.args.self.now.spelling.version in
    let s = c.args.self.now.tree.now in
    let image : List ℕ = g.D.Disk.seen c.args.disk.now in
    let b = at_first s c.requires.kept.lawful c.in-Ok.paths c.in-Ok.ensures.begins in
    handed_on _ _ c.placed_inode.new.bytes _ _ c.from_residual.result _ c.from_residual.ensures.1
    (part_stops _ _ _ _ _ _ c.placed_inode.new.bytes _ _ _ _ (places_begin image s F.spelled v c.requires.kept.lawful c.in-Ok.paths b.0 b.1) (part_first _ _ _ _ refl) (c.in_err-placed_inode.ensures.adds tells))

pub loop-ino-init : goal.loop-ino-init
loop-ino-init g c =
    let F = g.F.Form in
    let v : ℕ = c.args.self.now.spelling.version in
    let s = c.args.self.now.tree.now in
    let image : List ℕ = g.D.Disk.seen c.args.disk.now in
    let b = at_first s c.requires.kept.lawful c.in-Ok.paths c.in-Ok.ensures.begins in
    record {
      len = search rules;
      same = search rules;
      any_moment = search rules;
      steady = search rules;
      out_steady = search rules;
      added = (
        b.0,
        c.in_ok-placed_inode.ensures.directories ∙ ap (λ (ds : List _). paths_passed ds ++ directories_in s (([], 256) ∷ [])) c.requires.none ∙ ap (directories_in s) (sym b.1),
        λ tells. part_next _ _ _ _ _ _ _ _ _ _ (places_begin image s F.spelled v c.requires.kept.lawful c.in-Ok.paths b.0 b.1) (part_first _ _ _ _ refl) (c.in_ok-placed_inode.ensures.adds tells),
      );
    }

pub placed_path-requires-clause-passed : goal.placed_path-requires-clause-passed
placed_path-requires-clause-passed g c =
    let s = c.args.self.now.tree.now in
    let goes = step_some s c.loop-ino.paths c.loop-ino.invariant.added.0 c.next.new.self c.in-Ok-Some.ino c.in-Ok-Some.field-0 c.in-Ok-Some.field-0-is c.in-Ok-Some.ensures.steps in
    goes.reached.same

pub placed_path-requires-clause-leads : goal.placed_path-requires-clause-leads
placed_path-requires-clause-leads g c =
    let s = c.args.self.now.tree.now in
    let goes = step_some s c.loop-ino.paths c.loop-ino.invariant.added.0 c.next.new.self c.in-Ok-Some.ino c.in-Ok-Some.field-0 c.in-Ok-Some.field-0-is c.in-Ok-Some.ensures.steps in
    walks_here s c.next.new.self goes.reached c.requires.kept.lawful ∙ ap (λ (n : ℕ). Ok n) goes.ino_is

pub returns-in_err-placed_path-in-Ok-Some-clause-adds : goal.returns-in_err-placed_path-in-Ok-Some-clause-adds
returns-in_err-placed_path-in-Ok-Some-clause-adds g c tells =
    let D = g.D.Disk in
    let O = g.O.Sink in
    let F = g.F.Form in
    let v : ℕ = c.args.self.now.spelling.version in
    let s = c.args.self.now.tree.now in
    let i = c.loop-ino.invariant in
    let image : List ℕ = D.seen c.args.disk.now in
    let goes = step_some s c.loop-ino.paths i.added.0 c.next.new.self c.in-Ok-Some.ino c.in-Ok-Some.field-0 c.in-Ok-Some.field-0-is c.in-Ok-Some.ensures.steps in
    handed_on _ _ c.placed_path.new.bytes _ _ c.from_residual-in_err-placed_path-in-Ok-Some.result _ c.from_residual-in_err-placed_path-in-Ok-Some.ensures.1
    (part_stops _ _ _ _ _ _ c.placed_path.new.bytes _ _ _ _ (next_places image s F.spelled v c.loop-ino.paths c.next.new.self i.added.0 c.in-Ok-Some.ino goes) (i.added.2 tells)
    (subst (λ (seen : List ℕ). Adds (spelled_all F.spelled v (placed (with_holes seen s) (c.next.new.self.at, c.in-Ok-Some.ino))) c.loop-ino.bytes c.placed_path.new.bytes (O.taken c.loop-ino.out) (O.taken c.placed_path.new.out) (Err c.in_err-placed_path-in-Ok-Some.field-0.0)) ((i.same tells).seen) (c.in_err-placed_path-in-Ok-Some.ensures.adds tells)))

pub loop-ino-preserved : goal.loop-ino-preserved
loop-ino-preserved g c =
    let D = g.D.Disk in
    let O = g.O.Sink in
    let F = g.F.Form in
    let v : ℕ = c.args.self.now.spelling.version in
    let s = c.args.self.now.tree.now in
    let i = c.loop-ino.invariant in
    let image : List ℕ = D.seen c.args.disk.now in
    let goes = step_some s c.loop-ino.paths i.added.0 c.next.new.self c.in-Ok-Some.ino c.in-Ok-Some.field-0 c.in-Ok-Some.field-0-is c.in-Ok-Some.ensures.steps in
    record {
      len = search rules;
      same = search rules;
      any_moment = search rules;
      steady = search rules;
      out_steady = search rules;
      added = (
        goes.reached,
        directories_next s (so_far i.added.0) _ _ (c.next.new.self.at, c.in-Ok-Some.ino) i.added.1 c.in_ok-placed_path-in-Ok-Some.ensures.directories ∙ ap (directories_in s) (sym goes.so_far_is),
        λ tells. part_next _ _ _ _ _ _ _ _ _ _ (next_places image s F.spelled v c.loop-ino.paths c.next.new.self i.added.0 c.in-Ok-Some.ino goes) (i.added.2 tells)
            (subst (λ (seen : List ℕ). Adds (spelled_all F.spelled v (placed (with_holes seen s) (c.next.new.self.at, c.in-Ok-Some.ino))) c.loop-ino.bytes c.placed_path.new.bytes (O.taken c.loop-ino.out) (O.taken c.placed_path.new.out) (Ok c.in_ok-placed_path-in-Ok-Some.field-0)) ((i.same tells).seen) (c.in_ok-placed_path-in-Ok-Some.ensures.adds tells)),
      );
    }

pub loop-ino-smaller : goal.loop-ino-smaller
loop-ino-smaller g c =
    let s = c.args.self.now.tree.now in
    let r = c.loop-ino.invariant.added.0 in
    smaller s c.loop-ino.paths c.next.new.self r c.in-Ok-Some.ino (step_some s c.loop-ino.paths r c.next.new.self c.in-Ok-Some.ino c.in-Ok-Some.field-0 c.in-Ok-Some.field-0-is c.in-Ok-Some.ensures.steps)

pub returns-in-Ok-None-clause-adds : goal.returns-in-Ok-None-clause-adds
returns-in-Ok-None-clause-adds g c tells =
    let F = g.F.Form in
    let v : ℕ = c.args.self.now.spelling.version in
    let s = c.args.self.now.tree.now in
    let i = c.loop-ino.invariant in
    let image : List ℕ = g.D.Disk.seen c.args.disk.now in
    part_all _ _ _ _ _ _ (ap (λ (m : Map (List ℕ) ℕ). spelled_all F.spelled v (places image s m)) (rest_none s c.loop-ino.paths i.added.0 c.next.new.self c.in-Ok-None.field-0 c.in-Ok-None.field-0-is c.in-Ok-None.ensures.steps)) (i.added.2 tells)

pub returns-in-Ok-None-clause-directories : goal.returns-in-Ok-None-clause-directories
returns-in-Ok-None-clause-directories g c =
    let s = c.args.self.now.tree.now in
    let i = c.loop-ino.invariant in
    i.added.1 ∙ ap (directories_in s) (step_none s c.loop-ino.paths i.added.0 c.next.new.self c.in-Ok-None.field-0 c.in-Ok-None.field-0-is c.in-Ok-None.ensures.steps)

pub returns-in-Err-clause-adds : goal.returns-in-Err-clause-adds
returns-in-Err-clause-adds g c tells = part_no_memory _ _ _ _ _ _ (c.loop-ino.invariant.added.2 tells)
