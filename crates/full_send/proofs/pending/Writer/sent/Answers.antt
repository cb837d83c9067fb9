use Rattle.std.specs.Prelude.{ℕ, List, [], Ok, Err}
use Rattle.std.proofs.Common.{rules, refl, sym, ap, subst, ◌∙◌, append-nil}
use Rattle.snapshot_model.specs.Listing.{listed}
use Rattle.snapshot_model.specs.Sent.{listed_commands}
use Rattle.inode_commands.specs.Spelled.{spelled_all}
use Rattle.store_commands.specs.declared.ends.StoreEnd.TheVariants as made
use Rattle.sx_base.specs.declared.outcome.Outcome.TheVariants as ended
use Rattle.path_walk.proofs.Passes.{root_walks}
use Rattle.full_send.specs.Adding.{Adds, TextAdded}
use Rattle.full_send.specs.Held.{with_holes}
use Rattle.full_send.proofs.Added.{handed_on, nothing_sent}
use Rattle.full_send.proofs.Parts.{part_first, part_next, part_stops, part_all}
use Rattle.full_send.proofs.SentPaths.{sends, begins_with_root, next_sends}
use Rattle.full_send.proofs.Walking.{at_first, step_some, rest_none, smaller, walks_here}
use Rattle.full_send.proofs.pending.Writer.sent.Goals as goal

pub sent_inode-requires-clause-leads : goal.sent_inode-requires-clause-leads
sent_inode-requires-clause-leads g c = root_walks c.args.self.now.tree.now

pub loop-ino-init : goal.loop-ino-init
loop-ino-init g c =
    let F = g.F.Form in
    let v : ℕ = c.args.self.now.spelling.version in
    let s = c.args.self.now.tree.now in
    let b = at_first s c.requires.kept.lawful c.in-Ok.paths c.in-Ok.ensures.begins in record {
      len = search rules;
      same = search rules;
      any_moment = search rules;
      steady = search rules;
      out_steady = search rules;
      added = (
        b.0,
        λ tells.
            let image : List ℕ = g.D.Disk.seen c.args.disk.now in
            part_next _ _ _ _ _ _ _ _ _ _ (begins_with_root image s F.spelled v c.requires.kept.lawful c.in-Ok.paths b.0 b.1) (part_first _ _ _ _ refl) (c.in_ok-sent_inode.ensures.adds tells),
      );
    }

pub returns-in_err-sent_inode-clause-adds : goal.returns-in_err-sent_inode-clause-adds
returns-in_err-sent_inode-clause-adds g c tells =
    let F = g.F.Form in
    let v : ℕ = c.args.self.now.spelling.version in
    let s = c.args.self.now.tree.now in
    let image : List ℕ = g.D.Disk.seen c.args.disk.now in
    let b = at_first s c.requires.kept.lawful c.in-Ok.paths c.in-Ok.ensures.begins in
    handed_on _ _ c.sent_inode.new.bytes _ _ c.from_residual.result _ c.from_residual.ensures.1
    (part_stops _ _ _ _ _ _ c.sent_inode.new.bytes _ _ _ _ (begins_with_root image s F.spelled v c.requires.kept.lawful c.in-Ok.paths b.0 b.1) (part_first _ _ _ _ refl) (c.in_err-sent_inode.ensures.adds tells))

pub sent_path-requires-clause-leads : goal.sent_path-requires-clause-leads
sent_path-requires-clause-leads g c =
    let s = c.args.self.now.tree.now in
    let r = c.loop-ino.invariant.added.0 in
    let goes = step_some s c.loop-ino.paths r c.next.new.self c.in-Ok-Some.ino c.in-Ok-Some.field-0 c.in-Ok-Some.field-0-is c.in-Ok-Some.ensures.steps in
    walks_here s c.next.new.self goes.reached c.requires.kept.lawful ∙ ap (λ (n : ℕ). Ok n) goes.ino_is

pub sent_path-requires-clause-passed : goal.sent_path-requires-clause-passed
sent_path-requires-clause-passed g c =
    let s = c.args.self.now.tree.now in
    let r = c.loop-ino.invariant.added.0 in
    (step_some s c.loop-ino.paths r c.next.new.self c.in-Ok-Some.ino c.in-Ok-Some.field-0 c.in-Ok-Some.field-0-is c.in-Ok-Some.ensures.steps).reached.same

pub loop-ino-smaller : goal.loop-ino-smaller
loop-ino-smaller g c =
    let s = c.args.self.now.tree.now in
    let r = c.loop-ino.invariant.added.0 in
    smaller s c.loop-ino.paths c.next.new.self r c.in-Ok-Some.ino
    (step_some s c.loop-ino.paths r c.next.new.self c.in-Ok-Some.ino c.in-Ok-Some.field-0 c.in-Ok-Some.field-0-is c.in-Ok-Some.ensures.steps)

pub loop-ino-preserved : goal.loop-ino-preserved
loop-ino-preserved g c =
    let F = g.F.Form in
    let O = g.O.Sink in
    let v : ℕ = c.args.self.now.spelling.version in
    let s = c.args.self.now.tree.now in
    let i = c.loop-ino.invariant in
    let r = i.added.0 in
    let goes = step_some s c.loop-ino.paths r c.next.new.self c.in-Ok-Some.ino c.in-Ok-Some.field-0 c.in-Ok-Some.field-0-is c.in-Ok-Some.ensures.steps in record {
      len = search rules;
      same = search rules;
      any_moment = search rules;
      steady = search rules;
      out_steady = search rules;
      added = (
        goes.reached,
        λ tells.
            let image : List ℕ = g.D.Disk.seen c.args.disk.now in
            part_next _ _ _ _ _ _ _ _ _ _ (next_sends image s F.spelled v c.loop-ino.paths c.next.new.self r c.in-Ok-Some.ino goes) (i.added.1 tells)
            (subst (λ (image : List ℕ). TextAdded (spelled_all F.spelled v (listed_commands (c.next.new.self.at, listed (with_holes image s) c.in-Ok-Some.ino))) c.loop-ino.bytes c.sent_path.new.bytes (O.taken c.loop-ino.out) (O.taken c.sent_path.new.out))
            ((i.same tells).seen) (c.in_ok-sent_path-in-Ok-Some.ensures.adds tells)),
      );
    }

pub returns-in_err-sent_path-in-Ok-Some-clause-adds : goal.returns-in_err-sent_path-in-Ok-Some-clause-adds
returns-in_err-sent_path-in-Ok-Some-clause-adds g c tells =
    let F = g.F.Form in
    let O = g.O.Sink in
    let v : ℕ = c.args.self.now.spelling.version in
    let s = c.args.self.now.tree.now in
    let i = c.loop-ino.invariant in
    let r = i.added.0 in
    let image : List ℕ = g.D.Disk.seen c.args.disk.now in
    let goes = step_some s c.loop-ino.paths r c.next.new.self c.in-Ok-Some.ino c.in-Ok-Some.field-0 c.in-Ok-Some.field-0-is c.in-Ok-Some.ensures.steps in
    handed_on _ _ c.sent_path.new.bytes _ _ c.from_residual-in_err-sent_path-in-Ok-Some.result _ c.from_residual-in_err-sent_path-in-Ok-Some.ensures.1
    (part_stops _ _ _ _ _ _ c.sent_path.new.bytes _ _ _ _ (next_sends image s F.spelled v c.loop-ino.paths c.next.new.self r c.in-Ok-Some.ino goes) (i.added.1 tells)
    (subst (λ (image : List ℕ). Adds (spelled_all F.spelled v (listed_commands (c.next.new.self.at, listed (with_holes image s) c.in-Ok-Some.ino))) c.loop-ino.bytes c.sent_path.new.bytes (O.taken c.loop-ino.out) (O.taken c.sent_path.new.out)
    (Err c.in_err-sent_path-in-Ok-Some.field-0.0)) ((i.same tells).seen) (c.in_err-sent_path-in-Ok-Some.ensures.adds tells)))

pub returns-in-Ok-None-clause-adds : goal.returns-in-Ok-None-clause-adds
returns-in-Ok-None-clause-adds g c tells =
    let F = g.F.Form in
    let v : ℕ = c.args.self.now.spelling.version in
    let s = c.args.self.now.tree.now in
    let i = c.loop-ino.invariant in
    let r = i.added.0 in
    let image : List ℕ = g.D.Disk.seen c.args.disk.now in
    let none = rest_none s c.loop-ino.paths r c.next.new.self c.in-Ok-None.field-0 c.in-Ok-None.field-0-is c.in-Ok-None.ensures.steps in
    part_all _ _ _ _ _ _ (ap (λ (m : _). spelled_all F.spelled v (sends image s m)) none) (i.added.1 tells)

pub returns-in-Err-clause-adds : goal.returns-in-Err-clause-adds
returns-in-Err-clause-adds g c tells =
    let O = g.O.Sink in
    let F = g.F.Form in
    let i = c.loop-ino.invariant in
    let left : List ℕ = spelled_all F.spelled c.args.self.now.spelling.version (sends (g.D.Disk.seen c.args.disk.now) c.args.self.now.tree.now i.added.0.rest) in
    part_stops _ left left [] c.args.bytes.now c.loop-ino.bytes c.loop-ino.bytes (O.taken c.args.out.now) (O.taken c.loop-ino.out) (O.taken c.loop-ino.out) (made.Ends ended.NoMemory) (sym (append-nil left)) (i.added.1 tells)
    (nothing_sent left c.loop-ino.bytes (O.taken c.loop-ino.out))
