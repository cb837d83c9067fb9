use Rattle.std.specs.List.{AllByRecursion}
use Rattle.store_model.specs.Stored.{IsEdit}
use Rattle.std.specs.Prelude.{◌≡◌, ◌+◌, ◌-◌, ◌<◌, ◌≤◌, ◌++◌, ℕ, List, Err, None, length, take, drop}
use Rattle.std.proofs.Common.{refl, sym, ap, subst, ◌∙◌, arith, append-nil}
use Rattle.sx_base.specs.Causes.{Rose}
use Rattle.sx_base.proofs.DiskMoments.{begins, joins}
use Rattle.send_model.specs.Command.{Command}
use Rattle.send_model.specs.Spelling.{canonical, canonical_all}
use Rattle.group_log.proofs.GatedGroups.{grows_has}
use Rattle.group_replay.specs.Taking.{as_runs}
use Rattle.group_replay.specs.Stopping.{IfLog}
use Rattle.store_journal.specs.Filling.{first_full, piece_asks, IsStopOf}
use Rattle.store_journal.specs.Holding.{bodies_of}
use Rattle.store_journal.proofs.Unpacked.{Builds}
use Rattle.store_model.proofs.TurnMaking.{edits_end}
use Rattle.turn_sessions.specs.Edits.{AreMade, IsFront, frame_asks}
use Rattle.turn_sessions.proofs.FramesLeft.{all_rest, front_there, rest_next, next_wants, none_left, stop_rest, front_shown, front_fits, some_left}
use Rattle.turn_sessions.proofs.frames.write_frames.Goals as goal

pub loop-at-init : goal.loop-at-init
loop-at-init g c = record {
  within = omega arith;
  key = refl;
  core = refl;
  gate = refl;
  limit = refl;
  size = omega arith;
  is_open = c.requires.is_open;
  rest = λ commands are. all_rest g.D.Disk.tells g.D.Disk.seen g.D.Disk.pending c.args.disk.now c.args.version c.args.frames.now c.args.store.now c.args.part.now commands are;
  any_moment = λ tells header groups before builds. begins c.args.disk.now (λ image. g.met.D.Disk.only_now c.args.disk.now image tells) (grows_has header (bodies_of groups) _ _ _ _ builds.grows);
  later = omega arith;
  steady = refl;
}

pub write_front-requires-clause-next : goal.write_front-requires-clause-next
write_front-requires-clause-next g c =
    let r = c.requires.frames in
    let n = next_wants g.D.Disk.tells g.D.Disk.seen g.D.Disk.pending c.args.disk.now c.loop-at.disk c.loop-at.disk c.args.version c.args.frames.now c.loop-at.at c.args.store.now c.loop-at.store c.loop-at.store c.args.part.now c.loop-at.part c.loop-at.part r.0 r.1
    (c.loop-at.invariant.rest r.0 r.2) (some_left c.loop-at.at c.args.frames.now c.loop-at-test.true) r.3 in
    (n.0, n.1, n.2, front_shown c.args.version c.loop-at.at c.args.frames.now n.0 n.1 n.3, n.4)

pub returns-in-Err-clause-any_moment : goal.returns-in-Err-clause-any_moment
returns-in-Err-clause-any_moment g c tells header groups before builds =
    let r = c.requires.frames in
    let x = c.loop-at.invariant.rest r.0 r.2 in
    joins (c.loop-at.invariant.any_moment tells header groups before builds) (c.in-Err.ensures.any_moment tells header groups (before ++ x.done) (x.builds tells header groups before builds))

pub returns-in-Err-clause-stops : goal.returns-in-Err-clause-stops
returns-in-Err-clause-stops g c commands are =
    let i = c.loop-at.invariant in
    let x = i.rest commands are in
    let n = front_there c.args.version (drop c.loop-at.at c.args.frames.now) x.rest (some_left c.loop-at.at c.args.frames.now c.loop-at-test.true) x.lawful x.spelled in
    let limit : ℕ = c.args.store.now.log.limit in
    let cause : Type 0 = Rose (g.D.Disk.faults c.args.disk.now) (g.D.Disk.faults c.write_front.new.disk) in
    let one : IfLog {T = Unit {0}} (Err c.in-Err.why) (IsStopOf cause limit (first_full limit (piece_asks c.loop-at.store.log.size (length (canonical c.args.version n.0))))) =
    subst (λ (k : ℕ). IfLog {T = Unit {0}} (Err c.in-Err.why) (IsStopOf (Rose k (g.D.Disk.faults c.write_front.new.disk)) limit (first_full limit (piece_asks c.loop-at.store.log.size (length (canonical c.args.version n.0)))))) i.steady
    (subst (λ (k : ℕ). IfLog {T = Unit {0}} (Err c.in-Err.why) (IsStopOf (Rose (g.D.Disk.faults c.loop-at.disk) (g.D.Disk.faults c.write_front.new.disk)) k (first_full k (piece_asks c.loop-at.store.log.size (length (canonical c.args.version n.0)))))) i.limit
    (c.in-Err.ensures.stops n.0 (canonical_all c.args.version n.1) (front_shown c.args.version c.loop-at.at c.args.frames.now n.0 (canonical_all c.args.version n.1) n.3))) in
    stop_rest cause limit c.args.version commands n.1 c.args.store.now.log.size c.loop-at.store.log.size n.0 c.in-Err.why
    (x.room ∙ ap (λ (l : List Command). first_full limit (frame_asks c.args.version c.loop-at.store.log.size l)) n.2) one

pub loop-at-preserved : goal.loop-at-preserved
loop-at-preserved g c =
    let i = c.loop-at.invariant in
    let some = some_left c.loop-at.at c.args.frames.now c.loop-at-test.true in
    let r = c.requires.frames in
    let x0 = i.rest r.0 r.2 in
    let n = front_there c.args.version (drop c.loop-at.at c.args.frames.now) x0.rest some x0.lawful x0.spelled in
    let show = front_shown c.args.version c.loop-at.at c.args.frames.now in
    let e = c.in-Ok.ensures in
    let fit = front_fits c.args.version c.loop-at.at c.in-Ok.len c.args.frames.now n.0 (canonical_all c.args.version n.1) i.within n.3 (e.len n.0 (canonical_all c.args.version n.1) (show n.0 (canonical_all c.args.version n.1) n.3)) in
    let size = e.size n.0 (canonical_all c.args.version n.1) (show n.0 (canonical_all c.args.version n.1) n.3) in
    let long = e.len n.0 (canonical_all c.args.version n.1) (show n.0 (canonical_all c.args.version n.1) n.3) in
    record {
      within = fit.0;
      key = e.key ∙ i.key;
      core = e.core ∙ i.core;
      gate = e.gate ∙ i.gate;
      limit = e.limit ∙ i.limit;
      size = omega (arith, size, long, i.size);
      is_open = e.still_open;
      rest = λ commands are.
          rest_next g.D.Disk.tells g.D.Disk.seen g.D.Disk.pending c.args.disk.now c.loop-at.disk c.write_front.new.disk c.args.version c.args.frames.now c.loop-at.at c.args.store.now c.loop-at.store c.write_front.new.store c.args.part.now c.loop-at.part c.write_front.new.part commands c.in-Ok.len
          (i.rest commands are) some e.key e.core
          (λ d more f. e.len d more (show d more f))
          (λ d more f. e.size d more (show d more f))
          (λ d more m f t. e.edited d more m (show d more f) t)
          (λ d more f. subst (λ (k : ℕ). first_full k (piece_asks c.loop-at.store.log.size (length (canonical c.args.version d))) ≡ None) i.limit (e.fits d more (show d more f)))
          (λ tells header groups first d more f b. e.builds tells header groups first d more (show d more f) b);
      any_moment = λ tells header groups before builds.
          joins (i.any_moment tells header groups before builds) (e.any_moment tells header groups (before ++ x0.done) (x0.builds tells header groups before builds));
      later = omega (arith, i.later, e.later);
      steady = e.steady ∙ i.steady;
    }

pub returns-clause-made : goal.returns-clause-made
returns-clause-made g c commands end are made =
    let x = c.loop-at.invariant.rest commands are in
    let none = none_left c.args.version c.loop-at.at c.args.frames.now x.rest (omega (arith, c.loop-at-test.false)) x.lawful x.spelled in
    edits_end None as_runs c.args.version c.loop-at.store.log.size _ end (subst (λ (l : List Command). AreMade c.args.version c.loop-at.store c.loop-at.part l end) none (x.made end made))

pub returns-clause-builds : goal.returns-clause-builds
returns-clause-builds g c tells header groups before commands are builds =
    let x = c.loop-at.invariant.rest commands are in
    let none = none_left c.args.version c.loop-at.at c.args.frames.now x.rest (omega (arith, c.loop-at-test.false)) x.lawful x.spelled in
    subst (λ (l : List Command). Builds header groups c.args.version (before ++ l) c.loop-at.part c.loop-at.store (g.D.Disk.seen c.loop-at.disk) (g.D.Disk.pending c.loop-at.disk)) (sym (x.all ∙ ap (λ (l : List Command). x.done ++ l) none ∙ append-nil x.done))
    (x.builds tells header groups before builds)

pub returns-clause-fits : goal.returns-clause-fits
returns-clause-fits g c commands are =
    let x = c.loop-at.invariant.rest commands are in
    let none = none_left c.args.version c.loop-at.at c.args.frames.now x.rest (omega (arith, c.loop-at-test.false)) x.lawful x.spelled in
    x.room ∙ ap (λ (l : List Command). first_full c.args.store.now.log.limit (frame_asks c.args.version c.loop-at.store.log.size l)) none

module _ (version at len : ℕ) (frames : List ℕ) (rest : List Command) where
  next_fit : at ≤ length frames → at < length frames → AllByRecursion (IsEdit version) rest → drop at frames ≡ canonical_all version rest
      → ((c : Command) (more : List ℕ) → IsFront version (take (length frames - at) (drop at frames)) c more → len ≡ length (canonical version c)) → (at + len ≤ length frames) × (0 < len)
  next_fit within lt lawful spelled says =
      let n = front_there version (drop at frames) rest (some_left at frames lt) lawful spelled in
      front_fits version at len frames n.0 (canonical_all version n.1) within n.3 (says n.0 (canonical_all version n.1) (front_shown version at frames n.0 (canonical_all version n.1) n.3))

pub overflow_add-at : goal.overflow_add-at
overflow_add-at g c =
    let r = c.requires.frames in
    let x = c.loop-at.invariant.rest r.0 r.2 in
    let f = next_fit c.args.version c.loop-at.at c.in-Ok.len c.args.frames.now x.rest c.loop-at.invariant.within c.loop-at-test.true x.lawful x.spelled c.in-Ok.ensures.len in
    omega (arith, f.0, c.type_inv.frames)

pub loop-at-smaller : goal.loop-at-smaller
loop-at-smaller g c =
    let r = c.requires.frames in
    let x = c.loop-at.invariant.rest r.0 r.2 in
    let f = next_fit c.args.version c.loop-at.at c.in-Ok.len c.args.frames.now x.rest c.loop-at.invariant.within c.loop-at-test.true x.lawful x.spelled c.in-Ok.ensures.len in
    omega (arith, f.0, f.1)
