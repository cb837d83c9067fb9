use Rattle.std.proofs.Common.{◌≡◌, ℕ, ◌+◌, ◌++◌, List, length, take, refl, sym, ◌∙◌, ap, subst, arith, length-append, append_assoc}
use Rattle.std.proofs.lemmas.List.{append-nil, take_all}
use Rattle.sx_base.proofs.DiskMoments.{begins, joins}
use Rattle.group_log.specs.State.{LogState}
use Rattle.group_log.specs.Journal.{Grows}
use Rattle.log_tests.specs.Published.{joined}
use Rattle.group_log.proofs.GatedGroups.{grows_has}
use Rattle.log_tests.proofs.Publishing.{joined_next}
use Rattle.log_tests.proofs.client.append_all.Goals as goal

pub loop-piece-init : goal.loop-piece-init
loop-piece-init g c = record {
  in_progress = c.requires;
  gate = refl;
  size = omega arith;
  grows = λ tells header bodies body grows. subst (λ (l : List ℕ). Grows header bodies l c.args.log.now (g.D.Disk.seen c.args.disk.now) (g.D.Disk.pending c.args.disk.now)) (sym (append-nil body)) grows;
  any_moment = λ tells header bodies body grows. begins c.args.disk.now (λ image. g.met.D.Disk.only_now c.args.disk.now image tells) (grows_has header bodies body c.args.log.now _ _ grows);
}

pub loop-piece-preserved : goal.loop-piece-preserved
loop-piece-preserved g c =
    let i = c.loop-piece.piece-index in
    let pieces = c.args.pieces.now in
    let before = c.loop-piece.invariant in
    let so_far = joined (take i pieces) in
    let next : so_far ++ c.as_slice.result.now ≡ joined (take (i + 1) pieces) =
    ap (λ (l : List ℕ). so_far ++ l) c.as_slice.ensures.value ∙ sym (joined_next pieces i c.piece-item.result c.loop-piece-test.true c.piece-item.is) in
    record {
      in_progress = c.in_ok-append.ensures.in_progress;
      gate = ap (λ (l : LogState). l.gate) c.in_ok-append.ensures.appended ∙ before.gate;
      size = omega (arith, ap (λ (l : LogState). l.size) c.in_ok-append.ensures.appended, before.size, ap length next, length-append so_far c.as_slice.result.now);
      grows = λ tells header bodies body grows.
          subst (λ (l : List ℕ). Grows header bodies l c.append.new.self (g.D.Disk.seen c.append.new.disk) (g.D.Disk.pending c.append.new.disk)) (append_assoc body so_far c.as_slice.result.now ∙ ap (λ (l : List ℕ). body ++ l) next)
          (c.in_ok-append.ensures.grows tells header bodies (body ++ so_far) (before.grows tells header bodies body grows));
      any_moment = λ tells header bodies body grows. joins (before.any_moment tells header bodies body grows) (c.append.ensures.any_moment tells header bodies (body ++ so_far) (before.grows tells header bodies body grows));
    }

pub returns-in_err-append-clause-any_moment : goal.returns-in_err-append-clause-any_moment
returns-in_err-append-clause-any_moment g c tells header bodies body grows =
    let before = c.loop-piece.invariant in
    joins (before.any_moment tells header bodies body grows) (c.append.ensures.any_moment tells header bodies (body ++ joined (take c.loop-piece.piece-index c.args.pieces.now)) (before.grows tells header bodies body grows))

pub returns-clause-size : goal.returns-clause-size
returns-clause-size g c =
    c.loop-piece.invariant.size ∙ ap (λ (l : List _). c.args.log.now.size + length (joined l)) (take_all c.loop-piece.piece-index c.args.pieces.now c.loop-piece-test.false)

pub returns-clause-grows : goal.returns-clause-grows
returns-clause-grows g c tells header bodies body grows =
    subst (λ (l : List _). Grows header bodies (body ++ joined l) c.loop-piece.log (g.D.Disk.seen c.loop-piece.disk) (g.D.Disk.pending c.loop-piece.disk)) (take_all c.loop-piece.piece-index c.args.pieces.now c.loop-piece-test.false)
    (c.loop-piece.invariant.grows tells header bodies body grows)
