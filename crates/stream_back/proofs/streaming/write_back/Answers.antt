use Rattle.std.specs.Prelude.{◌≡◌, ℕ, List, [], IfErr}
use Rattle.std.proofs.Common.{sym, subst, ◌∙◌}
use Rattle.std.proofs.KnownBytes.{Appends-nil}
use Rattle.std.proofs.lemmas.Result.{err_from_is_err_and}
use Rattle.sx_base.proofs.DiskMoments.{joins, weakens}
use Rattle.sx_base.proofs.DiskImages.{only_settled}
use Rattle.sx_base.specs.Causes.{Rose}
use Rattle.sx_base.specs.Disk.{Pending, IsImage}
use Rattle.stream_back.specs.Writing.{StreamEnds, BackCaused, parts_of}
use Rattle.stream_back.proofs.Parts.{is_back}
use Rattle.stream_back.proofs.StreamEnds.{nothing_back, place_back, stop_back}
use Rattle.stream_back.proofs.streaming.write_back.Goals as goal

pub returns-in_err-at-clause-written : goal.returns-in_err-at-clause-written
returns-in_err-at-clause-written g c tells =
    let seen : List ℕ = g.D.Disk.seen c.args.disk.now in
    let p = err_from_is_err_and c.from_residual.result c.from_residual.ensures.1 in
    rw (p.1, p.2) ([], Appends-nil (g.O.Sink.taken c.args.out.now), nothing_back seen c.args.head.now c.in_err-at.field-0.0 (λ has. c.in_err-at.ensures.stops tells has))

pub returns-in_err-at-clause-cause : goal.returns-in_err-at-clause-cause
returns-in_err-at-clause-cause g c =
    let p = err_from_is_err_and c.from_residual.result c.from_residual.ensures.1 in
    rw (p.1, p.2) (place_back _ _ c.in_err-at.field-0.0 c.in_err-at.ensures.cause)

pub returns-clause-written : goal.returns-clause-written
returns-clause-written g c tells =
    let seen : List ℕ = g.D.Disk.seen c.args.disk.now in
    let wrote = c.write_stream.ensures.written tells in (
      wrote.0,
      wrote.1,
      is_back seen c.args.head.now c.in_ok-at.at.place c.write_stream.result wrote.0 (c.in_ok-at.ensures.found tells)
          (subst (λ (l : List ℕ). StreamEnds (parts_of c.args.head.now c.in_ok-at.at.place l) c.write_stream.result wrote.0) (c.locate.ensures.seen tells) wrote.2),
    )

pub returns-clause-cause : goal.returns-clause-cause
returns-clause-cause g c =
    let out_rose = Rose (g.O.Sink.faults c.args.out.now) (g.O.Sink.faults c.write_stream.new.out) in
    subst (λ (n : ℕ). IfErr c.write_stream.result (BackCaused (Rose n (g.D.Disk.faults c.write_stream.new.disk)) out_rose)) c.in_ok-at.ensures.steady
    (stop_back _ out_rose c.write_stream.result c.write_stream.ensures.cause)

pub returns-clause-any_moment : goal.returns-clause-any_moment
returns-clause-any_moment g c tells =
    let D = g.D.Disk in
    joins (c.locate.ensures.any_moment tells) (weakens (c.write_stream.ensures.disk.any_moment tells) (λ image is.
    let whole : image ≡ D.seen c.locate.new.disk = only_settled (D.seen c.locate.new.disk) image (subst (λ (p : Pending). IsImage p image) (c.in_ok-at.ensures.durable tells) is) in
    subst (λ (i : List ℕ). IsImage (D.pending c.args.disk.now) i) (sym (whole ∙ c.locate.ensures.seen tells)) (g.met.D.Disk.seen_is_image c.args.disk.now tells)))
