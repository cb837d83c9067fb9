use Rattle.std.specs.Prelude.{ℕ, List, Option, Err}
use Rattle.std.specs.Io.KnownBytes.{Appends}
use Rattle.std.proofs.Common.{subst, ◌∙◌}
use Rattle.std.proofs.lemmas.Result.{err_from_is_err_and}
use Rattle.stream_back.specs.Writing.{PartEnds}
use Rattle.stream_back.proofs.Parts.{none_written, first_stops, middle_stops, last_part, put_caused}
use Rattle.stream_back.proofs.writing.write_stream.Goals as goal

pub returns-in_default-clause-written : goal.returns-in_default-clause-written
returns-in_default-clause-written g c tells = none_written c.args.head.now c.args.at.now.place (g.D.Disk.seen c.args.disk.now) (g.O.Sink.taken c.args.out.now)

pub returns-in_default-end_of-clause-written : goal.returns-in_default-end_of-clause-written
returns-in_default-end_of-clause-written g c tells = none_written c.args.head.now c.args.at.now.place (g.D.Disk.seen c.args.disk.now) (g.O.Sink.taken c.args.out.now)

pub returns-in_err-put-clause-written : goal.returns-in_err-put-clause-written
returns-in_err-put-clause-written g c tells =
    let t0 : Option (List ℕ) = g.O.Sink.taken c.args.out.now in
    let t1 : Option (List ℕ) = g.O.Sink.taken c.put.new.out in
    let p = err_from_is_err_and c.from_residual.result c.from_residual.ensures.1 in
    rw (p.1, p.2)
    (first_stops c.args.head.now c.args.at.now.place (g.D.Disk.seen c.args.disk.now) c.in_err-put.field-0.0 t0 t1
    (subst (λ (l : List ℕ). PartEnds l t0 t1 (Err c.in_err-put.field-0.0)) (c.as_slice.ensures.bytes ∙ c.in-Ok.ensures.made) c.in_err-put.ensures.written))

pub returns-in_err-put-clause-cause : goal.returns-in_err-put-clause-cause
returns-in_err-put-clause-cause g c =
    let p = err_from_is_err_and c.from_residual.result c.from_residual.ensures.1 in
    rw (p.1, p.2) (put_caused _ _ c.in_err-put.field-0.0 c.in_err-put.ensures.fault c.in_err-put.ensures.cause)

pub returns-in_err-copy-clause-written : goal.returns-in_err-copy-clause-written
returns-in_err-copy-clause-written g c tells =
    let t0 : Option (List ℕ) = g.O.Sink.taken c.args.out.now in
    let t1 : Option (List ℕ) = g.O.Sink.taken c.put.new.out in
    let p = err_from_is_err_and c.from_residual-in_err-copy.result c.from_residual-in_err-copy.ensures.1 in
    rw (p.1, p.2)
    (middle_stops c.args.head.now c.args.at.now.place (g.D.Disk.seen c.args.disk.now) c.in_err-copy.field-0.0 t0 t1 (g.O.Sink.taken c.copy.new.out)
    (subst (λ (l : List ℕ). Appends t0 t1 l) (c.as_slice.ensures.bytes ∙ c.in-Ok.ensures.made) c.in_ok-put.ensures.written)
    (c.in_err-copy.ensures.written tells))

pub returns-clause-written : goal.returns-clause-written
returns-clause-written g c tells =
    let t0 : Option (List ℕ) = g.O.Sink.taken c.args.out.now in
    let t1 : Option (List ℕ) = g.O.Sink.taken c.put.new.out in
    let t2 : Option (List ℕ) = g.O.Sink.taken c.copy.new.out in
    let t3 : Option (List ℕ) = g.O.Sink.taken c.put-2.new.out in
    last_part c.args.head.now c.args.at.now.place (g.D.Disk.seen c.args.disk.now) c.put-2.result t0 t1 t2 t3
    (subst (λ (l : List ℕ). Appends t0 t1 l) (c.as_slice.ensures.bytes ∙ c.in-Ok.ensures.made) c.in_ok-put.ensures.written)
    (c.in_ok-copy.ensures.written tells)
    (subst (λ (l : List ℕ). PartEnds l t2 t3 c.put-2.result) (c.as_slice-2.ensures.bytes ∙ c.in-Ok-end_of.ensures.made) c.put-2.ensures.written)
    c.put-2.ensures.fault
