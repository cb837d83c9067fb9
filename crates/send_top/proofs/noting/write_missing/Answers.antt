use Rattle.std.specs.Prelude.{slice_index_or}
use Rattle.std.specs.Io.KnownBytes.{Appends}
use Rattle.std.proofs.Common.{refl, ◌∙◌, arith}
use Rattle.program_model.specs.Answers.{IsMissing, note_of}
use Rattle.sx_base.specs.Outside.{AppendsPart}
use Rattle.send_top.proofs.MissingNote.{handed, pushed, ended, stopped, cut, on_err, then_ok, then_err}
use Rattle.send_top.proofs.noting.write_missing.Goals as goal

pub returns-in_err-make_room-clause-part : goal.returns-in_err-make_room-clause-part
returns-in_err-make_room-clause-part g c =
    on_err c.from_residual.result _ (stopped c.args.what.now c.loop-place.line c.loop-place.place (g.N.Sink.taken c.args.notes.now) (g.N.Sink.taken c.loop-place.notes) (g.N.Sink.taken c.make_room.new.notes)
    c.loop-place.invariant.noted c.in_err-make_room.ensures.part)

pub loop-place-preserved : goal.loop-place-preserved
loop-place-preserved g c =
    let old = g.N.Sink.taken c.args.notes.now in
    let middle = g.N.Sink.taken c.loop-place.notes in
    let now = g.N.Sink.taken c.make_room.new.notes in record {
      noted = pushed c.args.what.now c.make_room.new.line c.push_escaped.new.self c.loop-place.place (slice_index_or c.args.what.now c.loop-place.place 0) old now
          (handed c.args.what.now c.loop-place.line c.make_room.new.line c.loop-place.place old middle now c.loop-place.invariant.noted c.in_ok-make_room.ensures.whole)
          c.loop-place-test.true refl c.push_escaped.ensures.pushed;
      later = omega (arith, c.loop-place.invariant.later, c.make_room.ensures.cause.later);
    }

pub returns-in_err-make_room-2-clause-part : goal.returns-in_err-make_room-2-clause-part
returns-in_err-make_room-2-clause-part g c =
    on_err c.from_residual-in_err-make_room-2.result _ (stopped c.args.what.now c.loop-place.line c.loop-place.place (g.N.Sink.taken c.args.notes.now) (g.N.Sink.taken c.loop-place.notes) (g.N.Sink.taken c.make_room-2.new.notes)
    c.loop-place.invariant.noted c.in_err-make_room-2.ensures.part)

pub returns-clause-whole : goal.returns-clause-whole
returns-clause-whole g c =
    let old = g.N.Sink.taken c.args.notes.now in
    let middle = g.N.Sink.taken c.loop-place.notes in
    let now = g.N.Sink.taken c.make_room-2.new.notes in
    let new = g.N.Sink.taken c.write_whole.new.sink in
    then_ok c.write_whole.result (Appends now new c.as_slice.result.now) (Appends old new (note_of (IsMissing c.args.what.now)))
    (λ wrote. ended c.args.what.now c.make_room-2.new.line c.as_slice.result.now c.loop-place.place old now new
    (handed c.args.what.now c.loop-place.line c.make_room-2.new.line c.loop-place.place old middle now c.loop-place.invariant.noted c.in_ok-make_room-2.ensures.whole)
    (omega (arith, c.loop-place-test.false)) (c.as_slice.ensures.bytes ∙ c.push-2.ensures.pushed) wrote) c.write_whole.ensures.whole

pub returns-clause-part : goal.returns-clause-part
returns-clause-part g c =
    let old = g.N.Sink.taken c.args.notes.now in
    let middle = g.N.Sink.taken c.loop-place.notes in
    let now = g.N.Sink.taken c.make_room-2.new.notes in
    let new = g.N.Sink.taken c.write_whole.new.sink in
    then_err c.write_whole.result (AppendsPart now new c.as_slice.result.now) (AppendsPart old new (note_of (IsMissing c.args.what.now)))
    (λ part. cut c.args.what.now c.make_room-2.new.line c.as_slice.result.now c.loop-place.place old now new
    (handed c.args.what.now c.loop-place.line c.make_room-2.new.line c.loop-place.place old middle now c.loop-place.invariant.noted c.in_ok-make_room-2.ensures.whole)
    (omega (arith, c.loop-place-test.false)) (c.as_slice.ensures.bytes ∙ c.push-2.ensures.pushed) part) c.write_whole.ensures.part
