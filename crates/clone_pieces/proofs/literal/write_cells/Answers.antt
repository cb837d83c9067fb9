use Rattle.std.specs.Prelude.{map}
use Rattle.std.specs.String.{string_bytes}
use Rattle.std.proofs.Common.{◌≡◌, ◌-◌, min, refl, ◌∙◌, arith}
use Rattle.sx_base.proofs.Asking.{asked_nothing}
use Rattle.clone_pieces.proofs.Asked.{again_more}
use Rattle.clone_pieces.proofs.Lengths.{long_then}
use Rattle.clone_pieces.proofs.Literals.{next_had, next_there, stand_start, stand_more, stand_stops, stand_end}
use Rattle.clone_pieces.proofs.literal.write_cells.Goals as goal

pub loop-done-init : goal.loop-done-init
loop-done-init g c = record {
  within = omega arith;
  same = refl;
  asked = asked_nothing g.I.Inputs c.args.inputs.now tt;
  sizes = λ key ino. refl;
  held = λ tells. refl;
  steady = refl;
  ends_steady = refl;
  bytes_steady = refl;
  out_steady = refl;
  written = λ tells. stand_start (g.I.Inputs.told c.args.inputs.now) (map string_bytes c.args.sources.now.files.now) (g.B.OutsideBytes.held c.args.bytes.now) c.args.range.now.contents.now c.args.range.now.from c.args.range.now.len c.requires.within c.args.range.now.to.version c.args.range.now.to.path.now c.args.range.now.to.offset
      (g.O.Sink.taken c.args.out.now) c.args.pending.now;
}

pub write_some-requires-clause-had : goal.write_some-requires-clause-had
write_some-requires-clause-had g c =
    let i = c.loop-done.invariant in
    let is : c.min-count.result ≡ min (c.args.range.now.len - c.loop-done.done) 49_152 = omega arith in
    next_had (g.I.Inputs.told c.args.inputs.now) (map string_bytes c.args.sources.now.files.now) (g.B.OutsideBytes.held c.args.bytes.now) c.args.range.now.contents.now c.args.range.now.from c.args.range.now.len c.requires.within c.args.range.now.to.version c.args.range.now.to.path.now c.args.range.now.to.offset
    (g.I.Inputs.told c.loop-done.inputs) (g.B.OutsideBytes.held c.loop-done.bytes) i.same c.loop-done.done c.min-count.result c.loop-done-test.true is i.sizes _ c.requires.had

pub write_some-requires-clause-there : goal.write_some-requires-clause-there
write_some-requires-clause-there g c =
    let i = c.loop-done.invariant in
    let is : c.min-count.result ≡ min (c.args.range.now.len - c.loop-done.done) 49_152 = omega arith in
    next_there (g.I.Inputs.told c.args.inputs.now) (map string_bytes c.args.sources.now.files.now) (g.B.OutsideBytes.held c.args.bytes.now) c.args.range.now.contents.now c.args.range.now.from c.args.range.now.len c.requires.within c.args.range.now.to.version c.args.range.now.to.path.now c.args.range.now.to.offset
    (g.I.Inputs.told c.loop-done.inputs) (g.B.OutsideBytes.held c.loop-done.bytes) i.same c.loop-done.done c.min-count.result c.loop-done-test.true is c.requires.there

pub loop-done-preserved : goal.loop-done-preserved
loop-done-preserved g c =
    let i = c.loop-done.invariant in
    let e = c.in-Ok.ensures in
    let is : c.min-count.result ≡ min (c.args.range.now.len - c.loop-done.done) 49_152 = omega arith in
    record {
      within = omega (arith, c.loop-done-test.true);
      same = e.inputs.same ∙ i.same;
      asked = again_more g.I.Inputs (map string_bytes c.args.sources.now.files.now) c.args.inputs.now c.loop-done.inputs c.write_some.new.inputs i.same i.asked e.asked;
      sizes = long_then _ _ _ e.bytes.sizes i.sizes;
      held = λ tells. e.bytes.held tells ∙ i.held tells;
      steady = e.inputs.steady ∙ i.steady;
      ends_steady = e.inputs.ends_steady ∙ i.ends_steady;
      bytes_steady = e.bytes.steady ∙ i.bytes_steady;
      out_steady = e.out.steady ∙ i.out_steady;
      written = λ tells. stand_more (g.I.Inputs.told c.args.inputs.now) (map string_bytes c.args.sources.now.files.now) (g.B.OutsideBytes.held c.args.bytes.now) c.args.range.now.contents.now c.args.range.now.from c.args.range.now.len c.requires.within c.args.range.now.to.version c.args.range.now.to.path.now c.args.range.now.to.offset
          (g.I.Inputs.told c.loop-done.inputs) (g.B.OutsideBytes.held c.loop-done.bytes) i.same c.loop-done.done c.min-count.result c.loop-done-test.true is (i.held tells)
          (g.O.Sink.taken c.args.out.now) (g.O.Sink.taken c.loop-done.out) (g.O.Sink.taken c.write_some.new.out) c.args.pending.now c.loop-done.pending c.write_some.new.pending (i.written tells) (e.written tells);
    }

pub returns-in-Err-clause-written : goal.returns-in-Err-clause-written
returns-in-Err-clause-written g c tells =
    let i = c.loop-done.invariant in
    let is : c.min-count.result ≡ min (c.args.range.now.len - c.loop-done.done) 49_152 = omega arith in
    stand_stops (g.I.Inputs.told c.args.inputs.now) (map string_bytes c.args.sources.now.files.now) (g.B.OutsideBytes.held c.args.bytes.now) c.args.range.now.contents.now c.args.range.now.from c.args.range.now.len c.requires.within c.args.range.now.to.version c.args.range.now.to.path.now c.args.range.now.to.offset
    (g.I.Inputs.told c.loop-done.inputs) (g.B.OutsideBytes.held c.loop-done.bytes) i.same c.loop-done.done c.min-count.result c.loop-done-test.true is (i.held tells)
    (g.O.Sink.taken c.args.out.now) (g.O.Sink.taken c.loop-done.out) (g.O.Sink.taken c.write_some.new.out) c.args.pending.now c.loop-done.pending c.write_some.new.pending c.in-Err.stop (i.written tells) (c.in-Err.ensures.written tells)

pub returns-clause-written : goal.returns-clause-written
returns-clause-written g c tells =
    stand_end (g.I.Inputs.told c.args.inputs.now) (map string_bytes c.args.sources.now.files.now) (g.B.OutsideBytes.held c.args.bytes.now) c.args.range.now.contents.now c.args.range.now.from c.args.range.now.len c.requires.within c.args.range.now.to.version c.args.range.now.to.path.now c.args.range.now.to.offset
    c.loop-done.done (g.O.Sink.taken c.args.out.now) (g.O.Sink.taken c.loop-done.out) c.args.pending.now c.loop-done.pending (omega (arith, c.loop-done-test.false)) (c.loop-done.invariant.written tells)

pub returns-in-Err-clause-asked : goal.returns-in-Err-clause-asked
returns-in-Err-clause-asked g c =
    let i = c.loop-done.invariant in
    again_more g.I.Inputs (map string_bytes c.args.sources.now.files.now) c.args.inputs.now c.loop-done.inputs c.write_some.new.inputs i.same i.asked c.in-Err.ensures.asked
