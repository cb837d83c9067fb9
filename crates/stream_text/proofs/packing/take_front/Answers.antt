use Rattle.std.proofs.Common.{refl, subst}
use Rattle.stream_dump.specs.Steps.{output}
use Rattle.stream_text.specs.declared.line_reader.Front.{Front}
use Rattle.stream_text.specs.Reading.{held, fed}
use Rattle.stream_text.specs.Taking.{FrontFits, FrontThere}
use Rattle.stream_text.proofs.Steps.{refused_says, long_named_here, finish_stops, refused_caused}
use Rattle.stream_text.proofs.packing.take_front.Goals as goal

pub take_line-requires : goal.take_line-requires
take_line-requires g c = record {
  reader = c.requires.reader;
  line = subst (λ (f : Front). FrontFits f (held c.args.lines.now)) c.in-Line.is c.requires.front;
}

pub returns-in-Line : goal.returns-in-Line
returns-in-Line g c =
    let t = c.take_line.ensures in
    record {
      out = t.out;
      fed = t.fed;
      reader = t.reader;
      name = t.name;
      stops = t.stops;
      cause = t.cause;
      further = t.further;
      says = λ file h there. t.says file h;
    }

pub returns-in-Long : goal.returns-in-Long
returns-in-Long g c =
    let r = c.args.lines.now in
    let packed = c.args.packed.now in
    let fits = subst (λ (f : Front). FrontFits f (held r)) c.in-Long.is c.requires.front in
    let before = output g.O.Sink c.args.out.now in
    let now = output g.O.Sink c.refuse.new.out in
    let ends = c.refuse.ensures.ends in
    record {
      out = record { later = c.refuse.ensures.later; steady = tt };
      fed = refl;
      reader = c.requires.reader;
      name = refl;
      stops = finish_stops packed.bytes r before now c.refuse.result ends;
      cause = λ early late. refused_caused packed.bytes r early late before now c.refuse.result ends;
      further = tt;
      says = λ file h there written s.
          refused_says r packed written file s (long_named_here r packed written file s c.requires.reader h fits.0 fits.1) before now c.refuse.result ends;
    }

pub returns-in-End : goal.returns-in-End
returns-in-End g c =
    let r = c.args.lines.now in
    let t = c.at_end.ensures in
    let fits = subst (λ (f : Front). FrontFits f (held r)) c.in-End.is c.requires.front in
    record {
      out = t.out;
      fed = refl;
      reader = c.requires.reader;
      name = refl;
      stops = t.stops;
      cause = t.cause;
      further = t.further;
      says = λ file h there.
          let ends = subst (λ (f : Front). FrontThere f (fed r) file) c.in-End.is there in
          t.says file h fits ends.0 ends.1;
    }
