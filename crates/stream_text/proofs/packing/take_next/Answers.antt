use Rattle.std.proofs.Common.{refl, sym, ap, ◌∙◌, arith}
use Rattle.std.specs.String.{string_bytes}
use Rattle.cmd_reader.proofs.Asked.{reads_same}
use Rattle.stream_text.proofs.Steps.{look_fits, front_says, fault_says, on_ok_always, end_stops, end_caused, further_from}
use Rattle.stream_text.proofs.packing.take_next.Goals as goal

pub look-requires : goal.look-requires
look-requires g c = record { reader = c.requires.reader; ahead = c.requires.ahead }

pub take_front-requires : goal.take_front-requires
take_front-requires g c = record {
  reader = c.in-Ok.ensures.reader;
  front = look_fits (g.I.Inputs.told c.args.inputs.now) c.look.new.self (g.I.Inputs.faults c.args.inputs.now) (g.I.Inputs.faults c.look.new.inputs) c.in-Ok.front c.in-Ok.ensures.says;
}

pub returns-in-Ok : goal.returns-in-Ok
returns-in-Ok g c =
    let e = c.in-Ok.ensures in
    let t = c.take_front.ensures in
    let name = string_bytes c.args.lines.now.name in
    record {
      inputs = record {
        same = e.inputs.same;
        later = e.inputs.later;
        steady = on_ok_always c.take_front.result _ e.inputs.steady;
        ends_later = e.inputs.ends_later;
        ends_steady = on_ok_always c.take_front.result _ e.inputs.ends_steady;
      };
      out = t.out;
      asked = reads_same g.I.Inputs _ _ name name _ _ _ _ refl refl (sym t.fed) e.asked;
      reader = t.reader;
      name = t.name ∙ e.same.name;
      stops = t.stops;
      cause = t.cause _ _;
      further = further_from c.args.lines.now c.look.new.self c.take_front.new.lines c.take_front.result e.same.at t.further;
      says = front_says (g.I.Inputs.told c.args.inputs.now) name c.args.lines.now c.look.new.self c.take_front.new.lines c.args.packed.now c.take_front.new.packed
          (g.I.Inputs.faults c.args.inputs.now) (g.I.Inputs.faults c.look.new.inputs) c.in-Ok.front _ _ c.take_front.result (ap string_bytes e.same.name) e.same.at e.same.number e.says e.ahead t.says;
    }

pub returns-in-Err : goal.returns-in-Err
returns-in-Err g c =
    let e = c.in-Err.ensures in
    let is = c.end_by.ensures.outcome in
    record {
      inputs = record { same = e.inputs.same; later = e.inputs.later; steady = tt; ends_later = e.inputs.ends_later; ends_steady = tt };
      out = record { later = omega arith; steady = tt };
      asked = e.asked;
      reader = e.reader;
      name = e.same.name;
      stops = end_stops c.in-Err.fault c.end_by.result is;
      cause = end_caused (g.I.Inputs.told c.args.inputs.now) c.look.new.self c.in-Err.fault c.end_by.result _ _ _ _ is e.says;
      further = tt;
      says = fault_says (g.I.Inputs.told c.args.inputs.now) (string_bytes c.args.lines.now.name) c.args.lines.now c.look.new.self c.args.packed.now _ _ c.in-Err.fault c.end_by.result _ is e.reader e.same.at e.same.number e.says e.ahead;
    }
