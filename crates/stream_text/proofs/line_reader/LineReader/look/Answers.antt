use Rattle.std.proofs.Common.{rules, ◌≡◌, ◌-◌, ℕ, List, length, arith, refl, sym, ap, length-append}
use Rattle.std.specs.String.{string_bytes}
use Rattle.cmd_reader.proofs.Asked.{reads_nothing, reads_then}
use Rattle.stream_text.specs.Lines.{HasNoLine}
use Rattle.stream_text.specs.Reading.{held}
use Rattle.stream_text.proofs.ReadLines.{held_len, seen_none, moved}
use Rattle.stream_text.proofs.line_reader.LineReader.look.Goals as goal

pub loop-len-init : goal.loop-len-init
loop-len-init g c = record {
  told = refl;
  steady = refl;
  ends_steady = refl;
  asked = reads_nothing g.I.Inputs _ _ _;
  reader = c.requires.reader;
  same = record { name = refl; at = refl; number = refl };
  ahead = c.requires.ahead;
  seen = omega arith;
  none = tt;
}

pub returns-in-Ok-eq0-clause-asked : goal.returns-in-Ok-eq0-clause-asked
returns-in-Ok-eq0-clause-asked g c =
    let i = c.loop-len.invariant in
    reads_then g.I.Inputs _ _ _ (string_bytes c.args.self.now.name) (string_bytes c.loop-len.self.name) _ _ _ _ (ap string_bytes i.same.name) refl i.asked c.in-Ok-eq0.ensures.asked

pub returns-in-Err-clause-asked : goal.returns-in-Err-clause-asked
returns-in-Err-clause-asked g c =
    let i = c.loop-len.invariant in
    reads_then g.I.Inputs _ _ _ (string_bytes c.args.self.now.name) (string_bytes c.loop-len.self.name) _ _ _ _ (ap string_bytes i.same.name) refl i.asked c.in-Err.ensures.asked

pub loop-len-preserved : goal.loop-len-preserved
loop-len-preserved g c =
    let i = c.loop-len.invariant in
    let e = c.in-Ok.ensures in
    let old : List ℕ = held c.loop-len.self in
    let size : length old ≡ c.loop-len.self.end - c.loop-len.self.from = held_len c.loop-len.self i.reader in
    let none : HasNoLine old = search rules in
    record {
      told = search rules;
      steady = search rules;
      ends_steady = search rules;
      asked = reads_then g.I.Inputs _ _ _ (string_bytes c.args.self.now.name) (string_bytes c.loop-len.self.name) _ _ _ _ (ap string_bytes i.same.name) refl i.asked e.asked;
      reader = e.reader;
      same = search rules;
      ahead = moved _ _ _ _ _ _ _ i.told (ap string_bytes i.same.name) i.same.at e.ahead;
      seen = omega (arith, size, ap length e.says.2, length-append old e.says.0);
      none = seen_none old (held c.read_on.new.self) e.says.0 (c.loop-len.self.end - c.loop-len.self.from) (sym size) e.says.2 none;
    }
