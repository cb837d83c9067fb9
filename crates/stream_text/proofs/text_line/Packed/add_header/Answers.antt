use Rattle.std.proofs.Common.{◌++◌, List, ℕ, ap, ◌∙◌}
use Rattle.stream_text.proofs.TakenLines.{header_taken}
use Rattle.stream_text.proofs.text_line.Packed.add_header.Goals as goal

pub returns : goal.returns
returns c = record {
  taken = header_taken c.in-Some.version c.args.line.now c.args.self.now.bytes c.push_all.new.self c.in-Some.ensures.read
      (c.in_ok-push_all.ensures.appended ∙ ap (λ (l : List ℕ). c.args.self.now.bytes ++ l) c.bytes.ensures.bytes);
}
