use Rattle.std.proofs.Common.{◌≡◌, ◌++◌, IfSome, Option, Some, None, List, ℕ, Bor, ap, ◌∙◌}
use Rattle.send_model.specs.Attribute.{PATH}
use Rattle.send_model.specs.Command.{Utimes, row}
use Rattle.send_model.specs.Spelling.{attribute_bytes, body_of, frame_of}
use Rattle.send_model.specs.Receivable.{receivable_attributes}
use Rattle.send_commands.specs.Meaning.{time_of}
use Rattle.stream_export.proofs.ReadFrames.{times_behind}
use Rattle.stream_export.proofs.unchanged.behind_times.Goals as goal

if_more : (o : Option (Bor (List ℕ))) (P Q : List ℕ → Type 0) → IfSome o (λ x. P x.now) → ((x : List ℕ) → P x → Q x) → IfSome o (λ x. Q x.now)
if_more None P Q p more = tt
if_more (Some x) P Q p more = more x.now p

pub returns : goal.returns
unfolding row
returns c = record {
  rest = if_more c.behind-4.result (λ rest. c.in_ok-body-4.body.now ≡ attribute_bytes 1 (record { kind = PATH; bytes = c.args.path.now }) ++ rest)
      (λ rest. c.args.frame.now ≡ frame_of 20 (body_of 1 (receivable_attributes (Utimes (time_of c.args.mtime) (time_of c.args.atime) c.args.path.now)) ++ rest)) c.behind-4.ensures.rest
      (λ x. times_behind (time_of c.args.mtime) (time_of c.args.atime) c.args.path.now c.args.frame.now c.in_ok-body.body.now c.in_ok-body-2.body.now c.in_ok-body-3.body.now c.in_ok-body-4.body.now
      c.bytes.result c.bytes-2.result c.bytes-3.result x c.bytes.ensures c.bytes-2.ensures c.bytes-3.ensures (c.in_ok-body.ensures.body ∙ ap (λ (n : ℕ). frame_of n c.in_ok-body.body.now) c.number.ensures.number) c.in_ok-body-2.ensures.rest c.in_ok-body-3.ensures.rest c.in_ok-body-4.ensures.rest);
}
