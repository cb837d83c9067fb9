use Rattle.std.proofs.Common.{ℕ, ◌+◌, ◌-◌, List, length, take, drop, ◌≡◌, ◌∙◌, ap, arith}
use Rattle.std.proofs.lemmas.List.{take_all, length-drop}
use Rattle.send_model.specs.Spelling.{frame_checksum}
use Rattle.tlv_frame.specs.Frame.{head_bytes}
use Rattle.tlv_frame.proofs.Headers.{header_frames}
use Rattle.tlv_frame.proofs.frame_writer.FrameWriter.finish.Goals as goal

pub returns : goal.returns
returns c =
    let from : ℕ = c.self.inside.start + 10 in
    let row : List ℕ = c.as_slice.result.now in
    let body : List ℕ = take (length row - from) (drop from row) in
    let whole : body ≡ drop from c.args.to.now = take_all (length row - from) (drop from row) (omega (arith, length-drop from row)) ∙ ap (drop from) c.as_slice.ensures.bytes in
    let head : c.header-head.result ≡ head_bytes (record { len = length body; number = c.self.inside.cmd; stored = frame_checksum (length body) c.self.inside.cmd body }) =
    c.header-head.ensures ∙ ap (λ (sum : ℕ). head_bytes (record { len = length body; number = c.self.inside.cmd; stored = sum })) c.checksum.ensures in
    record { framed = rw (← c.self.view_is) (c.put.ensures.replaced ∙ header_frames c.self.inside.start c.self.inside.cmd c.args.to.now body c.header-head.result whole head) }
