use Rattle.std.proofs.Common.{rules, ◌≡◌, length, drop, sym, ap, ◌∙◌}
use Rattle.send_model.specs.Spelling.{frame_of}
use Rattle.send_model.specs.Reading.{number16, number32}
use Rattle.cmd_reader.proofs.CommandFacts.{slice_bytes}
use Rattle.stream_export.proofs.ReadFrames.{is_frame}
use Rattle.stream_export.proofs.unchanged.body_in.Goals as goal

pub returns : goal.returns
unfolding number16 number32
returns c =
    let (frame, read) = c.requires.framed in
    let of_number : number16 (drop 4 c.args.frame.now) ≡ c.args.number = search rules in
    let all : number32 c.args.frame.now ≡ length (drop 10 c.args.frame.now) = search rules in
    record { body = is_frame c.args.number c.args.frame.now frame (slice_bytes c.args.frame.now c.type_inv.frame) read of_number all ∙ ap (frame_of c.args.number) (sym c.split_at.ensures.back) }
