use Rattle.std.proofs.Common.{◌<◌, length, subst, ◌∙◌, arith, ℕ, List}
use Rattle.tlv_frame.proofs.Pieces.{no_frame, frame_bad, body_cut, body_bad, frame_found}
use Rattle.tlv_frame.proofs.in_front.frame_in.Goals as goal

pub returns-then-left-lt-FRAME_HEAD_LEN : goal.returns-then-left-lt-FRAME_HEAD_LEN
returns-then-left-lt-FRAME_HEAD_LEN c = record { exact = no_frame c.args.left.now (omega (arith, c.if-left-lt-FRAME_HEAD_LEN.true)) }

pub returns-in-Err : goal.returns-in-Err
returns-in-Err c = record { exact = frame_bad c.args.left.now c.copy_from_slice.new.self _ (omega (arith, c.if-left-lt-FRAME_HEAD_LEN.false)) (c.copy_from_slice.ensures.after ∙ c.split_at.ensures.front) c.in-Err.ensures.exact }

pub returns-then-after-len : goal.returns-then-after-len
returns-then-after-len c = record {
  exact = body_cut c.args.left.now c.copy_from_slice.new.self c.in-Ok.head (omega (arith, c.if-left-lt-FRAME_HEAD_LEN.false)) (c.copy_from_slice.ensures.after ∙ c.split_at.ensures.front) c.in-Ok.ensures.exact
      (subst (λ (rest : List ℕ). length rest < c.in-Ok.head.len) c.split_at.ensures.back c.if-after-len.true);
}

pub returns-in-Err-check_crc : goal.returns-in-Err-check_crc
returns-in-Err-check_crc c = record {
  exact = body_bad c.args.left.now c.copy_from_slice.new.self c.in-Ok.head _ c.split_at.result.1.now c.split_at.ensures.back (omega (arith, c.if-left-lt-FRAME_HEAD_LEN.false)) (c.copy_from_slice.ensures.after ∙ c.split_at.ensures.front) c.in-Ok.ensures.exact
      c.if-after-len.false c.in-Err-check_crc.ensures.exact;
}

pub returns-in-Ok-check_crc : goal.returns-in-Ok-check_crc
returns-in-Ok-check_crc c = record {
  exact = frame_found c.args.left.now c.copy_from_slice.new.self c.in-Ok.head c.split_at.result.1.now c.split_at.ensures.back (omega (arith, c.if-left-lt-FRAME_HEAD_LEN.false)) (c.copy_from_slice.ensures.after ∙ c.split_at.ensures.front) c.in-Ok.ensures.exact
      c.if-after-len.false c.in-Ok-check_crc.ensures.exact;
}
