use Rattle.std.proofs.Common.{arith}
use Rattle.tlv_frame.proofs.Pieces.{no_head, head_found, head_bad}
use Rattle.tlv_frame.proofs.in_front.head_in.Goals as goal

pub returns-then-left-lt-HEADER_LEN : goal.returns-then-left-lt-HEADER_LEN
returns-then-left-lt-HEADER_LEN c = record { exact = no_head c.args.left.now (omega (arith, c.if-left-lt-HEADER_LEN.true)) }

pub returns-in-Ok : goal.returns-in-Ok
returns-in-Ok c = record { exact = head_found c.args.left.now c.copy_from_slice.new.self c.in-Ok.head (omega (arith, c.if-left-lt-HEADER_LEN.false)) c.copy_from_slice.ensures.after c.in-Ok.ensures.exact }

pub returns-in-Err : goal.returns-in-Err
returns-in-Err c = record { exact = head_bad c.args.left.now c.copy_from_slice.new.self _ (omega (arith, c.if-left-lt-HEADER_LEN.false)) c.copy_from_slice.ensures.after c.in-Err.ensures.exact }
