use Rattle.tlv_frame.proofs.Headers.{checksum_in_two}
use Rattle.tlv_frame.proofs.frame_head.checksum.Goals as goal

pub returns : goal.returns
returns c = rw (c.update-2.ensures, c.update.ensures, c.header.ensures) (checksum_in_two c.args.len c.args.cmd c.args.body.now)
