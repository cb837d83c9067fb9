use Rattle.std.proofs.Common.{arith}
use Rattle.tlv_frame.proofs.Cuts.{one_reading}
use Rattle.tlv_frame.proofs.Growing.{waits_short}
use Rattle.tlv_frame.proofs.laws.cuts_are_one_reading.Goals as goal

pub returns : goal.returns
returns c = record { cuts = one_reading; room = λ fed waits. omega (arith, waits_short fed waits) }
