-- What stands in front moves past the body.
use Rattle.std.proofs.Common.{ap, ◌∙◌, bit_xor}
use Rattle.cmd_reader.proofs.CommandFacts.{slice_bytes}
use Rattle.group_replay.proofs.FrameSums.{past_whole, short_body}
use Rattle.group_replay.proofs.sums.sum_past.Goals as goal

pub moved-requires : goal.moved-requires
moved-requires c = short_body c.args.sum c.args.frame.now c.split_at.result.0.now c.split_at.result.1.now c.requires c.split_at.ensures.front c.split_at.ensures.back

pub returns : goal.returns
returns c =
    ap (bit_xor c.from_le_bytes-own.result) c.moved.ensures
    ∙ past_whole c.args.sum c.args.frame.now c.split_at.result.0.now c.split_at.result.1.now c.requires c.split_at.ensures.front c.split_at.ensures.back
    c.from_le_bytes-own.result c.update-2.result c.update-first.result c.update-3.result (slice_bytes c.args.frame.now c.type_inv.frame) c.from_le_bytes-own.ensures c.update-2.ensures c.update-first.ensures c.update-3.ensures
