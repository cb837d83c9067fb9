use Rattle.std.proofs.Common.{◌∙◌}
use Rattle.std.proofs.lemmas.Result.{on_ok_weaker}
use Rattle.stream_dump.proofs.ValueLines.{uuid_printed}
use Rattle.stream_dump.proofs.numbers.push_uuid.Goals as goal

pub returns-clause-pushed : goal.returns-clause-pushed
returns-clause-pushed c =
    let all = uuid_printed c.args.to.now c.as_bytes-bytes.result.now c.args.uuid.now c.split_at.result.1.now c.hex_into.new.to c.push_group.new.to c.push_group-2.new.to c.push_group-3.new.to
    c.as_bytes-bytes.ensures c.split_at.ensures.back c.in_ok-hex_into.ensures.appended c.in_ok-push_group.ensures.pushed c.in_ok-push_group-2.ensures.pushed c.in_ok-push_group-3.ensures.pushed in
    on_ok_weaker c.push_group-4.result (λ done. done ∙ all) c.push_group-4.ensures.pushed
