use Rattle.std.proofs.Common.{ℕ, ◌^◌, ◌<◌, ◌++◌, List, length, ap, ◌∙◌, arith, rules}
use Rattle.std.specs.Int.{w64, to_le_bytes}
use Rattle.std.proofs.lemmas.Result.{on_ok_weaker}
use Rattle.send_model.specs.Attribute.{HasRoom}
use Rattle.send_model.specs.Spelling.{attribute_bytes}
use Rattle.send_commands.proofs.Spelled.{attribute_grows, room_is_short}
use Rattle.send_commands.proofs.encoding.put_field.Goals as goal

pub returns-in-Moment-clause-appended : goal.returns-in-Moment-clause-appended
returns-in-Moment-clause-appended c = rw c.in-Moment.is
    (on_ok_weaker c.attr_bytes-in-Moment.result (λ e. e ∙ ap (λ (bytes : List ℕ). c.args.to.now ++ attribute_bytes c.args.writer.now.version (record { kind = c.args.kind; bytes = bytes })) c.bytes.ensures) c.attr_bytes-in-Moment.ensures.appended)

pub returns-in-Identifier-clause-short : goal.returns-in-Identifier-clause-short
returns-in-Identifier-clause-short c =
    let small : length c.as_bytes.result.now < 2 ^ 16 = search rules in
    on_ok_weaker c.attr_bytes.result (λ e first. attribute_grows c.args.writer.now.version c.args.to.now c.attr_bytes.new.to c.as_bytes.result.now c.args.kind e small) c.attr_bytes.ensures.appended

pub returns-in-Number-clause-short : goal.returns-in-Number-clause-short
returns-in-Number-clause-short c = on_ok_weaker c.attr_u64.result (λ e first. attribute_grows c.args.writer.now.version c.args.to.now c.attr_u64.new.to (to_le_bytes w64 c.in-Number.n) c.args.kind e (omega arith)) c.attr_u64.ensures.appended

pub returns-in-Moment-clause-short : goal.returns-in-Moment-clause-short
returns-in-Moment-clause-short c =
    let small : length c.bytes.result < 2 ^ 16 = rw c.bytes.ensures (omega arith) in
    on_ok_weaker c.attr_bytes-in-Moment.result (λ e first. attribute_grows c.args.writer.now.version c.args.to.now c.attr_bytes-in-Moment.new.to c.bytes.result c.args.kind e small) c.attr_bytes-in-Moment.ensures.appended

pub returns-in-ShortNumber-clause-short : goal.returns-in-ShortNumber-clause-short
returns-in-ShortNumber-clause-short c =
    let small : length c.to_le_bytes.result < 2 ^ 16 = rw c.to_le_bytes.ensures (omega arith) in
    on_ok_weaker c.attr_bytes-in-ShortNumber.result (λ e first. attribute_grows c.args.writer.now.version c.args.to.now c.attr_bytes-in-ShortNumber.new.to c.to_le_bytes.result c.args.kind e small) c.attr_bytes-in-ShortNumber.ensures.appended

pub returns-in-Bytes-clause-short : goal.returns-in-Bytes-clause-short
returns-in-Bytes-clause-short c =
    let room : HasRoom c.args.writer.now.version c.args.kind (length c.in-Bytes.bytes.now) = rw c.in-Bytes.is at c.requires.short in
    on_ok_weaker c.attr_bytes-in-Bytes.result (λ e first. attribute_grows c.args.writer.now.version c.args.to.now c.attr_bytes-in-Bytes.new.to c.in-Bytes.bytes.now c.args.kind e (room_is_short c.args.writer.now.version c.args.kind (length c.in-Bytes.bytes.now) room first))
    c.attr_bytes-in-Bytes.ensures.appended
