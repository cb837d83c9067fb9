use Rattle.std.proofs.Common.{◌≡◌, Ok, sym, ap, ◌∙◌, ℕ}
use Rattle.send_model.specs.Command as meant
use Rattle.send_model.specs.Reading.{command_of}
use Rattle.send_model.proofs.Fuel.{ok_same}
use Rattle.send_commands.specs.Meaning.{meaning_of, kind_meant}
use Rattle.send_commands.specs.Values.{bytes_in}
use Rattle.cmd_reader.proofs.CommandFacts.{table_read, slice_bytes, read_can_write}
use Rattle.cmd_reader.proofs.MentionFacts.{no_mention, mention_made}
use Rattle.cmd_reader.proofs.front.mention_in.Goals as goal

-- A kind that neither begins a part nor names a key.
pub returns-then-not-is_mention-clause-read : goal.returns-then-not-is_mention-clause-read
returns-then-not-is_mention-clause-read c =
    let taken = table_read c.args.version _ _ c.read.result c.args.body.now c.new-table.ensures.none c.in-Ok.is c.read.ensures.exact in
    let kept = taken.0 in
    let there = taken.1 in
    let attributes = there.0 in
    let kind = kind_meant c.in-Ok-lawful_kind.kind in
    let command : command_of c.args.version c.args.cmd attributes ≡ Ok (meant.command_with kind (bytes_in c.read.new.self)) = ap (λ (v : ℕ). command_of v c.args.cmd attributes) (sym kept) ∙ c.in-Ok-lawful_kind.ensures.exact attributes there.2 in
    record {
      attributes = attributes;
      command = meant.command_with kind (bytes_in c.read.new.self);
      read = there.1;
      command_is = command;
      can_write = read_can_write c.args.version c.args.cmd c.args.body.now attributes (meant.command_with kind (bytes_in c.read.new.self)) c.ranges.cmd.fits c.requires.short (slice_bytes c.args.body.now c.type_inv.body) there.1 command;
      mention_is = sym (no_mention kind (bytes_in c.read.new.self) (sym c.is_mention.ensures ∙ c.if-not-is_mention.true));
    }

-- One that does.
pub returns-in-Ok-decode-clause-read : goal.returns-in-Ok-decode-clause-read
returns-in-Ok-decode-clause-read c =
    let taken = table_read c.args.version _ _ c.read.result c.args.body.now c.new-table.ensures.none c.in-Ok.is c.read.ensures.exact in
    let kept = taken.0 in
    let there = taken.1 in
    let attributes = there.0 in
    let kind = kind_meant c.in-Ok-lawful_kind.kind in
    let made = meaning_of c.in-Ok-decode.command in
    let command : command_of c.args.version c.args.cmd attributes ≡ Ok made = ap (λ (v : ℕ). command_of v c.args.cmd attributes) (sym kept) ∙ c.in-Ok-decode.ensures.exact attributes there.2 in
    record {
      attributes = attributes;
      command = made;
      read = there.1;
      command_is = command;
      can_write = read_can_write c.args.version c.args.cmd c.args.body.now attributes made c.ranges.cmd.fits c.requires.short (slice_bytes c.args.body.now c.type_inv.body) there.1 command;
      mention_is = sym (mention_made kind (bytes_in c.read.new.self) made (ok_same (sym (c.in-Ok-lawful_kind.ensures.exact attributes there.2) ∙ c.in-Ok-decode.ensures.exact attributes there.2)) (sym c.is_mention.ensures ∙ c.if-not-is_mention.false));
    }
