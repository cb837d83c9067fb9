use Rattle.std.proofs.Common.{◌≡◌, Ok, sym, ap, subst, ◌∙◌, ℕ, arith}
use Rattle.send_model.specs.Reading.{place_of, command_of}
use Rattle.send_commands.specs.Meaning.{meaning_of}
use Rattle.send_commands.specs.Writing.{IsWritable}
use Rattle.send_model.specs.Attribute.{DATA}
use Rattle.send_model.proofs.Fuel.{ok_same}
use Rattle.std.proofs.lemmas.Bool.{true≢false}
use Rattle.cmd_reader.proofs.CommandFacts.{table_read, stands_alone, alone_stands, place_in_body, slice_bytes, read_can_write}
use Rattle.cmd_reader.proofs.front.command_in.Goals as goal

pub overflow_add-data_at-in-Some : goal.overflow_add-data_at-in-Some
overflow_add-data_at-in-Some c =
    let taken = table_read c.args.version _ _ c.read.result c.args.body.now c.new-table.ensures.none c.in-Ok.is c.read.ensures.exact in
    let kept = taken.0 in
    let there = taken.1 in
    let place = ap (λ (v : ℕ). place_of v DATA there.0) (sym kept) ∙ sym (there.2.places DATA) ∙ sym c.place.ensures.place ∙ c.in-Some.is in
    let within = place_in_body c.args.version c.args.body.now there.0 c.in-Some.place there.1 place in
    omega (arith, within, c.requires.place, c.requires.short)

pub returns-in-Ok-decode-clause-fits : goal.returns-in-Ok-decode-clause-fits
returns-in-Ok-decode-clause-fits c =
    let taken = table_read c.args.version _ _ c.read.result c.args.body.now c.new-table.ensures.none c.in-Ok.is c.read.ensures.exact in
    let kept = taken.0 in
    let there = taken.1 in
    let attributes = there.0 in
    let command : command_of c.args.version c.args.cmd attributes ≡ Ok (meaning_of c.in-Ok-decode.command) = ap (λ (v : ℕ). command_of v c.args.cmd attributes) (sym kept) ∙ c.in-Ok-decode.ensures.exact attributes there.2 in
    record {
      writable = subst (λ (v : ℕ). IsWritable v (meaning_of c.in-Ok-decode.command)) kept c.in-Ok-decode.ensures.writable;
      can_write = read_can_write c.args.version c.args.cmd c.args.body.now attributes (meaning_of c.in-Ok-decode.command) c.ranges.cmd.fits c.requires.short (slice_bytes c.args.body.now c.type_inv.body) there.1 command;
      alone = λ tried others read. ok_same (sym read ∙ there.1) ∙ stands_alone c.args.version c.args.cmd c.args.body.now attributes (meaning_of c.in-Ok-decode.command) _ c.ranges.cmd.fits c.requires.short (slice_bytes c.args.body.now c.type_inv.body) there.1 command kept there.2 (sym c.is_canonical-canonical.ensures.exact ∙ tried);
      others = λ other own. true≢false (sym (alone_stands c.args.version c.args.cmd c.args.body.now attributes (meaning_of c.in-Ok-decode.command) _ c.ranges.cmd.fits c.requires.short (slice_bytes c.args.body.now c.type_inv.body) there.1 command kept there.2 (own attributes there.1)) ∙ sym c.is_canonical-canonical.ensures.exact ∙ other);
    }
