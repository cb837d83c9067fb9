use Rattle.std.specs.Prelude.{[], ◌∷◌}
use Rattle.std.proofs.Common.{refl}
use Rattle.send_model.specs.Spelling.{canonical}
use Rattle.send_commands.specs.Meaning.{meaning_of}
use Rattle.clone_pieces.specs.Sending.{output}
use Rattle.squasher.specs.declared.writing.WriteStop.TheVariants as why
use Rattle.squasher.proofs.Going.{handed_on, one_stops, one_goes}
use Rattle.squasher.proofs.writing.write_frame.Goals as goal

pub returns-in_err-put_bytes-clause-put : goal.returns-in_err-put_bytes-clause-put
returns-in_err-put_bytes-clause-put g c =
    let old = output g.O.Sink c.args.out.now c.args.pending.now in
    let new = output g.O.Sink c.put_bytes.new.out c.put_bytes.new.pending in
    let v = c.args.item.now.version in
    let command = meaning_of c.args.item.now.command in
    handed_on v old new (command ∷ []) c.from_residual.result (why.Send c.in_err-put_bytes.field-0.0) c.from_residual.ensures.1
    (one_stops v old new command c.args.frame.now c.in_err-put_bytes.field-0.0 (c.requires.spelled c.if-item.true) c.in_err-put_bytes.ensures.put)

pub returns-then-item-clause-put : goal.returns-then-item-clause-put
returns-then-item-clause-put g c =
    one_goes c.args.item.now.version (output g.O.Sink c.args.out.now c.args.pending.now) (output g.O.Sink c.put_bytes.new.out c.put_bytes.new.pending) (meaning_of c.args.item.now.command) c.args.frame.now (c.requires.spelled c.if-item.true) c.in_ok-put_bytes.ensures.put

pub returns-in_err-put-clause-put : goal.returns-in_err-put-clause-put
returns-in_err-put-clause-put g c =
    let old = output g.O.Sink c.args.out.now c.args.pending.now in
    let new = output g.O.Sink c.put.new.out c.put.new.pending in
    let v = c.args.item.now.version in
    let command = meaning_of c.args.item.now.command in
    handed_on v old new (command ∷ []) c.from_residual-in_err-put.result (why.Send c.in_err-put.field-0.0) c.from_residual-in_err-put.ensures.1
    (one_stops v old new command (canonical v command) c.in_err-put.field-0.0 refl c.in_err-put.ensures.put)

pub returns-clause-put : goal.returns-clause-put
returns-clause-put g c =
    one_goes c.args.item.now.version (output g.O.Sink c.args.out.now c.args.pending.now) (output g.O.Sink c.put.new.out c.put.new.pending) (meaning_of c.args.item.now.command) (canonical c.args.item.now.version (meaning_of c.args.item.now.command)) refl c.in_ok-put.ensures.put
