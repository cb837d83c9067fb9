use Rattle.std.specs.Prelude.{Some}
use Rattle.std.proofs.Common.{map, length, ap, ◌∙◌}
use Rattle.std.specs.String.{string_bytes}
use Rattle.sx_base.proofs.Asking.{asked_nothing}
use Rattle.clone_pieces.proofs.Asked.{AskedAgain}
use Rattle.clone_pieces.proofs.Fills.{zeroed, held_filled, lies_again, data_again, again_filled, again_named, again_changed}
use Rattle.clone_pieces.proofs.filling.fill_piece.Goals as goal

pub read_part-requires-clause-range : goal.read_part-requires-clause-range
read_part-requires-clause-range g c =
    lies_again c.args.files.now (g.B.OutsideBytes.held c.args.bytes.now) c.args.origin c.in-Some-Fresh.file c.in-Some-Fresh.at (length c.args.buf.now) c.index-files-file.result c.as_str.result.now
    (c.in-Some-Fresh.is ∙ ap Some c.in-Some-Fresh.field-0-is) c.requires.had c.index-files-file.is c.as_str.ensures.value _ c.requires.there

pub read_part-requires-clause-of_data : goal.read_part-requires-clause-of_data
read_part-requires-clause-of_data g c =
    data_again c.args.files.now (g.B.OutsideBytes.held c.args.bytes.now) c.args.origin c.in-Some-Fresh.file c.in-Some-Fresh.at (length c.args.buf.now) c.index-files-file.result c.as_str.result.now
    (c.in-Some-Fresh.is ∙ ap Some c.in-Some-Fresh.field-0-is) c.requires.had c.index-files-file.is c.as_str.ensures.value _ c.requires.there

pub returns-in-None-clause-filled : goal.returns-in-None-clause-filled
returns-in-None-clause-filled g c tells =
    zeroed _ (map string_bytes c.args.files.now) (g.B.OutsideBytes.held c.args.bytes.now) c.args.origin (length c.args.buf.now) c.fill.new.self c.in-None.is (c.fill.ensures.after (λ y e. e))

pub returns-in-Some-Fresh-clause-filled : goal.returns-in-Some-Fresh-clause-filled
returns-in-Some-Fresh-clause-filled g c tells =
    again_filled c.args.files.now (g.B.OutsideBytes.held c.args.bytes.now) c.args.origin c.in-Some-Fresh.file c.in-Some-Fresh.at (length c.args.buf.now) c.index-files-file.result c.as_str.result.now
    (c.in-Some-Fresh.is ∙ ap Some c.in-Some-Fresh.field-0-is) c.requires.had c.index-files-file.is c.as_str.ensures.value _ c.read_part.new.buf c.read_part.result c.requires.there c.read_part.auto.buf c.read_part.ensures.filled

pub returns-in-Some-Fresh-clause-changed : goal.returns-in-Some-Fresh-clause-changed
returns-in-Some-Fresh-clause-changed g c =
    again_changed c.args.files.now (g.B.OutsideBytes.held c.args.bytes.now) c.args.origin c.in-Some-Fresh.file c.in-Some-Fresh.at (length c.args.buf.now) c.index-files-file.result c.as_str.result.now
    (c.in-Some-Fresh.is ∙ ap Some c.in-Some-Fresh.field-0-is) c.requires.had c.index-files-file.is c.as_str.ensures.value _ c.read_part.result c.read_part.ensures.changed

pub returns-in-Ok-clause-filled : goal.returns-in-Ok-clause-filled
returns-in-Ok-clause-filled g c tells =
    held_filled _ (map string_bytes c.args.files.now) (length c.args.files.now) (g.B.OutsideBytes.held c.args.bytes.now) c.args.origin c.in-Some-Outside.key c.in-Some-Outside.ino c.in-Some-Outside.at (length c.args.buf.now)
    c.fill-in-Some-Outside.new.buf (c.in-Some-Outside.is ∙ ap Some c.in-Some-Outside.field-0-is) c.requires.had c.fill-in-Some-Outside.auto.buf (c.in-Ok.ensures.bytes tells)

pub returns-in-None-clause-asked : goal.returns-in-None-clause-asked
returns-in-None-clause-asked g c = asked_nothing g.I.Inputs c.args.inputs.now tt

pub returns-in-Some-Fresh-clause-asked : goal.returns-in-Some-Fresh-clause-asked
returns-in-Some-Fresh-clause-asked g c =
    again_named c.args.files.now (g.B.OutsideBytes.held c.args.bytes.now) c.args.origin c.in-Some-Fresh.file c.in-Some-Fresh.at (length c.args.buf.now) c.index-files-file.result c.as_str.result.now
    (c.in-Some-Fresh.is ∙ ap Some c.in-Some-Fresh.field-0-is) c.requires.had c.index-files-file.is c.as_str.ensures.value (λ names. AskedAgain g.I.Inputs names c.args.inputs.now c.read_part.new.inputs) c.read_part.ensures.asked

pub returns-in-Ok-clause-asked : goal.returns-in-Ok-clause-asked
returns-in-Ok-clause-asked g c = asked_nothing g.I.Inputs c.args.inputs.now tt

pub returns-in-Err-clause-asked : goal.returns-in-Err-clause-asked
returns-in-Err-clause-asked g c = asked_nothing g.I.Inputs c.args.inputs.now tt
