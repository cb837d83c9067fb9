use Rattle.std.specs.Prelude.{Err}
use Rattle.std.proofs.Common.{length, subst}
use Rattle.sx_base.specs.Again.{MeetsEnd}
use Rattle.sx_base.specs.declared.lost.Lost.{Lost}
use Rattle.clone_pieces.proofs.Told.{ended_among}
use Rattle.clone_pieces.proofs.Asked.{again_one}
use Rattle.clone_pieces.proofs.filling.read_part.Goals as goal

pub returns-in-Err-Ended-clause-changed : goal.returns-in-Err-Ended-clause-changed
returns-in-Err-Ended-clause-changed g c names less is =
    let last = g.I.Inputs.last_end c.read_again.new.self in
    ended_among names c.args.file c.in-Err-Ended.place c.args.name.now last less is
    (subst (λ (w : Lost). MeetsEnd c.args.name.now last (Err w)) c.in-Err-Ended.field-0-is c.in-Err-Ended.ensures.met)

pub returns-in-Ok-clause-asked : goal.returns-in-Ok-clause-asked
returns-in-Ok-clause-asked g c names less is = again_one g.I.Inputs names c.args.inputs.now c.read_again.new.self c.args.name.now c.args.at (length c.args.buf.now) c.args.file c.in-Ok.ensures.asked c.requires.range c.requires.of_data less is

pub returns-in-Err-Failed-clause-asked : goal.returns-in-Err-Failed-clause-asked
returns-in-Err-Failed-clause-asked g c names less is = again_one g.I.Inputs names c.args.inputs.now c.read_again.new.self c.args.name.now c.args.at (length c.args.buf.now) c.args.file c.in-Err-Failed.ensures.asked c.requires.range c.requires.of_data less is

pub returns-in-Err-Ended-clause-asked : goal.returns-in-Err-Ended-clause-asked
returns-in-Err-Ended-clause-asked g c names less is = again_one g.I.Inputs names c.args.inputs.now c.read_again.new.self c.args.name.now c.args.at (length c.args.buf.now) c.args.file c.in-Err-Ended.ensures.asked c.requires.range c.requires.of_data less is
