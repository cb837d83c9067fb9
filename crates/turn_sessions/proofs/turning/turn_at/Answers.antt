use Rattle.std.specs.Prelude.{◌≡◌, ℕ, false, List, Ok, slice_index_or}
use Rattle.std.proofs.Common.{sym, subst, ◌∙◌}
use Rattle.sx_base.proofs.Asking.{asked_so}
use Rattle.auditor.specs.Following.{blank}
use Rattle.cmd_reader.specs.Places.{IfTold}
use Rattle.cmd_reader.specs.Left.{HasAhead}
use Rattle.turn_sessions.proofs.AsksInTurn.{one_asked}
use Rattle.turn_sessions.proofs.Sessions.{reading_at}
use Rattle.turn_sessions.proofs.GoingOn.{stop_is_end, told_ok, told_err}
use Rattle.turn_sessions.proofs.Turnings.{there, turn_held, taking_with, still_reading, fewer_left}
use Rattle.turn_sessions.proofs.turning.turn_at.Goals as goal

pub take_turn-requires-clause-file : goal.take_turn-requires-clause-file
take_turn-requires-clause-file g c =
    let r = c.requires.reading in
    let session = slice_index_or c.args.sessions.now c.args.turn.now.place c.index-sessions-turn.result in
    let f = reading_at (g.I.Inputs.told c.args.inputs.now) 1 r.0 c.args.sessions.now c.args.turn.now.place session r.1 (there c.args.sessions.now c.args.turn.now.place c.index-sessions-turn.result c.requires.within) in
    f.reading.own ∙ sym f.reading.file

pub take_turn-requires-clause-ahead : goal.take_turn-requires-clause-ahead
take_turn-requires-clause-ahead g c =
    let r = c.requires.reading in
    let session = slice_index_or c.args.sessions.now c.args.turn.now.place c.index-sessions-turn.result in
    let f = reading_at (g.I.Inputs.told c.args.inputs.now) 1 r.0 c.args.sessions.now c.args.turn.now.place session r.1 (there c.args.sessions.now c.args.turn.now.place c.index-sessions-turn.result c.requires.within) in
    subst (λ (name : List ℕ). IfTold (g.I.Inputs.told c.args.inputs.now) name (λ bytes. session.is_over ≡ false → HasAhead session.reader bytes)) (sym f.reading.named) f.reading.ahead

pub take_turn-requires-clause-within : goal.take_turn-requires-clause-within
take_turn-requires-clause-within g c =
    let r = c.requires.reading in
    let session = slice_index_or c.args.sessions.now c.args.turn.now.place c.index-sessions-turn.result in
    let f = reading_at (g.I.Inputs.told c.args.inputs.now) 1 r.0 c.args.sessions.now c.args.turn.now.place session r.1 (there c.args.sessions.now c.args.turn.now.place c.index-sessions-turn.result c.requires.within) in
    f.reading.within

pub take_turn-requires-clause-same : goal.take_turn-requires-clause-same
take_turn-requires-clause-same g c =
    let r = c.requires.reading in
    let session = slice_index_or c.args.sessions.now c.args.turn.now.place c.index-sessions-turn.result in
    let f = reading_at (g.I.Inputs.told c.args.inputs.now) 1 r.0 c.args.sessions.now c.args.turn.now.place session r.1 (there c.args.sessions.now c.args.turn.now.place c.index-sessions-turn.result c.requires.within) in
    f.reading.same

pub take_turn-requires-clause-held : goal.take_turn-requires-clause-held
take_turn-requires-clause-held g c =
    let t = c.requires.taking in
    let session = slice_index_or c.args.sessions.now c.args.turn.now.place c.index-sessions-turn.result in
    turn_held g.G.Guarding.kept c.args.sessions.now c.args.turn.now.place session (there c.args.sessions.now c.args.turn.now.place c.index-sessions-turn.result c.requires.within) (blank c.args.store.now.core) t.0 t.1

pub returns-in-Ok-clause-reading : goal.returns-in-Ok-clause-reading
returns-in-Ok-clause-reading g c names are =
    let session = slice_index_or c.args.sessions.now c.args.turn.now.place c.index-sessions-turn.result in
    let e = c.in-Ok.ensures in
    still_reading (g.I.Inputs.told c.args.inputs.now) (g.I.Inputs.told c.take_turn.new.inputs) e.inputs.same {T = Unit {0}} (Ok tt) names c.args.sessions.now c.args.turn.now.place session c.take_turn.new.session
    (there c.args.sessions.now c.args.turn.now.place c.index-sessions-turn.result c.requires.within) are e.file e.reader_file e.reader_name e.ahead e.same e.within

pub returns-in-Ok-clause-taking : goal.returns-in-Ok-clause-taking
returns-in-Ok-clause-taking g c =
    let t = c.requires.taking in
    let session = slice_index_or c.args.sessions.now c.args.turn.now.place c.index-sessions-turn.result in
    taking_with g.D.Disk c.args.disk.now c.take_turn.new.disk c.args.store.now c.take_turn.new.store (g.O.Sink.taken c.args.out.now) (g.O.Sink.taken c.take_turn.new.out) g.G.Guarding.kept (g.I.Inputs.told c.args.inputs.now)
    c.args.sessions.now c.args.turn.now.place session c.take_turn.new.session (Ok c.in-Ok.now) t.0 (there c.args.sessions.now c.args.turn.now.place c.index-sessions-turn.result c.requires.within) t.1 c.in-Ok.ensures.turned

pub returns-in-Ok-clause-asked : goal.returns-in-Ok-clause-asked
returns-in-Ok-clause-asked g c =
    asked_so g.I.Inputs (λ asks on. one_asked c.args.sessions.now c.args.turn.now.place c.index-sessions-turn.result c.take_turn.new.session c.requires.within c.in-Ok.ensures.reader_name asks on) c.in-Ok.ensures.asked

pub returns-in-Err-clause-asked : goal.returns-in-Err-clause-asked
returns-in-Err-clause-asked g c =
    asked_so g.I.Inputs (λ asks on. one_asked c.args.sessions.now c.args.turn.now.place c.index-sessions-turn.result c.take_turn.new.session c.requires.within c.in-Err.ensures.reader_name asks on) c.in-Err.ensures.asked

pub returns-in-Ok-clause-fewer : goal.returns-in-Ok-clause-fewer
returns-in-Ok-clause-fewer g c =
    let session = slice_index_or c.args.sessions.now c.args.turn.now.place c.index-sessions-turn.result in
    fewer_left {T = Unit {0}} (Ok tt) c.args.sessions.now c.args.turn.now.place session c.take_turn.new.session (there c.args.sessions.now c.args.turn.now.place c.index-sessions-turn.result c.requires.within) c.in-Ok.ensures.fewer

pub returns-in-Ok-clause-going : goal.returns-in-Ok-clause-going
returns-in-Ok-clause-going g c start was begun names w end last rest are =
    let session = slice_index_or c.args.sessions.now c.args.turn.now.place c.index-sessions-turn.result in
    told_ok g.D.Disk start c.args.disk.now c.take_turn.new.disk was c.args.store.now c.take_turn.new.store begun (g.O.Sink.taken c.args.out.now) (g.O.Sink.taken c.take_turn.new.out) g.G.Guarding.kept w end last c.args.turn.now.place rest c.args.turn.now.refused
    c.args.sessions.now session c.take_turn.new.session (there c.args.sessions.now c.args.turn.now.place c.index-sessions-turn.result c.requires.within) names (g.I.Inputs.told c.args.inputs.now) c.in-Ok.now c.first_of.result are c.in-Ok.ensures.turned c.first_of.ensures

pub returns-in-Err-clause-going : goal.returns-in-Err-clause-going
returns-in-Err-clause-going g c start was begun names w end last rest are =
    let session = slice_index_or c.args.sessions.now c.args.turn.now.place c.index-sessions-turn.result in
    told_err g.D.Disk start c.args.disk.now c.take_turn.new.disk was c.args.store.now c.take_turn.new.store begun (g.O.Sink.taken c.args.out.now) (g.O.Sink.taken c.take_turn.new.out) g.G.Guarding.kept w end last c.args.turn.now.place rest c.args.turn.now.refused
    c.args.sessions.now session c.take_turn.new.session (there c.args.sessions.now c.args.turn.now.place c.index-sessions-turn.result c.requires.within) names (g.I.Inputs.told c.args.inputs.now) c.in-Err.why are c.in-Err.ensures.turned c.in-Err.ensures.kept

pub returns-in-Err-clause-stops : goal.returns-in-Err-clause-stops
returns-in-Err-clause-stops g c = stop_is_end c.in-Err.why c.in-Err.ensures.turned.next (slice_index_or c.args.sessions.now c.args.turn.now.place c.index-sessions-turn.result) c.in-Err.ensures.turned.reads
