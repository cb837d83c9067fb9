use Rattle.std.specs.Prelude.{◌≡◌, ℕ, Bool, true, false, Ok, Err, None, Some}
use Rattle.std.proofs.Common.{refl, sym, ap, subst, ◌∙◌}
use Rattle.sx_base.specs.Refusals.{verdict_meant}
use Rattle.send_model.specs.Receive.{fault_of}
use Rattle.store_model.specs.Turns as meant
use Rattle.auditor.specs.Following.{blank}
use Rattle.send_commands.specs.Meaning.{meaning_of}
use Rattle.sx_base.proofs.Asking.{asked_nothing, read_none}
use Rattle.cmd_reader.specs.Places.{IfTold}
use Rattle.cmd_reader.specs.Left.{HasAhead, read_to}
use Rattle.cmd_reader.specs.Next.{item_of, GoesOn, NextSays}
use Rattle.cmd_reader.specs.declared.item.ReadStop.{ReadStop}
use Rattle.cmd_reader.proofs.Told.{told_map}
use Rattle.cmd_reader.proofs.Aheads.{next_item, next_end, next_ahead}
use Rattle.cmd_reader.proofs.Nexts.{given_next, refused_next, ended_next, stopped_next}
use Rattle.sx_base.specs.declared.outcome.Verdict.{Verdict}
use Rattle.sx_base.specs.declared.outcome.Outcome.TheVariants as ended
use Rattle.turn_sessions.specs.declared.session.Session as code_session
use Rattle.store_model.proofs.TurnOrder.{held_of}
use Rattle.turn_sessions.specs.Standing.{blank_cells, session_with}
use Rattle.turn_sessions.specs.Reading.{Command, AtEnd, AtFault, AtLimit, Nothing}
use Rattle.turn_sessions.proofs.Unpacked.{TurnSays}
use Rattle.turn_sessions.proofs.OneTurn.{turn_over, turn_ended, turn_unread, told_any, stops_there, reads_as, no_long, on_ok, same_next, read_alike, fewer_left}
use Rattle.turn_sessions.proofs.session.take_turn.Goals as goal

pub returns-then-session-clause-turned : goal.returns-then-session-clause-turned
returns-then-session-clause-turned g c = record {
  next = Nothing;
  read = told_any (g.I.Inputs.told c.args.inputs.now) c.args.session.now.reader.name;
  reads = c.if-session.true;
  says = λ s of held next. turn_over g.D.Disk c.args.disk.now c.args.store.now (g.O.Sink.taken c.args.out.now) g.G.Guarding.kept (λ is_told image. g.met.D.Disk.only_now c.args.disk.now image is_told) s c.args.session.now of c.if-session.true;
}

pub returns-then-session-clause-asked : goal.returns-then-session-clause-asked
returns-then-session-clause-asked g c = asked_nothing g.I.Inputs c.args.inputs.now (read_none c.args.session.now.reader.name (read_to c.args.session.now.reader))

pub advance-requires : goal.advance-requires
advance-requires g c = record { ahead = told_map (g.I.Inputs.told c.args.inputs.now) c.args.session.now.reader.name (λ bytes. c.args.session.now.is_over ≡ false → HasAhead c.args.session.now.reader bytes) (HasAhead c.args.session.now.reader) (λ bytes f. f c.if-session.false) c.requires.ahead }

pub do_turn-turned-requires-clause-spellable : goal.do_turn-turned-requires-clause-spellable
do_turn-turned-requires-clause-spellable g c =
    let given = given_next (g.I.Inputs.told c.args.inputs.now) c.args.session.now.reader c.advance.new.self c.in-Ok-Some.field-0 c.in-Ok-Some.frame c.in-Ok.item c.in-Ok-Some.field-0-is c.in-Ok-Some.ensures.says c.item.ensures.bytes c.in-Ok.ensures.says in
    given.fits.can_write.spellable

pub do_turn-turned-requires-clause-version : goal.do_turn-turned-requires-clause-version
do_turn-turned-requires-clause-version g c =
    let given = given_next (g.I.Inputs.told c.args.inputs.now) c.args.session.now.reader c.advance.new.self c.in-Ok-Some.field-0 c.in-Ok-Some.frame c.in-Ok.item c.in-Ok-Some.field-0-is c.in-Ok-Some.ensures.says c.item.ensures.bytes c.in-Ok.ensures.says in
    given.fits.version

pub do_turn-turned-requires-clause-same : goal.do_turn-turned-requires-clause-same
do_turn-turned-requires-clause-same g c =
    let given = given_next (g.I.Inputs.told c.args.inputs.now) c.args.session.now.reader c.advance.new.self c.in-Ok-Some.field-0 c.in-Ok-Some.frame c.in-Ok.item c.in-Ok-Some.field-0-is c.in-Ok-Some.ensures.says c.item.ensures.bytes c.in-Ok.ensures.says in
    read_alike c.args.session.now.reader c.args.session.now.current c.in-Ok.item.version c.requires.same given.fits.same_stream

pub do_turn-turned-requires-clause-held : goal.do_turn-turned-requires-clause-held
do_turn-turned-requires-clause-held g c = let held = c.requires.held in (held_of held.0, held.1.part, held.2)

pub returns-clause-ahead : goal.returns-clause-ahead
returns-clause-ahead g c =
    let e = c.in-Ok-Some.ensures in
    let given = given_next (g.I.Inputs.told c.args.inputs.now) c.args.session.now.reader c.advance.new.self c.in-Ok-Some.field-0 c.in-Ok-Some.frame c.in-Ok.item c.in-Ok-Some.field-0-is c.in-Ok-Some.ensures.says c.item.ensures.bytes c.in-Ok.ensures.says in
    let item = c.in-Ok.item in
    let ahead = next_ahead (g.I.Inputs.told c.args.inputs.now) (g.I.Inputs.told c.advance.new.inputs) c.args.session.now.reader c.advance.new.self 0 0 (Some item) item refl e.same e.name given.read in
    on_ok c.do_turn-turned.result _
    (told_map (g.I.Inputs.told c.advance.new.inputs) c.advance.new.self.name (HasAhead c.advance.new.self) (λ bytes. c.is_refused-over.result ≡ false → HasAhead c.advance.new.self bytes) (λ bytes h going. h) ahead)

pub returns-clause-same : goal.returns-clause-same
returns-clause-same g c =
    let given = given_next (g.I.Inputs.told c.args.inputs.now) c.args.session.now.reader c.advance.new.self c.in-Ok-Some.field-0 c.in-Ok-Some.frame c.in-Ok.item c.in-Ok-Some.field-0-is c.in-Ok-Some.ensures.says c.item.ensures.bytes c.in-Ok.ensures.says in
    same_next c.do_turn-turned.result c.advance.new.self c.in-Ok.item.version (meaning_of c.in-Ok.item.command) c.do_turn-turned.new.current given.fits.due c.do_turn-turned.ensures.same c.do_turn-turned.ensures.closed

pub returns-clause-within : goal.returns-clause-within
returns-clause-within g c =
    let given = given_next (g.I.Inputs.told c.args.inputs.now) c.args.session.now.reader c.advance.new.self c.in-Ok-Some.field-0 c.in-Ok-Some.frame c.in-Ok.item c.in-Ok-Some.field-0-is c.in-Ok-Some.ensures.says c.item.ensures.bytes c.in-Ok.ensures.says in
    on_ok c.do_turn-turned.result _ (λ going. given.fits.within)

pub returns-clause-fewer : goal.returns-clause-fewer
returns-clause-fewer g c going =
    let given = given_next (g.I.Inputs.told c.args.inputs.now) c.args.session.now.reader c.advance.new.self c.in-Ok-Some.field-0 c.in-Ok-Some.frame c.in-Ok.item c.in-Ok-Some.field-0-is c.in-Ok-Some.ensures.says c.item.ensures.bytes c.in-Ok.ensures.says in
    let old : code_session.Session _ = c.args.session.now in
    on_ok c.do_turn-turned.result _ (fewer_left old (session_with old.file c.advance.new.self c.do_turn-turned.new.guards c.do_turn-turned.new.current c.is_refused-over.result) going given.fits.further given.fits.within)

pub returns-clause-turned : goal.returns-clause-turned
returns-clause-turned g c =
    let old : code_session.Session _ = c.args.session.now in
    let told = g.I.Inputs.told c.args.inputs.now in
    let going = c.if-session.false in
    let given = given_next (g.I.Inputs.told c.args.inputs.now) c.args.session.now.reader c.advance.new.self c.in-Ok-Some.field-0 c.in-Ok-Some.frame c.in-Ok.item c.in-Ok-Some.field-0-is c.in-Ok-Some.ensures.says c.item.ensures.bytes c.in-Ok.ensures.says in
    let item = c.in-Ok.item in
    let is_next = next_item told told old.reader.name old.reader c.advance.new.self 0 0 (Some item) item refl refl refl given.read in
    record {
      next = Command (item_of old.file item);
      read = subst (λ (k : ℕ). IfTold told old.reader.name (GoesOn old.reader c.advance.new.self (item_of k item))) c.requires.file is_next;
      reads = reads_as c.do_turn-turned.result (item_of old.file item) old old refl refl going (stops_there c.do_turn-turned.result (item_of old.file item) old going c.do_turn-turned.ensures.stops);
      says = λ s of held next.
          let n = next (of.over ∙ going) in
          subst (λ (b : Bool). TurnSays g.D.Disk c.args.disk.now c.do_turn-turned.new.disk c.args.store.now c.do_turn-turned.new.store (g.O.Sink.taken c.args.out.now) (g.O.Sink.taken c.do_turn-turned.new.out) g.G.Guarding.kept (meant.session_turn tt blank_cells (blank c.args.store.now.core) s) (session_with old.file c.advance.new.self c.do_turn-turned.new.guards c.do_turn-turned.new.current b) c.do_turn-turned.result) (sym c.is_refused-over.ensures)
          (c.do_turn-turned.ensures.turned c.advance.new.self s (record { guards = of.guards; over = of.over ∙ going; part = of.part }) held n.0 n.1);
    }

pub returns-clause-kept : goal.returns-clause-kept
returns-clause-kept g c =
    let old : code_session.Session _ = c.args.session.now in
    let item = item_of old.file c.in-Ok.item in
    no_long c.do_turn-turned.result item old (c.do_turn-turned.new.store ≡ c.args.store.now) (stops_there c.do_turn-turned.result item old c.if-session.false c.do_turn-turned.ensures.stops)

pub returns-in-Ok-None-clause-turned : goal.returns-in-Ok-None-clause-turned
returns-in-Ok-None-clause-turned g c =
    let old : code_session.Session _ = c.args.session.now in
    let told = g.I.Inputs.told c.args.inputs.now in
    let going = c.if-session.false in
    record {
      next = AtEnd;
      read = next_end told told old.reader.name old.reader c.advance.new.self 0 0 None refl refl refl (ended_next told old.reader c.advance.new.self c.in-Ok-None.field-0 c.in-Ok-None.field-0-is c.in-Ok-None.ensures.says);
      reads = going;
      says = λ s of held next.
          let n = next (of.over ∙ going) in
          turn_ended g.D.Disk c.args.disk.now c.args.store.now (g.O.Sink.taken c.args.out.now) g.G.Guarding.kept (λ is_told image. g.met.D.Disk.only_now c.args.disk.now image is_told) s old of
          (record { file = old.file; reader = c.advance.new.self; guards = old.guards; current = None; is_over = true }) None n.0 going refl refl refl (ap fault_of n.1);
    }

pub returns-in-Err-Refused-clause-turned : goal.returns-in-Err-Refused-clause-turned
returns-in-Err-Refused-clause-turned g c =
    let old : code_session.Session _ = c.args.session.now in
    let told = g.I.Inputs.told c.args.inputs.now in
    let going = c.if-session.false in
    let verdict = c.in-Err-Refused.verdict in
    record {
      next = AtFault (verdict_meant verdict);
      read = subst (λ (why : ReadStop). NextSays told old.reader c.advance.new.self (g.I.Inputs.faults c.args.inputs.now) (g.I.Inputs.faults c.advance.new.inputs) (Err why)) c.in-Err-Refused.field-0-is
          (stopped_next told old.reader c.advance.new.self _ _ c.in-Err-Refused.field-0 c.in-Err-Refused.ensures.says);
      reads = going;
      says = λ s of held next.
          let n = next (of.over ∙ going) in
          subst (λ (v : Verdict). TurnSays g.D.Disk c.args.disk.now c.args.disk.now c.args.store.now c.args.store.now (g.O.Sink.taken c.args.out.now) (g.O.Sink.taken c.args.out.now) g.G.Guarding.kept (meant.session_turn tt blank_cells (blank c.args.store.now.core) s) (record { file = old.file; reader = c.advance.new.self; guards = old.guards; current = None; is_over = true }) (Ok (Some v))) (sym c.in-Err-Refused.verdict-is)
          (turn_ended g.D.Disk c.args.disk.now c.args.store.now (g.O.Sink.taken c.args.out.now) g.G.Guarding.kept (λ is_told image. g.met.D.Disk.only_now c.args.disk.now image is_told) s old of
          (record { file = old.file; reader = c.advance.new.self; guards = old.guards; current = None; is_over = true }) (Some verdict) n.0 going refl refl refl (ap fault_of n.1));
    }

-- The frame is refused.
pub returns-in-Err-clause-turned : goal.returns-in-Err-clause-turned
returns-in-Err-clause-turned g c =
    let old : code_session.Session _ = c.args.session.now in
    let told = g.I.Inputs.told c.args.inputs.now in
    let going = c.if-session.false in
    let verdict = c.in-Err.verdict in
    record {
      next = AtFault (verdict_meant verdict);
      read = refused_next told old.reader c.advance.new.self c.in-Ok-Some.field-0 c.in-Ok-Some.frame verdict c.in-Ok-Some.field-0-is c.in-Ok-Some.ensures.says c.item.ensures.bytes c.in-Err.ensures.says;
      reads = going;
      says = λ s of held next.
          let n = next (of.over ∙ going) in
          turn_ended g.D.Disk c.args.disk.now c.args.store.now (g.O.Sink.taken c.args.out.now) g.G.Guarding.kept (λ is_told image. g.met.D.Disk.only_now c.args.disk.now image is_told) s old of
          (record { file = old.file; reader = c.advance.new.self; guards = old.guards; current = None; is_over = true }) (Some verdict) n.0 going refl refl refl (ap fault_of n.1);
    }

pub returns-in-Err-InputFault-clause-turned : goal.returns-in-Err-InputFault-clause-turned
returns-in-Err-InputFault-clause-turned g c =
    let old : code_session.Session _ = c.args.session.now in
    record {
      next = Nothing;
      read = told_any (g.I.Inputs.told c.args.inputs.now) old.reader.name;
      reads = tt;
      says = λ s of held next. turn_unread g.D.Disk c.args.disk.now c.args.store.now (g.O.Sink.taken c.args.out.now) g.G.Guarding.kept (λ is_told image. g.met.D.Disk.only_now c.args.disk.now image is_told) s old of
          (record { file = old.file; reader = c.advance.new.self; guards = old.guards; current = old.current; is_over = old.is_over }) ended.InputFault tt;
    }

pub returns-in-Err-InputTooLong-clause-turned : goal.returns-in-Err-InputTooLong-clause-turned
returns-in-Err-InputTooLong-clause-turned g c =
    let old : code_session.Session _ = c.args.session.now in
    let told = g.I.Inputs.told c.args.inputs.now in
    record {
      next = AtLimit;
      read = subst (λ (why : ReadStop). NextSays told old.reader c.advance.new.self (g.I.Inputs.faults c.args.inputs.now) (g.I.Inputs.faults c.advance.new.inputs) (Err why)) c.in-Err-InputTooLong.field-0-is
          (stopped_next told old.reader c.advance.new.self _ _ c.in-Err-InputTooLong.field-0 c.in-Err-InputTooLong.ensures.says);
      reads = (refl, refl, c.if-session.false);
      says = λ s of held next. turn_unread g.D.Disk c.args.disk.now c.args.store.now (g.O.Sink.taken c.args.out.now) g.G.Guarding.kept (λ is_told image. g.met.D.Disk.only_now c.args.disk.now image is_told) s old of
          (record { file = old.file; reader = c.advance.new.self; guards = old.guards; current = old.current; is_over = old.is_over }) (ended.InputTooLong old.file) tt;
    }
