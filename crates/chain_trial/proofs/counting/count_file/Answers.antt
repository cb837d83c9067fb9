use Rattle.std.specs.Prelude.{None, Some}
use Rattle.std.proofs.Common.{refl, ap, ◌∙◌, arith}
use Rattle.send_commands.specs.Meaning.{meaning_of}
use Rattle.cmd_reader.specs.Left.{Reader}
use Rattle.cmd_reader.specs.declared.item.ReadStop.TheVariants as stop
use Rattle.cmd_reader.proofs.Aheads.{start_ahead, next_ahead}
use Rattle.cmd_reader.proofs.Nexts.{given_next, refused_next, ended_next, stopped_next}
use Rattle.chain_trial.proofs.FileCounting.{stands_at_start, stands_after, bare, file_ends, literal_room, one_room, never_stops}
use Rattle.chain_trial.proofs.counting.count_file.Goals as goal

pub loop-frame-init : goal.loop-frame-init
loop-frame-init c =
    let fresh = c.in_ok-reader.ensures.start in
    let none = c.none-counted.ensures in
    record {
      same = refl;
      file = ap (λ (r : Reader). r.file) fresh;
      name = ap (λ (r : Reader). r.name) fresh;
      within = omega (arith, ap (λ (r : Reader). r.offset) fresh);
      numbered = omega (arith, none.commands);
      cloned = omega (arith, none.clones);
      stands = stands_at_start (Some c.args.inputs.now) c.args.name.now c.in_ok-reader.reader c.none-counted.result fresh none.commands none.clones none.literal;
      ahead = start_ahead (Some c.args.inputs.now) 1 c.args.name.now c.in_ok-reader.reader fresh;
    }

pub returns-in-Ok-None : goal.returns-in-Ok-None
returns-in-Ok-None c =
    let i = c.loop-frame.invariant in
    record {
      same = bare c.loop-frame.inputs c.advance.new.inputs c.in-Ok-None.ensures.same ∙ i.same;
      counted = file_ends c.args.inputs.now c.loop-frame.inputs c.args.name.now c.loop-frame.reader c.advance.new.self c.loop-frame.counted 0 0 None refl i.same i.name
          (ended_next (Some c.loop-frame.inputs) c.loop-frame.reader c.advance.new.self c.in-Ok-None.field-0 c.in-Ok-None.field-0-is c.in-Ok-None.ensures.says) i.stands;
    }

pub unreachable-requires : goal.unreachable-requires
unreachable-requires c =
    let i = c.loop-frame.invariant in
    never_stops c.args.inputs.now c.loop-frame.inputs c.args.name.now c.loop-frame.reader c.advance.new.self c.loop-frame.counted c.in-Err.field-0 i.same i.name
    (stopped_next (Some c.loop-frame.inputs) c.loop-frame.reader c.advance.new.self 0 0 c.in-Err.field-0 c.in-Err.ensures.says) i.stands c.requires.countable

pub unreachable-requires-in-Err-item : goal.unreachable-requires-in-Err-item
unreachable-requires-in-Err-item c =
    let i = c.loop-frame.invariant in
    let verdict = c.in-Err-item.field-0 in
    never_stops c.args.inputs.now c.loop-frame.inputs c.args.name.now c.loop-frame.reader c.advance.new.self c.loop-frame.counted (stop.Refused verdict) i.same i.name
    (refused_next (Some c.loop-frame.inputs) c.loop-frame.reader c.advance.new.self c.in-Ok-Some.field-0 c.in-Ok-Some.frame verdict c.in-Ok-Some.field-0-is c.in-Ok-Some.ensures.says c.item.ensures.bytes c.in-Err-item.ensures.says) i.stands c.requires.countable

pub with-counted-requires-clause-literal : goal.with-counted-requires-clause-literal
with-counted-requires-clause-literal c =
    let i = c.loop-frame.invariant in
    let given = given_next (Some c.loop-frame.inputs) c.loop-frame.reader c.advance.new.self c.in-Ok-Some.field-0 c.in-Ok-Some.frame c.in-Ok.item c.in-Ok-Some.field-0-is c.in-Ok-Some.ensures.says c.item.ensures.bytes c.in-Ok.ensures.says in
    literal_room c.args.inputs.now c.loop-frame.inputs c.args.name.now c.loop-frame.reader c.advance.new.self c.loop-frame.counted 0 0 (Some c.in-Ok.item) c.in-Ok.item refl i.same i.name given.read i.stands c.requires.countable

pub loop-frame-smaller : goal.loop-frame-smaller
loop-frame-smaller c =
    let given = given_next (Some c.loop-frame.inputs) c.loop-frame.reader c.advance.new.self c.in-Ok-Some.field-0 c.in-Ok-Some.frame c.in-Ok.item c.in-Ok-Some.field-0-is c.in-Ok-Some.ensures.says c.item.ensures.bytes c.in-Ok.ensures.says in
    omega (arith, given.fits.further, given.fits.within)

pub loop-frame-preserved : goal.loop-frame-preserved
loop-frame-preserved c =
    let i = c.loop-frame.invariant in
    let e = c.in-Ok-Some.ensures in
    let more = c.with-counted.ensures in
    let given = given_next (Some c.loop-frame.inputs) c.loop-frame.reader c.advance.new.self c.in-Ok-Some.field-0 c.in-Ok-Some.frame c.in-Ok.item c.in-Ok-Some.field-0-is c.in-Ok-Some.ensures.says c.item.ensures.bytes c.in-Ok.ensures.says in
    let m = given.fits in
    let room = one_room (meaning_of c.in-Ok.item.command) c.loop-frame.counted.clones c.loop-frame.counted.commands c.loop-frame.reader.offset c.advance.new.self.offset i.cloned i.numbered m.further m.within in
    record {
      same = bare c.loop-frame.inputs c.advance.new.inputs e.same ∙ i.same;
      file = e.file ∙ i.file;
      name = e.name ∙ i.name;
      within = m.within;
      numbered = omega (arith, more.commands, i.numbered, m.further);
      cloned = omega (arith, more.commands, more.clones, room.2);
      stands = stands_after (Some c.args.inputs.now) (Some c.loop-frame.inputs) c.args.name.now c.loop-frame.reader c.advance.new.self c.loop-frame.counted c.with-counted.result 0 0 (Some c.in-Ok.item) c.in-Ok.item refl (ap Some i.same) i.name i.file given.read
          (record { commands = more.commands; clones_are = more.clones; literal_is = more.literal }) i.stands;
      ahead = next_ahead (Some c.loop-frame.inputs) (Some c.advance.new.inputs) c.loop-frame.reader c.advance.new.self 0 0 (Some c.in-Ok.item) c.in-Ok.item refl e.same e.name given.read;
    }
