use Rattle.std.specs.Prelude.{◌≡◌, ◌⊎◌, ℕ, map, None, Some}
use Rattle.std.specs.String.{string_bytes}
use Rattle.std.proofs.Common.{refl, sym, ap, subst, ◌∙◌, ◌+◌, ◌<◌, arith}
use Rattle.cmd_reader.specs.Left.{Reader, HasAhead}
use Rattle.cmd_reader.specs.Next.{item_of}
use Rattle.sx_base.specs.declared.outcome.Outcome.TheVariants as ended
use Rattle.cmd_reader.specs.declared.item.ReadStop.TheVariants as stop
use Rattle.cmd_reader.proofs.Aheads.{start_ahead, next_ahead}
use Rattle.cmd_reader.proofs.Nexts.{given_next, refused_next, ended_next, stopped_next}
use Rattle.cmd_reader.proofs.Told.{told_moved}
use Rattle.clone_pieces.specs.Origins.{IsInInput}
use Rattle.send_model.specs.Cells.{AllCells}
use Rattle.send_model.specs.Overridden.{override_for}
use Rattle.send_model.proofs.Streams.{read_version}
use Rattle.part_names.specs.Overriding.{IsOverridden}
use Rattle.composer.specs.Taking.{DataStand}
use Rattle.composer.specs.Files.{plan_with}
use Rattle.clone_pieces.proofs.Lengths.{long_then}
use Rattle.clone_pieces.proofs.Told as all
use Rattle.clone_pieces.proofs.Told.{name_at, count_names}
use Rattle.composer.proofs.NamedItem.{same_version, still_within, still_said, still_spelled, named_for}
use Rattle.composer.proofs.Asked.{file_none, file_read, file_again, file_all, file_unread}
use Rattle.composer.proofs.FileWriting.{EndsAlike, in_files_at_start, in_files_after, cells_in_files, stands_at_start, alike_at_start, alike_after, next_of_all, data_there, stands_after, file_unopened, file_ends, file_stops, file_above, item_stops}
use Rattle.composer.proofs.whole.write_file.Goals as goal

pub returns-in_default-clause-wrote : goal.returns-in_default-clause-wrote
returns-in_default-clause-wrote g c tells =
    file_unopened (g.I.Inputs.told c.args.inputs.now) (map string_bytes c.args.task.now.files.now) (plan_with (g.E.Known.base c.args.task.now.known.now) c.args.task.now.survey.now) c.args.turn.number (c.args.turn.number + 1) (override_for c.args.task.now.overrides.now (c.args.turn.number + 1)) c.args.composer.now (g.O.Sink.taken c.args.out.now)

pub loop-frame-init : goal.loop-frame-init
loop-frame-init g c =
    let fresh = c.in-Ok.ensures.start in
    record {
      same = refl;
      asked = file_none g.I.Inputs (map string_bytes c.args.task.now.files.now) c.args.turn.number (c.args.turn.number + 1) c.as_str.result.now c.in-Ok.reader c.args.inputs.now fresh;
      sizes = λ key ino. refl;
      held = λ tells. refl;
      steady = refl;
      ends_steady = refl;
      bytes_steady = refl;
      out_steady = refl;
      file = ap (λ (r : Reader). r.file) fresh;
      name = ap (λ (r : Reader). r.name) fresh ∙ name_at c.args.task.now.files.now c.args.turn.number c.index-task-turn.result c.as_str.result.now c.requires.numbered c.index-task-turn.is (c.as_str.ensures.value ∙ ap string_bytes (sym c.index-task-turn.is));
      had = c.requires.had;
      there = in_files_at_start (g.I.Inputs.told c.args.inputs.now) (map string_bytes c.args.task.now.files.now) c.args.turn.number (c.args.turn.number + 1) c.as_str.result.now c.in-Ok.reader c.args.composer.now refl fresh c.requires.there;
      stands = λ tells. stands_at_start (g.I.Inputs.told c.args.inputs.now) (map string_bytes c.args.task.now.files.now) (plan_with (g.E.Known.base c.args.task.now.known.now) c.args.task.now.survey.now) c.args.turn.number (c.args.turn.number + 1) (override_for c.args.task.now.overrides.now (c.args.turn.number + 1)) c.as_str.result.now c.in-Ok.reader c.args.composer.now (g.O.Sink.taken c.args.out.now) c.args.turn.before fresh;
      alike = alike_at_start _ (c.args.turn.number + 1) _ c.as_str.result.now c.in-Ok.reader fresh;
      ahead = start_ahead _ (c.args.turn.number + 1) c.as_str.result.now c.in-Ok.reader fresh;
    }

pub returns-in-Ok-None-clause-wrote : goal.returns-in-Ok-None-clause-wrote
returns-in-Ok-None-clause-wrote g c tells =
    let i = c.loop-frame.invariant in
    file_ends _ _ (map string_bytes c.args.task.now.files.now) (plan_with (g.E.Known.base c.args.task.now.known.now) c.args.task.now.survey.now) c.args.turn.number (c.args.turn.number + 1) (override_for c.args.task.now.overrides.now (c.args.turn.number + 1)) c.args.composer.now _ c.loop-frame.reader c.advance.new.self c.loop-frame.composer _ c.args.turn.before c.loop-frame.place 0 0 None refl i.same
    (count_names c.args.task.now.files.now c.args.turn.number c.requires.numbered) i.name
    (ended_next (g.I.Inputs.told c.loop-frame.inputs) c.loop-frame.reader c.advance.new.self c.in-Ok-None.field-0 c.in-Ok-None.field-0-is c.in-Ok-None.ensures.says) (i.stands tells)

pub returns-in-Ok-None-clause-there : goal.returns-in-Ok-None-clause-there
returns-in-Ok-None-clause-there g c = cells_in_files (g.I.Inputs.told c.args.inputs.now) (map string_bytes c.args.task.now.files.now) c.args.turn.number c.loop-frame.reader c.loop-frame.composer c.loop-frame.invariant.there

pub take-taken-requires-clause-frame : goal.take-taken-requires-clause-frame
take-taken-requires-clause-frame g c =
    let f = (given_next (g.I.Inputs.told c.loop-frame.inputs) c.loop-frame.reader c.advance.new.self c.in-Ok-Some.field-0 c.in-Ok-Some.frame c.in-Ok-item.item c.in-Ok-Some.field-0-is c.in-Ok-Some.ensures.says c.item.ensures.bytes c.in-Ok-item.ensures.says).fits in
    still_spelled _ c.in-Ok-item.item c.given_or-meant.result.now (subst (IsOverridden _ c.in-Ok-item.item) (sym c.given_or-meant.ensures) c.override_item-changed.ensures.meant).meant c.last_frame-came.result.now c.advance.new.self.fed.last c.last_frame-came.ensures.bytes (subst (IsOverridden _ c.in-Ok-item.item) (sym c.given_or-meant.ensures) c.override_item-changed.ensures.meant).frame f.spelled

pub take-taken-requires-clause-version : goal.take-taken-requires-clause-version
take-taken-requires-clause-version g c =
    let f = (given_next (g.I.Inputs.told c.loop-frame.inputs) c.loop-frame.reader c.advance.new.self c.in-Ok-Some.field-0 c.in-Ok-Some.frame c.in-Ok-item.item c.in-Ok-Some.field-0-is c.in-Ok-Some.ensures.says c.item.ensures.bytes c.in-Ok-item.ensures.says).fits in
    subst (λ (v : ℕ). (v ≡ 1) ⊎ (v ≡ 2)) (sym (same_version _ c.in-Ok-item.item c.given_or-meant.result.now (subst (IsOverridden _ c.in-Ok-item.item) (sym c.given_or-meant.ensures) c.override_item-changed.ensures.meant).meant)) (read_version c.in-Ok-item.item.version f.version)

pub take-taken-requires-clause-fits : goal.take-taken-requires-clause-fits
take-taken-requires-clause-fits g c =
    let same = same_version _ c.in-Ok-item.item c.given_or-meant.result.now (subst (IsOverridden _ c.in-Ok-item.item) (sym c.given_or-meant.ensures) c.override_item-changed.ensures.meant).meant in
    omega (arith, same, c.if-item-version.false, c.version.ensures.version)

pub take-taken-requires-clause-can_write : goal.take-taken-requires-clause-can_write
take-taken-requires-clause-can_write g c =
    let f = (given_next (g.I.Inputs.told c.loop-frame.inputs) c.loop-frame.reader c.advance.new.self c.in-Ok-Some.field-0 c.in-Ok-Some.frame c.in-Ok-item.item c.in-Ok-Some.field-0-is c.in-Ok-Some.ensures.says c.item.ensures.bytes c.in-Ok-item.ensures.says).fits in
    still_said _ c.in-Ok-item.item c.given_or-meant.result.now (subst (IsOverridden _ c.in-Ok-item.item) (sym c.given_or-meant.ensures) c.override_item-changed.ensures.meant).meant f.version f.can_write (subst (IsOverridden _ c.in-Ok-item.item) (sym c.given_or-meant.ensures) c.override_item-changed.ensures.meant).can_write

pub take-taken-requires-clause-payload : goal.take-taken-requires-clause-payload
take-taken-requires-clause-payload g c =
    let f = (given_next (g.I.Inputs.told c.loop-frame.inputs) c.loop-frame.reader c.advance.new.self c.in-Ok-Some.field-0 c.in-Ok-Some.frame c.in-Ok-item.item c.in-Ok-Some.field-0-is c.in-Ok-Some.ensures.says c.item.ensures.bytes c.in-Ok-item.ensures.says).fits in
    still_within _ c.in-Ok-item.item c.given_or-meant.result.now (subst (IsOverridden _ c.in-Ok-item.item) (sym c.given_or-meant.ensures) c.override_item-changed.ensures.meant).meant f.payload

pub take-taken-requires-clause-there : goal.take-taken-requires-clause-there
take-taken-requires-clause-there g c =
    let i = c.loop-frame.invariant in
    let e = c.in-Ok-Some.ensures in
    let next = next_of_all (g.I.Inputs.told c.args.inputs.now) _ (map string_bytes c.args.task.now.files.now) c.args.turn.number c.loop-frame.reader c.advance.new.self 0 0 (Some c.in-Ok-item.item) c.in-Ok-item.item refl i.same (count_names c.args.task.now.files.now c.args.turn.number c.requires.numbered) i.name (given_next (g.I.Inputs.told c.loop-frame.inputs) c.loop-frame.reader c.advance.new.self c.in-Ok-Some.field-0 c.in-Ok-Some.frame c.in-Ok-item.item c.in-Ok-Some.field-0-is c.in-Ok-Some.ensures.says c.item.ensures.bytes c.in-Ok-item.ensures.says).read in
    all.told_moved (g.I.Inputs.told c.advance.new.inputs) (g.I.Inputs.told c.args.inputs.now) (map string_bytes c.args.task.now.files.now)
    (λ files. AllCells (IsInInput files) c.loop-frame.composer.state × DataStand files (item_of (c.args.turn.number + 1) c.given_or-meant.result.now)) (sym (e.same ∙ i.same))
    (data_there (g.I.Inputs.told c.args.inputs.now) (map string_bytes c.args.task.now.files.now) c.args.turn.number (c.args.turn.number + 1) _ c.loop-frame.reader c.advance.new.self c.loop-frame.composer c.in-Ok-item.item c.given_or-meant.result.now refl i.file
    ((subst (IsOverridden _ c.in-Ok-item.item) (sym c.given_or-meant.ensures) c.override_item-changed.ensures.meant).meant (c.args.turn.number + 1)) next i.there)

pub returns-then-item-version-clause-wrote : goal.returns-then-item-version-clause-wrote
returns-then-item-version-clause-wrote g c tells =
    let i = c.loop-frame.invariant in
    let above : c.args.task.now.survey.now.version < c.in-Ok-item.item.version = omega (arith, c.if-item-version.true, c.version.ensures.version) in
    let next = next_of_all (g.I.Inputs.told c.args.inputs.now) _ (map string_bytes c.args.task.now.files.now) c.args.turn.number c.loop-frame.reader c.advance.new.self 0 0 (Some c.in-Ok-item.item) c.in-Ok-item.item refl i.same (count_names c.args.task.now.files.now c.args.turn.number c.requires.numbered) i.name (given_next (g.I.Inputs.told c.loop-frame.inputs) c.loop-frame.reader c.advance.new.self c.in-Ok-Some.field-0 c.in-Ok-Some.frame c.in-Ok-item.item c.in-Ok-Some.field-0-is c.in-Ok-Some.ensures.says c.item.ensures.bytes c.in-Ok-item.ensures.says).read in
    file_above (g.I.Inputs.told c.args.inputs.now) (map string_bytes c.args.task.now.files.now) (plan_with (g.E.Known.base c.args.task.now.known.now) c.args.task.now.survey.now) c.args.turn.number (c.args.turn.number + 1) (override_for c.args.task.now.overrides.now (c.args.turn.number + 1)) c.args.composer.now _ c.loop-frame.reader c.advance.new.self c.loop-frame.composer _ _ c.args.turn.before c.loop-frame.place _ _ c.in-Ok-item.item c.refused-refused.result c.stopped-then-item-version.result
    above i.file c.stopped-then-item-version.ensures.stopped next (i.stands tells)

pub returns-in-Err-taken-clause-wrote : goal.returns-in-Err-taken-clause-wrote
returns-in-Err-taken-clause-wrote g c tells =
    let i = c.loop-frame.invariant in
    let e = c.in-Ok-Some.ensures in
    let next = next_of_all (g.I.Inputs.told c.args.inputs.now) _ (map string_bytes c.args.task.now.files.now) c.args.turn.number c.loop-frame.reader c.advance.new.self 0 0 (Some c.in-Ok-item.item) c.in-Ok-item.item refl i.same (count_names c.args.task.now.files.now c.args.turn.number c.requires.numbered) i.name (given_next (g.I.Inputs.told c.loop-frame.inputs) c.loop-frame.reader c.advance.new.self c.in-Ok-Some.field-0 c.in-Ok-Some.frame c.in-Ok-item.item c.in-Ok-Some.field-0-is c.in-Ok-Some.ensures.says c.item.ensures.bytes c.in-Ok-item.ensures.says).read in
    item_stops _ _ (map string_bytes c.args.task.now.files.now) (plan_with (g.E.Known.base c.args.task.now.known.now) c.args.task.now.survey.now) c.args.turn.number (c.args.turn.number + 1) (override_for c.args.task.now.overrides.now (c.args.turn.number + 1)) c.args.composer.now _ c.loop-frame.reader c.advance.new.self c.loop-frame.composer c.take-taken.new.self _ _ c.args.turn.before c.loop-frame.place c.in-Ok-item.item c.given_or-meant.result.now c.in-Err-taken.outcome
    i.file (named_for _ (override_for c.args.task.now.overrides.now (c.args.turn.number + 1)) (c.args.turn.number + 1) c.in-Ok-item.item c.given_or-meant.result.now c.of_file-said.ensures.said (subst (IsOverridden _ c.in-Ok-item.item) (sym c.given_or-meant.ensures) c.override_item-changed.ensures.meant).meant) (e.same ∙ i.same) next (c.in-Err-taken.ensures.taken tells) (i.stands tells)

pub loop-frame-preserved : goal.loop-frame-preserved
loop-frame-preserved g c =
    let i = c.loop-frame.invariant in
    let e = c.in-Ok-Some.ensures in
    let t = c.in_default-taken.ensures in
    let next = next_of_all (g.I.Inputs.told c.args.inputs.now) _ (map string_bytes c.args.task.now.files.now) c.args.turn.number c.loop-frame.reader c.advance.new.self 0 0 (Some c.in-Ok-item.item) c.in-Ok-item.item refl i.same (count_names c.args.task.now.files.now c.args.turn.number c.requires.numbered) i.name (given_next (g.I.Inputs.told c.loop-frame.inputs) c.loop-frame.reader c.advance.new.self c.in-Ok-Some.field-0 c.in-Ok-Some.frame c.in-Ok-item.item c.in-Ok-Some.field-0-is c.in-Ok-Some.ensures.says c.item.ensures.bytes c.in-Ok-item.ensures.says).read in
    record {
      same = t.inputs.same ∙ e.same ∙ i.same;
      asked = file_again g.I.Inputs (map string_bytes c.args.task.now.files.now) c.args.turn.number c.advance.new.self c.args.inputs.now c.advance.new.inputs c.take-taken.new.inputs (e.same ∙ i.same)
          (file_read g.I.Inputs (map string_bytes c.args.task.now.files.now) c.args.turn.number c.loop-frame.reader c.advance.new.self c.args.inputs.now c.loop-frame.inputs c.advance.new.inputs i.name i.asked c.in-Ok-Some.ensures.asked) t.asked;
      sizes = long_then _ _ _ t.bytes.sizes i.sizes;
      held = λ tells. t.bytes.held tells ∙ i.held tells;
      steady = t.inputs.steady ∙ e.steady ∙ i.steady;
      ends_steady = t.inputs.ends_steady ∙ e.ends_steady ∙ i.ends_steady;
      bytes_steady = t.bytes.steady ∙ i.bytes_steady;
      out_steady = t.out.steady ∙ i.out_steady;
      file = e.file ∙ i.file;
      name = e.name ∙ i.name;
      had = t.had;
      there = in_files_after (g.I.Inputs.told c.args.inputs.now) (g.I.Inputs.told c.advance.new.inputs) (map string_bytes c.args.task.now.files.now) c.args.turn.number c.loop-frame.reader c.advance.new.self c.loop-frame.composer c.take-taken.new.self c.in-Ok-item.item (e.same ∙ i.same) next t.there i.there;
      stands = λ tells. stands_after _ _ (map string_bytes c.args.task.now.files.now) (plan_with (g.E.Known.base c.args.task.now.known.now) c.args.task.now.survey.now) c.args.turn.number (c.args.turn.number + 1) (override_for c.args.task.now.overrides.now (c.args.turn.number + 1)) c.args.composer.now _ c.loop-frame.reader c.advance.new.self c.loop-frame.composer c.take-taken.new.self _ _ c.args.turn.before c.loop-frame.place (record { file = c.args.turn.number + 1; command = c.in-Ok-item.item.number; offset = c.in-Ok-item.item.offset }) c.in-Ok-item.item c.given_or-meant.result.now
          i.file refl (named_for _ (override_for c.args.task.now.overrides.now (c.args.turn.number + 1)) (c.args.turn.number + 1) c.in-Ok-item.item c.given_or-meant.result.now c.of_file-said.ensures.said (subst (IsOverridden _ c.in-Ok-item.item) (sym c.given_or-meant.ensures) c.override_item-changed.ensures.meant).meant) (e.same ∙ i.same) next (t.taken tells) (i.stands tells);
      alike = told_moved (g.I.Inputs.told c.take-taken.new.inputs) (g.I.Inputs.told c.loop-frame.inputs) c.advance.new.self.name c.loop-frame.reader.name (EndsAlike (c.args.turn.number + 1) c.advance.new.self) (sym (t.inputs.same ∙ e.same)) (sym e.name)
          (alike_after (g.I.Inputs.told c.loop-frame.inputs) _ (c.args.turn.number + 1) c.loop-frame.reader.name c.loop-frame.reader c.advance.new.self 0 0 (Some c.in-Ok-item.item) c.in-Ok-item.item refl refl refl (given_next (g.I.Inputs.told c.loop-frame.inputs) c.loop-frame.reader c.advance.new.self c.in-Ok-Some.field-0 c.in-Ok-Some.frame c.in-Ok-item.item c.in-Ok-Some.field-0-is c.in-Ok-Some.ensures.says c.item.ensures.bytes c.in-Ok-item.ensures.says).read i.alike);
      ahead = told_moved (g.I.Inputs.told c.take-taken.new.inputs) (g.I.Inputs.told c.advance.new.inputs) c.advance.new.self.name c.advance.new.self.name (HasAhead c.advance.new.self) (sym t.inputs.same) refl
          (next_ahead _ _ c.loop-frame.reader c.advance.new.self 0 0 (Some c.in-Ok-item.item) c.in-Ok-item.item refl e.same e.name (given_next (g.I.Inputs.told c.loop-frame.inputs) c.loop-frame.reader c.advance.new.self c.in-Ok-Some.field-0 c.in-Ok-Some.frame c.in-Ok-item.item c.in-Ok-Some.field-0-is c.in-Ok-Some.ensures.says c.item.ensures.bytes c.in-Ok-item.ensures.says).read);
    }

pub returns-in-Err-clause-wrote : goal.returns-in-Err-clause-wrote
returns-in-Err-clause-wrote g c tells =
    let i = c.loop-frame.invariant in
    file_stops _ _ (map string_bytes c.args.task.now.files.now) (plan_with (g.E.Known.base c.args.task.now.known.now) c.args.task.now.survey.now) c.args.turn.number (c.args.turn.number + 1) (override_for c.args.task.now.overrides.now (c.args.turn.number + 1)) c.args.composer.now _ c.loop-frame.reader c.advance.new.self c.loop-frame.composer _ _ c.args.turn.before c.loop-frame.place _ _ _ _ c.in-Err.stop c.outcome_of.result c.stopped.result
    i.same (count_names c.args.task.now.files.now c.args.turn.number c.requires.numbered) i.name
    (stopped_next _ c.loop-frame.reader c.advance.new.self _ _ c.in-Err.stop c.in-Err.ensures.says) c.outcome_of.ensures.outcome c.stopped.ensures.stopped i.alike (i.stands tells)

pub returns-in-Err-item-clause-wrote : goal.returns-in-Err-item-clause-wrote
returns-in-Err-item-clause-wrote g c tells =
    let i = c.loop-frame.invariant in
    let verdict = c.in-Err-item.verdict in
    file_stops _ _ (map string_bytes c.args.task.now.files.now) (plan_with (g.E.Known.base c.args.task.now.known.now) c.args.task.now.survey.now) c.args.turn.number (c.args.turn.number + 1) (override_for c.args.task.now.overrides.now (c.args.turn.number + 1)) c.args.composer.now _ c.loop-frame.reader c.advance.new.self c.loop-frame.composer _ _ c.args.turn.before c.loop-frame.place 0 0 _ _ (stop.Refused verdict) (ended.Refused verdict) c.stopped-in-Err-item.result
    i.same (count_names c.args.task.now.files.now c.args.turn.number c.requires.numbered) i.name
    (refused_next (g.I.Inputs.told c.loop-frame.inputs) c.loop-frame.reader c.advance.new.self c.in-Ok-Some.field-0 c.in-Ok-Some.frame verdict c.in-Ok-Some.field-0-is c.in-Ok-Some.ensures.says c.item.ensures.bytes c.in-Err-item.ensures.says) refl c.stopped-in-Err-item.ensures.stopped i.alike (i.stands tells)

pub loop-frame-smaller : goal.loop-frame-smaller
loop-frame-smaller g c =
    let given = given_next (g.I.Inputs.told c.loop-frame.inputs) c.loop-frame.reader c.advance.new.self c.in-Ok-Some.field-0 c.in-Ok-Some.frame c.in-Ok-item.item c.in-Ok-Some.field-0-is c.in-Ok-Some.ensures.says c.item.ensures.bytes c.in-Ok-item.ensures.says in
    omega (arith, given.fits.further, given.fits.within)

pub returns-in_default-clause-asked : goal.returns-in_default-clause-asked
returns-in_default-clause-asked g c = file_unread g.I.Inputs (map string_bytes c.args.task.now.files.now) c.args.turn.number c.args.inputs.now

pub returns-in-Ok-None-clause-asked : goal.returns-in-Ok-None-clause-asked
returns-in-Ok-None-clause-asked g c =
    let i = c.loop-frame.invariant in
    file_all g.I.Inputs (map string_bytes c.args.task.now.files.now) c.args.turn.number c.advance.new.self c.args.inputs.now c.advance.new.inputs
    (file_read g.I.Inputs (map string_bytes c.args.task.now.files.now) c.args.turn.number c.loop-frame.reader c.advance.new.self c.args.inputs.now c.loop-frame.inputs c.advance.new.inputs i.name i.asked c.in-Ok-None.ensures.asked)

pub returns-then-item-version-clause-asked : goal.returns-then-item-version-clause-asked
returns-then-item-version-clause-asked g c =
    let i = c.loop-frame.invariant in
    file_all g.I.Inputs (map string_bytes c.args.task.now.files.now) c.args.turn.number c.advance.new.self c.args.inputs.now c.advance.new.inputs
    (file_read g.I.Inputs (map string_bytes c.args.task.now.files.now) c.args.turn.number c.loop-frame.reader c.advance.new.self c.args.inputs.now c.loop-frame.inputs c.advance.new.inputs i.name i.asked c.in-Ok-Some.ensures.asked)

pub returns-in-Err-clause-asked : goal.returns-in-Err-clause-asked
returns-in-Err-clause-asked g c =
    let i = c.loop-frame.invariant in
    file_all g.I.Inputs (map string_bytes c.args.task.now.files.now) c.args.turn.number c.advance.new.self c.args.inputs.now c.advance.new.inputs
    (file_read g.I.Inputs (map string_bytes c.args.task.now.files.now) c.args.turn.number c.loop-frame.reader c.advance.new.self c.args.inputs.now c.loop-frame.inputs c.advance.new.inputs i.name i.asked c.in-Err.ensures.asked)

pub returns-in-Err-taken-clause-asked : goal.returns-in-Err-taken-clause-asked
returns-in-Err-taken-clause-asked g c =
    let i = c.loop-frame.invariant in
    file_all g.I.Inputs (map string_bytes c.args.task.now.files.now) c.args.turn.number c.advance.new.self c.args.inputs.now c.take-taken.new.inputs
    (file_again g.I.Inputs (map string_bytes c.args.task.now.files.now) c.args.turn.number c.advance.new.self c.args.inputs.now c.advance.new.inputs c.take-taken.new.inputs (c.in-Ok-Some.ensures.same ∙ i.same)
    (file_read g.I.Inputs (map string_bytes c.args.task.now.files.now) c.args.turn.number c.loop-frame.reader c.advance.new.self c.args.inputs.now c.loop-frame.inputs c.advance.new.inputs i.name i.asked c.in-Ok-Some.ensures.asked) c.in-Err-taken.ensures.asked)

pub returns-in-Err-item-clause-asked : goal.returns-in-Err-item-clause-asked
returns-in-Err-item-clause-asked g c =
    let i = c.loop-frame.invariant in
    file_all g.I.Inputs (map string_bytes c.args.task.now.files.now) c.args.turn.number c.advance.new.self c.args.inputs.now c.advance.new.inputs
    (file_read g.I.Inputs (map string_bytes c.args.task.now.files.now) c.args.turn.number c.loop-frame.reader c.advance.new.self c.args.inputs.now c.loop-frame.inputs c.advance.new.inputs i.name i.asked c.in-Ok-Some.ensures.asked)
