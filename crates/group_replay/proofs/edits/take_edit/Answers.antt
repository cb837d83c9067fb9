use Rattle.std.specs.Prelude.{ℕ, ◌+◌, length, Option, None, Ok, Err}
use Rattle.std.specs.Option.{unwrap_or}
use Rattle.std.proofs.Common.{sym, subst, ap, ◌∙◌, arith, refl}
use Rattle.sx_base.specs.Refusals.{refusal_of}
use Rattle.sx_base.specs.Answers.{MayChange}
use Rattle.sx_base.specs.declared.stop.Stop.{Stop}
use Rattle.send_model.specs.Store.{edit_part}
use Rattle.extent_map.specs.Pieces.{run_cells}
use Rattle.send_model.specs.Spelling.{canonical}
use Rattle.send_commands.specs.Meaning.{meaning_of}
use Rattle.clone_resolve.specs.Steps.{data_len}
use Rattle.group_replay.specs.Placing.{further}
use Rattle.group_replay.proofs.Editing.{data_in_frame, edit_same}
use Rattle.group_replay.proofs.EditRuns.{one_taken, one_refused}
use Rattle.group_replay.proofs.KeptParts.{run_before, kept_further, all_further, edit_kept}
use Rattle.group_replay.proofs.edits.take_edit.Goals as goal

pub overflow_add-place : goal.overflow_add-place
overflow_add-place c =
    omega (arith, data_in_frame c.args.version (meaning_of c.args.front.now.command), ap (λ (o : Option ℕ). unwrap_or o 0) c.data_place.ensures.place, c.unwrap_or.ensures, c.requires.room)

pub edit-requires-clause-reach : goal.edit-requires-clause-reach
edit-requires-clause-reach c =
    omega (arith, data_in_frame c.args.version (meaning_of c.args.front.now.command), ap (λ (o : Option ℕ). unwrap_or o 0) c.data_place.ensures.place, c.unwrap_or.ensures, c.requires.room)

pub returns-in-Ok-clause-taken : goal.returns-in-Ok-clause-taken
returns-in-Ok-clause-taken c =
    let cmd = meaning_of c.args.front.now.command in (
      sym c.is_edit.ensures ∙ c.if-not-is_edit.false,
      one_taken c.args.version c.args.at c.args.core.now c.args.part.now c.edit.new.part cmd c.edit.ensures.key
          (edit_same c.args.version cmd c.args.core.now c.args.core.now c.args.part.now (c.args.at + c.unwrap_or.result) c.args.at c.args.at c.unwrap_or.result (Ok c.edit.new.part.subvolume)
          refl refl (c.unwrap_or.ensures ∙ ap (λ (o : Option ℕ). unwrap_or o 0) c.data_place.ensures.place) refl c.in-Ok.ensures.edited),
    )

pub returns-in-Err-Refused-clause-taken : goal.returns-in-Err-Refused-clause-taken
returns-in-Err-Refused-clause-taken c is =
    let cmd = meaning_of c.args.front.now.command in
    let said = subst (λ (why : Stop). MayChange {A = Unit {0}} (Err why) c.args.part.now.subvolume c.edit.new.part.subvolume (edit_part None (run_cells further (record { at = c.args.at + c.unwrap_or.result }) (data_len cmd)) c.args.core.now c.args.part.now cmd)) c.in-Err-Refused.field-0-is c.in-Err-Refused.ensures.edited in
    one_refused c.args.version c.args.at c.args.core.now c.args.part.now cmd (refusal_of c.in-Err-Refused.field-0-0)
    (edit_same c.args.version cmd c.args.core.now c.args.core.now c.args.part.now (c.args.at + c.unwrap_or.result) c.args.at c.args.at c.unwrap_or.result (Err (refusal_of c.in-Err-Refused.field-0-0))
    refl refl (c.unwrap_or.ensures ∙ ap (λ (o : Option ℕ). unwrap_or o 0) c.data_place.ensures.place) refl said.0)

pub returns-in-Ok-clause-kept : goal.returns-in-Ok-clause-kept
returns-in-Ok-clause-kept c all own taken =
    let cmd = meaning_of c.args.front.now.command in
    let far : ℕ = c.args.at + length (canonical c.args.version cmd) in
    edit_kept far c.args.version (run_cells further (record { at = c.args.at + c.unwrap_or.result }) (data_len cmd)) c.args.core.now c.args.part.now cmd c.edit.new.part.subvolume c.requires.spellable
    (run_before (c.args.at + c.unwrap_or.result) (data_len cmd) far
    (omega (arith, c.unwrap_or.ensures, ap (λ (o : Option ℕ). unwrap_or o 0) c.data_place.ensures.place, data_in_frame c.args.version cmd)))
    (all_further c.args.at far (omega arith) c.args.core.now all)
    (kept_further c.args.at far (omega arith) c.args.part.now.subvolume own)
    c.in-Ok.ensures.edited
