use Rattle.std.specs.Prelude.{◌≡◌, None}
use Rattle.std.proofs.Common.{sym, ◌∙◌}
use Rattle.sx_base.specs.Causes.{Rose}
use Rattle.send_model.specs.Reading.{data_place}
use Rattle.send_model.specs.Spelling.{attributes_of}
use Rattle.send_model.specs.Receive.{bytes_of}
use Rattle.send_model.specs.Store.{edit_part}
use Rattle.send_commands.specs.Meaning.{meaning_of}
use Rattle.cmd_reader.specs.Next.{item_of}
use Rattle.group_replay.specs.Taking.{as_runs}
use Rattle.group_replay.specs.declared.place.Place.{Place}
use Rattle.receiver.proofs.EditedParts.{none_edited, none_edit_moments, one_edited, not_edited, edit_room, no_edit_room, not_edit_ready, edit_keeps, edit_moments, not_edit_keeps}
use Rattle.receiver.proofs.doing.edit.Goals as goal

pub returns-in_default-clause-stepped : goal.returns-in_default-clause-stepped
returns-in_default-clause-stepped g c = none_edited (item_of c.args.read.now.file c.args.read.now.item.now) c.refused-refused.result c.args.store.now c.args.current.now c.take.new.self (sym c.in_default.is ∙ c.take.ensures.value) c.take.ensures.after c.refused-refused.ensures

pub returns-in_default-clause-any_moment : goal.returns-in_default-clause-any_moment
returns-in_default-clause-any_moment g c tells header groups begun version keeps =
    none_edit_moments header groups c.args.disk.now begun c.args.current.now c.args.store.now _ (sym c.in_default.is ∙ c.take.ensures.value) keeps (λ image. g.met.D.Disk.only_now c.args.disk.now image tells)

pub returns-in-Ok-clause-stepped : goal.returns-in-Ok-clause-stepped
returns-in-Ok-clause-stepped g c =
    let m = meaning_of c.args.read.now.item.now.command in
    let place : Place = record { at = data_place c.args.read.now.item.now.version c.args.store.now.log.size (attributes_of m) } in
    (place, one_edited m place c.args.store.now c.edit-edited.new.self c.args.current.now c.in-Some.opened c.edit-edited.new.part (sym c.in-Some.is ∙ c.take.ensures.value) c.edit-edited.ensures.key c.edit-edited.ensures.core c.in-Ok.ensures.edited)

pub returns-in-Ok-clause-pieces : goal.returns-in-Ok-clause-pieces
returns-in-Ok-clause-pieces g c =
    edit_room c.args.store.now.log.limit c.edit-edited.new.self.log.size (item_of c.args.read.now.file c.args.read.now.item.now) c.args.store.now c.args.current.now c.in-Some.opened (sym c.in-Some.is ∙ c.take.ensures.value) c.requires.edit c.in-Ok.ensures.fits c.in-Ok.ensures.size

pub returns-in-Ok-clause-keeps : goal.returns-in-Ok-clause-keeps
returns-in-Ok-clause-keeps g c tells header groups begun version keeps =
    edit_keeps header groups (item_of c.args.read.now.file c.args.read.now.item.now) begun c.args.store.now c.edit-edited.new.self c.args.current.now c.in-Some.opened c.edit-edited.new.part _ _ _ _ (sym c.in-Some.is ∙ c.take.ensures.value) c.edit-edited.ensures.key c.requires.edit version keeps
    (λ commands. c.in-Ok.ensures.builds tells header groups commands)

pub returns-in-Ok-clause-any_moment : goal.returns-in-Ok-clause-any_moment
returns-in-Ok-clause-any_moment g c tells header groups begun version keeps =
    edit_moments header groups (item_of c.args.read.now.file c.args.read.now.item.now) begun c.args.store.now c.args.current.now c.in-Some.opened _ _ (sym c.in-Some.is ∙ c.take.ensures.value) version keeps
    (λ commands. c.edit-edited.ensures.any_moment tells header groups commands)

pub returns-in-Err-clause-stepped : goal.returns-in-Err-clause-stepped
returns-in-Err-clause-stepped g c =
    let m = meaning_of c.args.read.now.item.now.command in
    let place : Place = record { at = data_place c.args.read.now.item.now.version c.args.store.now.log.size (attributes_of m) } in (
      place,
      not_edited (c.edit-edited.new.disk ≡ c.args.disk.now) (item_of c.args.read.now.file c.args.read.now.item.now) place c.args.store.now c.edit-edited.new.self c.args.current.now c.in-Some.opened c.edit-edited.new.part c.in-Err.stop c.stopped.result (sym c.in-Some.is ∙ c.take.ensures.value)
          c.edit-edited.ensures.key c.stopped.ensures c.in-Err.ensures.edited c.in-Err.ensures.refused,
    )

pub returns-in-Err-clause-pieces : goal.returns-in-Err-clause-pieces
returns-in-Err-clause-pieces g c =
    no_edit_room (Rose (g.D.Disk.faults c.args.disk.now) (g.D.Disk.faults c.edit-edited.new.disk)) c.args.store.now.log.limit c.edit-edited.new.self.log.size (item_of c.args.read.now.file c.args.read.now.item.now) c.args.store.now c.args.current.now c.in-Some.opened c.in-Err.stop c.stopped.result
    (sym c.in-Some.is ∙ c.take.ensures.value) c.stopped.ensures c.requires.edit c.in-Err.ensures.stops

pub returns-in-Err-clause-ready : goal.returns-in-Err-clause-ready
returns-in-Err-clause-ready g c =
    let m = meaning_of c.args.read.now.item.now.command in
    not_edit_ready g.D.Disk.len c.args.disk.now c.edit-edited.new.disk (item_of c.args.read.now.file c.args.read.now.item.now) c.args.store.now c.edit-edited.new.self c.args.current.now c.in-Some.opened c.edit-edited.new.part
    (edit_part None (as_runs (data_place c.args.read.now.item.now.version c.args.store.now.log.size (attributes_of m)) (bytes_of m)) c.args.store.now.core c.in-Some.opened.part m) c.in-Err.stop c.stopped.result
    (sym c.in-Some.is ∙ c.take.ensures.value) c.edit-edited.ensures.key c.stopped.ensures c.requires.ready c.in-Err.ensures.edited c.in-Err.ensures.refused c.in-Err.ensures.ended

pub returns-in-Err-clause-keeps : goal.returns-in-Err-clause-keeps
returns-in-Err-clause-keeps g c tells header groups begun version keeps =
    let m = meaning_of c.args.read.now.item.now.command in
    not_edit_keeps header groups g.D.Disk.seen g.D.Disk.pending c.args.disk.now c.edit-edited.new.disk (item_of c.args.read.now.file c.args.read.now.item.now) begun c.args.store.now c.edit-edited.new.self c.args.current.now c.in-Some.opened c.edit-edited.new.part
    (edit_part None (as_runs (data_place c.args.read.now.item.now.version c.args.store.now.log.size (attributes_of m)) (bytes_of m)) c.args.store.now.core c.in-Some.opened.part m) c.in-Err.stop c.stopped.result _
    (sym c.in-Some.is ∙ c.take.ensures.value) c.edit-edited.ensures.key c.stopped.ensures keeps c.in-Err.ensures.edited c.in-Err.ensures.refused c.in-Err.ensures.short

pub returns-in-Err-clause-any_moment : goal.returns-in-Err-clause-any_moment
returns-in-Err-clause-any_moment g c tells header groups begun version keeps =
    edit_moments header groups (item_of c.args.read.now.file c.args.read.now.item.now) begun c.args.store.now c.args.current.now c.in-Some.opened _ _ (sym c.in-Some.is ∙ c.take.ensures.value) version keeps
    (λ commands. c.edit-edited.ensures.any_moment tells header groups commands)
