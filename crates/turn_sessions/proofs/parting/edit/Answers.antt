use Rattle.std.specs.Prelude.{◌≡◌, ℕ, Option, Ok, Err, None}
use Rattle.std.proofs.Common.{refl, sym, subst, ◌∙◌, arith}
use Rattle.sx_base.specs.Answers.{MayChange}
use Rattle.sx_base.specs.Refusals.{refusal_of}
use Rattle.sx_base.specs.declared.stop.Stop.{Stop}
use Rattle.send_model.specs.Store.{Store, edit_part}
use Rattle.send_model.specs.Spelling.{IsSpellable}
use Rattle.send_commands.specs.Writing.{IsWritable}
use Rattle.send_commands.specs.Meaning.{meaning_of}
use Rattle.send_commands.proofs.Writable.{spellable_is_writable}
use Rattle.clone_resolve.specs.Steps.{cells_put}
use Rattle.cmd_reader.specs.Next.{item_of}
use Rattle.group_replay.specs.declared.place.Place.{Place}
use Rattle.group_replay.specs.Placing.{further}
use Rattle.group_replay.proofs.Editing.{short_data}
use Rattle.turn_sessions.proofs.Editing.{none_edited, one_edited, one_refused, version_of}
use Rattle.turn_sessions.proofs.parting.edit.Goals as goal

pub returns-in_default-clause-edited : goal.returns-in_default-clause-edited
returns-in_default-clause-edited c p are =
    none_edited (item_of c.args.read.now.file c.args.read.now.item.now) c.args.store.now.core p c.args.current.now c.take.new.self _ (sym c.in_default.is ∙ c.take.ensures.value) are refl

pub edit-requires-clause-reach : goal.edit-requires-clause-reach
edit-requires-clause-reach c = omega (arith, short_data c.args.read.now.item.now.version (meaning_of c.args.read.now.item.now.command) c.requires.spellable)

pub returns-in-Err-Refused-clause-edited : goal.returns-in-Err-Refused-clause-edited
returns-in-Err-Refused-clause-edited c p are =
    let m = meaning_of c.args.read.now.item.now.command in
    let said = subst (λ (why : Stop). MayChange {A = Unit {0}} (Err why) c.in-Some.open.part.subvolume c.edit.new.part.subvolume (edit_part None (cells_put further (record { at = 0 }) m) c.core.result.now c.in-Some.open.part m)) c.in-Err-Refused.field-0-is c.in-Err-Refused.ensures.edited in
    one_refused (item_of c.args.read.now.file c.args.read.now.item.now) c.requires.edit c.args.store.now.core p c.args.current.now c.in-Some.open (sym c.in-Some.is ∙ c.take.ensures.value) are (record { at = 0 }) c.edit.new.part c.edit.ensures.key c.in-Err-Refused.refusal c.take.new.self
    (subst (λ (k : Store (Option Place)). edit_part None (cells_put further (record { at = 0 }) m) k c.in-Some.open.part m ≡ Err (refusal_of c.in-Err-Refused.refusal)) c.core.ensures.core said.0)

pub encode-requires-clause-writable : goal.encode-requires-clause-writable
encode-requires-clause-writable c =
    let m = meaning_of c.args.read.now.item.now.command in
    let v = version_of c.args.read.now.item.now.version c.args.current.now c.in-Some.open (sym c.in-Some.is ∙ c.take.ensures.value) c.requires.version in
    subst (λ (n : ℕ). IsWritable n m) (sym v) (spellable_is_writable c.args.read.now.item.now.version m c.requires.spellable)

pub returns-clause-edited : goal.returns-clause-edited
returns-clause-edited c p are =
    let m = meaning_of c.args.read.now.item.now.command in
    let v = version_of c.args.read.now.item.now.version c.args.current.now c.in-Some.open (sym c.in-Some.is ∙ c.take.ensures.value) c.requires.version in
    one_edited (item_of c.args.read.now.file c.args.read.now.item.now) c.requires.edit c.args.store.now.core p c.args.current.now c.in-Some.open (sym c.in-Some.is ∙ c.take.ensures.value) are (record { at = 0 }) c.edit.new.part c.edit.ensures.key c.in-Some.open.version c.encode.new.to
    (subst (λ (k : Store (Option Place)). edit_part None (cells_put further (record { at = 0 }) m) k c.in-Some.open.part m ≡ Ok c.edit.new.part.subvolume) c.core.ensures.core c.in-Ok.ensures.edited)
    refl (subst (λ (n : ℕ). IsSpellable n m) (sym v) c.requires.spellable) c.in-Ok-encode.ensures.appended
