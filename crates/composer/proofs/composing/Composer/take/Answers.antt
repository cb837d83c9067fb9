use Rattle.std.specs.Prelude.{◌≡◌, ◌-◌, map, length, Option, None, Ok, Err}
use Rattle.std.specs.Option.{option_map, option_copied}
use Rattle.std.specs.String.{string_bytes}
use Rattle.std.proofs.Common.{refl, sym, ap, subst, ◌∙◌, arith}
use borrow.Enum.Total.{values_d}
use Rattle.send_model.specs.Store.{Key, Head, State, head_of, step}
use Rattle.send_model.specs.Receive.{first_of}
use Rattle.send_commands.specs.Meaning.{meaning_of}
use Rattle.send_commands.proofs.Writable.{spellable_is_writable}
use Rattle.sx_base.specs.declared.stop.Stop.{Stop}
use Rattle.sx_base.specs.declared.stop.Stop.TheVariants as stop
use Rattle.sx_base.specs.declared.outcome.Outcome.TheVariants as ended
use Rattle.sx_base.specs.Refusals.{refusal_of, verdict_meant}
use Rattle.sx_base.specs.contracts.stop.Stop.{enum}
use Rattle.sx_base.specs.declared.refusal.Refusal.TheVariants.{BadMagic}
use Rattle.sx_base.proofs.Asking.{asked_nothing}
use Rattle.subvol_catalog.specs.Entries.{key_of}
use Rattle.cmd_reader.specs.Next.{item_of}
use Rattle.provenance.specs.declared.trace.Trace.{Trace}
use Rattle.provenance.specs.declared.trace.Trace.TheVariants.{Fresh}
use Rattle.provenance.specs.Traces.{advanced_by}
use Rattle.clone_resolve.specs.declared.done.Done.{Done}
use Rattle.clone_resolve.specs.Heads.{head_meant}
use Rattle.clone_resolve.specs.Steps.{cells_put, Answers}
use Rattle.send_model.specs.Cells.{AllCells}
use Rattle.clone_pieces.specs.Origins.{IsHad, IsInInput}
use Rattle.file_survey.specs.Findings.{KnowsParts}
use Rattle.composer.specs.Kept.{Kept}
use Rattle.composer.specs.Files.{plan_with}
use Rattle.composer.specs.Taking.{DataStand}
use Rattle.composer.specs.contracts.composing.Composer.{the_view}
use Rattle.clone_pieces.proofs.Told.{all_always, all_map, all_two}
use Rattle.composer.proofs.Unpacked.{ItemEnd, AddEnd}
use Rattle.composer.proofs.AddingItems.{is_none_of, not_false, not_true, on_ok}
use Rattle.composer.proofs.TakingItems.{stepped_seen, refused_ends, step_refused, head_refuses, no_memory, edit_ends, nothing_added, head_taken, put_had, put_there, led_cells}
use Rattle.composer.proofs.composing.Composer.take.Goals as goal

pub returns-in-Err-NoMemory-clause-taken : goal.returns-in-Err-NoMemory-clause-taken
returns-in-Err-NoMemory-clause-taken g c tells =
    all_always (g.I.Inputs.told c.args.inputs.now) (map string_bytes c.args.task.now.files.now) _ (λ told.
    subst (λ (k : Kept). ItemEnd told (plan_with (g.E.Known.base c.args.task.now.known.now) c.args.task.now.survey.now) k (record (the_view c.self.inside) { state = record { store = c.step.new.self; part = c.step.new.part } }) (item_of c.args.read.now.file c.args.read.now.item.now) (g.O.Sink.taken c.args.out.now) (g.O.Sink.taken c.args.out.now) (Err ended.NoMemory)) c.self.view_is
    (no_memory told (plan_with (g.E.Known.base c.args.task.now.known.now) c.args.task.now.survey.now) (the_view c.self.inside) (record (the_view c.self.inside) { state = record { store = c.step.new.self; part = c.step.new.part } }) (item_of c.args.read.now.file c.args.read.now.item.now) (g.O.Sink.taken c.args.out.now) refl))

-- The refusal in the stop is the one that was found there.
pub returns-in-Err-Refused-clause-taken : goal.returns-in-Err-Refused-clause-taken
returns-in-Err-Refused-clause-taken g c tells =
    let Said : Stop → Type 0 = λ w. verdict_meant c.refused.ensures.refused.0 ≡ record { file = c.args.read.now.file; command = c.args.read.now.item.now.number; offset = c.args.read.now.item.now.offset; refusal = refusal_of (values_d enum 0 (BadMagic, tt) w).0 } in
    all_map (g.I.Inputs.told c.args.inputs.now) (map string_bytes c.args.task.now.files.now) (λ told. AllCells (IsInInput told) c.args.self.now.state × DataStand told (item_of c.args.read.now.file c.args.read.now.item.now)) _ (λ told there.
    subst (λ (k : Kept). ItemEnd told (plan_with (g.E.Known.base c.args.task.now.known.now) c.args.task.now.survey.now) k c.refused.new.self (item_of c.args.read.now.file c.args.read.now.item.now) (g.O.Sink.taken c.args.out.now) (g.O.Sink.taken c.refused.new.out) (Err c.refused.result)) c.self.view_is
    (refused_ends told (plan_with (g.E.Known.base c.args.task.now.known.now) c.args.task.now.survey.now) (the_view c.self.inside) c.refused.new.self (item_of c.args.read.now.file c.args.read.now.item.now) (refusal_of c.in-Err-Refused.refusal) c.refused.ensures.refused.0 c.refused.result (g.O.Sink.taken c.args.out.now) (g.O.Sink.taken c.refused.new.out) (g.O.Sink.faults c.args.out.now) (g.O.Sink.faults c.refused.new.out)
    (step_refused told (plan_with (g.E.Known.base c.args.task.now.known.now) c.args.task.now.survey.now) (the_view c.self.inside) (record { store = c.step.new.self; part = c.step.new.part }) (item_of c.args.read.now.file c.args.read.now.item.now) (refusal_of c.in-Err-Refused.refusal)
    (stepped_seen {A = Done} (Err (stop.Refused c.in-Err-Refused.refusal)) told (g.E.Known.base c.args.task.now.known.now) (the_view c.self.inside).state (record { store = c.step.new.self; part = c.step.new.part }) (item_of c.args.read.now.file c.args.read.now.item.now) there.1
    (subst (λ (w : Stop). Answers {A = Done} (Err w) (record { store = c.step.new.self; part = c.step.new.part }) (step None (cells_put advanced_by (Fresh (c.args.read.now.file - 1) c.args.read.now.item.now.data_at) (meaning_of c.args.read.now.item.now.command)) (the_view c.self.inside).state (meaning_of c.args.read.now.item.now.command))) c.in-Err-Refused.field-0-is c.in-Err-Refused.ensures.stepped)))
    (subst Said c.in-Err-Refused.field-0-is c.refused.ensures.refused.1) c.refused.ensures.refused.2)) c.requires.there

pub returns-then-not-in_order-clause-taken : goal.returns-then-not-in_order-clause-taken
returns-then-not-in_order-clause-taken g c tells =
    let order = c.in_order.ensures c.in-Some.head.name.now c.in-Some.head.key in
    all_map (g.I.Inputs.told c.args.inputs.now) (map string_bytes c.args.task.now.files.now) (λ told. AllCells (IsInInput told) c.args.self.now.state × DataStand told (item_of c.args.read.now.file c.args.read.now.item.now)) _ (λ told there.
    subst (λ (k : Kept). ItemEnd told (plan_with (g.E.Known.base c.args.task.now.known.now) c.args.task.now.survey.now) k c.refused-then-not-in_order.new.self (item_of c.args.read.now.file c.args.read.now.item.now) (g.O.Sink.taken c.args.out.now) (g.O.Sink.taken c.refused-then-not-in_order.new.out) (Err c.refused-then-not-in_order.result)) c.self.view_is
    (refused_ends told (plan_with (g.E.Known.base c.args.task.now.known.now) c.args.task.now.survey.now) (the_view c.self.inside) c.refused-then-not-in_order.new.self (item_of c.args.read.now.file c.args.read.now.item.now) _ c.refused-then-not-in_order.ensures.refused.0 c.refused-then-not-in_order.result (g.O.Sink.taken c.args.out.now) (g.O.Sink.taken c.refused-then-not-in_order.new.out) (g.O.Sink.faults c.args.out.now) (g.O.Sink.faults c.refused-then-not-in_order.new.out)
    (head_refuses told (plan_with (g.E.Known.base c.args.task.now.known.now) c.args.task.now.survey.now) (the_view c.self.inside) (record { store = c.step.new.self; part = c.step.new.part }) (item_of c.args.read.now.file c.args.read.now.item.now) (head_meant c.in-Some.head) (stepped_seen {A = Done} (Ok c.in-Ok.field-0) told (g.E.Known.base c.args.task.now.known.now) (the_view c.self.inside).state (record { store = c.step.new.self; part = c.step.new.part }) (item_of c.args.read.now.file c.args.read.now.item.now) there.1 c.in-Ok.ensures.stepped) (sym c.in-Some.ensures) (not_false _ (sym order ∙ c.if-not-in_order.true)))
    c.refused-then-not-in_order.ensures.refused.1 c.refused-then-not-in_order.ensures.refused.2)) c.requires.there

pub begin_part-requires : goal.begin_part-requires
begin_part-requires g c = record { writable = spellable_is_writable c.args.read.now.item.now.version (meaning_of c.args.read.now.item.now.command) c.requires.can_write.spellable }

pub returns-in-Ok-begin_part-clause-had : goal.returns-in-Ok-begin_part-clause-had
returns-in-Ok-begin_part-clause-had g c =
    subst (λ (k : Kept). AllCells (IsHad (length c.args.task.now.files.now) (g.E.Known.base c.args.task.now.known.now)) k.state) (sym (c.in-Ok-begin_part.ensures.begun (head_meant c.in-Some.head) (sym c.in-Some.ensures) refl))
    (led_cells (IsHad (length c.args.task.now.files.now) (g.E.Known.base c.args.task.now.known.now)) (cells_put advanced_by (Fresh (c.args.read.now.file - 1) c.args.read.now.item.now.data_at) (meaning_of c.args.read.now.item.now.command)) (the_view c.self.inside).state (record { store = c.step.new.self; part = c.step.new.part }) (meaning_of c.args.read.now.item.now.command) tt
    (put_had (length c.args.task.now.files.now) (g.E.Known.base c.args.task.now.known.now) (c.args.read.now.file - 1) c.args.read.now.item.now.data_at (meaning_of c.args.read.now.item.now.command) (omega (arith, c.requires.numbered.0, c.requires.numbered.1)))
    (subst (λ (k : Kept). AllCells (IsHad (length c.args.task.now.files.now) (g.E.Known.base c.args.task.now.known.now)) k.state) (sym c.self.view_is) c.requires.had) c.in-Ok.ensures.stepped)

pub returns-in-Ok-begin_part-clause-there : goal.returns-in-Ok-begin_part-clause-there
returns-in-Ok-begin_part-clause-there g c =
    all_map (g.I.Inputs.told c.args.inputs.now) (map string_bytes c.args.task.now.files.now) (λ told. AllCells (IsInInput told) c.args.self.now.state × DataStand told (item_of c.args.read.now.file c.args.read.now.item.now)) _ (λ told there.
    subst (λ (k : Kept). AllCells (IsInInput told) k.state) (sym (c.in-Ok-begin_part.ensures.begun (head_meant c.in-Some.head) (sym c.in-Some.ensures) refl))
    (led_cells (IsInInput told) (cells_put advanced_by (Fresh (c.args.read.now.file - 1) c.args.read.now.item.now.data_at) (meaning_of c.args.read.now.item.now.command)) (the_view c.self.inside).state (record { store = c.step.new.self; part = c.step.new.part }) (meaning_of c.args.read.now.item.now.command) tt (put_there told (item_of c.args.read.now.file c.args.read.now.item.now) there.1)
    (subst (λ (k : Kept). AllCells (IsInInput told) k.state) (sym c.self.view_is) there.0) c.in-Ok.ensures.stepped)) c.requires.there

pub returns-in-Ok-begin_part-clause-taken : goal.returns-in-Ok-begin_part-clause-taken
returns-in-Ok-begin_part-clause-taken g c tells =
    let order = c.in_order.ensures c.in-Some.head.name.now c.in-Some.head.key in
    all_map (g.I.Inputs.told c.args.inputs.now) (map string_bytes c.args.task.now.files.now) (λ told. AllCells (IsInInput told) c.args.self.now.state × DataStand told (item_of c.args.read.now.file c.args.read.now.item.now)) _ (λ told there.
    subst (λ (k : Kept). ItemEnd told (plan_with (g.E.Known.base c.args.task.now.known.now) c.args.task.now.survey.now) k c.begin_part.new.self (item_of c.args.read.now.file c.args.read.now.item.now) (g.O.Sink.taken c.args.out.now) (g.O.Sink.taken c.args.out.now) (Ok tt)) c.self.view_is
    (head_taken told (g.E.Known.base c.args.task.now.known.now) c.args.task.now.survey.now (the_view c.self.inside) c.begin_part.new.self (record { store = c.step.new.self; part = c.step.new.part }) (item_of c.args.read.now.file c.args.read.now.item.now) (head_meant c.in-Some.head) (g.O.Sink.taken c.args.out.now) (sym c.in-Some.ensures) (not_true _ (sym order ∙ c.if-not-in_order.false)) c.self.invariant.1
    (stepped_seen {A = Done} (Ok c.in-Ok.field-0) told (g.E.Known.base c.args.task.now.known.now) (the_view c.self.inside).state (record { store = c.step.new.self; part = c.step.new.part }) (item_of c.args.read.now.file c.args.read.now.item.now) there.1 c.in-Ok.ensures.stepped)
    (c.in-Ok-begin_part.ensures.begun (head_meant c.in-Some.head) (sym c.in-Some.ensures) refl))) c.requires.there

pub returns-in-Ok-begin_part-clause-latest : goal.returns-in-Ok-begin_part-clause-latest
returns-in-Ok-begin_part-clause-latest g c =
    ap (λ (k : Kept). k.latest) (c.in-Ok-begin_part.ensures.begun (head_meant c.in-Some.head) (sym c.in-Some.ensures) refl)
    ∙ ap (λ (o : Option Head). first_of o c.args.self.now.latest) c.in-Some.ensures

pub returns-in-Err-clause-taken : goal.returns-in-Err-clause-taken
returns-in-Err-clause-taken g c tells =
    all_always (g.I.Inputs.told c.args.inputs.now) (map string_bytes c.args.task.now.files.now) _ (λ told.
    subst (λ (k : Kept). ItemEnd told (plan_with (g.E.Known.base c.args.task.now.known.now) c.args.task.now.survey.now) k c.begin_part.new.self (item_of c.args.read.now.file c.args.read.now.item.now) (g.O.Sink.taken c.args.out.now) (g.O.Sink.taken c.args.out.now) (Err ended.NoMemory)) c.self.view_is
    (no_memory told (plan_with (g.E.Known.base c.args.task.now.known.now) c.args.task.now.survey.now) (the_view c.self.inside) c.begin_part.new.self (item_of c.args.read.now.file c.args.read.now.item.now) (g.O.Sink.taken c.args.out.now) (ap (λ (k : Kept). k.pending) c.in-Err.ensures.same)))

pub returns-in_default-last-clause-had : goal.returns-in_default-last-clause-had
returns-in_default-last-clause-had g c =
    led_cells (IsHad (length c.args.task.now.files.now) (g.E.Known.base c.args.task.now.known.now)) (cells_put advanced_by (Fresh (c.args.read.now.file - 1) c.args.read.now.item.now.data_at) (meaning_of c.args.read.now.item.now.command)) (the_view c.self.inside).state (record { store = c.step.new.self; part = c.step.new.part }) (meaning_of c.args.read.now.item.now.command) tt
    (put_had (length c.args.task.now.files.now) (g.E.Known.base c.args.task.now.known.now) (c.args.read.now.file - 1) c.args.read.now.item.now.data_at (meaning_of c.args.read.now.item.now.command) (omega (arith, c.requires.numbered.0, c.requires.numbered.1)))
    (subst (λ (k : Kept). AllCells (IsHad (length c.args.task.now.files.now) (g.E.Known.base c.args.task.now.known.now)) k.state) (sym c.self.view_is) c.requires.had) c.in-Ok.ensures.stepped

pub returns-in_default-last-clause-there : goal.returns-in_default-last-clause-there
returns-in_default-last-clause-there g c =
    all_map (g.I.Inputs.told c.args.inputs.now) (map string_bytes c.args.task.now.files.now) (λ told. AllCells (IsInInput told) c.args.self.now.state × DataStand told (item_of c.args.read.now.file c.args.read.now.item.now)) _ (λ told there. (led_cells (IsInInput told) (cells_put advanced_by (Fresh (c.args.read.now.file - 1) c.args.read.now.item.now.data_at) (meaning_of c.args.read.now.item.now.command)) (the_view c.self.inside).state (record { store = c.step.new.self; part = c.step.new.part }) (meaning_of c.args.read.now.item.now.command) tt (put_there told (item_of c.args.read.now.file c.args.read.now.item.now) there.1)
    (subst (λ (k : Kept). AllCells (IsInInput told) k.state) (sym c.self.view_is) there.0) c.in-Ok.ensures.stepped)) c.requires.there

pub returns-in_default-last-clause-taken : goal.returns-in_default-last-clause-taken
returns-in_default-last-clause-taken g c tells =
    let no_head = is_none_of c.head_of.result c.in_default.not-Some in
    let no_last = is_none_of c.last.result c.in_default-last.not-Some in
    let edit : head_of (meaning_of c.args.read.now.item.now.command) ≡ None = sym c.head_of.ensures ∙ ap (option_map head_meant) no_head in
    all_map (g.I.Inputs.told c.args.inputs.now) (map string_bytes c.args.task.now.files.now) (λ told. AllCells (IsInInput told) c.args.self.now.state × DataStand told (item_of c.args.read.now.file c.args.read.now.item.now)) _ (λ told there.
    subst (λ (k : Kept). ItemEnd told (plan_with (g.E.Known.base c.args.task.now.known.now) c.args.task.now.survey.now) k (record (the_view c.self.inside) { state = (record { store = c.step.new.self; part = c.step.new.part }) }) (item_of c.args.read.now.file c.args.read.now.item.now) (g.O.Sink.taken c.args.out.now) (g.O.Sink.taken c.args.out.now) (Ok tt)) c.self.view_is
    (nothing_added told (g.E.Known.base c.args.task.now.known.now) c.args.task.now.survey.now (the_view c.self.inside) (record { store = c.step.new.self; part = c.step.new.part }) (item_of c.args.read.now.file c.args.read.now.item.now) (g.O.Sink.taken c.args.out.now) (sym c.last.ensures.last ∙ ap option_copied no_last) (subst (λ o. KnowsParts (option_copied o) c.args.task.now.survey.now.parts) no_last c.last.ensures.known) edit c.self.invariant.1
    (stepped_seen {A = Done} (Ok c.in-Ok.field-0) told (g.E.Known.base c.args.task.now.known.now) (the_view c.self.inside).state (record { store = c.step.new.self; part = c.step.new.part }) (item_of c.args.read.now.file c.args.read.now.item.now) there.1 c.in-Ok.ensures.stepped))) c.requires.there

pub add-requires-clause-had : goal.add-requires-clause-had
add-requires-clause-had g c =
    led_cells (IsHad (length c.args.task.now.files.now) (g.E.Known.base c.args.task.now.known.now)) (cells_put advanced_by (Fresh (c.args.read.now.file - 1) c.args.read.now.item.now.data_at) (meaning_of c.args.read.now.item.now.command)) (the_view c.self.inside).state (record { store = c.step.new.self; part = c.step.new.part }) (meaning_of c.args.read.now.item.now.command) tt
    (put_had (length c.args.task.now.files.now) (g.E.Known.base c.args.task.now.known.now) (c.args.read.now.file - 1) c.args.read.now.item.now.data_at (meaning_of c.args.read.now.item.now.command) (omega (arith, c.requires.numbered.0, c.requires.numbered.1)))
    (subst (λ (k : Kept). AllCells (IsHad (length c.args.task.now.files.now) (g.E.Known.base c.args.task.now.known.now)) k.state) (sym c.self.view_is) c.requires.had) c.in-Ok.ensures.stepped

pub add-requires-clause-there : goal.add-requires-clause-there
add-requires-clause-there g c =
    all_map (g.I.Inputs.told c.args.inputs.now) (map string_bytes c.args.task.now.files.now) (λ told. AllCells (IsInInput told) c.args.self.now.state × DataStand told (item_of c.args.read.now.file c.args.read.now.item.now)) _ (λ told there. (led_cells (IsInInput told) (cells_put advanced_by (Fresh (c.args.read.now.file - 1) c.args.read.now.item.now.data_at) (meaning_of c.args.read.now.item.now.command)) (the_view c.self.inside).state (record { store = c.step.new.self; part = c.step.new.part }) (meaning_of c.args.read.now.item.now.command) tt (put_there told (item_of c.args.read.now.file c.args.read.now.item.now) there.1)
    (subst (λ (k : Kept). AllCells (IsInInput told) k.state) (sym c.self.view_is) there.0) c.in-Ok.ensures.stepped)) c.requires.there

pub returns-clause-had : goal.returns-clause-had
returns-clause-had g c =
    on_ok c.add.result _ (subst (λ (s : State (Option Trace)). AllCells (IsHad (length c.args.task.now.files.now) (g.E.Known.base c.args.task.now.known.now)) s) (sym c.add.ensures.state)
    (led_cells (IsHad (length c.args.task.now.files.now) (g.E.Known.base c.args.task.now.known.now)) (cells_put advanced_by (Fresh (c.args.read.now.file - 1) c.args.read.now.item.now.data_at) (meaning_of c.args.read.now.item.now.command)) (the_view c.self.inside).state (record { store = c.step.new.self; part = c.step.new.part }) (meaning_of c.args.read.now.item.now.command) tt
    (put_had (length c.args.task.now.files.now) (g.E.Known.base c.args.task.now.known.now) (c.args.read.now.file - 1) c.args.read.now.item.now.data_at (meaning_of c.args.read.now.item.now.command) (omega (arith, c.requires.numbered.0, c.requires.numbered.1)))
    (subst (λ (k : Kept). AllCells (IsHad (length c.args.task.now.files.now) (g.E.Known.base c.args.task.now.known.now)) k.state) (sym c.self.view_is) c.requires.had) c.in-Ok.ensures.stepped))

pub returns-clause-there : goal.returns-clause-there
returns-clause-there g c =
    on_ok c.add.result _ (all_map (g.I.Inputs.told c.args.inputs.now) (map string_bytes c.args.task.now.files.now) (λ told. AllCells (IsInInput told) c.args.self.now.state × DataStand told (item_of c.args.read.now.file c.args.read.now.item.now)) _ (λ told there.
    subst (λ (s : State (Option Trace)). AllCells (IsInInput told) s) (sym c.add.ensures.state) (led_cells (IsInInput told) (cells_put advanced_by (Fresh (c.args.read.now.file - 1) c.args.read.now.item.now.data_at) (meaning_of c.args.read.now.item.now.command)) (the_view c.self.inside).state (record { store = c.step.new.self; part = c.step.new.part }) (meaning_of c.args.read.now.item.now.command) tt (put_there told (item_of c.args.read.now.file c.args.read.now.item.now) there.1)
    (subst (λ (k : Kept). AllCells (IsInInput told) k.state) (sym c.self.view_is) there.0) c.in-Ok.ensures.stepped)) c.requires.there)

pub returns-clause-taken : goal.returns-clause-taken
returns-clause-taken g c tells =
    let no_head = is_none_of c.head_of.result c.in_default.not-Some in
    let edit : head_of (meaning_of c.args.read.now.item.now.command) ≡ None = sym c.head_of.ensures ∙ ap (option_map head_meant) no_head in
    let mid : Kept = record (the_view c.self.inside) { state = (record { store = c.step.new.self; part = c.step.new.part }) } in
    all_two (g.I.Inputs.told c.args.inputs.now) (map string_bytes c.args.task.now.files.now) (λ told. AllCells (IsInInput told) c.args.self.now.state × DataStand told (item_of c.args.read.now.file c.args.read.now.item.now)) (λ told. AddEnd told (g.E.Known.base c.args.task.now.known.now) c.args.task.now.survey.now (key_of c.key.result) mid c.add.new.self (meaning_of c.args.read.now.item.now.command) (g.O.Sink.taken c.args.out.now) (g.O.Sink.taken c.add.new.out) c.add.result) _ (λ told there added.
    subst (λ (k : Kept). ItemEnd told (plan_with (g.E.Known.base c.args.task.now.known.now) c.args.task.now.survey.now) k c.add.new.self (item_of c.args.read.now.file c.args.read.now.item.now) (g.O.Sink.taken c.args.out.now) (g.O.Sink.taken c.add.new.out) c.add.result) c.self.view_is
    (edit_ends told (g.E.Known.base c.args.task.now.known.now) c.args.task.now.survey.now c.in-Some-last.last.now (the_view c.self.inside) (record { store = c.step.new.self; part = c.step.new.part }) (cells_put advanced_by (Fresh (c.args.read.now.file - 1) c.args.read.now.item.now.data_at) (meaning_of c.args.read.now.item.now.command)) c.add.new.self (item_of c.args.read.now.file c.args.read.now.item.now) (g.O.Sink.taken c.args.out.now) (g.O.Sink.taken c.add.new.out) c.add.result
    (sym c.in-Some-last.ensures.last) edit c.in-Ok.ensures.stepped (stepped_seen {A = Done} (Ok c.in-Ok.field-0) told (g.E.Known.base c.args.task.now.known.now) (the_view c.self.inside).state (record { store = c.step.new.self; part = c.step.new.part }) (item_of c.args.read.now.file c.args.read.now.item.now) there.1 c.in-Ok.ensures.stepped)
    (subst (λ (key : Key). AddEnd told (g.E.Known.base c.args.task.now.known.now) c.args.task.now.survey.now key mid c.add.new.self (meaning_of c.args.read.now.item.now.command) (g.O.Sink.taken c.args.out.now) (g.O.Sink.taken c.add.new.out) c.add.result) c.key.ensures added)
    c.add.ensures.state c.add.ensures.latest)) c.requires.there (c.add.ensures.added tells)

pub returns-in-Err-NoMemory-clause-asked : goal.returns-in-Err-NoMemory-clause-asked
returns-in-Err-NoMemory-clause-asked g c = asked_nothing g.I.Inputs c.args.inputs.now tt

pub returns-in-Err-Refused-clause-asked : goal.returns-in-Err-Refused-clause-asked
returns-in-Err-Refused-clause-asked g c = asked_nothing g.I.Inputs c.args.inputs.now tt

pub returns-then-not-in_order-clause-asked : goal.returns-then-not-in_order-clause-asked
returns-then-not-in_order-clause-asked g c = asked_nothing g.I.Inputs c.args.inputs.now tt

pub returns-in-Ok-begin_part-clause-asked : goal.returns-in-Ok-begin_part-clause-asked
returns-in-Ok-begin_part-clause-asked g c = asked_nothing g.I.Inputs c.args.inputs.now tt

pub returns-in-Err-clause-asked : goal.returns-in-Err-clause-asked
returns-in-Err-clause-asked g c = asked_nothing g.I.Inputs c.args.inputs.now tt

pub returns-in_default-last-clause-asked : goal.returns-in_default-last-clause-asked
returns-in_default-last-clause-asked g c = asked_nothing g.I.Inputs c.args.inputs.now tt
