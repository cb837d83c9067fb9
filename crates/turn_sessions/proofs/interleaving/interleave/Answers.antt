use Rattle.std.specs.Prelude.{◌≡◌, ℕ, List, Option, Ok, Err, length, map}
use Rattle.std.specs.String.{string_bytes}
use Rattle.std.proofs.Common.{sym, subst, ◌∙◌}
use Rattle.std.proofs.lemmas.List.{length-map}
use Rattle.send_model.specs.Store.{Store, IsStore}
use Rattle.sx_base.specs.Calls.{IfAllTold, Wrote}
use Rattle.sx_base.proofs.Asking.{asked_nothing, asked_so, turn_none}
use Rattle.group_replay.specs.declared.place.Place.{Place}
use Rattle.sx_base.specs.declared.outcome.Outcome.TheVariants as ended
use Rattle.receiver.specs.declared.outcome.Received.{Received}
use Rattle.receiver.specs.declared.outcome.Received.TheVariants as how
use Rattle.turn_sessions.specs.declared.session.Session.{Session}
use Rattle.turn_sessions.specs.Asked.{unread}
use Rattle.turn_sessions.specs.Ends.{ArePlaces, places_of}
use Rattle.turn_sessions.specs.Going.{AreNew}
use Rattle.turn_sessions.proofs.AsksInTurn.{all_asked}
use Rattle.turn_sessions.proofs.Opening.{are_reading, count_of_new}
use Rattle.turn_sessions.proofs.Interleaved.{same_distinct, taking_plain, Says, unbegun, told_ends, all_then, told_always, done_says, ended_says, done_moments, ended_moments}
use Rattle.turn_sessions.proofs.interleaving.interleave.Goals as goal

pub take_turns-requires-clause-places : goal.take_turns-requires-clause-places
take_turns-requires-clause-places g c =
    let count : length c.args.task.now.files.now ≡ length c.as_mut_slice-all.result.now = sym (length-map c.args.task.now.files.now string_bytes) ∙ sym (count_of_new 1 (map string_bytes c.args.task.now.files.now) c.args.guards.items c.as_mut_slice-all.result.now (subst (λ (l : List (Session g.row.G.Denot)). AreNew 1 (map string_bytes c.args.task.now.files.now) c.args.guards.items l) (sym c.as_mut_slice-all.ensures.value) c.in-Ok.ensures)) in
    subst (λ (n : ℕ). ArePlaces n c.args.task.now.schedule.now) count c.requires.schedule

pub take_turns-requires-clause-reading : goal.take_turns-requires-clause-reading
take_turns-requires-clause-reading g c = ((map string_bytes c.args.task.now.files.now), are_reading (g.I.Inputs.told c.args.inputs.now) 1 (map string_bytes c.args.task.now.files.now) c.args.guards.items c.as_mut_slice-all.result.now (subst (λ (l : List (Session g.row.G.Denot)). AreNew 1 (map string_bytes c.args.task.now.files.now) c.args.guards.items l) (sym c.as_mut_slice-all.ensures.value) c.in-Ok.ensures))

pub take_turns-requires-clause-taking : goal.take_turns-requires-clause-taking
take_turns-requires-clause-taking g c = taking_plain g.G.Guarding.kept c.args.store.now.core c.as_mut_slice-all.result.now 1 (map string_bytes c.args.task.now.files.now) c.args.guards.items (subst (λ (s : Store (Option Place)). IsStore s) c.core.ensures.core c.catalog.ensures.apart) (subst (λ (l : List (Session g.row.G.Denot)). AreNew 1 (map string_bytes c.args.task.now.files.now) c.args.guards.items l) (sym c.as_mut_slice-all.ensures.value) c.in-Ok.ensures)

-- ---- what was asked for

pub returns-in_default-clause-asked : goal.returns-in_default-clause-asked
returns-in_default-clause-asked g c = asked_nothing g.I.Inputs c.args.inputs.now (map unread (map string_bytes c.args.task.now.files.now), turn_none (map unread (map string_bytes c.args.task.now.files.now)))

pub returns-in-Ok-take_turns-clause-asked : goal.returns-in-Ok-take_turns-clause-asked
returns-in-Ok-take_turns-clause-asked g c =
    asked_so g.I.Inputs (λ asks on. all_asked 1 (map string_bytes c.args.task.now.files.now) c.args.guards.items c.as_mut_slice-all.result.now c.take_turns.new.sessions (subst (λ (l : List (Session g.row.G.Denot)). AreNew 1 (map string_bytes c.args.task.now.files.now) c.args.guards.items l) (sym c.as_mut_slice-all.ensures.value) c.in-Ok.ensures) asks on)
    c.in-Ok-take_turns.ensures.asked

pub returns-clause-asked : goal.returns-clause-asked
returns-clause-asked g c =
    asked_so g.I.Inputs (λ asks on. all_asked 1 (map string_bytes c.args.task.now.files.now) c.args.guards.items c.as_mut_slice-all.result.now c.take_turns.new.sessions (subst (λ (l : List (Session g.row.G.Denot)). AreNew 1 (map string_bytes c.args.task.now.files.now) c.args.guards.items l) (sym c.as_mut_slice-all.ensures.value) c.in-Ok.ensures) asks on)
    c.in-Err.ensures.asked

-- ---- what was done

pub returns-in_default-clause-interleaved : goal.returns-in_default-clause-interleaved
returns-in_default-clause-interleaved g c base shape all shares own =
    told_always (g.I.Inputs.told c.args.inputs.now) (map string_bytes c.args.task.now.files.now) (λ files. Wrote (g.O.Sink.taken c.args.out.now) (g.O.Sink.taken c.args.out.now) (Says g.D.Disk c.args.disk.now c.args.disk.now c.args.store.now c.args.store.now (g.O.Sink.taken c.args.out.now) (g.O.Sink.taken c.args.out.now) base (places_of c.args.task.now.schedule.now) all shares (same_distinct c.args.store.now.core base shape (subst (λ (s : Store (Option Place)). IsStore s) c.core.ensures.core c.catalog.ensures.apart)) shape files (how.Files ended.NoMemory)))
    (λ files. ended_says g.D.Disk c.args.disk.now c.args.disk.now c.args.store.now c.args.store.now (g.O.Sink.taken c.args.out.now) (g.O.Sink.taken c.args.out.now) base (places_of c.args.task.now.schedule.now) all shares (same_distinct c.args.store.now.core base shape (subst (λ (s : Store (Option Place)). IsStore s) c.core.ensures.core c.catalog.ensures.apart)) shape files (how.Files ended.NoMemory) (unbegun g.D.Disk c.args.disk.now c.args.store.now (g.O.Sink.taken c.args.out.now) base (places_of c.args.task.now.schedule.now) all shares (same_distinct c.args.store.now.core base shape (subst (λ (s : Store (Option Place)). IsStore s) c.core.ensures.core c.catalog.ensures.apart)) shape (λ is_told image. g.met.D.Disk.only_now c.args.disk.now image is_told) files))

pub returns-in_default-clause-any_moment : goal.returns-in_default-clause-any_moment
returns-in_default-clause-any_moment g c tells header groups holds base shape all shares own =
    told_always (g.I.Inputs.told c.args.inputs.now) (map string_bytes c.args.task.now.files.now) _
    (λ files. ended_moments g.D.Disk c.args.disk.now c.args.disk.now c.args.store.now c.args.store.now (g.O.Sink.taken c.args.out.now) (g.O.Sink.taken c.args.out.now) base (places_of c.args.task.now.schedule.now) all shares (same_distinct c.args.store.now.core base shape (subst (λ (s : Store (Option Place)). IsStore s) c.core.ensures.core c.catalog.ensures.apart)) shape files (how.Files ended.NoMemory) (unbegun g.D.Disk c.args.disk.now c.args.store.now (g.O.Sink.taken c.args.out.now) base (places_of c.args.task.now.schedule.now) all shares (same_distinct c.args.store.now.core base shape (subst (λ (s : Store (Option Place)). IsStore s) c.core.ensures.core c.catalog.ensures.apart)) shape (λ is_told image. g.met.D.Disk.only_now c.args.disk.now image is_told) files) tells header groups holds)

pub returns-in-Ok-take_turns-clause-interleaved : goal.returns-in-Ok-take_turns-clause-interleaved
returns-in-Ok-take_turns-clause-interleaved g c base shape all shares own =
    subst (λ (r : Received). IfAllTold (g.I.Inputs.told c.args.inputs.now) (map string_bytes c.args.task.now.files.now) (λ files. Wrote (g.O.Sink.taken c.args.out.now) (g.O.Sink.taken c.take_turns.new.out) (Says g.D.Disk c.args.disk.now c.take_turns.new.disk c.args.store.now c.take_turns.new.store (g.O.Sink.taken c.args.out.now) (g.O.Sink.taken c.take_turns.new.out) base (places_of c.args.task.now.schedule.now) all shares (same_distinct c.args.store.now.core base shape (subst (λ (s : Store (Option Place)). IsStore s) c.core.ensures.core c.catalog.ensures.apart)) shape files r))) (sym c.ended_as.ensures)
    (all_then (g.I.Inputs.told c.args.inputs.now) (map string_bytes c.args.task.now.files.now) _ _ (λ files x. done_says g.D.Disk c.args.disk.now c.take_turns.new.disk c.args.store.now c.take_turns.new.store (g.O.Sink.taken c.args.out.now) (g.O.Sink.taken c.take_turns.new.out) base (places_of c.args.task.now.schedule.now) all shares (same_distinct c.args.store.now.core base shape (subst (λ (s : Store (Option Place)). IsStore s) c.core.ensures.core c.catalog.ensures.apart)) shape g.G.Guarding.kept files _ c.in-Ok-take_turns.refused c.take_turns.new.sessions x)
    (told_ends g.D.Disk c.args.disk.now c.take_turns.new.disk c.args.store.now c.take_turns.new.store (g.O.Sink.taken c.args.out.now) (g.O.Sink.taken c.take_turns.new.out) base (places_of c.args.task.now.schedule.now) all shares (same_distinct c.args.store.now.core base shape (subst (λ (s : Store (Option Place)). IsStore s) c.core.ensures.core c.catalog.ensures.apart)) shape (λ is_told image. g.met.D.Disk.only_now c.args.disk.now image is_told) g.G.Guarding.kept c.args.guards.items c.as_mut_slice-all.result.now c.take_turns.new.sessions (map string_bytes c.args.task.now.files.now) (subst (λ (l : List (Session g.row.G.Denot)). AreNew 1 (map string_bytes c.args.task.now.files.now) c.args.guards.items l) (sym c.as_mut_slice-all.ensures.value) c.in-Ok.ensures) own (Ok c.in-Ok-take_turns.refused) (g.I.Inputs.told c.args.inputs.now)
    (λ at_first w end last count less. c.in-Ok-take_turns.ensures.going c.args.disk.now c.args.store.now (g.O.Sink.taken c.args.out.now) (map string_bytes c.args.task.now.files.now) at_first w end last count less (are_reading (g.I.Inputs.told c.args.inputs.now) 1 (map string_bytes c.args.task.now.files.now) c.args.guards.items c.as_mut_slice-all.result.now (subst (λ (l : List (Session g.row.G.Denot)). AreNew 1 (map string_bytes c.args.task.now.files.now) c.args.guards.items l) (sym c.as_mut_slice-all.ensures.value) c.in-Ok.ensures)))))

pub returns-in-Ok-take_turns-clause-any_moment : goal.returns-in-Ok-take_turns-clause-any_moment
returns-in-Ok-take_turns-clause-any_moment g c tells header groups holds base shape all shares own =
    all_then (g.I.Inputs.told c.args.inputs.now) (map string_bytes c.args.task.now.files.now) _ _ (λ files x. done_moments g.D.Disk c.args.disk.now c.take_turns.new.disk c.args.store.now c.take_turns.new.store (g.O.Sink.taken c.args.out.now) (g.O.Sink.taken c.take_turns.new.out) base (places_of c.args.task.now.schedule.now) all shares (same_distinct c.args.store.now.core base shape (subst (λ (s : Store (Option Place)). IsStore s) c.core.ensures.core c.catalog.ensures.apart)) shape g.G.Guarding.kept files _ c.in-Ok-take_turns.refused c.take_turns.new.sessions x tells header groups holds)
    (told_ends g.D.Disk c.args.disk.now c.take_turns.new.disk c.args.store.now c.take_turns.new.store (g.O.Sink.taken c.args.out.now) (g.O.Sink.taken c.take_turns.new.out) base (places_of c.args.task.now.schedule.now) all shares (same_distinct c.args.store.now.core base shape (subst (λ (s : Store (Option Place)). IsStore s) c.core.ensures.core c.catalog.ensures.apart)) shape (λ is_told image. g.met.D.Disk.only_now c.args.disk.now image is_told) g.G.Guarding.kept c.args.guards.items c.as_mut_slice-all.result.now c.take_turns.new.sessions (map string_bytes c.args.task.now.files.now) (subst (λ (l : List (Session g.row.G.Denot)). AreNew 1 (map string_bytes c.args.task.now.files.now) c.args.guards.items l) (sym c.as_mut_slice-all.ensures.value) c.in-Ok.ensures) own (Ok c.in-Ok-take_turns.refused) (g.I.Inputs.told c.args.inputs.now)
    (λ at_first w end last count less. c.in-Ok-take_turns.ensures.going c.args.disk.now c.args.store.now (g.O.Sink.taken c.args.out.now) (map string_bytes c.args.task.now.files.now) at_first w end last count less (are_reading (g.I.Inputs.told c.args.inputs.now) 1 (map string_bytes c.args.task.now.files.now) c.args.guards.items c.as_mut_slice-all.result.now (subst (λ (l : List (Session g.row.G.Denot)). AreNew 1 (map string_bytes c.args.task.now.files.now) c.args.guards.items l) (sym c.as_mut_slice-all.ensures.value) c.in-Ok.ensures))))

pub returns-clause-interleaved : goal.returns-clause-interleaved
returns-clause-interleaved g c base shape all shares own =
    all_then (g.I.Inputs.told c.args.inputs.now) (map string_bytes c.args.task.now.files.now) _ _ (λ files z. ended_says g.D.Disk c.args.disk.now c.take_turns.new.disk c.args.store.now c.take_turns.new.store (g.O.Sink.taken c.args.out.now) (g.O.Sink.taken c.take_turns.new.out) base (places_of c.args.task.now.schedule.now) all shares (same_distinct c.args.store.now.core base shape (subst (λ (s : Store (Option Place)). IsStore s) c.core.ensures.core c.catalog.ensures.apart)) shape files c.in-Err.why z)
    (told_ends g.D.Disk c.args.disk.now c.take_turns.new.disk c.args.store.now c.take_turns.new.store (g.O.Sink.taken c.args.out.now) (g.O.Sink.taken c.take_turns.new.out) base (places_of c.args.task.now.schedule.now) all shares (same_distinct c.args.store.now.core base shape (subst (λ (s : Store (Option Place)). IsStore s) c.core.ensures.core c.catalog.ensures.apart)) shape (λ is_told image. g.met.D.Disk.only_now c.args.disk.now image is_told) g.G.Guarding.kept c.args.guards.items c.as_mut_slice-all.result.now c.take_turns.new.sessions (map string_bytes c.args.task.now.files.now) (subst (λ (l : List (Session g.row.G.Denot)). AreNew 1 (map string_bytes c.args.task.now.files.now) c.args.guards.items l) (sym c.as_mut_slice-all.ensures.value) c.in-Ok.ensures) own (Err c.in-Err.why) (g.I.Inputs.told c.args.inputs.now)
    (λ at_first w end last count less. c.in-Err.ensures.going c.args.disk.now c.args.store.now (g.O.Sink.taken c.args.out.now) (map string_bytes c.args.task.now.files.now) at_first w end last count less (are_reading (g.I.Inputs.told c.args.inputs.now) 1 (map string_bytes c.args.task.now.files.now) c.args.guards.items c.as_mut_slice-all.result.now (subst (λ (l : List (Session g.row.G.Denot)). AreNew 1 (map string_bytes c.args.task.now.files.now) c.args.guards.items l) (sym c.as_mut_slice-all.ensures.value) c.in-Ok.ensures))))

pub returns-clause-any_moment : goal.returns-clause-any_moment
returns-clause-any_moment g c tells header groups holds base shape all shares own =
    all_then (g.I.Inputs.told c.args.inputs.now) (map string_bytes c.args.task.now.files.now) _ _ (λ files z. ended_moments g.D.Disk c.args.disk.now c.take_turns.new.disk c.args.store.now c.take_turns.new.store (g.O.Sink.taken c.args.out.now) (g.O.Sink.taken c.take_turns.new.out) base (places_of c.args.task.now.schedule.now) all shares (same_distinct c.args.store.now.core base shape (subst (λ (s : Store (Option Place)). IsStore s) c.core.ensures.core c.catalog.ensures.apart)) shape files c.in-Err.why z tells header groups holds)
    (told_ends g.D.Disk c.args.disk.now c.take_turns.new.disk c.args.store.now c.take_turns.new.store (g.O.Sink.taken c.args.out.now) (g.O.Sink.taken c.take_turns.new.out) base (places_of c.args.task.now.schedule.now) all shares (same_distinct c.args.store.now.core base shape (subst (λ (s : Store (Option Place)). IsStore s) c.core.ensures.core c.catalog.ensures.apart)) shape (λ is_told image. g.met.D.Disk.only_now c.args.disk.now image is_told) g.G.Guarding.kept c.args.guards.items c.as_mut_slice-all.result.now c.take_turns.new.sessions (map string_bytes c.args.task.now.files.now) (subst (λ (l : List (Session g.row.G.Denot)). AreNew 1 (map string_bytes c.args.task.now.files.now) c.args.guards.items l) (sym c.as_mut_slice-all.ensures.value) c.in-Ok.ensures) own (Err c.in-Err.why) (g.I.Inputs.told c.args.inputs.now)
    (λ at_first w end last count less. c.in-Err.ensures.going c.args.disk.now c.args.store.now (g.O.Sink.taken c.args.out.now) (map string_bytes c.args.task.now.files.now) at_first w end last count less (are_reading (g.I.Inputs.told c.args.inputs.now) 1 (map string_bytes c.args.task.now.files.now) c.args.guards.items c.as_mut_slice-all.result.now (subst (λ (l : List (Session g.row.G.Denot)). AreNew 1 (map string_bytes c.args.task.now.files.now) c.args.guards.items l) (sym c.as_mut_slice-all.ensures.value) c.in-Ok.ensures))))
