use Rattle.std.specs.Prelude.{◌≡◌, ℕ, map, Option}
use Rattle.std.specs.String.{string_bytes}
use Rattle.std.proofs.Common.{sym, ap, subst, ◌∙◌}
use Rattle.send_model.specs.Store.{Store, IsStore}
use Rattle.sx_base.specs.Calls.{IfAllTold, Wrote}
use Rattle.clone_pieces.proofs.Told.{all_always}
use Rattle.group_replay.specs.declared.place.Place.{Place}
use Rattle.group_replay.specs.Kept.{AreKept}
use Rattle.store_journal.specs.Standing.{with_bytes}
use Rattle.store_compose.specs.Standing.{standing, bytes_in, AreLawful}
use Rattle.store_compose.specs.Ending.{EndsOver}
use Rattle.composer.proofs.Asked.{heads_alone, heads_and_all}
use Rattle.store_compose.proofs.StandingEntries.{kept_lawful}
use Rattle.store_compose.proofs.OverStanding.{traced, had, apart, part, sayable, ends, stopped, no_memory}
use Rattle.store_compose.proofs.composing.compose_opened.Goals as goal

-- ---- where the files can not be surveyed, or there is no memory

pub returns-in-Err-clause-ends : goal.returns-in-Err-clause-ends
returns-in-Err-clause-ends g c tells = stopped c.args.given.now.overrides.now _ (map string_bytes c.args.given.now.files.now) (with_bytes (g.D.Disk.seen c.args.disk.now) c.args.store.now.core) _ c.in-Err.outcome c.in-Err.ensures.surveyed

pub returns-in_default-clause-ends : goal.returns-in_default-clause-ends
returns-in_default-clause-ends g c tells = no_memory c.args.given.now.overrides.now _ _ (with_bytes (g.D.Disk.seen c.args.disk.now) c.args.store.now.core) _

pub returns-in_default-trace_all-clause-ends : goal.returns-in_default-trace_all-clause-ends
returns-in_default-trace_all-clause-ends g c tells = no_memory c.args.given.now.overrides.now _ _ (with_bytes (g.D.Disk.seen c.args.disk.now) c.args.store.now.core) _

-- ---- what stands beside the files

abbrev Cells : Type 0
Cells = Store (Option Place)

lawful_of : (end : ℕ) (core other : Cells) → AreKept end core → core ≡ other → AreLawful other
lawful_of end core other kept same = subst (λ (s : Cells). AreLawful s) same (kept_lawful end core kept)

pub index_all-requires : goal.index_all-requires
index_all-requires g c = record { lawful = lawful_of _ c.core.result.now c.catalog.result.now c.core.ensures.kept (sym c.catalog.ensures.core) }

pub compose_read-over-requires-clause-part : goal.compose_read-over-requires-clause-part
compose_read-over-requires-clause-part g c =
    part (g.D.Disk.seen c.args.disk.now) c.args.store.now.core c.in-Ok-index_all.indexes c.in-Ok.known (subst (λ (s : Cells). IsStore s) c.core.ensures.core c.catalog.ensures.apart)
    (lawful_of _ c.core.result.now c.args.store.now.core c.core.ensures.kept c.core.ensures.core) (c.in-Ok-index_all.ensures ∙ ap (standing c.in-Ok.known) (c.catalog.ensures.core ∙ c.core.ensures.core))

pub compose_read-over-requires-clause-traced : goal.compose_read-over-requires-clause-traced
compose_read-over-requires-clause-traced g c tells =
    all_always _ (map string_bytes c.args.given.now.files.now) _
    (traced (g.D.Disk.seen c.args.disk.now) c.args.store.now.core c.in-Ok-index_all.indexes c.in-Ok.known (subst (λ (s : Cells). IsStore s) c.core.ensures.core c.catalog.ensures.apart)
    (lawful_of _ c.core.result.now c.args.store.now.core c.core.ensures.kept c.core.ensures.core) (c.in-Ok-index_all.ensures ∙ ap (standing c.in-Ok.known) (c.catalog.ensures.core ∙ c.core.ensures.core))
    c.in-Ok-trace_all.core c.in-Ok-trace_all.ensures)

pub compose_read-over-requires-clause-had : goal.compose_read-over-requires-clause-had
compose_read-over-requires-clause-had g c =
    had (g.D.Disk.seen c.args.disk.now) c.args.store.now.core c.in-Ok-index_all.indexes c.in-Ok.known (subst (λ (s : Cells). IsStore s) c.core.ensures.core c.catalog.ensures.apart)
    (lawful_of _ c.core.result.now c.args.store.now.core c.core.ensures.kept c.core.ensures.core) (c.in-Ok-index_all.ensures ∙ ap (standing c.in-Ok.known) (c.catalog.ensures.core ∙ c.core.ensures.core))
    c.in-Ok-trace_all.core c.in-Ok-trace_all.ensures

pub compose_read-over-requires-clause-apart : goal.compose_read-over-requires-clause-apart
compose_read-over-requires-clause-apart g c =
    apart (g.D.Disk.seen c.args.disk.now) c.args.store.now.core c.in-Ok-index_all.indexes c.in-Ok.known (subst (λ (s : Cells). IsStore s) c.core.ensures.core c.catalog.ensures.apart)
    (lawful_of _ c.core.result.now c.args.store.now.core c.core.ensures.kept c.core.ensures.core) (c.in-Ok-index_all.ensures ∙ ap (standing c.in-Ok.known) (c.catalog.ensures.core ∙ c.core.ensures.core))

pub compose_read-over-requires-clause-sayable : goal.compose_read-over-requires-clause-sayable
compose_read-over-requires-clause-sayable g c tells =
    sayable (g.D.Disk.seen c.args.disk.now) c.args.store.now.core c.in-Ok-index_all.indexes c.in-Ok.known (subst (λ (s : Cells). IsStore s) c.core.ensures.core c.catalog.ensures.apart)
    (lawful_of _ c.core.result.now c.args.store.now.core c.core.ensures.kept c.core.ensures.core) (c.in-Ok-index_all.ensures ∙ ap (standing c.in-Ok.known) (c.catalog.ensures.core ∙ c.core.ensures.core))
    (c.requires.lawful tells)

pub returns-clause-ends : goal.returns-clause-ends
returns-clause-ends g c tells =
    ends (g.D.Disk.seen c.args.disk.now) c.args.store.now.core c.in-Ok-index_all.indexes c.in-Ok.known (subst (λ (s : Cells). IsStore s) c.core.ensures.core c.catalog.ensures.apart)
    (lawful_of _ c.core.result.now c.args.store.now.core c.core.ensures.kept c.core.ensures.core) (c.in-Ok-index_all.ensures ∙ ap (standing c.in-Ok.known) (c.catalog.ensures.core ∙ c.core.ensures.core))
    c.args.given.now.overrides.now (g.I.Inputs.told c.args.inputs.now) (map string_bytes c.args.given.now.files.now) (g.O.Sink.taken c.args.out.now) (g.O.Sink.taken c.compose_read-over.new.out) c.compose_read-over.result.end c.in-Ok.ensures.surveyed
    (subst (λ told. IfAllTold told (map string_bytes c.args.given.now.files.now)
    (λ files. Wrote (g.O.Sink.taken c.args.out.now) (g.O.Sink.taken c.compose_read-over.new.out) (EndsOver (bytes_in (g.D.Disk.seen c.args.disk.now) c.in-Ok-index_all.indexes) c.args.given.now.overrides.now files c.compose_read-over.result.end)))
    c.survey.ensures.same (c.compose_read-over.ensures.ends tells))

-- ---- what was asked of the inputs

pub returns-in-Err-clause-asked : goal.returns-in-Err-clause-asked
returns-in-Err-clause-asked g c = heads_alone g.I.Inputs (map string_bytes c.args.given.now.files.now) c.args.inputs.now c.survey.new.inputs c.in-Err.ensures.asked

pub returns-in_default-clause-asked : goal.returns-in_default-clause-asked
returns-in_default-clause-asked g c = heads_alone g.I.Inputs (map string_bytes c.args.given.now.files.now) c.args.inputs.now c.survey.new.inputs c.in-Ok.ensures.asked

pub returns-in_default-trace_all-clause-asked : goal.returns-in_default-trace_all-clause-asked
returns-in_default-trace_all-clause-asked g c = heads_alone g.I.Inputs (map string_bytes c.args.given.now.files.now) c.args.inputs.now c.survey.new.inputs c.in-Ok.ensures.asked

pub returns-clause-asked : goal.returns-clause-asked
returns-clause-asked g c =
    heads_and_all g.I.Inputs (map string_bytes c.args.given.now.files.now) c.args.inputs.now c.survey.new.inputs c.compose_read-over.new.inputs c.survey.ensures.same c.in-Ok.ensures.asked c.compose_read-over.ensures.asked
