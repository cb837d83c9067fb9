use Rattle.std.proofs.Common.{is_some, sym, ap, ◌∙◌}
use Rattle.send_model.specs.Store.{has_uuid}
use Rattle.subvol_catalog.specs.Admission.{without_name, without_uuid}
use Rattle.subvol_catalog.specs.Entries.{entry_of, named}
use Rattle.subvol_catalog.proofs.Pairs.{name_there, uuid_of_named, all_else}
use Rattle.subvol_catalog.proofs.Views.{name_goes}
use Rattle.subvol_catalog.proofs.catalog.Catalog.drop_name.Goals as goal

pub returns-in_default-clause-there : goal.returns-in_default-clause-there
returns-in_default-clause-there g c = ap is_some c.in_default.ensures.entry ∙ name_there c.args.name.now c.args.self.now

pub returns-in_default-clause-dropped : goal.returns-in_default-clause-dropped
returns-in_default-clause-dropped g c =
    sym (all_else c.args.name.now c.args.self.now (sym (name_there c.args.name.now c.args.self.now) ∙ sym (ap is_some c.in_default.ensures.entry)))

pub returns-clause-there : goal.returns-clause-there
returns-clause-there g c =
    let e = entry_of c.in-Some.entry.now in
    c.drop_uuid.ensures.there ∙ ap (λ u. has_uuid u c.args.self.now) c.uuid-uuid.ensures ∙ uuid_of_named c.args.name.now c.args.self.now e (sym c.in-Some.ensures.entry)
    ∙ ap is_some c.in-Some.ensures.entry ∙ name_there c.args.name.now c.args.self.now

pub returns-clause-dropped : goal.returns-clause-dropped
returns-clause-dropped g c =
    let i = c.self.inside in
    let e = entry_of c.in-Some.entry.now in
    let same = name_goes i.names.entries i.uuids.entries i.slots.next i.slots.entries c.self.invariant c.args.name.now e (ap (named c.args.name.now) c.self.view_is ∙ sym c.in-Some.ensures.entry) in
    c.drop_uuid.ensures.dropped ∙ ap (λ u. without_uuid u c.args.self.now) c.uuid-uuid.ensures ∙ ap (without_uuid e.key.uuid) (sym c.self.view_is) ∙ sym same ∙ ap (without_name c.args.name.now) c.self.view_is
