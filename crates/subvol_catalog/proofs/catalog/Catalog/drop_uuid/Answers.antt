use Rattle.std.proofs.Common.{is_some, sym, ap, ◌∙◌}
use Rattle.std.specs.Option.{option_map}
use Rattle.send_model.specs.Store.{has_uuid}
use Rattle.subvol_catalog.specs.Admission.{without_uuid}
use Rattle.subvol_catalog.specs.Entries.{entry_of, listed}
use Rattle.subvol_catalog.proofs.Pairs.{all_others, uuid_finds}
use Rattle.subvol_catalog.proofs.Tombstones.{none_goes}
use Rattle.subvol_catalog.proofs.Views.{of_none, of_number, absent, uuid_goes, others_left}
use Rattle.subvol_catalog.proofs.catalog.Catalog.drop_uuid.Goals as goal

pub returns-in_default-clause-there : goal.returns-in_default-clause-there
returns-in_default-clause-there g c =
    let i = c.self.inside in
    let none = of_none i.names.entries i.uuids.entries i.slots.next i.slots.entries c.self.invariant c.args.uuid (sym c.in_default.ensures) in
    sym (ap (has_uuid c.args.uuid) (sym c.self.view_is) ∙ absent i.names.entries i.uuids.entries i.slots.next i.slots.entries c.self.invariant c.args.uuid none)

pub returns-in_default-clause-dropped : goal.returns-in_default-clause-dropped
returns-in_default-clause-dropped g c =
    let i = c.self.inside in
    let none = of_none i.names.entries i.uuids.entries i.slots.next i.slots.entries c.self.invariant c.args.uuid (sym c.in_default.ensures) in
    sym (all_others c.args.uuid c.args.self.now (ap (has_uuid c.args.uuid) (sym c.self.view_is) ∙ absent i.names.entries i.uuids.entries i.slots.next i.slots.entries c.self.invariant c.args.uuid none))

pub invariant_of-self : goal.invariant_of-self
invariant_of-self g c =
    let i = c.self.inside in
    rw (c.take.ensures.entries, c.take.ensures.next, none_goes c.in-Some.number i.slots.entries (sym c.in_default-take.ensures.entry)) c.self.invariant

pub returns-in_default-take-clause-there : goal.returns-in_default-take-clause-there
returns-in_default-take-clause-there g c =
    let i = c.self.inside in
    let none = of_number i.names.entries i.uuids.entries i.slots.next i.slots.entries c.self.invariant c.args.uuid c.in-Some.number (sym c.in-Some.ensures) ∙ ap (option_map entry_of) (sym c.in_default-take.ensures.entry) in
    sym (ap (has_uuid c.args.uuid) (sym c.self.view_is) ∙ absent i.names.entries i.uuids.entries i.slots.next i.slots.entries c.self.invariant c.args.uuid none)

pub returns-in_default-take-clause-dropped : goal.returns-in_default-take-clause-dropped
returns-in_default-take-clause-dropped g c =
    let i = c.self.inside in
    ap listed c.take.ensures.entries ∙ uuid_goes i.names.entries i.uuids.entries i.slots.next i.slots.entries c.self.invariant c.args.uuid c.in-Some.number (sym c.in-Some.ensures) ∙ ap (without_uuid c.args.uuid) c.self.view_is

pub invariant_of-self-2 : goal.invariant_of-self-2
invariant_of-self-2 g c =
    let i = c.self.inside in
    let left = others_left i.names.entries i.uuids.entries i.slots.next i.slots.entries c.self.invariant c.args.uuid c.in-Some.number c.in-Some-take.entry (sym c.in-Some.ensures) (sym c.in-Some-take.ensures.entry) in
    rw (c.take.ensures.entries, c.take.ensures.next, c.remove.ensures.entries, c.remove-2.ensures.entries, c.as_slice.ensures.bytes) left

pub returns-clause-there : goal.returns-clause-there
returns-clause-there g c =
    let i = c.self.inside in
    let some = of_number i.names.entries i.uuids.entries i.slots.next i.slots.entries c.self.invariant c.args.uuid c.in-Some.number (sym c.in-Some.ensures) ∙ ap (option_map entry_of) (sym c.in-Some-take.ensures.entry) in
    sym (ap (has_uuid c.args.uuid) (sym c.self.view_is) ∙ sym (uuid_finds c.args.uuid (listed i.slots.entries)) ∙ ap is_some some)

pub returns-clause-dropped : goal.returns-clause-dropped
returns-clause-dropped g c =
    let i = c.self.inside in
    ap listed c.take.ensures.entries ∙ uuid_goes i.names.entries i.uuids.entries i.slots.next i.slots.entries c.self.invariant c.args.uuid c.in-Some.number (sym c.in-Some.ensures) ∙ ap (without_uuid c.args.uuid) c.self.view_is
