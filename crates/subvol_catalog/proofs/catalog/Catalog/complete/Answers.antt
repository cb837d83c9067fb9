use Rattle.std.proofs.Common.{sym, ap, ◌∙◌}
use Rattle.send_model.specs.Store.{has_uuid, with_contents}
use Rattle.subvol_catalog.proofs.Pairs.{completes_none}
use Rattle.subvol_catalog.proofs.Views.{of_none, absent, value_takes}
use Rattle.subvol_catalog.proofs.catalog.Catalog.complete.Goals as goal

pub returns-in_default : goal.returns-in_default
returns-in_default g c =
    let i = c.self.inside in
    let none = of_none i.names.entries i.uuids.entries i.slots.next i.slots.entries c.self.invariant c.args.uuid (sym c.in_default.ensures) in
    let apart = absent i.names.entries i.uuids.entries i.slots.next i.slots.entries c.self.invariant c.args.uuid none in
    record { complete = sym (completes_none c.args.uuid c.args.value c.args.self.now (ap (has_uuid c.args.uuid) (sym c.self.view_is) ∙ apart)) }

pub invariant_of-self : goal.invariant_of-self
invariant_of-self g c =
    let i = c.self.inside in
    let took = value_takes i.names.entries i.uuids.entries i.slots.next i.slots.entries c.self.invariant c.args.uuid c.in-Some.number c.args.value _ (sym c.in-Some.ensures) c.complete.ensures.entries in
    rw (c.complete.ensures.next) took.1

pub returns : goal.returns
returns g c =
    let i = c.self.inside in
    let took = value_takes i.names.entries i.uuids.entries i.slots.next i.slots.entries c.self.invariant c.args.uuid c.in-Some.number c.args.value _ (sym c.in-Some.ensures) c.complete.ensures.entries in
    record { complete = took.0 ∙ ap (with_contents c.args.uuid c.args.value) c.self.view_is }
