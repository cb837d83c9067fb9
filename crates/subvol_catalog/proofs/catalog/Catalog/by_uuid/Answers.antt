use Rattle.std.proofs.Common.{sym, ap, ◌∙◌}
use Rattle.std.specs.Option.{option_map}
use Rattle.subvol_catalog.specs.Entries.{entry_of}
use Rattle.subvol_catalog.proofs.Tombstones.{entry_behind}
use Rattle.subvol_catalog.proofs.Views.{of_none, of_number}
use Rattle.subvol_catalog.proofs.catalog.Catalog.by_uuid.Goals as goal

pub returns-in_err-number : goal.returns-in_err-number
returns-in_err-number g c =
    let i = c.self.inside in
    record { entry = rw (c.from_residual.ensures, ← c.self.view_is) (sym (of_none i.names.entries i.uuids.entries i.slots.next i.slots.entries c.self.invariant c.args.uuid (sym c.in_err-number.ensures))) }

pub returns : goal.returns
returns g c =
    let i = c.self.inside in
    let at = of_number i.names.entries i.uuids.entries i.slots.next i.slots.entries c.self.invariant c.args.uuid c.in_ok-number.number (sym c.in_ok-number.ensures) in
    record { entry = rw (← c.self.view_is) (entry_behind c.get.result ∙ ap (option_map entry_of) c.get.ensures ∙ sym at) }
