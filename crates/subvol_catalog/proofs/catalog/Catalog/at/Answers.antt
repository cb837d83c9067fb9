use Rattle.subvol_catalog.specs.Entries.{listed}
use Rattle.subvol_catalog.proofs.Views.{have_names, named_at}
use Rattle.subvol_catalog.proofs.catalog.Catalog.at.Goals as goal

pub returns-clause-named : goal.returns-clause-named
returns-clause-named g c =
    let i = c.self.inside in
    named_at (listed i.slots.entries) c.args.i c.at.result (have_names i.names.entries i.uuids.entries i.slots.next i.slots.entries c.self.invariant) c.at.ensures
