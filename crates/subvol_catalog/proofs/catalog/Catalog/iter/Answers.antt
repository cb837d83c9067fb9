use Rattle.subvol_catalog.proofs.Views.{stand_apart, have_names}
use Rattle.subvol_catalog.proofs.catalog.Catalog.iter.Goals as goal

pub returns-clause-apart : goal.returns-clause-apart
returns-clause-apart g c = let i = c.self.inside in rw (← c.self.view_is) (stand_apart i.names.entries i.uuids.entries i.slots.next i.slots.entries c.self.invariant)

pub returns-clause-named : goal.returns-clause-named
returns-clause-named g c = let i = c.self.inside in rw (← c.self.view_is) (have_names i.names.entries i.uuids.entries i.slots.next i.slots.entries c.self.invariant)
