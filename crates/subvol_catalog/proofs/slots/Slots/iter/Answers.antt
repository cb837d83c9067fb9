use Rattle.std.proofs.Common.{ap, ◌∙◌}
use Rattle.subvol_catalog.specs.Entries.{occupants}
use Rattle.subvol_catalog.proofs.Tombstones.{shown}
use Rattle.subvol_catalog.proofs.slots.Slots.iter.Goals as goal

pub returns : goal.returns
returns g c =
    rw (← c.self.view_is) (c.new.ensures ∙ ap occupants (c.as_slice.ensures ∙ c.values.ensures.rest) ∙ shown c.self.inside.slots.entries)
