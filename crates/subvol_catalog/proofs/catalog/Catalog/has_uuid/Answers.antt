use Rattle.std.proofs.Common.{is_some, sym, ap, ◌∙◌}
use Rattle.subvol_catalog.proofs.Pairs.{uuid_finds, mapped}
use Rattle.subvol_catalog.proofs.catalog.Catalog.has_uuid.Goals as goal

pub returns : goal.returns
returns g c = c.is_some.ensures ∙ sym (mapped _ c.by_uuid.result) ∙ ap is_some c.by_uuid.ensures.entry ∙ uuid_finds c.args.uuid c.args.self.now
