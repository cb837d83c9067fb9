use Rattle.std.proofs.Common.{sym}
use Rattle.subvol_catalog.specs.Entries.{key_of}
use Rattle.subvol_catalog.proofs.Admissions.{no_parent_needed, parent_found, parent_missing}
use Rattle.subvol_catalog.proofs.catalog.Catalog.check_parent.Goals as goal

pub returns-in-None : goal.returns-in-None
returns-in-None g c = rw (c.in-None.is) (no_parent_needed c.args.self.now)

pub returns-in-Some-by_key : goal.returns-in-Some-by_key
returns-in-Some-by_key g c = rw (c.in-Some.is) (parent_found c.args.self.now (key_of c.in-Some.key) c.in-Some-by_key.field-0.now (sym c.in-Some-by_key.ensures.found))

pub returns-in-None-by_key : goal.returns-in-None-by_key
returns-in-None-by_key g c = rw (c.in-Some.is) (parent_missing c.args.self.now (key_of c.in-Some.key) (sym c.in-None-by_key.ensures.found))
