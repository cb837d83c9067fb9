use Rattle.std.proofs.Common.{arith}
use Rattle.subvol_catalog.specs.Entries.{key_of}
use Rattle.store_compose.specs.ReadRuns.{as_many}
use Rattle.store_compose.proofs.fetch.StoreReaderFetch.fetch.Goals as goal

pub read_range-requires-clause-within : goal.read_range-requires-clause-within
read_range-requires-clause-within g c =
    let many = as_many (g.D.Disk.seen c.args.self.now.disk.now) c.args.self.now.store.now (key_of c.args.key) c.args.ino in
    omega (arith, c.requires.within, many)
