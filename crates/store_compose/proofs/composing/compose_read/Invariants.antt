use Rattle.std.specs.Prelude.{Some}
use Rattle.store_compose.specs.Standing.{bytes_in}
use Rattle.store_compose.proofs.composing.compose_read.Given as goal

-- What the disk gives, the base that it is, and what reads it.
abbrev pub ghosts-compose_beside : goal.ghosts-compose_beside
ghosts-compose_beside g a = record {
  image = g.D.Disk.seen a.reader.disk.now;
  base = bytes_in (g.D.Disk.seen a.reader.disk.now) a.beside.indexes;
  begun = Some a.reader;
}
