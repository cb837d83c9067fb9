use Rattle.std.specs.Prelude.{◌≡◌, ◌≤◌, List, map, length, Option}
use Rattle.std.specs.List.{AllByRecursion}
use Rattle.std.proofs.Common.{sym, ap, subst, ◌∙◌}
use Rattle.send_model.specs.Store.{Store}
use Rattle.subvol_catalog.specs.Entries.{key_of}
use Rattle.group_log.specs.State.{LogState}
use Rattle.group_replay.specs.declared.place.Place.{Place}
use Rattle.group_replay.specs.Kept.{StandsBefore}
use Rattle.store_journal.specs.Reading.{file_cells}
use Rattle.store_journal.specs.Standing.{place_byte}
use Rattle.store_journal.proofs.ReadFiles.{file_before, file_bytes, range_read}
use Rattle.store_journal.proofs.store.Store.read_range.Goals as goal

-- The bytes of a complete subvolume stand in the groups.
pub fill_cells-requires-clause-before : goal.fill_cells-requires-clause-before
fill_cells-requires-clause-before g c =
    let gate = c.args.self.now.log.gate in
    let fits : gate ≤ c.log.result.now.size = subst (λ (l : LogState). gate ≤ l.size) (sym c.log.ensures) c.requires.size.groups in
    subst (λ (l : List (Option Place)). AllByRecursion (StandsBefore c.log.result.now.size) l) c.in-Some.ensures
    (file_before gate c.log.result.now.size c.core.result.now (key_of c.args.key) c.args.ino fits c.core.ensures.kept)

pub returns-clause-bytes : goal.returns-clause-bytes
returns-clause-bytes g c tells =
    let seen = g.D.Disk.seen c.args.disk.now in
    let cells : file_cells c.args.self.now.core (key_of c.args.key) c.args.ino ≡ c.in-Some.contents.now = ap (λ (s : Store (Option Place)). file_cells s (key_of c.args.key) c.args.ino) (sym c.core.ensures.core) ∙ c.in-Some.ensures in
    range_read seen c.in-Some.contents.now _ c.fill_cells.new.buf c.args.at (length c.args.buf.now) c.fill_cells.result
    (file_bytes seen c.args.self.now.core (key_of c.args.key) c.args.ino ∙ ap (map (place_byte seen)) cells) c.fill_cells.auto.buf (c.fill_cells.ensures.filled tells)
