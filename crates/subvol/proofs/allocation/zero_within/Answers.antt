-- A range that begins inside.
use Rattle.std.proofs.Common.{◌≡◌, ◌<◌, ◌-◌, min, length, None, ◌∙◌, rules}
use Rattle.extent_map.specs.Pieces.{zero_cells}
use Rattle.subvol.proofs.CellLaws.{zeroed_is}
use Rattle.subvol.proofs.allocation.zero_within.Goals as goal

pub returns-in_ok-zero_run : goal.returns-in_ok-zero_run
unfolding zero_cells
returns-in_ok-zero_run g c =
    let inside : c.args.at < length c.args.contents.now = search rules in
    let least : c.min.result ≡ min c.args.len (length c.args.contents.now - c.args.at) = search rules in
    c.in_ok-zero_run.ensures ∙ zeroed_is None c.args.at c.min.result c.args.len c.args.contents.now inside c.requires.some least
