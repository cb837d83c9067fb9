-- Contents that were shorter.
use Rattle.std.proofs.Common.{◌<◌, length, None, ◌∙◌, rules}
use Rattle.subvol.proofs.CellLaws.{lengthened}
use Rattle.subvol.proofs.allocation.lengthen.Goals as goal

pub returns-in_ok-cut_to : goal.returns-in_ok-cut_to
returns-in_ok-cut_to g c =
    let short : length c.args.contents.now < c.args.size = search rules in
    c.in_ok-cut_to.ensures ∙ lengthened None c.args.size c.args.contents.now short
