use Rattle.std.proofs.Common.{rules}
use Rattle.shared_map.proofs.Parts.{part, part_rises}
use Rattle.shared_map.proofs.place.seek.Goals as goal

pub find-requires : goal.find-requires
find-requires g c =
    let key = g.Q.Sought.sought c.args.query.now in
    let is = part g.K.Key.order key c.args.pages.now _ _ c.home-page.ensures (search rules) c.index-pages-page.is in
    rw c.entries.ensures (part_rises g.K.Key.order key _ _ _ c.requires.rises is)
