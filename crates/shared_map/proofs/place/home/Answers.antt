use Rattle.std.proofs.Common.{arith, rules}
use Rattle.std.proofs.lemmas.Fn.{always_returns_same}
use Rattle.shared_map.specs.Pages.{starts_by}
use Rattle.shared_map.proofs.Homes.{partitioned, home_first, home_at}
use Rattle.shared_map.proofs.place.home.Goals as goal

pub returns-then-after-eq0 : goal.returns-then-after-eq0
returns-then-after-eq0 g c =
    let key = g.Q.Sought.sought c.args.query.now in
    let facts = c.partition_point-after.ensures in
    let parted = facts.partitioned (starts_by g.K.Key.order key) (always_returns_same _ _ _ (λ a r q called. search rules)) (partitioned g.met.K.Key.total key _ c.requires.rises c.requires.filled) in
    home_first g.met.K.Key.total key _ c.requires.rises c.requires.filled (rw c.if-after-eq0.true at parted)

pub returns-else-after-eq0 : goal.returns-else-after-eq0
returns-else-after-eq0 g c =
    let key = g.Q.Sought.sought c.args.query.now in
    let facts = c.partition_point-after.ensures in
    let parted = facts.partitioned (starts_by g.K.Key.order key) (always_returns_same _ _ _ (λ a r q called. search rules)) (partitioned g.met.K.Key.total key _ c.requires.rises c.requires.filled) in
    home_at g.met.K.Key.total key _ c.requires.rises c.requires.filled _ (omega arith) facts.bound parted
