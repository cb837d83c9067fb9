use Rattle.std.proofs.Common.{◌<◌, ◌≤◌, ◌+◌, length, rules, sym}
use Rattle.shared_map.proofs.Parts.{IsPart, part, part_rises, above_here, above_there, above_none}
use Rattle.shared_map.proofs.map.SharedMap.next_after.Given.{Over}
use Rattle.shared_map.proofs.map.SharedMap.next_after.Goals.{After-entries-entries}
use Rattle.shared_map.proofs.map.SharedMap.next_after.Goals as goal

-- The page of the place where the key would stand.
home_page : (g : Over) (c : After-entries-entries g) → IsPart g.K.Key.order (g.Q.Sought.sought c.args.query.now) c.self.inside.pages.items c.home-at.result c.entries-entries.result.now
home_page g c =
    let home = rw c.deref.ensures.value at c.home-at.ensures in
    let is = part g.K.Key.order (g.Q.Sought.sought c.args.query.now) c.self.inside.pages.items _ _ home (search rules) c.index.ensures in
    rw (← c.entries-entries.ensures) at is

pub past-place-requires : goal.past-place-requires
past-place-requires g c = part_rises g.K.Key.order _ _ _ _ c.self.invariant.rises (home_page g c)

pub returns-then-place-entries : goal.returns-then-place-entries
returns-then-place-entries g c =
    let is = home_page g (goal.at.returns-then-place-entries g c).After-entries-entries in
    let lt : c.past-place.result < length c.entries-entries.result.now = search rules in
    rw (← c.self.view_is) (sym (above_here g.met.K.Key.total _ _ _ _ _ is c.past-place.ensures _ lt c.index-entries-place.is))

pub returns-then-at-len-2 : goal.returns-then-at-len-2
returns-then-at-len-2 g c =
    let is = home_page g (goal.at.returns-then-at-len-2 g c).After-entries-entries in
    let le : length c.entries-entries.result.now ≤ c.past-place.result = search rules in
    let lt : c.home-at.result + 1 < length c.self.inside.pages.items = search rules in
    rw (c.first.ensures.value, c.entries.ensures, ← c.self.view_is) (sym (above_there g.met.K.Key.total _ _ _ _ _ is c.past-place.ensures _ le c.self.invariant.filled lt c.index-then-at-len-2.ensures))

pub returns : goal.returns
returns g c =
    let is = home_page g (goal.at.returns g c).After-entries-entries in
    let le : length c.entries-entries.result.now ≤ c.past-place.result = search rules in
    let all : length c.self.inside.pages.items ≤ c.home-at.result + 1 = search rules in
    rw (← c.self.view_is) (sym (above_none g.met.K.Key.total _ _ _ _ _ is c.past-place.ensures le all))
