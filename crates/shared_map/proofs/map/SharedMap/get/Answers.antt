use Rattle.std.proofs.Common.{sym}
use Rattle.shared_map.proofs.Spots.{value_there, value_nowhere}
use Rattle.shared_map.proofs.map.SharedMap.get.Goals as goal

pub returns-in-Ok : goal.returns-in-Ok
returns-in-Ok g c =
    let there = rw c.deref.ensures.value at c.in-Ok.ensures.found in
    let read = rw (← c.entries.ensures) at c.index.ensures in
    rw (← c.self.view_is, ← c.index-entries-spot.is) (sym (value_there g.met.K.Key.total _ _ _ _ _ _ read there c.index-entries-spot.is))

pub returns-in-Err : goal.returns-in-Err
returns-in-Err g c =
    let free = rw c.deref.ensures.value at c.in-Err.ensures.absent in
    rw (← c.self.view_is) (sym (value_nowhere g.met.K.Key.total _ _ _ _ free))
