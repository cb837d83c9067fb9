use Rattle.shared_map.proofs.Spots.{puts_nothing, puts_fresh}
use Rattle.shared_map.proofs.map.SharedMap.insert_new.Goals as goal

pub returns-in-Ok-clause-ok : goal.returns-in-Ok-clause-ok
returns-in-Ok-clause-ok g c =
    let there = rw c.deref.ensures.value at c.in-Ok.ensures.found in
    rw (← c.self.view_is) (puts_nothing g.met.K.Key.total _ _ _ _ _ there)

pub returns-in_ok-self-inside-in-Err-clause-ok : goal.returns-in_ok-self-inside-in-Err-clause-ok
returns-in_ok-self-inside-in-Err-clause-ok g c =
    let free = rw c.deref.ensures.value at c.in-Err.ensures.absent in
    rw (← c.self.view_is) (puts_fresh g.met.K.Key.total _ _ _ _ _ _ free c.in_ok-self-inside-in-Err.ensures.ok)
