use Rattle.shared_map.proofs.Spots.{set_there}
use Rattle.shared_map.proofs.map.SharedMap.insert.Goals as goal

pub invariant_of-self-in-Ok : goal.invariant_of-self-in-Ok
invariant_of-self-in-Ok g c =
    let there = rw c.deref.ensures.value at c.in-Ok.ensures.found in
    let put = set_there g.met.K.Key.total _ _ _ _ _ _ _ c.self.invariant c.index_mut-page.ensures.value c.args.value there c.in_ok-set_at-in-Ok.ensures.ok in
    put.kept

pub returns-in_ok-set_at-in-Ok-clause-ok : goal.returns-in_ok-set_at-in-Ok-clause-ok
returns-in_ok-set_at-in-Ok-clause-ok g c =
    let there = rw c.deref.ensures.value at c.in-Ok.ensures.found in
    let put = set_there g.met.K.Key.total _ _ _ _ _ _ _ c.self.invariant c.index_mut-page.ensures.value c.args.value there c.in_ok-set_at-in-Ok.ensures.ok in
    rw (← c.self.view_is) put.same
