use Rattle.shared_map.proofs.Spots.{edit_nowhere, edit_there, keep_there}
use Rattle.shared_map.proofs.map.SharedMap.edit.Goals as goal

pub returns-in_default : goal.returns-in_default
returns-in_default g c =
    let free = rw c.deref.ensures.value at c.in_default.ensures.absent in
    rw (← c.self.view_is) (edit_nowhere g.met.K.Key.total _ _ _ _ _ _ _ free)

pub invariant_of-self : goal.invariant_of-self
invariant_of-self g c =
    let there = rw c.deref.ensures.value at c.in-Ok.ensures.found in
    keep_there g.met.K.Key.total _ _ _ _ _ _ _ c.self.invariant c.index_mut-page.ensures.value there c.in_err-edit_at.ensures.err

pub invariant_of-self-2 : goal.invariant_of-self-2
invariant_of-self-2 g c =
    let there = rw c.deref.ensures.value at c.in-Ok.ensures.found in
    let did = edit_there g.met.K.Key.total _ _ _ _ _ _ _ c.self.invariant c.index_mut-page.ensures.value _ _ c.args.edit.now _ there c.in_ok-edit_at.ensures.ok in
    did.kept

pub returns : goal.returns
returns g c =
    let there = rw c.deref.ensures.value at c.in-Ok.ensures.found in
    let did = edit_there g.met.K.Key.total _ _ _ _ _ _ _ c.self.invariant c.index_mut-page.ensures.value _ _ c.args.edit.now _ there c.in_ok-edit_at.ensures.ok in
    rw (← c.self.view_is) did.edited
