use Rattle.std.proofs.Common.{◌≡◌, ap, refl, rules}
use Rattle.shared_map.proofs.Lists.{split_pair, set_at}
use Rattle.shared_map.proofs.block.Block.set_at.Goals as goal

pub returns-in-Some-clause-ok : goal.returns-in-Some-clause-ok
returns-in-Some-clause-ok g c =
    let same : c.in-Some.entries.now.items ≡ c.args.self.now = search rules in
    let read = rw same at c.index_mut-entry.ensures.value in
    let entry = c.index_mut-entry.result.now in
    record { key = entry.0; was = entry.1; before = split_pair _ _ entry entry.1 c.requires read refl; made = rw same (set_at _ _ _ c.requires) }

pub returns-in_ok-self-inside-in-None-clause-ok : goal.returns-in_ok-self-inside-in-None-clause-ok
returns-in_ok-self-inside-in-None-clause-ok g c =
    let same : c.in_ok-entries-in-None.entries.items ≡ c.args.self.now = search rules in
    let read = rw same at c.index_mut-entry-in-None.ensures.value in
    let entry = c.index_mut-entry-in-None.result.now in
    let wrote : c.in_ok-self-inside-in-None.field-0.value.items ≡ _ = ap (λ v. v.items) c.in_ok-self-inside-in-None.ensures.ok in
    record { key = entry.0; was = entry.1; before = split_pair _ _ entry entry.1 c.requires read refl; made = rw (wrote, same) (set_at _ _ _ c.requires) }
