use Rattle.std.proofs.Common.{◌≡◌, ◌≢◌, ◌∙◌, length, rules, sym, ap}
use Rattle.shared_map.specs.Pages.{joined}
use Rattle.std.proofs.Common.{◌-◌, set}
use Rattle.std.specs.List.{remove}
use Rattle.shared_map.proofs.Parts.{IsTakenOut, read_same, kept_same}
use Rattle.shared_map.proofs.Spots.{value_nowhere, without_nowhere, many_there, count_there, take_there, page_there}
use Rattle.shared_map.proofs.map.SharedMap.remove.Given.{Over}
use Rattle.shared_map.proofs.map.SharedMap.remove.Goals.{After-index_mut-page, After-drop-page-inside-then-entries-eq1, After-drop-key}
use Rattle.shared_map.proofs.map.SharedMap.remove.Goals as goal

pub returns-in_default-clause-ok : goal.returns-in_default-clause-ok
returns-in_default-clause-ok g c =
    let free = rw c.deref.ensures.value at c.in_default.ensures.absent in
    rw (← c.self.view_is) (sym (without_nowhere g.met.K.Key.total _ _ _ _ free))

pub returns-in_default-clause-was : goal.returns-in_default-clause-was
returns-in_default-clause-was g c =
    let free = rw c.deref.ensures.value at c.in_default.ensures.absent in
    rw (← c.self.view_is) (sym (value_nowhere g.met.K.Key.total _ _ _ _ free))

pub overflow_sub-self : goal.overflow_sub-self
overflow_sub-self g c =
    let there = rw c.deref.ensures.value at c.in-Ok.ensures.found in
    let read = rw (← c.entries-entries.ensures) at c.index.ensures in
    count_there g.met.K.Key.total _ _ _ _ c.entries-entries.result.now _ _ c.self.invariant read there

-- What the pages are without the page that had this key alone.
page_gone : (g : Over) (c : After-drop-page-inside-then-entries-eq1 g)
    → IsTakenOut g.K.Key.order (g.Q.Sought.sought c.args.query.now) c.self.inside.pages.items (remove c.self.inside.pages.items c.in-Ok.spot.page) (c.self.inside.len - 1) c.index-entries-spot.result.1
page_gone g c =
    let there = rw c.deref.ensures.value at c.in-Ok.ensures.found in
    let read = rw (← c.entries-entries.ensures) at c.index.ensures in
    let one : length c.entries-entries.result.now ≡ 1 = search rules in
    page_there g.met.K.Key.total _ _ _ _ _ _ c.self.invariant read _ there c.index-entries-spot.is one

pub invariant_of-self : goal.invariant_of-self
invariant_of-self g c = rw c.remove-page.ensures.items (page_gone g c).kept

pub returns-then-entries-eq1-clause-ok : goal.returns-then-entries-eq1-clause-ok
returns-then-entries-eq1-clause-ok g c = rw (← c.self.view_is) (ap joined c.remove-page.ensures.items ∙ (page_gone g c).same)

pub returns-then-entries-eq1-clause-was : goal.returns-then-entries-eq1-clause-was
returns-then-entries-eq1-clause-was g c = rw (← c.self.view_is, c.in_ok-was.ensures, ← c.index-entries-spot.is) (sym (page_gone g c).was)

-- The page of the key has other entries besides.
not_alone : (g : Over) (c : After-index_mut-page g) → length c.index_mut-page.result.now ≢ 1
not_alone g c =
    let there = rw c.deref.ensures.value at c.in-Ok.ensures.found in
    let page = c.index_mut-page in
    let same = c.entries-entries.ensures ∙ read_same _ _ c.index.result.now page.result.now there.in_range c.index.ensures page.ensures.value in
    let more : length c.entries-entries.result.now ≢ 1 = search rules in
    rw same at more

pub take_at-requires-clause-others : goal.take_at-requires-clause-others
take_at-requires-clause-others g c =
    let there = rw c.deref.ensures.value at c.in-Ok.ensures.found in
    many_there g.K.Key.order _ _ _ _ _ c.index_mut-page.ensures.value there (not_alone g c)

pub overflow_sub-self-2 : goal.overflow_sub-self-2
overflow_sub-self-2 g c =
    let there = rw c.deref.ensures.value at c.in-Ok.ensures.found in
    count_there g.met.K.Key.total _ _ _ _ c.index_mut-page.result.now _ _ c.self.invariant c.index_mut-page.ensures.value there

-- What the pages are once the entry was taken out of its page.
entry_gone : (g : Over) (c : After-drop-key g)
    → IsTakenOut g.K.Key.order (g.Q.Sought.sought c.args.query.now) c.self.inside.pages.items (set c.self.inside.pages.items c.in-Ok.spot.page c.take_at.new.self) (c.self.inside.len - 1) c.in_ok-_key.was'
entry_gone g c =
    let there = rw c.deref.ensures.value at c.in-Ok.ensures.found in
    let many = not_alone g (goal.at.returns-clause-ok g c).After-index_mut-page in
    take_there g.met.K.Key.total _ _ _ _ _ _ _ c.self.invariant c.index_mut-page.ensures.value _ there c.in_ok-_key.ensures.ok many

pub invariant_of-self-2 : goal.invariant_of-self-2
invariant_of-self-2 g c = kept_same g.K.Key.order _ _ _ (entry_gone g c).kept c.lengthen.ensures.same c.lengthen.ensures.filled

pub returns-clause-ok : goal.returns-clause-ok
returns-clause-ok g c = rw (← c.self.view_is) (c.lengthen.ensures.same ∙ (entry_gone g c).same)

pub returns-clause-was : goal.returns-clause-was
returns-clause-was g c = rw (← c.self.view_is) (sym (entry_gone g c).was)
