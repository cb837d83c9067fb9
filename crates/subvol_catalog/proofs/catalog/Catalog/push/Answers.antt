use Rattle.std.proofs.Common.{◌≡◌, ◌∷◌, ◌++◌, [], List, ℕ, Some, false, sym, ap, refl, ◌∙◌}
use Rattle.std.proofs.lemmas.List.{map-append}
use Rattle.send_model.specs.Store.{has_name, has_uuid}
use Rattle.subvol_catalog.specs.Entries.{entry_of, listed}
use Rattle.subvol_catalog.specs.Indexes.{led_to, number_led_to}
use Rattle.subvol_catalog.proofs.Admissions.{was_new}
use Rattle.subvol_catalog.proofs.OrderedRows.{put_found}
use Rattle.subvol_catalog.proofs.Views.{name_put, uuid_put, entry_put}
use Rattle.subvol_catalog.proofs.catalog.Catalog.push.Goals as goal

pub invariant_of-self-in_err-insert-2 : goal.invariant_of-self-in_err-insert-2
invariant_of-self-in_err-insert-2 g c =
    let i = c.self.inside in
    let new = was_new c.args.self.now c.args.entry.name c.args.entry.key.uuid c.requires.new in
    let bytes : c.in_ok-name.name.items ≡ c.args.entry.name = c.in_ok-name.ensures.items ∙ c.as_slice.ensures.bytes in
    let unnamed : has_name c.in_ok-name.name.items (listed i.slots.entries) ≡ false = rw (bytes, c.self.view_is) new.1 in
    rw (c.in_err-insert-2.ensures.err, c.in_ok-insert.ensures.entries)
    (name_put i.names.entries i.uuids.entries i.slots.next i.slots.entries c.self.invariant c.in_ok-name.name c.uuid-uuid.result unnamed)

pub invariant_of-self-in_err-push : goal.invariant_of-self-in_err-push
invariant_of-self-in_err-push g c =
    let i = c.self.inside in
    let u : List ℕ = c.uuid-uuid.result in
    let new = was_new c.args.self.now c.args.entry.name c.args.entry.key.uuid c.requires.new in
    let bytes : c.in_ok-name.name.items ≡ c.args.entry.name = c.in_ok-name.ensures.items ∙ c.as_slice.ensures.bytes in
    let unnamed : has_name c.in_ok-name.name.items (listed i.slots.entries) ≡ false = rw (bytes, c.self.view_is) new.1 in
    let other : has_uuid u (listed i.slots.entries) ≡ false = rw (c.uuid-uuid.ensures, c.self.view_is) new.2 in
    let named = name_put i.names.entries i.uuids.entries i.slots.next i.slots.entries c.self.invariant c.in_ok-name.name u unnamed in
    rw (c.in_err-push.ensures.err, c.in_ok-insert.ensures.entries, c.in_ok-insert-2.ensures.entries, c.next_number-number.ensures)
    (uuid_put _ i.uuids.entries i.slots.next i.slots.entries named u i.slots.next other)

pub invariant_of-self-2 : goal.invariant_of-self-2
invariant_of-self-2 g c =
    let i = c.self.inside in
    let es = i.slots.entries in
    let u : List ℕ = c.uuid-uuid.result in
    let e = c.args.entry in
    let new = was_new c.args.self.now e.name e.key.uuid c.requires.new in
    let bytes : c.in_ok-name.name.items ≡ e.name = c.in_ok-name.ensures.items ∙ c.as_slice.ensures.bytes in
    let unnamed : has_name c.in_ok-name.name.items (listed es) ≡ false = rw (bytes, c.self.view_is) new.1 in
    let other : has_uuid u (listed es) ≡ false = rw (c.uuid-uuid.ensures, c.self.view_is) new.2 in
    let named = name_put i.names.entries i.uuids.entries i.slots.next es c.self.invariant c.in_ok-name.name u unnamed in
    let both = uuid_put _ i.uuids.entries i.slots.next es named u i.slots.next other in
    let leads : led_to _ e.name ≡ Some e.key.uuid = ap (led_to _) (sym bytes) ∙ put_found (λ k. k.items) c.in_ok-name.name u i.names.entries ∙ ap Some c.uuid-uuid.ensures in
    let number : number_led_to _ e.key.uuid ≡ Some i.slots.next = ap (number_led_to _) (sym c.uuid-uuid.ensures) ∙ put_found (λ k. k) u i.slots.next i.uuids.entries in
    rw (c.in_ok-insert.ensures.entries, c.in_ok-insert-2.ensures.entries, c.in_ok-push.ensures.entries, c.in_ok-push.ensures.next, c.next_number-number.ensures)
    (entry_put _ _ i.slots.next es both e leads number new.0 (ap (λ (x : List ℕ). has_uuid x (listed es)) (sym c.uuid-uuid.ensures) ∙ other))

pub returns : goal.returns
returns g c =
    let i = c.self.inside in
    let es = i.slots.entries in
    record { added = (refl, ap listed c.in_ok-push.ensures.entries ∙ map-append (λ p. entry_of p.1) es ((i.slots.next, c.args.entry) ∷ []) ∙ ap (λ r. r ++ entry_of c.args.entry ∷ []) c.self.view_is) }
