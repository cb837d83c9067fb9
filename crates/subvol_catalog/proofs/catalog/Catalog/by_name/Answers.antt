use Rattle.std.proofs.Common.{◌≡◌, ℕ, Bool, true, false, List, None, Some, cond, sym, ap, ◌∙◌}
use Rattle.std.specs.Str.{bytes_eq}
use Rattle.subvol_catalog.specs.Entries.{entry_of, listed, of_uuid, named}
use Rattle.subvol_catalog.proofs.Pairs.{of_name}
use Rattle.subvol_catalog.proofs.Views.{unnamed, name_finds}
use Rattle.subvol_catalog.proofs.catalog.Catalog.by_name.Given.{Over}
use Rattle.subvol_catalog.proofs.catalog.Catalog.by_name.Goals.{After-eq}
use Rattle.subvol_catalog.proofs.catalog.Catalog.by_name.Goals as goal

pub returns-in_err-uuid : goal.returns-in_err-uuid
returns-in_err-uuid g c =
    let i = c.self.inside in
    record { entry = rw (c.from_residual.ensures, ← c.self.view_is) (sym (unnamed i.names.entries i.uuids.entries i.slots.next i.slots.entries c.self.invariant c.args.name.now (sym c.in_err-uuid.ensures.value))) }

pub returns-in_err-entry : goal.returns-in_err-entry
returns-in_err-entry g c =
    let i = c.self.inside in
    let u : List ℕ = c.in_ok-uuid.field-0.now in
    let found = name_finds i.names.entries i.uuids.entries i.slots.next i.slots.entries c.self.invariant c.args.name.now u (sym c.in_ok-uuid.ensures.value) in
    let none = ap (of_uuid u) c.self.view_is ∙ sym c.in_err-entry.ensures.entry in
    record { entry = rw (c.from_residual-in_err-entry.ensures, ← c.self.view_is) (sym (found ∙ ap (of_name c.args.name.now) none)) }

-- What is found, by whether the entry that the name leads to has this name.
by_name : (g : Over) (c : After-eq g) (same : Bool) → c.eq.result ≡ same → cond same (Some (entry_of c.in_ok-entry.entry.now)) None ≡ named c.args.name.now (listed c.self.inside.slots.entries)
by_name g c same is =
    let i = c.self.inside in
    let u : List ℕ = c.in_ok-uuid.field-0.now in
    let eq : bytes_eq c.in_ok-entry.entry.now.name c.args.name.now ≡ c.eq.result = ap (λ (x : List ℕ). bytes_eq x c.args.name.now) (sym c.as_slice.ensures.bytes) ∙ sym c.eq.ensures in
    let found = name_finds i.names.entries i.uuids.entries i.slots.next i.slots.entries c.self.invariant c.args.name.now u (sym c.in_ok-uuid.ensures.value) in
    let some = ap (of_uuid u) c.self.view_is ∙ sym c.in_ok-entry.ensures.entry in
    sym (found ∙ ap (of_name c.args.name.now) some ∙ ap (λ (b : Bool). cond b (Some (entry_of c.in_ok-entry.entry.now)) None) (eq ∙ is))

pub returns-then-eq : goal.returns-then-eq
returns-then-eq g c = record { entry = rw (← c.self.view_is) (by_name g (goal.at.returns-then-eq g c).After-eq true c.if-eq.true) }

pub returns-else-eq : goal.returns-else-eq
returns-else-eq g c = record { entry = rw (← c.self.view_is) (by_name g (goal.at.returns-else-eq g c).After-eq false c.if-eq.false) }
