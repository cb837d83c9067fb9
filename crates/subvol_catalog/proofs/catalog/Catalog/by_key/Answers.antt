use Rattle.std.proofs.Common.{Bool, cond, None, sym, ap, ◌∙◌}
use Rattle.std.proofs.lemmas.Bool.{ne_eqb, eq-eqb}
use Rattle.std.specs.Option.{option_map}
use Rattle.subvol_catalog.specs.Entries.{entry_of, key_of}
use Rattle.subvol_catalog.proofs.Pairs.{of_key}
use Rattle.subvol_catalog.proofs.Views.{of_none, of_number, key_finds}
use Rattle.subvol_catalog.proofs.catalog.Catalog.by_key.Goals as goal

pub returns-in_err-number : goal.returns-in_err-number
returns-in_err-number g c =
    let i = c.self.inside in
    let key = key_of c.args.key in
    let none = of_none i.names.entries i.uuids.entries i.slots.next i.slots.entries c.self.invariant key.uuid (sym c.in_err-number.ensures) in
    let found = key_finds i.names.entries i.uuids.entries i.slots.next i.slots.entries c.self.invariant key ∙ ap (of_key key) none in
    record { found = rw (c.from_residual.ensures, ← c.self.view_is) (sym found) }

pub returns-in_err-entry : goal.returns-in_err-entry
returns-in_err-entry g c =
    let i = c.self.inside in
    let key = key_of c.args.key in
    let entry = of_number i.names.entries i.uuids.entries i.slots.next i.slots.entries c.self.invariant key.uuid c.in_ok-number.number (sym c.in_ok-number.ensures) ∙ ap (option_map entry_of) (sym c.in_err-entry.ensures) in
    let found = key_finds i.names.entries i.uuids.entries i.slots.next i.slots.entries c.self.invariant key ∙ ap (of_key key) entry in
    record { found = rw (c.from_residual-in_err-entry.ensures, ← c.self.view_is) (sym found) }

pub returns-then-entry-key : goal.returns-then-entry-key
returns-then-entry-key g c =
    let i = c.self.inside in
    let key = key_of c.args.key in
    let entry = c.in_ok-entry.entry.now in
    let some = of_number i.names.entries i.uuids.entries i.slots.next i.slots.entries c.self.invariant key.uuid c.in_ok-number.number (sym c.in_ok-number.ensures) ∙ ap (option_map entry_of) (sym c.in_ok-entry.ensures) in
    let found = key_finds i.names.entries i.uuids.entries i.slots.next i.slots.entries c.self.invariant key ∙ ap (of_key key) some in
    record { found = rw (← c.self.view_is) (sym (found ∙ ap (λ (b : Bool). cond b entry.value None) (ne_eqb entry.key.ctransid c.args.key.ctransid c.if-entry-key.true))) }

pub returns : goal.returns
returns g c =
    let i = c.self.inside in
    let key = key_of c.args.key in
    let entry = c.in_ok-entry.entry.now in
    let some = of_number i.names.entries i.uuids.entries i.slots.next i.slots.entries c.self.invariant key.uuid c.in_ok-number.number (sym c.in_ok-number.ensures) ∙ ap (option_map entry_of) (sym c.in_ok-entry.ensures) in
    let found = key_finds i.names.entries i.uuids.entries i.slots.next i.slots.entries c.self.invariant key ∙ ap (of_key key) some in
    record { found = rw (← c.self.view_is) (c.as_ref.ensures.value ∙ sym (found ∙ ap (λ (b : Bool). cond b entry.value None) (eq-eqb entry.key.ctransid c.args.key.ctransid c.if-entry-key.false))) }
