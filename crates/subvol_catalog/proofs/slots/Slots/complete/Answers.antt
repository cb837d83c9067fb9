use Rattle.std.proofs.Common.{Some, None, ap, sym, arith, ◌∙◌}
use Rattle.std.specs.Map.{set_value}
use Rattle.std.proofs.lemmas.Map.Steps.{set_value_same}
use Rattle.std.specs.Option.{option_flatten}
use Rattle.subvol_catalog.specs.Slots.{occupied}
use Rattle.subvol_catalog.proofs.Tombstones.{found, occupied_set, slots_set}
use Rattle.subvol_catalog.proofs.slots.Slots.complete.Goals as goal

pub returns-in_default-clause-entries : goal.returns-in_default-clause-entries
returns-in_default-clause-entries g c =
    let i = c.self.inside in
    let none = found c.args.number i.slots.entries c.self.invariant.0.apart ∙ ap option_flatten (sym c.in_default.ensures.value) in
    rw (← c.self.view_is, none) tt

pub invariant_of-self-in_default-slot : goal.invariant_of-self-in_default-slot
invariant_of-self-in_default-slot g c =
    let i = c.self.inside in
    let there = sym c.in-Some.ensures.value ∙ ap Some c.in_default-slot.is in
    let same = (c.get_mut.follows.holds c.in-Some.slot.now).0 ∙ ap (set_value _ i.slots.entries) c.in_default-slot.is ∙ set_value_same _ i.slots.entries None there in
    let kept = c.get_mut.follows.holds c.in-Some.slot.now in
    (rw (same) c.self.invariant.0, omega (arith, kept.2, kept.6, c.self.invariant.1))

pub returns-in_default-slot-clause-entries : goal.returns-in_default-slot-clause-entries
returns-in_default-slot-clause-entries g c =
    let i = c.self.inside in
    let none = found c.args.number i.slots.entries c.self.invariant.0.apart ∙ ap option_flatten (sym c.in-Some.ensures.value) ∙ c.in_default-slot.is in
    rw (← c.self.view_is, none) tt

pub returns-in_default-slot-clause-none : goal.returns-in_default-slot-clause-none
returns-in_default-slot-clause-none g c =
    let i = c.self.inside in
    let there = sym c.in-Some.ensures.value ∙ ap Some c.in_default-slot.is in
    let none = found c.args.number i.slots.entries c.self.invariant.0.apart ∙ ap option_flatten there in
    let same = (c.get_mut.follows.holds c.in-Some.slot.now).0 ∙ ap (set_value _ i.slots.entries) c.in_default-slot.is ∙ set_value_same _ i.slots.entries None there in
    rw (← c.self.view_is, none) (ap (λ r. record { entries = occupied r; next = i.next }) same)

pub invariant_of-self-2 : goal.invariant_of-self-2
invariant_of-self-2 g c =
    let i = c.self.inside in
    let e = c.in-Some-slot.entry in
    let there = sym c.in-Some.ensures.value ∙ ap Some c.in-Some-slot.is in
    let w = record e { value = Some c.args.value } in
    let kept = c.get_mut.follows.holds (Some w) in
    (rw (kept.0) (slots_set i.slots.entries i.count i.next c.self.invariant.0 c.args.number e w there), omega (arith, kept.2, kept.6, c.self.invariant.1))

pub returns-clause-entries : goal.returns-clause-entries
returns-clause-entries g c =
    let i = c.self.inside in
    let e = c.in-Some-slot.entry in
    let there = sym c.in-Some.ensures.value ∙ ap Some c.in-Some-slot.is in
    let at = found c.args.number i.slots.entries c.self.invariant.0.apart ∙ ap option_flatten there in
    rw (← c.self.view_is, at) (ap occupied (c.get_mut.follows.holds _).0 ∙ occupied_set c.args.number i.slots.entries e (record e { value = Some c.args.value }) there)

pub returns-clause-none : goal.returns-clause-none
returns-clause-none g c =
    let i = c.self.inside in
    let there = sym c.in-Some.ensures.value ∙ ap Some c.in-Some-slot.is in
    let at = found c.args.number i.slots.entries c.self.invariant.0.apart ∙ ap option_flatten there in
    rw (← c.self.view_is, at) tt
