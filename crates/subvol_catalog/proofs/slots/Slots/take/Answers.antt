use Rattle.std.proofs.Common.{Some, None, ap, sym, arith, ◌∙◌}
use Rattle.std.proofs.lemmas.Map.Steps.{set_value_same}
use Rattle.std.specs.Option.{option_flatten}
use Rattle.std.specs.Map.{set_value}
use Rattle.subvol_catalog.specs.Slots.{occupied}
use Rattle.subvol_catalog.proofs.Tombstones.{found, none_goes, one_less, occupied_less, slots_less}
use Rattle.subvol_catalog.proofs.slots.Slots.take.Goals as goal

pub returns-in_err-slot-clause-entry : goal.returns-in_err-slot-clause-entry
returns-in_err-slot-clause-entry g c =
    let none = found c.args.number c.self.inside.slots.entries c.self.invariant.0.apart ∙ ap option_flatten (sym c.in_err-slot.ensures.value) in
    rw (c.from_residual.ensures, ← c.self.view_is) (sym none)

pub returns-in_err-slot-clause-entries : goal.returns-in_err-slot-clause-entries
returns-in_err-slot-clause-entries g c =
    let none = found c.args.number c.self.inside.slots.entries c.self.invariant.0.apart ∙ ap option_flatten (sym c.in_err-slot.ensures.value) in
    rw (← c.self.view_is) (ap (λ m. occupied m.entries) c.get_mut.follows.holds-at-none ∙ sym (none_goes c.args.number (occupied c.self.inside.slots.entries) none))

pub invariant_of-self-in_err-entry : goal.invariant_of-self-in_err-entry
invariant_of-self-in_err-entry g c =
    let i = c.self.inside in
    let there = sym c.in_ok-slot.ensures.value ∙ ap Some (sym c.in_err-entry.ensures.value) in
    let same = (c.get_mut.follows.holds c.take.new.self).0 ∙ ap (set_value _ i.slots.entries) c.in_err-entry.ensures.after ∙ set_value_same _ i.slots.entries None there in
    let kept = c.get_mut.follows.holds c.take.new.self in
    (rw (same) c.self.invariant.0, omega (arith, kept.2, kept.6, c.self.invariant.1))

pub returns-in_err-entry-clause-entry : goal.returns-in_err-entry-clause-entry
returns-in_err-entry-clause-entry g c =
    let i = c.self.inside in
    let there = sym c.in_ok-slot.ensures.value ∙ ap Some (sym c.in_err-entry.ensures.value) in
    let none = found c.args.number i.slots.entries c.self.invariant.0.apart ∙ ap option_flatten there in
    rw (c.from_residual-in_err-entry.ensures, ← c.self.view_is) (sym none)

pub returns-in_err-entry-clause-entries : goal.returns-in_err-entry-clause-entries
returns-in_err-entry-clause-entries g c =
    let i = c.self.inside in
    let there = sym c.in_ok-slot.ensures.value ∙ ap Some (sym c.in_err-entry.ensures.value) in
    let none = found c.args.number i.slots.entries c.self.invariant.0.apart ∙ ap option_flatten there in
    let same = (c.get_mut.follows.holds c.take.new.self).0 ∙ ap (set_value _ i.slots.entries) c.in_err-entry.ensures.after ∙ set_value_same _ i.slots.entries None there in
    rw (← c.self.view_is) (ap occupied same ∙ sym (none_goes c.args.number (occupied i.slots.entries) none))

pub overflow_sub-self : goal.overflow_sub-self
overflow_sub-self g c =
    let there = sym c.in_ok-slot.ensures.value ∙ ap Some (sym c.in_ok-entry.ensures.value) in
    omega (arith, c.self.invariant.0.counted, one_less c.args.number c.self.inside.slots.entries c.in_ok-entry.entry there)

pub compact-requires : goal.compact-requires
compact-requires g c =
    let i = c.self.inside in
    let there = sym c.in_ok-slot.ensures.value ∙ ap Some (sym c.in_ok-entry.ensures.value) in
    let taken = (c.get_mut.follows.holds c.take.new.self).0 ∙ ap (set_value _ i.slots.entries) c.in_ok-entry.ensures.after in
    record { counted = rw (taken) ((slots_less i.slots.entries i.count i.next c.self.invariant.0 c.args.number c.in_ok-entry.entry there).counted) }

pub invariant_of-self-2 : goal.invariant_of-self-2
invariant_of-self-2 g c =
    let i = c.self.inside in
    let there = sym c.in_ok-slot.ensures.value ∙ ap Some (sym c.in_ok-entry.ensures.value) in
    let taken = (c.get_mut.follows.holds c.take.new.self).0 ∙ ap (set_value _ i.slots.entries) c.in_ok-entry.ensures.after in (
      c.compact.ensures.slots i.next (rw (taken) (slots_less i.slots.entries i.count i.next c.self.invariant.0 c.args.number c.in_ok-entry.entry there)),
      c.compact.ensures.full,
    )

pub returns-clause-entry : goal.returns-clause-entry
returns-clause-entry g c =
    let there = sym c.in_ok-slot.ensures.value ∙ ap Some (sym c.in_ok-entry.ensures.value) in
    rw (← c.self.view_is) (sym (found c.args.number c.self.inside.slots.entries c.self.invariant.0.apart ∙ ap option_flatten there))

pub returns-clause-entries : goal.returns-clause-entries
returns-clause-entries g c =
    let i = c.self.inside in
    let there = sym c.in_ok-slot.ensures.value ∙ ap Some (sym c.in_ok-entry.ensures.value) in
    let taken = (c.get_mut.follows.holds c.take.new.self).0 ∙ ap (set_value _ i.slots.entries) c.in_ok-entry.ensures.after in
    rw (← c.self.view_is) (c.compact.ensures.same ∙ ap occupied taken ∙ occupied_less c.args.number i.slots.entries c.in_ok-entry.entry there)
