use Rattle.std.proofs.Common.{◌+◌, [], ◌∷◌, Some, length, length-append, ap, sym, subst, arith, ◌∙◌}
use Rattle.indexmap.proofs.CallerLemmas.{insert_entry-new}
use Rattle.subvol_catalog.specs.Slots.{occupied, AreSlots}
use Rattle.subvol_catalog.proofs.Tombstones.{unused, occupied_more, slots_more, few}
use Rattle.subvol_catalog.proofs.slots.Slots.push.Goals as goal

pub overflow_add-self : goal.overflow_add-self
overflow_add-self g c = omega (arith, few c.self.inside.slots.entries, c.self.invariant.0.counted, c.len-slots.ensures.small)

pub invariant_of-self-2 : goal.invariant_of-self-2
invariant_of-self-2 g c =
    let i = c.self.inside in
    let pushed = c.in_ok-insert.ensures.entries ∙ insert_entry-new _ i.slots i.next (Some c.args.entry) (unused i.next i.slots.entries c.self.invariant.0.below) in
    let more = ap length pushed ∙ length-append i.slots.entries ((i.next, Some c.args.entry) ∷ []) in (
      subst (AreSlots c.insert.new.self.entries (i.count + 1)) (sym c.in-Some.ensures.1)
          (slots_more i.slots.entries i.count i.next c.self.invariant.0 c.args.entry c.insert.new.self.entries pushed c.in_ok-insert.ensures.unique),
      omega (arith, more, c.in_ok-insert.ensures.spare, c.self.invariant.1),
    )

pub returns-clause-entries : goal.returns-clause-entries
returns-clause-entries g c =
    let i = c.self.inside in
    let pushed = c.in_ok-insert.ensures.entries ∙ insert_entry-new _ i.slots i.next (Some c.args.entry) (unused i.next i.slots.entries c.self.invariant.0.below) in
    rw (← c.self.view_is) (ap occupied pushed ∙ occupied_more i.slots.entries i.next c.args.entry)
