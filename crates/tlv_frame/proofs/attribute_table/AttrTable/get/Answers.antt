use Rattle.std.proofs.Common.{◌+◌, ◌≤◌, length, sym, subst}
use Rattle.tlv_frame.specs.declared.attribute_table.Slot as made
use Rattle.tlv_frame.specs.Table.{absent}
use Rattle.tlv_frame.proofs.Slots.{short_slot, slice_room, stands_in}
use Rattle.tlv_frame.proofs.attribute_table.AttrTable.get.Goals as goal

pub returns-in-Some-clause-short : goal.returns-in-Some-clause-short
returns-in-Some-clause-short c =
    let t = c.self.inside in
    let s = c.in-Some.slot.now in
    let e = sym (c.in-Some.ensures.lookup.3.1 absent) in
    let inside = subst (λ (s : made.Slot). s.place + s.len ≤ length t.body.now) e (stands_in t.body.now t.slots c.args.kind c.self.invariant.1) in
    rw (← c.self.view_is, slice_room t.body.now s.place s.len inside) (short_slot t.version t.body.now t.slots c.args.kind s c.self.invariant.0 c.self.invariant.1 e c.if-slot-gt0.true)
