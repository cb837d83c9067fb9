use Rattle.std.proofs.Common.{◌+◌, List, length, sym, subst, ◌∙◌, arith, map}
use Rattle.std.proofs.Math.Nat.{add_assoc}
use Rattle.std.proofs.lemmas.List.{map-set}
use Rattle.std.proofs.lemmas.Result.{err_from_is_err_and}
use Rattle.send_model.specs.Spelling.{Attribute}
use Rattle.send_model.specs.Reading.{attribute_head}
use Rattle.sx_base.specs.Refusals.{refusal_of}
use Rattle.tlv_frame.specs.Table.{slot_in, AreIn}
use Rattle.tlv_frame.specs.Front.{front_at}
use Rattle.tlv_frame.specs.declared.attribute_table.Slot as made
use Rattle.tlv_frame.proofs.Slots.{there_in_code, place_there, no_place, set_in, all_absent}
use Rattle.tlv_frame.proofs.Progress.{Progress, begins_absent, front_there, has_slot, goes_on, breaks_off, stands_twice, slot_made, is_done}
use Rattle.tlv_frame.proofs.attribute_table.fill.Goals as goal

pub loop-at-init : goal.loop-at-init
loop-at-init c =
    let body = c.args.body.now in
    subst (λ (slots : List made.Slot). Progress c.args.version body 0 (map (slot_in body) slots) × AreIn body slots) (sym c.requires.none) (begins_absent c.args.version body, all_absent body 32)

pub returns-in_err-kind : goal.returns-in_err-kind
returns-in_err-kind c =
    let p = err_from_is_err_and c.from_residual.result c.from_residual.ensures.1 in
    let body = c.args.body.now in
    record { exact = rw (p.1, p.2) (breaks_off c.args.version body c.loop-at.at (map (slot_in body) c.loop-at.slots) (refusal_of c.in_err-kind.field-0.0) c.loop-at.invariant.0 c.loop-at-test.true (front_there body c.loop-at.at _ (front_at c.args.version) c.in_err-kind.ensures.exact)) }

pub bounds-slots-kind : goal.bounds-slots-kind
bounds-slots-kind c =
    let body = c.args.body.now in
    let a : Attribute = record { kind = c.in_ok-kind.kind; bytes = c.in_ok-kind.bytes.now } in
    has_slot c.args.version body c.loop-at.at (map (slot_in body) c.loop-at.slots) a c.loop-at.invariant.0 (front_there body c.loop-at.at _ (front_at c.args.version) c.in_ok-kind.ensures.exact)

pub returns-then-slots-kind-gt0 : goal.returns-then-slots-kind-gt0
returns-then-slots-kind-gt0 c =
    let body = c.args.body.now in
    let a : Attribute = record { kind = c.in_ok-kind.kind; bytes = c.in_ok-kind.bytes.now } in
    record {
      exact = stands_twice c.args.version body c.loop-at.at (map (slot_in body) c.loop-at.slots) a c.loop-at.invariant.0 c.loop-at-test.true (front_there body c.loop-at.at _ (front_at c.args.version) c.in_ok-kind.ensures.exact)
          (there_in_code body c.loop-at.slots c.in_ok-kind.kind ∙ place_there _ c.if-slots-kind-gt0.true);
    }

pub bounds-slots-kind-in-loop-at : goal.bounds-slots-kind-in-loop-at
bounds-slots-kind-in-loop-at c =
    let body = c.args.body.now in
    let a : Attribute = record { kind = c.in_ok-kind.kind; bytes = c.in_ok-kind.bytes.now } in
    has_slot c.args.version body c.loop-at.at (map (slot_in body) c.loop-at.slots) a c.loop-at.invariant.0 (front_there body c.loop-at.at _ (front_at c.args.version) c.in_ok-kind.ensures.exact)

pub overflow_add-at : goal.overflow_add-at
overflow_add-at c =
    let body = c.args.body.now in
    let a : Attribute = record { kind = c.in_ok-kind.kind; bytes = c.in_ok-kind.bytes.now } in
    let p = goes_on c.args.version body c.loop-at.at (map (slot_in body) c.loop-at.slots) a c.loop-at.invariant.0 c.loop-at-test.true (front_there body c.loop-at.at _ (front_at c.args.version) c.in_ok-kind.ensures.exact)
    (there_in_code body c.loop-at.slots c.in_ok-kind.kind ∙ no_place _ c.if-slots-kind-gt0.false) c.in_ok-kind.ensures.short in
    let within = p.bytes.within in omega (arith, within, c.attr_head_len.ensures)

pub loop-at-preserved : goal.loop-at-preserved
loop-at-preserved c =
    let body = c.args.body.now in
    let a : Attribute = record { kind = c.in_ok-kind.kind; bytes = c.in_ok-kind.bytes.now } in
    let head = attribute_head c.args.version c.in_ok-kind.kind in
    let p = goes_on c.args.version body c.loop-at.at (map (slot_in body) c.loop-at.slots) a c.loop-at.invariant.0 c.loop-at-test.true (front_there body c.loop-at.at _ (front_at c.args.version) c.in_ok-kind.ensures.exact)
    (there_in_code body c.loop-at.slots c.in_ok-kind.kind ∙ no_place _ c.if-slots-kind-gt0.false) c.in_ok-kind.ensures.short in
    let slot : made.Slot = record { place = c.loop-at.at + head; len = length c.in_ok-kind.bytes.now } in
    let slots = map-set (slot_in body) c.loop-at.slots c.in_ok-kind.kind slot in
    let within = p.bytes.within in
    rw c.attr_head_len.ensures (
      rw (slots, slot_made c.args.version body c.loop-at.at a (front_there body c.loop-at.at _ (front_at c.args.version) c.in_ok-kind.ensures.exact), add_assoc c.loop-at.at head (length c.in_ok-kind.bytes.now)) p,
      set_in body c.loop-at.slots c.in_ok-kind.kind slot c.loop-at.invariant.1 (omega (arith, within)),
    )

pub returns : goal.returns
returns c = record {
  exact = (
    c.loop-at.invariant.0.kept.whole,
    c.loop-at.invariant.1,
    is_done c.args.version c.args.body.now c.loop-at.at (map (slot_in c.args.body.now) c.loop-at.slots) c.loop-at.invariant.0 c.loop-at-test.false,
  );
}
