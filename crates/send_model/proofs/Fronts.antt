-- What was written for some first commands is a front part of all that compose may write.
use Rattle.std.specs.Prelude.{◌≡◌, ℕ, Bool, true, false, List, [], ◌∷◌, ◌++◌, length, take, drop, Option, None, Some}
use Rattle.std.proofs.Common.{refl, sym, ap, ◌∙◌, arith, append_assoc, length-append}
use Rattle.std.proofs.Math.Seq.{take-nil}
use Rattle.std.proofs.lemmas.List.{take-append-drop, take_at}
use Rattle.send_model.specs.Refusal.{Refusal}
use Rattle.send_model.specs.Reading.{Item}
use Rattle.send_model.specs.Store.{Key, head_of, State}
use Rattle.send_model.specs.Receive.{byte_cells}
use Rattle.send_model.specs.Order.{commands_of, breaks_order, part_after, then_lawful, lawful_items}
use Rattle.send_model.specs.Headline.{IsFrontOf}
use Rattle.send_model.proofs.Runs.{step_of, Takes}
use Rattle.send_model.proofs.Judging.{AreOrdered}

-- ---- the commands that are taken

pub lawful_on : (item : Item) (state : State ℕ) (o : Option Refusal) (breaks : Bool) (rest : List Item) → o ≡ None → breaks ≡ false → then_lawful item (record { state = state; refusal = o }) breaks rest ≡ item ∷ rest
lawful_on item state None false rest e b = refl
lawful_on item state None true rest e b = cc
lawful_on item state (Some r) breaks rest e b = cc

-- Items that were taken in order stand in front of those that are taken.
pub lawful_more : (items more : List Item) (previous : Option Key) (state end : State ℕ) → Takes state (commands_of items) end → AreOrdered previous items → (rest : List Item) × (lawful_items 0 byte_cells state previous (items ++ more) ≡ items ++ rest)
unfolding lawful_items
lawful_more [] more previous state end t o = (lawful_items 0 byte_cells state previous more, refl)
lawful_more (item ∷ items) more previous state end t o =
    let s = step_of state item.command in
    let on = lawful_more items more (part_after previous (head_of item.command)) s.state end t.1 o.1 in
    (on.0, lawful_on item s.state s.refusal (breaks_order previous (head_of item.command)) _ t.0 o.0 ∙ ap (λ (r : List Item). item ∷ r) on.1)

-- ---- front parts of bytes

-- What stands in front of all.
pub is_front : (all written rest : List ℕ) → all ≡ written ++ rest → IsFrontOf all written
is_front all written rest e = record {
  count = length written;
  within = omega (arith, ap length e, length-append written rest);
  written_is = sym (ap (take (length written)) e ∙ take_at written rest (length written) refl);
}

-- What stands in front, and the first bytes of what follows it.
pub part_front : (all sent text rest : List ℕ) (count : ℕ) → all ≡ (sent ++ text) ++ rest → IsFrontOf all (sent ++ take count text)
part_front all sent text rest count e =
    is_front all (sent ++ take count text) (drop count text ++ rest)
    (e ∙ ap (λ (l : List ℕ). (sent ++ l) ++ rest) (sym (take-append-drop count text))
    ∙ ap (λ (l : List ℕ). l ++ rest) (sym (append_assoc sent (take count text) (drop count text)))
    ∙ append_assoc (sent ++ take count text) (drop count text) rest)

-- Nothing is a front part of any bytes.
pub nothing_front : (all : List ℕ) (count : ℕ) → IsFrontOf all (take count [])
nothing_front all count = record { count = 0; within = omega (arith); written_is = take-nil count }
