-- Composing over any base does the same whatever was sent before, and items one after the other are
-- items all at once.
use Rattle.std.specs.Prelude.{◌≡◌, ℕ, Bool, true, false, ◌||◌, List, [], ◌∷◌, ◌++◌, Option, None, Some, Result, Ok, Err, nat_lt, if◌then◌else◌}
use Rattle.std.proofs.Common.{refl, sym, ap, ◌∙◌, append_assoc, append-nil}
use Rattle.send_model.specs.Refusal.{Refusal}
use Rattle.send_model.specs.Command.{Command}
use Rattle.send_model.specs.Reading.{Item}
use Rattle.send_model.specs.Store.{Head, head_of}
use Rattle.send_model.specs.Order.{breaks_order}
use Rattle.send_model.specs.Provenance.{traced_step}
use Rattle.send_model.specs.Due.{most_literal}
use Rattle.composer.specs.OverBase.{Plan, Composing, Halt, Exceeds, added_with, after_item, is_unforeseen, then_kept, advance, then_items, advance_all, unsent}
use Rattle.composer.proofs.OverBaseProgress.{Progress}

abbrev pub shift : List ℕ → Result Composing Halt → Result Composing Halt
shift sent (Ok now) = Ok (unsent sent now)
shift sent (Err halt) = Err halt

added_unsent : (plan : Plan) (sent : List ℕ) (now : Composing) (o : Option Head) (c : Command) → added_with plan (unsent sent now) o c ≡ added_with plan now o c
added_unsent plan sent now None c = refl
added_unsent plan sent now (Some last) c = refl

after_unsent : (plan : Plan) (sent : List ℕ) (now : Composing) (item : Item) → after_item plan (unsent sent now) item ≡ unsent sent (after_item plan now item)
after_unsent plan sent now item =
    ap (λ (bytes : List ℕ). record (after_item plan now item) { pending = bytes })
    (ap (λ (r : List ℕ). (sent ++ now.pending) ++ r) (added_unsent plan sent now plan.last item.command) ∙ append_assoc sent now.pending (added_with plan now plan.last item.command))

kept_unsent : (sent : List ℕ) (o : Option Refusal) (unordered : Bool) (next : Composing) → then_kept o unordered (unsent sent next) ≡ shift sent (then_kept o unordered next)
kept_unsent sent (Some refusal) unordered next = refl
kept_unsent sent None true next = refl
kept_unsent sent None false next = one (nat_lt most_literal next.sum)
  where
    one : (b : Bool) → (if b then Err (Exceeds next.sum) else Ok (unsent sent next)) ≡ shift sent (if b then Err (Exceeds next.sum) else Ok next)
    one true = refl
    one false = refl

-- One item does the same, whatever was sent before it.
pub advance_unsent : (plan : Plan) (sent : List ℕ) (now : Composing) (item : Item) → advance plan (unsent sent now) item ≡ shift sent (advance plan now item)
unfolding advance
advance_unsent plan sent now item =
    let unordered : Bool = breaks_order now.previous (head_of item.command) || is_unforeseen plan.last (head_of item.command) in
    ap (then_kept (traced_step now.state item).refusal unordered) (after_unsent plan sent now item)
    ∙ kept_unsent sent (traced_step now.state item).refusal unordered (after_item plan now item)

pub advance_unsent_ok : (plan : Plan) (sent : List ℕ) (now next : Composing) (item : Item) → advance plan now item ≡ Ok next → advance plan (unsent sent now) item ≡ Ok (unsent sent next)
advance_unsent_ok plan sent now next item e = advance_unsent plan sent now item ∙ ap (shift sent) e

pub advance_unsent_err : (plan : Plan) (sent : List ℕ) (now : Composing) (item : Item) (halt : Halt) → advance plan now item ≡ Err halt → advance plan (unsent sent now) item ≡ Err halt
advance_unsent_err plan sent now item halt e = advance_unsent plan sent now item ∙ ap (shift sent) e

items_shift : (sent : List ℕ) (r : Result Composing Halt) (f g : Composing → Result Composing Halt) → ((now : Composing) → g (unsent sent now) ≡ shift sent (f now)) → then_items (shift sent r) g ≡ shift sent (then_items r f)
items_shift sent (Ok now) f g e = e now
items_shift sent (Err halt) f g e = refl

-- So do items in order.
pub all_unsent : (plan : Plan) (sent : List ℕ) (now : Composing) (items : List Item) → advance_all plan (unsent sent now) items ≡ shift sent (advance_all plan now items)
unfolding advance_all
all_unsent plan sent now [] = refl
all_unsent plan sent now (item ∷ items) =
    ap (λ (r : Result Composing Halt). then_items r (λ next. advance_all plan next items)) (advance_unsent plan sent now item)
    ∙ items_shift sent (advance plan now item) (λ next. advance_all plan next items) (λ next. advance_all plan next items) (λ next. all_unsent plan sent next items)

pub all_unsent_ok : (plan : Plan) (sent : List ℕ) (now next : Composing) (items : List Item) → advance_all plan now items ≡ Ok next → advance_all plan (unsent sent now) items ≡ Ok (unsent sent next)
all_unsent_ok plan sent now next items e = all_unsent plan sent now items ∙ ap (shift sent) e

pub unsent_more : (sent more : List ℕ) (now : Composing) → unsent sent (unsent more now) ≡ unsent (sent ++ more) now
unsent_more sent more now = ap (λ (bytes : List ℕ). record now { pending = bytes }) (sym (append_assoc sent more now.pending))

-- Items and then others.
pub all_append : (plan : Plan) (now : Composing) (items more : List Item) → advance_all plan now (items ++ more) ≡ then_items (advance_all plan now items) (λ next. advance_all plan next more)
unfolding advance_all
all_append plan now [] more = refl
all_append plan now (item ∷ items) more = one (advance plan now item) (λ next. all_append plan next items more)
  where
    one : (r : Result Composing Halt) → ((next : Composing) → advance_all plan next (items ++ more) ≡ then_items (advance_all plan next items) (λ x. advance_all plan x more))
        → then_items r (λ next. advance_all plan next (items ++ more)) ≡ then_items (then_items r (λ next. advance_all plan next items)) (λ next. advance_all plan next more)
    one (Ok next) e = e next
    one (Err halt) e = refl

pub all_more : (plan : Plan) (old mid new : Composing) (items more : List Item) → advance_all plan old items ≡ Ok mid → advance_all plan mid more ≡ Ok new → advance_all plan old (items ++ more) ≡ Ok new
all_more plan old mid new items more a b = all_append plan old items more ∙ ap (λ (r : Result Composing Halt). then_items r (λ next. advance_all plan next more)) a ∙ b

-- One item.
pub all_one : (plan : Plan) (old new : Composing) (item : Item) → advance plan old item ≡ Ok new → advance_all plan old (item ∷ []) ≡ Ok new
unfolding advance_all
all_one plan old new item e = ap (λ (r : Result Composing Halt). then_items r (λ next. Ok next)) e

-- ---- progress where bytes are sent

-- What was not sent yet, as if it were still pending, and the other way round.
pub progress_unsent : (plan : Plan) (items : List Item) (now : Composing) (sent more : List ℕ) → Progress plan items (unsent more now) sent → Progress plan items now (sent ++ more)
progress_unsent plan items now sent more p = record {
  taken = p.taken;
  ordered = p.ordered;
  previous = p.previous;
  current = p.current;
  begun = p.begun;
  sum = p.sum;
  low = p.low;
  bytes = append_assoc sent more now.pending ∙ p.bytes;
}

-- What is pending is sent.
pub sending : (plan : Plan) (items : List Item) (now : Composing) (sent : List ℕ) → Progress plan items now sent → Progress plan items (record now { pending = [] }) (sent ++ now.pending)
sending plan items now sent p = record {
  taken = p.taken;
  ordered = p.ordered;
  previous = p.previous;
  current = p.current;
  begun = p.begun;
  sum = p.sum;
  low = p.low;
  bytes = append-nil (sent ++ now.pending) ∙ p.bytes;
}
