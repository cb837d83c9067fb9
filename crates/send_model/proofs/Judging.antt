-- The verdict on files, command by command: those that were taken in order lead to the verdict on
-- the rest.
use Rattle.std.specs.Prelude.{◌≡◌, ℕ, Bool, true, false, List, [], ◌∷◌, ◌++◌, Option, None, Some}
use Rattle.std.proofs.Common.{refl, sym, ap, ◌∙◌, append-nil}
use Rattle.std.proofs.lemmas.Bool.{not-false}
use Rattle.send_model.specs.Refusal.{Refusal}
use Rattle.send_model.specs.Reading.{Item, Verdict}
use Rattle.send_model.specs.Store.{Key, Head, head_of, Store, State}
use Rattle.send_model.specs.Receive.{byte_cells, start_of}
use Rattle.send_model.specs.Order.{heads, heads_of, onto_heads, commands_of, EachFollows, is_parent, breaks_order, part_after, then_judge, judge_items}
use Rattle.send_model.proofs.Runs.{step_of, Takes}
use Rattle.send_model.proofs.Stores.{same_key_true}

-- The part that the next head has to follow, after items.
abbrev pub previous_after : Option Key → List Item → Option Key
previous_after previous [] = previous
previous_after previous (item ∷ items) = previous_after (part_after previous (head_of item.command)) items

-- No head among the items breaks the order.
abbrev pub AreOrdered : Option Key → List Item → Type 0
AreOrdered previous [] = Unit {0}
AreOrdered previous (item ∷ items) = (breaks_order previous (head_of item.command) ≡ false) × AreOrdered (part_after previous (head_of item.command)) items

pub AreOrdered-append : (previous : Option Key) (items more : List Item) → AreOrdered previous items → AreOrdered (previous_after previous items) more → AreOrdered previous (items ++ more)
AreOrdered-append previous [] more a b = b
AreOrdered-append previous (item ∷ items) more a b = (a.0, AreOrdered-append (part_after previous (head_of item.command)) items more a.1 b)

pub previous_after-append : (previous : Option Key) (items more : List Item) → previous_after previous (items ++ more) ≡ previous_after (previous_after previous items) more
previous_after-append previous [] more = refl
previous_after-append previous (item ∷ items) more = previous_after-append (part_after previous (head_of item.command)) items more

judge_on : (item : Item) (state : State ℕ) (o : Option Refusal) (breaks : Bool) (rest : Option Verdict) → o ≡ None → breaks ≡ false → then_judge item (record { state = state; refusal = o }) breaks rest ≡ rest
judge_on item state None false rest e b = refl
judge_on item state None true rest e b = cc
judge_on item state (Some r) breaks rest e b = cc

-- Items that were taken in order leave the verdict to those after them.
pub judge_done : (items more : List Item) (previous : Option Key) (state end : State ℕ) → Takes state (commands_of items) end → AreOrdered previous items
    → judge_items 0 byte_cells state previous (items ++ more) ≡ judge_items 0 byte_cells end (previous_after previous items) more
unfolding judge_items
judge_done [] more previous state end t o = ap (λ (s : State ℕ). judge_items 0 byte_cells s previous more) t
judge_done (item ∷ items) more previous state end t o =
    let s = step_of state item.command in
    judge_on item s.state s.refusal (breaks_order previous (head_of item.command)) _ t.0 o.0
    ∙ judge_done items more (part_after previous (head_of item.command)) s.state end t.1 o.1

-- ---- whole files

abbrev pub empty_store : Store ℕ
empty_store = []

judge_nothing : (state : State ℕ) (previous : Option Key) → judge_items 0 byte_cells state previous [] ≡ None
unfolding judge_items
judge_nothing state previous = refl

pub judged_all : (items : List Item) (end : State ℕ) → Takes (start_of empty_store) (commands_of items) end → AreOrdered None items → judge_items 0 byte_cells (start_of empty_store) None items ≡ None
judged_all items end t o = ap (judge_items 0 byte_cells (start_of empty_store) None) (sym (append-nil items)) ∙ judge_done items [] None (start_of empty_store) end t o ∙ judge_nothing end (previous_after None items)

-- ---- the order of heads

parent_of : (key : Key) (parent : Option Key) → is_parent key parent ≡ true → parent ≡ Some key
parent_of key None e = cc
parent_of key (Some k) e = ap Some (same_key_true k key e)

Follows : Option Key → List Head → Type 0
Follows None hs = EachFollows hs
Follows (Some key) [] = Unit {0}
Follows (Some key) (h ∷ hs) = (h.parent ≡ Some key) × EachFollows (h ∷ hs)

follows_each : (h : Head) (hs : List Head) → Follows (Some h.key) hs → EachFollows (h ∷ hs)
unfolding Follows
follows_each h [] f = tt
follows_each h (next ∷ hs) f = f

ordered_on : (previous : Option Key) (o : Option Head) (items : List Item) → breaks_order previous o ≡ false → Follows (part_after previous o) (heads items) → Follows previous (onto_heads o (heads items))
unfolding Follows
ordered_on None None items b f = f
ordered_on None (Some h) items b f = follows_each h (heads items) f
ordered_on (Some key) None items b f = f
ordered_on (Some key) (Some h) items b f = (parent_of key h.parent (not-false (is_parent key h.parent) b), follows_each h (heads items) f)

ordered_follows : (previous : Option Key) (items : List Item) → AreOrdered previous items → Follows previous (heads items)
unfolding Follows heads_of
ordered_follows None [] o = tt
ordered_follows (Some key) [] o = tt
ordered_follows previous (item ∷ items) o = ordered_on previous (head_of item.command) items o.0 (ordered_follows (part_after previous (head_of item.command)) items o.1)

-- Heads in order follow each other.
pub each_follows : (items : List Item) → AreOrdered None items → EachFollows (heads items)
unfolding Follows
each_follows items o = ordered_follows None items o
