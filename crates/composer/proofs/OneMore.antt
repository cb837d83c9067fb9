-- The definitions of composing are folds over items: what they give for items and then others. And
-- before the first head.
use Rattle.std.specs.Prelude.{◌≡◌, ℕ, ◌+◌, ◌≤◌, Bool, true, false, List, [], ◌∷◌, ◌++◌, map, Option, None, Some, nat_lt, if◌then◌else◌}
use Rattle.std.proofs.Common.{refl, sym, ap, subst, ◌∙◌, arith, append_assoc}
use Rattle.std.proofs.lemmas.Bool.{false≢true, ltb-true}
use Rattle.send_model.specs.Refusal.{Refusal, NoSubvolume}
use Rattle.send_model.specs.Command.{Command, Clone, End}
use Rattle.send_model.specs.Reading.{Item}
use Rattle.send_model.specs.Store.{Key, Head, head_of, Store, State, step, step_edit, completed}
use Rattle.send_model.specs.Receive.{bytes_of, start_of}
use Rattle.send_model.specs.Order.{heads_of, onto_heads, commands_of, breaks_order, part_after}
use Rattle.send_model.specs.Provenance.{Traced, fresh, traced_step, uuid_after, ranges_from, uncarried_in}
use Rattle.send_model.specs.Composed.{commands_for, composed_from}
use Rattle.send_model.specs.Counts.{is_clone}
use Rattle.send_model.specs.Due.{Due, TooMuch, most_literal, uncarried_of, then_due, come_to, due_from}
use Rattle.send_model.proofs.Sorts.{by_sort, plain_step_without}
use Rattle.send_model.proofs.Judging.{previous_after, AreOrdered}
use Rattle.send_model.proofs.UncarriedSums.{uncarried_split}
use Rattle.composer.specs.OverBase.{AreTaken, current_after}

pub AreTaken-append : (items more : List Item) (state middle end : State Traced) → AreTaken state items middle → AreTaken middle more end → AreTaken state (items ++ more) end
AreTaken-append [] more state middle end e t = subst (λ (s : State Traced). AreTaken s more end) (sym e) t
AreTaken-append (item ∷ items) more state middle end t u = (t.0, AreTaken-append items more (traced_step state item).state middle end t.1 u)

pub current_after-append : (current : Option (List ℕ)) (items more : List Item) → current_after current (items ++ more) ≡ current_after (current_after current items) more
current_after-append current [] more = refl
current_after-append current (item ∷ items) more = current_after-append (uuid_after current item.command) items more

-- The composed commands of items and then others.
pub composed_from-append : (store : Store ℕ) (parts : List (List ℕ)) (last : Key) (items more : List Item) (state end : State Traced) (current : Option (List ℕ)) → AreTaken state items end
    → composed_from store parts last state current (items ++ more) ≡ composed_from store parts last state current items ++ composed_from store parts last end (current_after current items) more
unfolding composed_from
composed_from-append store parts last [] more state end current t = ap (λ (s : State Traced). composed_from store parts last s current more) t
composed_from-append store parts last (item ∷ items) more state end current t =
    let here : List Command = commands_for store parts last state current item.command in
    ap (λ (r : List Command). here ++ r) (composed_from-append store parts last items more (traced_step state item).state end (uuid_after current item.command) t.1)
    ∙ sym (append_assoc here (composed_from store parts last (traced_step state item).state (uuid_after current item.command) items) (composed_from store parts last end (current_after (uuid_after current item.command) items) more))

-- ---- the sum of uncarried bytes

-- The uncarried bytes of items and then others.
pub uncarried-append : (base : Store ℕ) (parts : List (List ℕ)) (items more : List Item) (state end : State Traced) (current : Option (List ℕ)) → AreTaken state items end
    → uncarried_in base (ranges_from parts state current (items ++ more)) ≡ uncarried_in base (ranges_from parts state current items) + uncarried_in base (ranges_from parts end (current_after current items) more)
unfolding ranges_from
uncarried-append base parts [] more state end current t = let same = ap (λ (s : State Traced). uncarried_in base (ranges_from parts s current more)) t in omega (arith, same)
uncarried-append base parts (item ∷ items) more state end current t =
    let a = uncarried_split base parts state current item (items ++ more) in
    let b = uncarried_split base parts state current item items in
    let c = uncarried-append base parts items more (traced_step state item).state end (uuid_after current item.command) t.1 in
    omega (arith, a, b, c)

-- ---- the answer that is due

due_on : (item : Item) (o : Option Refusal) (breaks : Bool) (sum : ℕ) (rest : Option Due) → o ≡ None → breaks ≡ false → sum ≤ most_literal → then_due item o breaks sum rest ≡ rest
due_on item None false sum rest e b low = one (nat_lt most_literal sum) refl
  where
    one : (t : Bool) → nat_lt most_literal sum ≡ t → (if t then Some (TooMuch sum) else rest) ≡ rest
    one true h = absurd (let above = ltb-true most_literal sum h in omega (arith, above, low))
    one false h = refl
due_on item None true sum rest e b low = cc
due_on item (Some r) breaks sum rest e b low = cc

-- Items that are taken in order, and do not come to too many bytes, leave the answer to those after
-- them.
pub due_done : (base : Store ℕ) (parts : List (List ℕ)) (items more : List Item) (state end : State Traced) (previous : Option Key) (current : Option (List ℕ)) (sum : ℕ)
    → AreTaken state items end → AreOrdered previous items → sum + uncarried_in base (ranges_from parts state current items) ≤ most_literal
    → due_from base parts (come_to state previous current sum) (items ++ more) ≡ due_from base parts (come_to end (previous_after previous items) (current_after current items) (sum + uncarried_in base (ranges_from parts state current items))) more
unfolding due_from ranges_from
due_done base parts [] more state end previous current sum t o low =
    let zero_more : sum ≡ sum + uncarried_in base (ranges_from parts state current []) = omega arith in
    ap (λ (s : State Traced). due_from base parts (come_to s previous current sum) more) t ∙ ap (λ (n : ℕ). due_from base parts (come_to end previous current n) more) zero_more
due_done base parts (item ∷ items) more state end previous current sum t o low =
    let s = traced_step state item in
    let own : ℕ = uncarried_of base parts state current item in
    let split = uncarried_split base parts state current item items in
    let left : ℕ = uncarried_in base (ranges_from parts s.state (uuid_after current item.command) items) in
    let all : sum + own + left ≡ sum + uncarried_in base (ranges_from parts state current (item ∷ items)) = omega (arith, split) in
    let next : Option Key = part_after previous (head_of item.command) in
    due_on item s.refusal (breaks_order previous (head_of item.command)) (sum + own) (due_from base parts (come_to s.state next (uuid_after current item.command) (sum + own)) (items ++ more)) t.0 o.0 (omega (arith, all, low))
    ∙ due_done base parts items more s.state end next (uuid_after current item.command) (sum + own) t.1 o.1 (omega (arith, all, low))
    ∙ ap (λ (n : ℕ). due_from base parts (come_to end (previous_after next items) (current_after (uuid_after current item.command) items) n) more) all

-- ---- before the first head

-- A clone without a part is refused.
clone_without : (store : Store Traced) (c : Command) → is_clone c ≡ true → (step (fresh 0) (map fresh (bytes_of c)) (start_of store) c).refusal ≡ Some NoSubvolume
unfolding step step_edit
clone_without store (Clone path offset uuid ctransid clone_path from len) h = refl
clone_without store c h = absurd (false≢true h)

-- Before the first head, only END can be taken.
pub only_end : (store : Store Traced) (c : Command) → head_of c ≡ None → (step (fresh 0) (map fresh (bytes_of c)) (start_of store) c).refusal ≡ None → c ≡ End
only_end store c = by_sort {P = λ c. head_of c ≡ None → (step (fresh 0) (map fresh (bytes_of c)) (start_of store) c).refusal ≡ None → c ≡ End}
    (λ c head h none taken. absurd (let e : Some head ≡ None = sym h ∙ none in cc))
    (λ none taken. refl)
    (λ c h none taken. absurd (let e : Some NoSubvolume ≡ None = sym (clone_without store c h) ∙ taken in cc))
    (λ c h none taken. absurd (let e : Some NoSubvolume ≡ None = sym (plain_step_without (fresh 0) (map fresh (bytes_of c)) store c h) ∙ taken in cc)) c

no_head_first : (o : Option Head) (hs : List Head) → onto_heads o hs ≡ [] → (o ≡ None) × (hs ≡ [])
no_head_first None hs e = (refl, e)
no_head_first (Some h) hs e = cc

-- Items without a head that are taken where no part has begun change nothing and stand for no
-- command.
pub quiet : (store : Store ℕ) (parts : List (List ℕ)) (last : Key) (items : List Item) (current : Option (List ℕ)) (start : Store Traced) (end : State Traced) → heads_of (commands_of items) ≡ [] → AreTaken (start_of start) items end
    → (composed_from store parts last (start_of start) current items ≡ []) × (end ≡ start_of start)
unfolding composed_from heads_of step completed
quiet store parts last [] current start end none t = (refl, sym t)
quiet store parts last (item ∷ items) current start end none t =
    let n = no_head_first (head_of item.command) (heads_of (commands_of items)) none in
    let P : Command → Type 0 = λ c.
    AreTaken (step (fresh 0) (map fresh (bytes_of c)) (start_of start) c).state items end
    → (commands_for store parts last (start_of start) current c ++ composed_from store parts last (step (fresh 0) (map fresh (bytes_of c)) (start_of start) c).state (uuid_after current c) items ≡ []) × (end ≡ start_of start) in
    subst P (sym (only_end start item.command n.0 t.0)) (λ t'. quiet store parts last items None start end n.1 t') t.1
