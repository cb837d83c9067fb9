-- Composing over any base keeps what the definitions say of the items so far: their run, their
-- order, their sum of uncarried bytes, and the bytes of the composed commands.
use Rattle.std.specs.Prelude.{◌≡◌, ℕ, ◌+◌, ◌≤◌, Bool, true, false, ◌||◌, List, [], ◌∷◌, ◌++◌, Option, None, Some, Result, Ok, Err, is_some, nat_lt, if◌then◌else◌}
use Rattle.std.proofs.Common.{refl, sym, ap, ap₂, subst, ◌∙◌, arith, append_assoc, append-nil}
use Rattle.std.proofs.lemmas.Bool.{ltb-false}
use Rattle.send_model.specs.Refusal.{Refusal}
use Rattle.send_model.specs.Command.{Command, Subvol, Snapshot}
use Rattle.send_model.specs.Spelling.{stream_header, canonical, canonical_all}
use Rattle.send_model.specs.Reading.{Item}
use Rattle.send_model.specs.Store.{Key, Head, head_of, Store, State}
use Rattle.send_model.specs.Receive.{first_of, start_of}
use Rattle.send_model.specs.Order.{heads, heads_of, onto_heads, breaks_order, part_after}
use Rattle.send_model.specs.Provenance.{Traced, traced_store, traced_step, uuid_after, ranges_from, uncarried_in}
use Rattle.send_model.specs.Composed.{first_head, head_command, commands_for, composed_from}
use Rattle.send_model.specs.Headline.{stream_front}
use Rattle.send_model.specs.Due.{Due, TooMuch, most_literal, uncarried_of, then_due, come_to, due_from}
use Rattle.send_model.proofs.Judging.{previous_after, AreOrdered, AreOrdered-append, previous_after-append}
use Rattle.send_model.proofs.Writing.{canonical_all-append}
use Rattle.composer.specs.OverBase.{Plan, Composing, at_start, Halt, Exceeds, halt_due, begin_bytes, added_with, after_item, is_unforeseen, then_kept, advance, then_items, advance_all, composed_up_to, written_with, written_up_to, current_after, AreTaken}
use Rattle.composer.proofs.LastHeads.{heads_more}
use Rattle.send_model.proofs.UncarriedSums.{uncarried_split}
use Rattle.composer.proofs.OneMore.{AreTaken-append, current_after-append, composed_from-append, uncarried-append, only_end, quiet}

-- The state over the base before the first command.
abbrev pub base_start : Plan → State Traced
base_start plan = start_of (traced_store plan.base)

-- The items so far were taken in order, and what was sent with what is pending is what they stand
-- for.
pub record Progress (plan : Plan) (items : List Item) (now : Composing) (sent : List ℕ) : Type 0 where
  pub taken : AreTaken (base_start plan) items now.state
  pub ordered : AreOrdered None items
  pub previous : now.previous ≡ previous_after None items
  pub current : now.current ≡ current_after None items
  pub begun : now.begun ≡ is_some (first_head (heads items))
  pub sum : now.sum ≡ uncarried_in plan.base (ranges_from plan.parts (base_start plan) None items)
  pub low : now.sum ≤ most_literal
  pub bytes : sent ++ now.pending ≡ written_up_to plan items

-- Before the first item.
nothing_with : (plan : Plan) (last : Option Head) → [] ≡ written_with plan last []
unfolding heads_of
nothing_with plan None = refl
nothing_with plan (Some last) = refl

pub progress_start : (plan : Plan) → Progress plan [] (at_start plan) []
unfolding heads_of ranges_from
progress_start plan = record { taken = refl; ordered = tt; previous = refl; current = refl; begun = refl; sum = refl; low = omega arith; bytes = nothing_with plan plan.last }

-- ---- what advancing answers

-- What a taken item met.
record Went (refusal : Option Refusal) (unordered : Bool) (next new : Composing) : Type 0 where
  accepted : refusal ≡ None
  in_order : unordered ≡ false
  low : next.sum ≤ most_literal
  is : new ≡ next

ok_is : {x y : Composing} → ◌≡◌ {A = Result Composing Halt} (Ok x) (Ok y) → x ≡ y
ok_is {x = x} e = ap (λ r. ok_or r x) e
  where
    ok_or : Result Composing Halt → Composing → Composing
    ok_or (Ok a) d = a
    ok_or (Err r) d = d

pub err_is : {x y : Halt} → ◌≡◌ {A = Result Composing Halt} (Err x) (Err y) → x ≡ y
err_is {x = x} e = ap (λ r. err_or r x) e
  where
    err_or : Result Composing Halt → Halt → Halt
    err_or (Ok a) d = d
    err_or (Err r) d = r

went : (refusal : Option Refusal) (unordered : Bool) (next new : Composing) → then_kept refusal unordered next ≡ Ok new → Went refusal unordered next new
went (Some refusal) unordered next new e = cc
went None true next new e = cc
went None false next new e = one (nat_lt most_literal next.sum) refl e
  where
    one : (b : Bool) → nat_lt most_literal next.sum ≡ b → (if b then Err (Exceeds next.sum) else Ok next) ≡ Ok new → Went None false next new
    one true h q = cc
    one false h q = record { accepted = refl; in_order = refl; low = ltb-false most_literal next.sum h; is = sym (ok_is q) }

-- ---- the bytes

head_commands : (store : Store ℕ) (parts : List (List ℕ)) (last : Key) (state : State Traced) (current : Option (List ℕ)) (c : Command) (head : Head) → head_of c ≡ Some head → commands_for store parts last state current c ≡ []
head_commands store parts last state current (Subvol uuid ctransid path) head h = refl
head_commands store parts last state current (Snapshot uuid ctransid path clone_uuid clone_ctransid) head h = refl
head_commands store parts last state current c head h = cc

first_more : (hs : List Head) (o : Option Head) → first_head (hs ++ onto_heads o []) ≡ first_of (first_head hs) o
first_more [] None = refl
first_more [] (Some h) = refl
first_more (x ∷ hs) o = refl

first_after : (items : List Item) (item : Item) → first_head (heads (items ++ item ∷ [])) ≡ first_of (first_head (heads items)) (head_of item.command)
first_after items item = ap first_head (heads_more items item) ∙ first_more (heads items) (head_of item.command)

no_heads : (hs : List Head) → first_head hs ≡ None → hs ≡ []
no_heads [] e = refl
no_heads (h ∷ hs) e = cc

pub front-append : (version : ℕ) (c : Command) (cs ds : List Command) → stream_front version (c ∷ (cs ++ ds)) ≡ stream_front version (c ∷ cs) ++ canonical_all version ds
front-append version c cs ds = ap (λ (r : List ℕ). stream_header version ++ r) (canonical_all-append version (c ∷ cs) ds) ∙ sym (append_assoc (stream_header version) (canonical_all version (c ∷ cs)) (canonical_all version ds))

-- One more composed item.
edits_more : (plan : Plan) (last : Head) (items : List Item) (item : Item) (state : State Traced) → AreTaken (base_start plan) items state
    → composed_from plan.base plan.parts last.key (base_start plan) None (items ++ item ∷ []) ≡ composed_from plan.base plan.parts last.key (base_start plan) None items ++ commands_for plan.base plan.parts last.key state (current_after None items) item.command
unfolding composed_from
edits_more plan last items item state t =
    let here : List Command = commands_for plan.base plan.parts last.key state (current_after None items) item.command in
    composed_from-append plan.base plan.parts last.key items (item ∷ []) (base_start plan) state None t
    ∙ ap (λ (r : List Command). composed_from plan.base plan.parts last.key (base_start plan) None items ++ r) (append-nil here)

-- After the first head.
bytes_on : (plan : Plan) (last first : Head) (items : List Item) (item : Item) (state : State Traced) (o : Option Head) → AreTaken (base_start plan) items state
    → stream_front plan.version (composed_up_to plan (Some first) last (items ++ item ∷ []))
    ≡ stream_front plan.version (composed_up_to plan (Some first) last items) ++ (begin_bytes plan.version true last o ++ canonical_all plan.version (commands_for plan.base plan.parts last.key state (current_after None items) item.command))
bytes_on plan last first items item state o t =
    let h : Command = head_command last.name last.key first.parent in
    let here : List Command = commands_for plan.base plan.parts last.key state (current_after None items) item.command in
    let es : List Command = composed_from plan.base plan.parts last.key (base_start plan) None items in
    ap (λ (r : List Command). stream_front plan.version (h ∷ r)) (edits_more plan last items item state t)
    ∙ front-append plan.version h es here ∙ by_head o
  where
    by_head : (x : Option Head) → stream_front plan.version (composed_up_to plan (Some first) last items) ++ canonical_all plan.version (commands_for plan.base plan.parts last.key state (current_after None items) item.command)
        ≡ stream_front plan.version (composed_up_to plan (Some first) last items) ++ (begin_bytes plan.version true last x ++ canonical_all plan.version (commands_for plan.base plan.parts last.key state (current_after None items) item.command))
    by_head None = refl
    by_head (Some h) = refl

-- The first head begins the stream; before it nothing is written.
bytes_first : (plan : Plan) (last : Head) (items : List Item) (item : Item) (state : State Traced) (o : Option Head) → AreTaken (base_start plan) items state → heads items ≡ []
    → (traced_step state item).refusal ≡ None → head_of item.command ≡ o
    → stream_front plan.version (composed_up_to plan o last (items ++ item ∷ []))
    ≡ begin_bytes plan.version false last o ++ canonical_all plan.version (commands_for plan.base plan.parts last.key state (current_after None items) item.command)
unfolding canonical_all
bytes_first plan last items item state (Some head) t none h e =
    let hc : Command = head_command last.name last.key head.parent in
    let no_more = head_commands plan.base plan.parts last.key state (current_after None items) item.command head e in
    let q = quiet plan.base plan.parts last.key items None (traced_store plan.base) state none t in
    let es : composed_from plan.base plan.parts last.key (base_start plan) None (items ++ item ∷ []) ≡ [] = edits_more plan last items item state t ∙ ap₂ (λ (a b : List Command). a ++ b) q.0 no_more in
    ap (λ (r : List Command). stream_front plan.version (hc ∷ r)) es
    ∙ sym (append_assoc (stream_header plan.version) (canonical plan.version hc) [])
    ∙ ap (λ (r : List Command). (stream_header plan.version ++ canonical plan.version hc) ++ canonical_all plan.version r) (sym no_more)
bytes_first plan last items item state None t none h e =
    let q = quiet plan.base plan.parts last.key items None (traced_store plan.base) state none t in
    let is_end = only_end (traced_store plan.base) item.command e (subst (λ (s : State Traced). (traced_step s item).refusal ≡ None) q.1 h) in
    ap (λ (c : Command). canonical_all plan.version (commands_for plan.base plan.parts last.key state (current_after None items) c)) (sym is_end)

-- What an item adds to the bytes is what the items with it stand for.
added_bytes : (plan : Plan) (items : List Item) (item : Item) (state : State Traced) (last : Head) (first o : Option Head) → AreTaken (base_start plan) items state → first_head (heads items) ≡ first
    → (traced_step state item).refusal ≡ None → head_of item.command ≡ o
    → stream_front plan.version (composed_up_to plan first last items) ++ (begin_bytes plan.version (is_some first) last o ++ canonical_all plan.version (commands_for plan.base plan.parts last.key state (current_after None items) item.command))
    ≡ stream_front plan.version (composed_up_to plan (first_of first o) last (items ++ item ∷ []))
added_bytes plan items item state last (Some first) o t f h e = sym (bytes_on plan last first items item state o t)
added_bytes plan items item state last None o t f h e = sym (bytes_first plan last items item state o t (no_heads (heads items) f) h e)

-- The same by what is kept.
written_more : (plan : Plan) (items : List Item) (item : Item) (now : Composing) (o : Option Head) → plan.last ≡ o → AreTaken (base_start plan) items now.state → now.current ≡ current_after None items → now.begun ≡ is_some (first_head (heads items))
    → (traced_step now.state item).refusal ≡ None → written_with plan o items ++ added_with plan now o item.command ≡ written_with plan o (items ++ item ∷ [])
written_more plan items item now None l t c b h = refl
written_more plan items item now (Some last) l t c b h =
    let front : List ℕ = stream_front plan.version (composed_up_to plan (first_head (heads items)) last items) in
    ap₂ (λ (x : Bool) (y : Option (List ℕ)). front ++ (begin_bytes plan.version x last (head_of item.command) ++ canonical_all plan.version (commands_for plan.base plan.parts last.key now.state y item.command))) b c
    ∙ added_bytes plan items item now.state last (first_head (heads items)) (head_of item.command) t refl h refl
    ∙ ap (λ (x : Option Head). stream_front plan.version (composed_up_to plan x last (items ++ item ∷ []))) (sym (first_after items item))

-- ---- one item

or_both : (a b : Bool) → a || b ≡ false → a ≡ false
or_both true b e = e
or_both false b e = refl

begun_more : (first o : Option Head) → is_some first || is_some o ≡ is_some (first_of first o)
begun_more None None = refl
begun_more None (Some h) = refl
begun_more (Some f) o = refl

pub one_sum : (plan : Plan) (state : State Traced) (current : Option (List ℕ)) (item : Item) → uncarried_in plan.base (ranges_from plan.parts state current (item ∷ [])) ≡ uncarried_of plan.base plan.parts state current item
unfolding ranges_from
one_sum plan state current item = let split = uncarried_split plan.base plan.parts state current item [] in omega (arith, split)

-- An item that was taken makes progress.
pub advance_ok : (plan : Plan) (items : List Item) (item : Item) (now new : Composing) (sent : List ℕ) → Progress plan items now sent → advance plan now item ≡ Ok new → Progress plan (items ++ item ∷ []) new sent
unfolding advance
advance_ok plan items item now new sent p e =
    let w = went (traced_step now.state item).refusal (breaks_order now.previous (head_of item.command) || is_unforeseen plan.last (head_of item.command)) (after_item plan now item) new e in
    subst (λ (x : Composing). Progress plan (items ++ item ∷ []) x sent) (sym w.is) (record {
      taken = AreTaken-append items (item ∷ []) (base_start plan) now.state (traced_step now.state item).state p.taken (w.accepted, refl);
      ordered = AreOrdered-append None items (item ∷ []) p.ordered (ap (λ (k : Option Key). breaks_order k (head_of item.command)) (sym p.previous) ∙ or_both (breaks_order now.previous (head_of item.command)) (is_unforeseen plan.last (head_of item.command)) w.in_order, tt);
      previous = ap (λ (k : Option Key). part_after k (head_of item.command)) p.previous ∙ sym (previous_after-append None items (item ∷ []));
      current = ap (λ (k : Option (List ℕ)). uuid_after k item.command) p.current ∙ sym (current_after-append None items (item ∷ []));
      begun = ap (λ (b : Bool). b || is_some (head_of item.command)) p.begun ∙ begun_more (first_head (heads items)) (head_of item.command) ∙ ap is_some (sym (first_after items item));
      sum = ap₂ (λ (a : ℕ) (k : Option (List ℕ)). a + uncarried_of plan.base plan.parts now.state k item) p.sum p.current
          ∙ ap (λ (n : ℕ). uncarried_in plan.base (ranges_from plan.parts (base_start plan) None items) + n) (sym (one_sum plan now.state (current_after None items) item))
          ∙ sym (uncarried-append plan.base plan.parts items (item ∷ []) (base_start plan) now.state None p.taken);
      low = w.low;
      bytes = sym (append_assoc sent now.pending (added_with plan now plan.last item.command)) ∙ ap (λ (r : List ℕ). r ++ added_with plan now plan.last item.command) p.bytes
          ∙ written_more plan items item now plan.last refl p.taken p.current p.begun w.accepted;
    })

-- Items that were taken one after the other.
pub progress_all : (plan : Plan) (items more : List Item) (now new : Composing) (sent : List ℕ) → Progress plan items now sent → advance_all plan now more ≡ Ok new → Progress plan (items ++ more) new sent
unfolding advance_all
progress_all plan items [] now new sent p e = subst (λ (x : Composing). Progress plan (items ++ []) x sent) (ok_is e) (subst (λ (xs : List Item). Progress plan xs now sent) (sym (append-nil items)) p)
progress_all plan items (item ∷ more) now new sent p e =
    one (advance plan now item) refl e (λ next p'. progress_all plan (items ++ item ∷ []) more next new sent p')
  where
    one : (r : Result Composing Halt) → advance plan now item ≡ r → then_items r (λ next. advance_all plan next more) ≡ Ok new
        → ((next : Composing) → Progress plan (items ++ item ∷ []) next sent → advance_all plan next more ≡ Ok new → Progress plan ((items ++ item ∷ []) ++ more) new sent) → Progress plan (items ++ item ∷ more) new sent
    one (Ok next) a q on = subst (λ (xs : List Item). Progress plan xs new sent) (append_assoc items (item ∷ []) more) (on next (advance_ok plan items item now next sent p a) q)
    one (Err halt) a q on = cc

-- ---- where an item is not taken

halted : (item : Item) (o : Option Refusal) (breaks unforeseen : Bool) (next : Composing) (halt : Halt) (rest : Option Due) → unforeseen ≡ false → then_kept o (breaks || unforeseen) next ≡ Err halt → then_due item o breaks next.sum rest ≡ Some (halt_due item halt)
halted item (Some refusal) breaks unforeseen next halt rest u e = ap (λ (h : Halt). Some (halt_due item h)) (err_is e)
halted item None true unforeseen next halt rest u e = ap (λ (h : Halt). Some (halt_due item h)) (err_is e)
halted item None false true next halt rest u e = cc
halted item None false false next halt rest u e = one (nat_lt most_literal next.sum) e
  where
    one : (b : Bool) → (if b then Err (Exceeds next.sum) else Ok next) ≡ Err halt → (if b then Some (TooMuch next.sum) else rest) ≡ Some (halt_due item halt)
    one true q = ap (λ (h : Halt). Some (halt_due item h)) (err_is q)
    one false q = cc

pub foreseen : (last o : Option Head) → ((head : Head) → o ≡ Some head → (l : Head) × (last ≡ Some l)) → is_unforeseen last o ≡ false
foreseen last None known = refl
foreseen (Some last) (Some head) known = refl
foreseen None (Some head) known = absurd (let k = known head refl in (let e = k.1 in cc))

-- An item that is not taken, where a head was foreseen, is the first that ends composing, with the
-- answer that is due.
pub advance_err : (plan : Plan) (item : Item) (more : List Item) (now : Composing) (halt : Halt) → ((head : Head) → head_of item.command ≡ Some head → (last : Head) × (plan.last ≡ Some last))
    → advance plan now item ≡ Err halt → due_from plan.base plan.parts (come_to now.state now.previous now.current now.sum) (item ∷ more) ≡ Some (halt_due item halt)
unfolding advance due_from
advance_err plan item more now halt known e =
    let next = after_item plan now item in
    halted item (traced_step now.state item).refusal (breaks_order now.previous (head_of item.command)) (is_unforeseen plan.last (head_of item.command)) next halt
    (due_from plan.base plan.parts (come_to next.state next.previous next.current next.sum) more) (foreseen plan.last (head_of item.command) known) e
