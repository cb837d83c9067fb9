-- The answer that is due over any cells, with any count of what is written: it is the verdict,
-- unless there is too much, and then it comes with the first command with which there is.
use Rattle.std.specs.Prelude.{◌≡◌, ℕ, ◌+◌, ◌<◌, ◌≤◌, Bool, true, false, List, [], ◌∷◌, ◌++◌, Option, None, Some, nat_lt, if◌then◌else◌}
use Rattle.std.proofs.Common.{refl, sym, ap, ap₂, subst, ◌∙◌, arith, zero-le}
use Rattle.std.proofs.lemmas.Bool.{ltb-true, ltb-false, lt-ltb, le-ltb}
use Rattle.send_model.specs.Refusal.{Refusal}
use Rattle.send_model.specs.Reading.{Item, Verdict, Reading}
use Rattle.send_model.specs.Store.{Key, Store, State, Stepped, head_of, step}
use Rattle.send_model.specs.Receive.{byte_cells, start_of, first_of, fault_of}
use Rattle.send_model.specs.Order.{heads, breaks_order, part_after, then_judge, judge_items, judge_reading, judge_of, without_parts}
use Rattle.send_model.specs.Provenance.{uuid_after}
use Rattle.send_model.specs.Cells.{recelled_state, recelled_step, recelled_store}
use Rattle.send_model.specs.Due.{Due, DoneWhole, RefusedAt, TooLong, TooMuch, most_literal, then_due, come_by, due_by, refused_due, or_due, reading_by, unless_long, IsFirstMuchBy, IsJudgedBy}
use Rattle.send_model.proofs.CellClones.{all_steps-cells}
use Rattle.send_model.proofs.MergingAny.{Celled, does}

-- What an answer says of the verdict on the same items, and of their uncarried bytes.
abbrev pub Says : Option Due → Option Verdict → ℕ → Type 0
Says None verdict sum = (verdict ≡ None) × (sum ≤ most_literal)
Says (Some (RefusedAt v)) verdict sum = verdict ≡ Some v
Says (Some (TooMuch much)) verdict sum = (most_literal < much) × (much ≤ sum)
Says (Some DoneWhole) verdict sum = ⊥
Says (Some (TooLong file)) verdict sum = ⊥

pub one_item : (item : Item) (state : State ℕ) (o : Option Refusal) (breaks : Bool) (so_far all : ℕ) (rest : Option Due) (verdict : Option Verdict) → so_far ≤ all → (so_far ≤ most_literal → Says rest verdict all)
    → Says (then_due item o breaks so_far rest) (then_judge item (record { state = state; refusal = o }) breaks verdict) all
one_item item state (Some refusal) breaks so_far all rest verdict low more = refl
one_item item state None true so_far all rest verdict low more = refl
one_item item state None false so_far all rest verdict low more = one (nat_lt most_literal so_far) refl
  where
    one : (b : Bool) → nat_lt most_literal so_far ≡ b → Says (if b then Some (TooMuch so_far) else rest) verdict all
    one true e = (ltb-true most_literal so_far e, low)
    one false e = more (ltb-false most_literal so_far e)

-- ---- the whole answer

refused_none : (o : Option Verdict) → refused_due o ≡ DoneWhole → o ≡ None
refused_none None e = refl
refused_none (Some v) e = cc

refused_some : (o : Option Verdict) (v : Verdict) → refused_due o ≡ RefusedAt v → o ≡ Some v
refused_some None v e = cc
refused_some (Some w) v e = ap refused_of e
  where
    refused_of : Due → Option Verdict
    refused_of DoneWhole = None
    refused_of (RefusedAt x) = Some x
    refused_of (TooLong file) = None
    refused_of (TooMuch sum) = None

refused_never : (o : Option Verdict) (file : ℕ) → refused_due o ≡ TooLong file → ⊥
refused_never None file e = cc
refused_never (Some v) file e = cc

pub refused_not_much : (o : Option Verdict) (sum : ℕ) → refused_due o ≡ TooMuch sum → ⊥
refused_not_much None sum e = cc
refused_not_much (Some v) sum e = cc

same_sum : (a b : ℕ) → TooMuch a ≡ TooMuch b → a ≡ b
same_sum a b q = ap sum_of q
  where
    sum_of : Due → ℕ
    sum_of DoneWhole = 0
    sum_of (RefusedAt x) = 0
    sum_of (TooLong file) = 0
    sum_of (TooMuch n) = n

-- By what the items say, and by the end.
pub record Ends (due : Due) (verdict : Option Verdict) (sum : ℕ) : Type 0 where
  pub done : due ≡ DoneWhole → (verdict ≡ None) × (sum ≤ most_literal)
  pub refused : (v : Verdict) → due ≡ RefusedAt v → verdict ≡ Some v
  pub never : (file : ℕ) → due ≡ TooLong file → ⊥
  pub much : (m : ℕ) → due ≡ TooMuch m → (most_literal < m) × (m ≤ sum)

pub ends : (o : Option Due) (verdict rest : Option Verdict) (sum : ℕ) → Says o verdict sum → Ends (or_due o (refused_due rest)) (first_of verdict rest) sum
ends None verdict rest sum s = record {
  done = λ e. (ap (λ (v : Option Verdict). first_of v rest) s.0 ∙ refused_none rest e, s.1);
  refused = λ v e. ap (λ (x : Option Verdict). first_of x rest) s.0 ∙ refused_some rest v e;
  never = λ file e. refused_never rest file e;
  much = λ m e. absurd (refused_not_much rest m e);
}
ends (Some (RefusedAt w)) verdict rest sum s = record {
  done = λ e. cc;
  refused = λ v e. ap (λ (x : Option Verdict). first_of x rest) s ∙ refused_some (Some w) v e;
  never = λ file e. cc;
  much = λ m e. cc;
}
ends (Some (TooMuch much)) verdict rest sum s = record {
  done = λ e. cc;
  refused = λ v e. cc;
  never = λ file e. cc;
  much = λ m e. subst (λ (n : ℕ). (most_literal < n) × (n ≤ sum)) (same_sum much m e) s;
}
ends (Some DoneWhole) verdict rest sum s = absurd s
ends (Some (TooLong file)) verdict rest sum s = absurd s

pub same_file : (a b : ℕ) → TooLong a ≡ TooLong b → a ≡ b
same_file a b q = ap file_of q
  where
    file_of : Due → ℕ
    file_of DoneWhole = 0
    file_of (RefusedAt x) = 0
    file_of (TooLong n) = n
    file_of (TooMuch sum) = 0

-- The answer on items is that of the reading where it is one.
pub same_answer : (o : Option Due) (verdict : Option Verdict) (sum : ℕ) → or_due o (refused_due verdict) ≡ TooMuch sum → o ≡ Some (TooMuch sum)
same_answer None verdict sum e = absurd (refused_not_much verdict sum e)
same_answer (Some due) verdict sum e = ap Some e

plain_is : {C : Type 0} (k : Celled C) (item : Item) (state : State C) → step 0 (byte_cells item) (recelled_state k.byte_in state) item.command ≡ recelled_step k.byte_in (does k state item)
plain_is k item state =
    ap₂ (λ (z : ℕ) (put : List ℕ). step z put (recelled_state k.byte_in state) item.command) (sym k.is_zero) (sym (k.same_bytes item)) ∙ all_steps-cells k.byte_in item.command k.zero_cell (k.cells item) state

-- What is written for an item, and for items from a state on: the first and the others after it.
module _ {C : Type 0} (k : Celled C) (much_of : State C → Option (List ℕ) → Item → ℕ) (total : State C → Option (List ℕ) → List Item → ℕ)
    (nothing : (state : State C) (current : Option (List ℕ)) → total state current [] ≡ 0)
    (split : (state : State C) (current : Option (List ℕ)) (item : Item) (items : List Item) → total state current (item ∷ items) ≡ much_of state current item + total (does k state item).state (uuid_after current item.command) items) where
  -- The verdict on items after some of them, over bytes.
  abbrev judged : State C → Option Key → List Item → Option Verdict
  judged state previous items = judge_items 0 byte_cells (recelled_state k.byte_in state) previous items

  judged_cons : (item : Item) (items : List Item) (state : State C) (previous : Option Key)
      → judged state previous (item ∷ items) ≡ then_judge item (recelled_step k.byte_in (does k state item)) (breaks_order previous (head_of item.command)) (judged (does k state item).state (part_after previous (head_of item.command)) items)
  unfolding judge_items
  judged_cons item items state previous =
      ap (λ (s : Stepped ℕ). then_judge item s (breaks_order previous (head_of item.command)) (judge_items 0 byte_cells s.state (part_after previous (head_of item.command)) items)) (plain_is k item state)

  -- An item is taken, in order, and those after it are.
  record IsTaken (state : State C) (previous : Option Key) (item : Item) (items : List Item) : Type 0 where
    taken : (does k state item).refusal ≡ None
    ordered : breaks_order previous (head_of item.command) ≡ false
    others : judged (does k state item).state (part_after previous (head_of item.command)) items ≡ None

  none_by : (item : Item) (state : State ℕ) (o : Option Refusal) (breaks : Bool) (rest : Option Verdict) → then_judge item (record { state = state; refusal = o }) breaks rest ≡ None
      → (o ≡ None) × (breaks ≡ false) × (rest ≡ None)
  none_by item state None false rest e = (refl, refl, e)
  none_by item state None true rest e = cc
  none_by item state (Some r) breaks rest e = cc

  is_taken : (item : Item) (items : List Item) (state : State C) (previous : Option Key) → judged state previous (item ∷ items) ≡ None → IsTaken state previous item items
  is_taken item items state previous e =
      let stepped : Stepped C = does k state item in
      let all = none_by item (recelled_state k.byte_in stepped.state) stepped.refusal (breaks_order previous (head_of item.command)) (judged stepped.state (part_after previous (head_of item.command)) items) (sym (judged_cons item items state previous) ∙ e) in
      record { taken = all.0; ordered = all.1; others = all.2 }

  -- And the other way.
  none_of : (item : Item) (state : State ℕ) (o : Option Refusal) (breaks : Bool) (rest : Option Verdict) → o ≡ None → breaks ≡ false → rest ≡ None
      → then_judge item (record { state = state; refusal = o }) breaks rest ≡ None
  none_of item state None false rest e b r = r
  none_of item state None true rest e b r = cc
  none_of item state (Some x) breaks rest e b r = cc

  is_judged_on : (item : Item) (items : List Item) (state : State C) (previous : Option Key) → IsTaken state previous item items → judged state previous (item ∷ items) ≡ None
  is_judged_on item items state previous t =
      let stepped : Stepped C = does k state item in
      judged_cons item items state previous
      ∙ none_of item (recelled_state k.byte_in stepped.state) stepped.refusal (breaks_order previous (head_of item.command)) (judged stepped.state (part_after previous (head_of item.command)) items) t.taken t.ordered t.others

  -- ---- the first command with too much, where so many bytes are uncarried before the items

  pub record IsFirstFrom (state : State C) (previous : Option Key) (current : Option (List ℕ)) (sum : ℕ) (items : List Item) (much : ℕ) : Type 0 where
    pub before : List Item
    pub item : Item
    pub after : List Item
    pub parts_are : items ≡ before ++ item ∷ after
    pub accepted : judge_items 0 byte_cells (recelled_state k.byte_in state) previous (before ++ item ∷ []) ≡ None
    pub within : sum + total state current before ≤ most_literal
    pub sum_is : much ≡ sum + total state current (before ++ item ∷ [])
    pub more : most_literal < much

  judged_nothing : (state : State C) (previous : Option Key) → judged state previous [] ≡ None
  unfolding judge_items
  judged_nothing state previous = refl

  same_much : (a b : ℕ) → Some (TooMuch a) ≡ Some (TooMuch b) → a ≡ b
  same_much a b q = ap sum_of q
    where
      sum_of : Option Due → ℕ
      sum_of (Some (TooMuch n)) = n
      sum_of other = 0

  -- What was answered with an item.
  record Came (o : Option Refusal) (breaks : Bool) (so_far much : ℕ) (rest : Option Due) : Type 0 where
    taken : o ≡ None
    ordered : breaks ≡ false
    here : most_literal < so_far → much ≡ so_far
    later : so_far ≤ most_literal → rest ≡ Some (TooMuch much)

  came : (item : Item) (o : Option Refusal) (breaks : Bool) (so_far much : ℕ) (rest : Option Due) → then_due item o breaks so_far rest ≡ Some (TooMuch much) → Came o breaks so_far much rest
  came item (Some r) breaks so_far much rest e = cc
  came item None true so_far much rest e = cc
  came item None false so_far much rest e = one (nat_lt most_literal so_far) refl e
    where
      one : (b : Bool) → nat_lt most_literal so_far ≡ b → (if b then Some (TooMuch so_far) else rest) ≡ Some (TooMuch much) → Came None false so_far much rest
      one true q r = let low = ltb-true most_literal so_far q in record { taken = refl; ordered = refl; here = λ l. sym (same_much so_far much r); later = λ l. absurd (omega (arith, low, l)) }
      one false q r = let low = ltb-false most_literal so_far q in record { taken = refl; ordered = refl; here = λ l. absurd (omega (arith, low, l)); later = λ l. r }

  first_from : (items : List Item) (state : State C) (previous : Option Key) (current : Option (List ℕ)) (sum much : ℕ) → sum ≤ most_literal
      → due_by (does k) much_of (come_by state previous current sum) items ≡ Some (TooMuch much) → IsFirstFrom state previous current sum items much
  unfolding due_by
  first_from [] state previous current sum much low e = cc
  first_from (item ∷ items) state previous current sum much low e =
      by_sum (λ low' d. first_from items stepped.state next uuid so_far much low' d) (nat_lt most_literal so_far) refl
    where
      stepped : Stepped C
      stepped = does k state item

      next : Option Key
      next = part_after previous (head_of item.command)

      uuid : Option (List ℕ)
      uuid = uuid_after current item.command

      so_far : ℕ
      so_far = sum + much_of state current item

      came_so : Came stepped.refusal (breaks_order previous (head_of item.command)) so_far much (due_by (does k) much_of (come_by stepped.state next uuid so_far) items)
      came_so = came item stepped.refusal (breaks_order previous (head_of item.command)) so_far much (due_by (does k) much_of (come_by stepped.state next uuid so_far) items) e

      none_before : total state current [] ≡ 0
      none_before = nothing state current

      by_sum : (so_far ≤ most_literal → due_by (does k) much_of (come_by stepped.state next uuid so_far) items ≡ Some (TooMuch much) → IsFirstFrom stepped.state next uuid so_far items much)
          → (b : Bool) → nat_lt most_literal so_far ≡ b → IsFirstFrom state previous current sum (item ∷ items) much
      by_sum on true q =
          let over = ltb-true most_literal so_far q in
          let all = split state current item [] in
          let nothing = nothing stepped.state uuid in
          let is = came_so.here over in
          record {
            before = [];
            item = item;
            after = items;
            parts_are = refl;
            accepted = is_judged_on item [] state previous (record { taken = came_so.taken; ordered = came_so.ordered; others = judged_nothing stepped.state next });
            within = omega (arith, low, none_before);
            sum_is = omega (arith, is, all, nothing);
            more = omega (arith, is, over);
          }
      by_sum on false q =
          let under = ltb-false most_literal so_far q in
          let f = on under (came_so.later under) in
          let front = split state current item f.before in
          let whole = split state current item (f.before ++ f.item ∷ []) in
          let within = f.within in
          let sum_is = f.sum_is in
          record {
            before = item ∷ f.before;
            item = f.item;
            after = f.after;
            parts_are = ap (λ (x : List Item). item ∷ x) f.parts_are;
            accepted = is_judged_on item (f.before ++ f.item ∷ []) state previous (record { taken = came_so.taken; ordered = came_so.ordered; others = f.accepted });
            within = omega (arith, within, front);
            sum_is = omega (arith, sum_is, whole);
            more = f.more;
          }

  -- ---- and the other way

  due_here : (item : Item) (o : Option Refusal) (breaks : Bool) (so_far : ℕ) (rest : Option Due) → o ≡ None → breaks ≡ false → most_literal < so_far → then_due item o breaks so_far rest ≡ Some (TooMuch so_far)
  due_here item None false so_far rest e b low = ap (λ (x : Bool). if x then Some (TooMuch so_far) else rest) (lt-ltb most_literal so_far low)
  due_here item None true so_far rest e b low = cc
  due_here item (Some r) breaks so_far rest e b low = cc

  due_later : (item : Item) (o : Option Refusal) (breaks : Bool) (so_far : ℕ) (rest : Option Due) → o ≡ None → breaks ≡ false → so_far ≤ most_literal → then_due item o breaks so_far rest ≡ rest
  due_later item None false so_far rest e b low = ap (λ (x : Bool). if x then Some (TooMuch so_far) else rest) (le-ltb most_literal so_far low)
  due_later item None true so_far rest e b low = cc
  due_later item (Some r) breaks so_far rest e b low = cc

  much_from : (before : List Item) (item : Item) (after : List Item) (state : State C) (previous : Option Key) (current : Option (List ℕ)) (sum much : ℕ)
      → judged state previous (before ++ item ∷ []) ≡ None → sum + total state current before ≤ most_literal
      → much ≡ sum + total state current (before ++ item ∷ []) → most_literal < much
      → due_by (does k) much_of (come_by state previous current sum) (before ++ item ∷ after) ≡ Some (TooMuch much)
  unfolding due_by
  much_from [] item after state previous current sum much accepted within is more =
      let stepped : Stepped C = does k state item in
      let so_far : ℕ = sum + much_of state current item in
      let t = is_taken item [] state previous accepted in
      let all = split state current item [] in
      let nothing = nothing stepped.state (uuid_after current item.command) in
      let same : so_far ≡ much = omega (arith, is, all, nothing) in
      due_here item stepped.refusal (breaks_order previous (head_of item.command)) so_far (due_by (does k) much_of (come_by stepped.state (part_after previous (head_of item.command)) (uuid_after current item.command) so_far) after) t.taken t.ordered (omega (arith, same, more))
      ∙ ap (λ (n : ℕ). Some (TooMuch n)) same
  much_from (first ∷ before) item after state previous current sum much accepted within is more =
      let stepped : Stepped C = does k state first in
      let so_far : ℕ = sum + much_of state current first in
      let t = is_taken first (before ++ item ∷ []) state previous accepted in
      let front = split state current first before in
      let whole = split state current first (before ++ item ∷ []) in
      due_later first stepped.refusal (breaks_order previous (head_of first.command)) so_far (due_by (does k) much_of (come_by stepped.state (part_after previous (head_of first.command)) (uuid_after current first.command) so_far) (before ++ item ∷ after)) t.taken t.ordered (omega (arith, within, front))
      ∙ much_from before item after stepped.state (part_after previous (head_of first.command)) (uuid_after current first.command) so_far much t.others (omega (arith, within, front)) (omega (arith, is, whole)) more

  due_says : (items : List Item) (state : State C) (previous : Option Key) (current : Option (List ℕ)) (sum : ℕ) → sum ≤ most_literal
      → Says (due_by (does k) much_of (come_by state previous current sum) items) (judge_items 0 byte_cells (recelled_state k.byte_in state) previous items) (sum + total state current items)
  unfolding due_by judge_items
  due_says [] state previous current sum low = (refl, omega (arith, low))
  due_says (item ∷ items) state previous current sum low =
      let stepped : Stepped C = does k state item in
      let plain : Stepped ℕ = recelled_step k.byte_in stepped in
      let own : ℕ = much_of state current item in
      let next : Option Key = part_after previous (head_of item.command) in
      let rest : Option Due = due_by (does k) much_of (come_by stepped.state next (uuid_after current item.command) (sum + own)) items in
      let left : ℕ = total stepped.state (uuid_after current item.command) items in
      let split = split state current item items in
      let all : sum + own + left ≡ sum + total state current (item ∷ items) = omega (arith, split) in
      let here : Says (then_due item stepped.refusal (breaks_order previous (head_of item.command)) (sum + own) rest) (then_judge item plain (breaks_order previous (head_of item.command)) (judge_items 0 byte_cells plain.state next items)) (sum + own + left) =
      one_item item plain.state stepped.refusal (breaks_order previous (head_of item.command)) (sum + own) (sum + own + left) rest (judge_items 0 byte_cells plain.state next items) (omega arith)
      (λ low'. due_says items stepped.state next (uuid_after current item.command) (sum + own) low') in
      subst (λ (n : ℕ). Says (then_due item stepped.refusal (breaks_order previous (head_of item.command)) (sum + own) rest) (judge_items 0 byte_cells (recelled_state k.byte_in state) previous (item ∷ items)) n) all
      (subst (λ (s : Stepped ℕ). Says (then_due item stepped.refusal (breaks_order previous (head_of item.command)) (sum + own) rest) (then_judge item s (breaks_order previous (head_of item.command)) (judge_items 0 byte_cells s.state next items)) (sum + own + left)) (sym (plain_is k item state)) here)

  -- ---- the whole answer

  module _ (base : Store ℕ) (start : Store C) (start_is : recelled_store k.byte_in start ≡ base) where
    abbrev pub among : List Item → Option Due
    among items = due_by (does k) much_of (come_by (start_of start) None None 0) items

    abbrev pub up_to : List Item → ℕ
    up_to front = total (start_of start) None front

    same_start : (front : List Item) → judged (start_of start) None front ≡ judge_items 0 byte_cells (start_of base) None front
    same_start front = ap (λ (s : Store ℕ). judge_items 0 byte_cells (start_of s) None front) start_is

    is_first : (items : List Item) (sum : ℕ) → among items ≡ Some (TooMuch sum) → IsFirstMuchBy up_to base items sum
    is_first items sum e =
        let f = first_from items (start_of start) None None 0 sum zero-le e in
        let within = f.within in
        let is = f.sum_is in
        record {
          before = f.before;
          item = f.item;
          after = f.after;
          parts = f.parts_are;
          accepted = sym (same_start (f.before ++ f.item ∷ [])) ∙ f.accepted;
          within = omega (arith, within);
          sum_is = omega (arith, is);
          much = f.more;
        }

    first_is_due : (items : List Item) (sum : ℕ) → IsFirstMuchBy up_to base items sum → among items ≡ Some (TooMuch sum)
    first_is_due items sum f =
        let within = f.within in
        let is = f.sum_is in
        let here = much_from f.before f.item f.after (start_of start) None None 0 sum (same_start (f.before ++ f.item ∷ []) ∙ f.accepted) (omega (arith, within)) (omega (arith, is)) f.much in
        ap among f.parts ∙ here

    reading_ends : (reading : Reading) → Ends (reading_by (among reading.items) reading) (judge_of base reading) (up_to reading.items)
    unfolding judge_reading
    reading_ends reading = ends (among reading.items) (judge_items 0 byte_cells (start_of base) None reading.items) (first_of (fault_of reading.end) (without_parts reading.items (heads reading.items))) (up_to reading.items) items_say
      where
        items_say : Says (among reading.items) (judge_items 0 byte_cells (start_of base) None reading.items) (up_to reading.items)
        items_say =
            let own = due_says reading.items (start_of start) None None 0 zero-le in
            subst (λ (s : Store ℕ). Says (among reading.items) (judge_items 0 byte_cells (start_of s) None reading.items) (up_to reading.items)) start_is
            (subst (λ (n : ℕ). Says (among reading.items) (judge_items 0 byte_cells (recelled_state k.byte_in (start_of start)) None reading.items) n) (omega arith) own)

    pub judged_by : (long : Option ℕ) (reading : Reading) → IsJudgedBy (unless_long long (reading_by (among reading.items) reading)) up_to long base reading
    judged_by None reading =
        let e = reading_ends reading in
        let rest : Option Verdict = first_of (fault_of reading.end) (without_parts reading.items (heads reading.items)) in
        record {
          done = e.done;
          refused = e.refused;
          long = λ file d. absurd (e.never file d);
          much = e.much;
          first = λ sum d. is_first reading.items sum (same_answer (among reading.items) rest sum d);
          answered = λ sum n f. ap (λ (o : Option Due). or_due o (refused_due rest)) (first_is_due reading.items sum f);
        }
    judged_by (Some file) reading = record { done = λ d. cc; refused = λ v d. cc; long = λ other d. ap Some (same_file file other d); much = λ sum d. cc; first = λ sum d. cc; answered = λ sum n f. cc }
