-- The entries of pages, around the page that a key's place is in.
use Rattle.std.proofs.Common.{◌≡◌, ℕ, suc, ◌+◌, ◌-◌, ◌<◌, ◌≤◌, ◌≢◌, Some, None, List, [], ◌∷◌, ◌++◌, length, get_or, set, take, drop, slice_get, refl, sym, ap, ◌∙◌, subst, arith, add-one, append_assoc, length-append, length-drop}
use Rattle.std.proofs.lemmas.List.{get_or_default, get_or_at, length-take-le, nil_from_length, drop_more, drop_all, take_more_set, drop-set-lt, take-append-drop}
use Rattle.std.proofs.lemmas.List.Edits.{length-insert}
use Rattle.std.specs.Cmp.{IsTotalOrder}
use Rattle.std.specs.declared.cmp.Ordering.{Ordering}
use Rattle.std.specs.declared.cmp.Ordering.TheVariants.{Less, Equal, Greater}
use Rattle.std.specs.List.{insert, remove, AllByRecursion}
use Rattle.send_model.specs.Map.{value_at, with_value, without}
use Rattle.send_model.proofs.ElementLaws.{all_both, all_take, all_drop}
use Rattle.shared_map.specs.Sought.{entry_after}
use Rattle.shared_map.specs.Pages.{Rises, AreFilled, joined, AreKept, IsAt, IsGap, IsHome, IsPast, replaced, in_two, in_one}
use Rattle.shared_map.proofs.Orders.{rises_left, rises_right, each_at}
use Rattle.shared_map.proofs.Lists.{split_at, set_at}
use Rattle.shared_map.proofs.Homes.{joined_append, joined_split}
use Rattle.shared_map.proofs.Edits.{value_home, value_here, value_gap, put_here, put_gap, put_home, without_here, without_gap, without_home, after_skip, after_first, after_here, after_gap, rises_put, rises_without}

pub record IsPart {K V : Type 0} (order : K → K → Ordering) (key : K) (ps : List (List (K × V))) (i : ℕ) (p : List (K × V)) : Type 0 where
  pub in_range : i < length ps
  pub split : joined ps ≡ joined (take i ps) ++ (p ++ joined (drop (i + 1) ps))
  pub below : AllByRecursion (λ e. order e.0 key ≡ Less) (joined (take i ps))
  pub after : AllByRecursion (λ e. order e.0 key ≡ Greater) (joined (drop (i + 1) ps))

pub joined_replaced : {X : Type 0} (ps : List (List X)) (i : ℕ) (p : List X) → joined (replaced ps i p) ≡ joined (take i ps) ++ (p ++ joined (drop (i + 1) ps))
joined_replaced ps i p = joined_append (take i ps) (p ∷ drop (i + 1) ps)

pub filled_replaced : {X : Type 0} (ps : List (List X)) (i : ℕ) (p : List X) → AreFilled ps → 0 < length p → AreFilled (replaced ps i p)
filled_replaced ps i p filled some = all_both _ (take i ps) (p ∷ drop (i + 1) ps) (all_take _ i ps filled) (some, all_drop _ (i + 1) ps filled)

module _ {K V : Type 0} (order : K → K → Ordering) (key : K) (ps : List (List (K × V))) (i : ℕ) (p : List (K × V)) where
  pub part : IsHome order key ps i → i < length ps → p ≡ get_or ps i p → IsPart order key ps i p
  part home lt read = record { in_range = lt; split = joined_split ps i p lt read; below = home.below; after = home.after }

  -- the page's entries rise
  pub part_rises : Rises order (joined ps) → IsPart order key ps i p → Rises order p
  part_rises rises is = rises_left order p (joined (drop (i + 1) ps)) (rises_right order (joined (take i ps)) (p ++ joined (drop (i + 1) ps)) (subst (Rises order) is.split rises))

  length_joined : (q : List (K × V)) → length (joined (take i ps) ++ (q ++ joined (drop (i + 1) ps))) ≡ length (joined (take i ps)) + (length q + length (joined (drop (i + 1) ps)))
  length_joined q = simp length-append refl

  -- what the map keeps, after its page was replaced
  pub kept : (len n : ℕ) (q new : List (K × V)) → AreKept order ps len → IsPart order key ps i p → 0 < length q → n + length p ≡ len + length q → joined (replaced ps i q) ≡ new → Rises order new → AreKept order (replaced ps i q) n
  kept len n q new are is some count same rises = record {
    rises = subst (Rises order) (sym same) rises;
    filled = filled_replaced ps i q are.filled some;
    counted = omega (arith, are.counted, ap length is.split, length_joined p, length_joined q, ap length (joined_replaced ps i q));
  }

module _ {K V : Type 0} {order : K → K → Ordering} (total : IsTotalOrder order) (key : K) (ps : List (List (K × V))) (i : ℕ) (p : List (K × V)) where
  pub value_found : (place : ℕ) (e : K × V) → IsPart order key ps i p → IsAt order key p place → e ≡ get_or p place e → value_at order key (joined ps) ≡ Some e.1
  value_found place e is at read = ap (value_at order key) is.split ∙ value_home total key _ p _ is.below is.after ∙ value_here total key p place e at read

  pub value_absent : (place : ℕ) → IsPart order key ps i p → IsGap order key p place → value_at order key (joined ps) ≡ None
  value_absent place is gap = ap (value_at order key) is.split ∙ value_home total key _ p _ is.below is.after ∙ value_gap total key p place gap

  pub without_absent : (place : ℕ) → IsPart order key ps i p → IsGap order key p place → without order key (joined ps) ≡ joined ps
  without_absent place is gap =
      ap (without order key) is.split ∙ without_home total key (joined (take i ps)) p (joined (drop (i + 1) ps)) is.below is.after ∙ ap (λ r. joined (take i ps) ++ (r ++ joined (drop (i + 1) ps))) (without_gap total key p place gap) ∙ sym is.split

  -- where the page becomes what `put` makes of it, so do all the entries
  pub put_part : (value : V) (q : List (K × V)) → IsPart order key ps i p → with_value order key value p ≡ q → joined (replaced ps i q) ≡ with_value order key value (joined ps)
  put_part value q is same =
      joined_replaced ps i q ∙ ap (λ r. joined (take i ps) ++ (r ++ joined (drop (i + 1) ps))) (sym same) ∙ sym (put_home total key value _ p _ is.below is.after) ∙ ap (with_value order key value) (sym is.split)

  pub without_part : (q : List (K × V)) → IsPart order key ps i p → without order key p ≡ q → joined (replaced ps i q) ≡ without order key (joined ps)
  without_part q is same =
      joined_replaced ps i q ∙ ap (λ r. joined (take i ps) ++ (r ++ joined (drop (i + 1) ps))) (sym same) ∙ sym (without_home total key _ p _ is.below is.after) ∙ ap (without order key) (sym is.split)

-- two reads of one place are the same
pub read_same : {X : Type 0} (ps : List X) (i : ℕ) (x y : X) → i < length ps → x ≡ get_or ps i x → y ≡ get_or ps i y → x ≡ y
read_same ps i x y lt rx ry = rx ∙ get_or_default ps i x y lt ∙ sym ry

-- an entry between what stands before its place and after it is the one at the place
pub read_of : {X : Type 0} (es : List X) (i : ℕ) (e : X) → i < length es → es ≡ take i es ++ e ∷ drop (i + 1) es → e ≡ get_or es i e
read_of es i e lt split = sym (ap (λ l. get_or l i e) split ∙ get_or_at (take i es) e (drop (i + 1) es) e i (length-take-le i es (omega arith)))

pub kept_same : {K V : Type 0} (order : K → K → Ordering) (ps qs : List (List (K × V))) (n : ℕ) → AreKept order ps n → joined qs ≡ joined ps → (AreFilled ps → AreFilled qs) → AreKept order qs n
kept_same order ps qs n are same filled = record { rises = subst (Rises order) (sym same) are.rises; filled = filled are.filled; counted = are.counted ∙ ap length (sym same) }

-- pages in which the key has a value now, and pages in which it has none, with what the map keeps
pub record IsPutIn {K V : Type 0} (order : K → K → Ordering) (key : K) (ps qs : List (List (K × V))) (n : ℕ) (value : V) : Type 0 where
  pub kept : AreKept order qs n
  pub same : joined qs ≡ with_value order key value (joined ps)

pub record IsTakenOut {K V : Type 0} (order : K → K → Ordering) (key : K) (ps qs : List (List (K × V))) (n : ℕ) (value : V) : Type 0 where
  pub kept : AreKept order qs n
  pub same : joined qs ≡ without order key (joined ps)
  pub was : value_at order key (joined ps) ≡ Some value

module _ {K V : Type 0} {order : K → K → Ordering} (total : IsTotalOrder order) (key : K) (ps : List (List (K × V))) (i : ℕ) (p : List (K × V)) (len : ℕ) (are : AreKept order ps len) (is : IsPart order key ps i p) where
  pub part_length : length p ≤ len
  part_length = omega (arith, are.counted, ap length is.split, length_joined order key ps i p p)

  -- a key that is there has its value written over
  pub put_found : (value was : V) (place : ℕ) (k : K) (q : List (K × V)) → IsAt order key p place → p ≡ take place p ++ (k, was) ∷ drop (place + 1) p → q ≡ take place p ++ (k, value) ∷ drop (place + 1) p → IsPutIn order key ps (set ps i q) len value
  put_found value was place k q at split made =
      let read = read_of p place (k, was) at.in_range split in
      let equal : order k key ≡ Equal = subst (λ x. order x.0 key ≡ Equal) (sym read) (at.here (k, was)) in
      let page : with_value order key value p ≡ q = put_here total key value p (take place p) (drop (place + 1) p) k was split at.below equal ∙ sym made in
      let whole = put_part total key ps i p value q is page in
      let wrote = set_at ps i q is.in_range in
      let count : length q ≡ length p = ap length made ∙ length-append (take place p) ((k, value) ∷ drop (place + 1) p) ∙ sym (ap length split ∙ length-append (take place p) ((k, was) ∷ drop (place + 1) p)) in
      record {
        kept = subst (λ l. AreKept order l len) (sym wrote) (kept order key ps i p len len q _ are is (omega (arith, at.in_range)) (omega arith) whole (rises_put total key value (joined ps) are.rises));
        same = ap joined wrote ∙ whole;
      }

  -- one that is not there gets an entry
  pub put_new : (value : V) (place n : ℕ) (q : List (K × V)) → IsGap order key p place → q ≡ insert p place (key, value) → n ≡ len + 1 → IsPutIn order key ps (set ps i q) n value
  put_new value place n q gap made more =
      let page : with_value order key value p ≡ q = put_gap total key value p place gap ∙ sym made in
      let whole = put_part total key ps i p value q is page in
      let wrote = set_at ps i q is.in_range in
      let count : length q ≡ length p + 1 = ap length made ∙ length-insert p place (key, value) gap.in_range in
      record {
        kept = subst (λ l. AreKept order l n) (sym wrote) (kept order key ps i p len n q _ are is (omega arith) (omega arith) whole (rises_put total key value (joined ps) are.rises));
        same = ap joined wrote ∙ whole;
      }

  -- an entry is taken out, and others stay in its page
  pub without_found : (place n : ℕ) (e : K × V) (q : List (K × V)) → IsAt order key p place → p ≡ take place p ++ e ∷ drop (place + 1) p → q ≡ take place p ++ drop (place + 1) p → length p ≢ 1 → n ≡ len - 1 → IsTakenOut order key ps (set ps i q) n e.1
  without_found place n e q at split made more less =
      let read = read_of p place e at.in_range split in
      let equal : order e.0 key ≡ Equal = subst (λ x. order x.0 key ≡ Equal) (sym read) (at.here e) in
      let page : without order key p ≡ q = without_here total key p (take place p) (drop (place + 1) p) e split at.below equal at.after ∙ sym made in
      let whole = without_part total key ps i p q is page in
      let wrote = set_at ps i q is.in_range in
      let one = ap length made ∙ length-append (take place p) (drop (place + 1) p) in
      let two = ap length split ∙ length-append (take place p) (e ∷ drop (place + 1) p) in
      let bound = part_length in
      record {
        kept = subst (λ l. AreKept order l n) (sym wrote) (kept order key ps i p len n q _ are is (omega (arith, at.in_range)) (omega (arith, at.in_range)) whole (rises_without total key (joined ps) are.rises));
        same = ap joined wrote ∙ whole;
        was = value_found total key ps i p place e is at read;
      }

  -- an entry is taken out with its page
  pub without_page : (place n : ℕ) (e : K × V) → IsAt order key p place → e ≡ get_or p place e → length p ≡ 1 → n ≡ len - 1 → IsTakenOut order key ps (remove ps i) n e.1
  without_page place n e at read alone less =
      let split = split_at p place e at.in_range read in
      let equal : order e.0 key ≡ Equal = subst (λ x. order x.0 key ≡ Equal) (sym read) (at.here e) in
      let page : without order key p ≡ take place p ++ drop (place + 1) p = without_here total key p (take place p) (drop (place + 1) p) e split at.below equal at.after in
      let two = ap length split ∙ length-append (take place p) (e ∷ drop (place + 1) p) in
      let count : length (take place p ++ drop (place + 1) p) ≡ 0 = length-append (take place p) (drop (place + 1) p) ∙ omega arith in
      let gone : without order key p ≡ [] = page ∙ nil_from_length _ count in
      let rest = joined (drop (i + 1) ps) in
      let cut : joined (remove ps i) ≡ joined (take i ps) ++ rest = joined_append (take i ps) (drop (suc i) ps) ∙ ap (λ m. joined (take i ps) ++ joined (drop m ps)) (sym (add-one i)) in
      let same : joined (remove ps i) ≡ without order key (joined ps) =
      cut ∙ ap (λ r. joined (take i ps) ++ (r ++ rest)) (sym gone) ∙ sym (without_home total key (joined (take i ps)) p rest is.below is.after) ∙ ap (without order key) (sym is.split) in
      record {
        kept = record {
          rises = subst (Rises order) (sym same) (rises_without total key (joined ps) are.rises);
          filled = all_both _ (take i ps) (drop (suc i) ps) (all_take _ i ps are.filled) (all_drop _ (suc i) ps are.filled);
          counted = omega (arith, are.counted, ap length is.split, length_joined order key ps i p p, ap length cut, length-append (joined (take i ps)) rest);
        };
        same = same;
        was = value_found total key ps i p place e is at read;
      }

module _ {K V : Type 0} {order : K → K → Ordering} (total : IsTotalOrder order) (key : K) where
  above_at : (es zs : List (K × V)) (i : ℕ) → IsAt order key es i → entry_after order key (es ++ zs) ≡ entry_after order key (drop (i + 1) es ++ zs)
  above_at [] zs i at = absurd (omega (arith, at.in_range))
  above_at (e ∷ es) zs i at = after_here total key (e ∷ es) zs i (get_or (e ∷ es) i e) at (get_or_default (e ∷ es) i e (get_or (e ∷ es) i e) at.in_range)

  pub past_at : (es : List (K × V)) (i : ℕ) → IsAt order key es i → IsPast order key es (i + 1)
  past_at es i at = record { in_range = omega (arith, at.in_range); skips = λ zs. above_at es zs i at; after = at.after }

  pub past_gap : (es : List (K × V)) (i : ℕ) → IsGap order key es i → IsPast order key es i
  past_gap es i gap = record { in_range = gap.in_range; skips = λ zs. after_gap total key es zs i gap; after = gap.after }

  above_of_first : (q zs : List (K × V)) → 0 < length q → AllByRecursion (λ e. order e.0 key ≡ Greater) (q ++ zs) → entry_after order key (q ++ zs) ≡ slice_get q 0
  above_of_first [] zs some after = absurd (omega arith)
  above_of_first (e ∷ q) zs some after = after_first total key e (q ++ zs) after.0

  module _ (ps : List (List (K × V))) (i : ℕ) (p : List (K × V)) (place : ℕ) (is : IsPart order key ps i p) (past : IsPast order key p place) where
    above_rest : entry_after order key (joined ps) ≡ entry_after order key (drop place p ++ joined (drop (i + 1) ps))
    above_rest = ap (entry_after order key) is.split ∙ after_skip total key (joined (take i ps)) (p ++ joined (drop (i + 1) ps)) is.below ∙ past.skips (joined (drop (i + 1) ps))

    pub above_here : (e : K × V) → place < length p → e ≡ get_or p place e → entry_after order key (joined ps) ≡ Some e
    above_here e lt read =
        let here = drop_more p place e lt ∙ ap (λ x. x ∷ drop (place + 1) p) (sym read) in
        let greater = subst (AllByRecursion (λ x. order x.0 key ≡ Greater)) here past.after in
        above_rest ∙ ap (λ l. entry_after order key (l ++ joined (drop (i + 1) ps))) here ∙ after_first total key e (drop (place + 1) p ++ joined (drop (i + 1) ps)) greater.0

    above_next : length p ≤ place → entry_after order key (joined ps) ≡ entry_after order key (joined (drop (i + 1) ps))
    above_next le = above_rest ∙ ap (λ l. entry_after order key (l ++ joined (drop (i + 1) ps))) (drop_all place p le)

    pub above_there : (q : List (K × V)) → length p ≤ place → AreFilled ps → i + 1 < length ps → q ≡ get_or ps (i + 1) q → entry_after order key (joined ps) ≡ slice_get q 0
    above_there q le filled lt read =
        let there : drop (i + 1) ps ≡ q ∷ drop (i + 1 + 1) ps = drop_more ps (i + 1) q lt ∙ ap (λ x. x ∷ drop (i + 1 + 1) ps) (sym read) in
        let some : 0 < length q = subst (λ l. 0 < length l) (sym read) (each_at _ ps (i + 1) q lt filled) in
        above_next le ∙ ap (λ l. entry_after order key (joined l)) there ∙ above_of_first q (joined (drop (i + 1 + 1) ps)) some (subst (λ l. AllByRecursion (λ e. order e.0 key ≡ Greater) (joined l)) there is.after)

    pub above_none : length p ≤ place → length ps ≤ i + 1 → entry_after order key (joined ps) ≡ None
    above_none le all = above_next le ∙ ap (λ l. entry_after order key (joined l)) (drop_all (i + 1) ps all)

-- a page in two
module _ {X : Type 0} (ps : List (List X)) (i cut : ℕ) (lt : i < length ps) where
  pub split_is : (p f b : List X) → p ≡ get_or ps i p → f ≡ take cut p → b ≡ drop cut p → insert (set ps i f) (i + 1) b ≡ in_two ps i cut
  split_is p f b read front back =
      let page : p ≡ get_or ps i [] = read ∙ get_or_default ps i p [] lt in
      ap (λ l. l ++ b ∷ drop (i + 1) (set ps i f)) (take_more_set ps i f lt) ∙ append_assoc (take i ps) (f ∷ []) (b ∷ drop (i + 1) (set ps i f)) ∙ ap (λ l. take i ps ++ f ∷ b ∷ l) (drop-set-lt (i + 1) ps i f (omega arith))
      ∙ ap (λ l. take i ps ++ l ∷ b ∷ drop (i + 1) ps) (front ∙ ap (take cut) page) ∙ ap (λ l. take i ps ++ take cut (get_or ps i []) ∷ l ∷ drop (i + 1) ps) (back ∙ ap (drop cut) page)

  pub split_joined : joined (in_two ps i cut) ≡ joined ps
  split_joined =
      let p : List X = get_or ps i [] in
      let rest = joined (drop (i + 1) ps) in
      joined_append (take i ps) (take cut p ∷ drop cut p ∷ drop (i + 1) ps) ∙ ap (λ l. joined (take i ps) ++ l) (sym (append_assoc (take cut p) (drop cut p) rest) ∙ ap (λ l. l ++ rest) (take-append-drop cut p)) ∙ sym (joined_split ps i p lt (get_or_default ps i [] p lt))

  pub split_filled : 0 < cut → cut < length (get_or ps i []) → AreFilled ps → AreFilled (in_two ps i cut)
  split_filled low high filled =
      let p : List X = get_or ps i [] in
      let some_f : 0 < length (take cut p) = omega (arith, length-take-le cut p (omega arith)) in
      let some_b : 0 < length (drop cut p) = omega (arith, length-drop cut p) in
      all_both _ (take i ps) (take cut p ∷ drop cut p ∷ drop (i + 1) ps) (all_take _ i ps filled) (some_f, (some_b, all_drop _ (i + 1) ps filled))

-- two pages in one
module _ {X : Type 0} (ps : List (List X)) (i : ℕ) (lt : i + 1 < length ps) where
  pub join_is : (p q b : List X) → p ≡ get_or ps i p → q ≡ get_or ps (i + 1) q → b ≡ p ++ q → remove (set ps i b) (i + 1) ≡ in_one ps i
  join_is p q b read next both =
      let page : p ≡ get_or ps i [] = read ∙ get_or_default ps i p [] (omega arith) in
      let behind : q ≡ get_or ps (i + 1) [] = next ∙ get_or_default ps (i + 1) q [] lt in
      let two : suc (i + 1) ≡ i + 2 = omega arith in
      ap (λ l. l ++ drop (suc (i + 1)) (set ps i b)) (take_more_set ps i b (omega arith)) ∙ append_assoc (take i ps) (b ∷ []) (drop (suc (i + 1)) (set ps i b)) ∙ ap (λ l. take i ps ++ b ∷ l) (drop-set-lt (suc (i + 1)) ps i b (omega arith) ∙ ap (λ n. drop n ps) two)
      ∙ ap (λ l. take i ps ++ l ∷ drop (i + 2) ps) (both ∙ ap (λ l. l ++ q) page ∙ ap (λ l. get_or ps i [] ++ l) behind)

  pub join_joined : joined (in_one ps i) ≡ joined ps
  join_joined =
      let p : List X = get_or ps i [] in
      let q : List X = get_or ps (i + 1) [] in
      let two : i + 1 + 1 ≡ i + 2 = omega arith in
      let rest = joined (drop (i + 2) ps) in
      let second : joined (drop (i + 1) ps) ≡ q ++ rest = ap joined (drop_more ps (i + 1) [] lt ∙ ap (λ n. q ∷ drop n ps) two) in
      joined_append (take i ps) ((p ++ q) ∷ drop (i + 2) ps) ∙ ap (λ l. joined (take i ps) ++ l) (append_assoc p q rest ∙ ap (λ l. p ++ l) (sym second)) ∙ sym (joined_split ps i p (omega arith) (get_or_default ps i [] p (omega arith)))

  pub join_filled : AreFilled ps → AreFilled (in_one ps i)
  join_filled filled =
      let p : List X = get_or ps i [] in
      let q : List X = get_or ps (i + 1) [] in
      let some_p : 0 < length p = each_at _ ps i [] (omega arith) filled in
      let some : 0 < length (p ++ q) = omega (arith, some_p, length-append p q) in
      all_both _ (take i ps) ((p ++ q) ∷ drop (i + 2) ps) (all_take _ i ps filled) (some, all_drop _ (i + 2) ps filled)
