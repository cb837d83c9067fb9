-- What is found and done at the spot of a key: its page, and its place there.
use Rattle.std.proofs.Common.{◌≡◌, ◌≢◌, ℕ, ◌+◌, ◌-◌, ◌<◌, ◌≤◌, true, false, Option, Some, None, List, [], ◌∷◌, length, get_or, set, refl, sym, ◌∙◌, subst, arith, inl, inr}
use Rattle.std.proofs.lemmas.Bool.{cases_lt}
use Rattle.std.proofs.lemmas.List.{get_or_default}
use Rattle.std.specs.Cmp.{IsTotalOrder}
use Rattle.std.specs.declared.cmp.Ordering.{Ordering}
use Rattle.std.specs.List.{insert, remove}
use Rattle.send_model.specs.Map.{Map, value_at, with_value, without}
use Rattle.shared_map.specs.Edited.{PutsNew}
use Rattle.shared_map.specs.Pages.{joined, AreKept, IsAt, IsGap, IsThere, IsFree, IsSetAt, IsEditedAt, IsTakenAt, KeepsKeyAt}
use Rattle.shared_map.proofs.Parts.{IsPart, IsPutIn, IsTakenOut, part, part_length, read_of, value_found, value_absent, without_absent, put_found, put_new, without_found, without_page}
use Rattle.shared_map.proofs.Editing.{IsChanged, edited_there, edited_nowhere, kept_somehow}

module _ {K V : Type 0} (order : K → K → Ordering) (key : K) (ps : List (List (K × V))) (i : ℕ) (p : List (K × V)) (place : ℕ) (read : p ≡ get_or ps i p) where
  there_part : IsThere order key ps i place → IsPart order key ps i p
  there_part there = part order key ps i p there.home there.in_range read

  there_at : IsThere order key ps i place → IsAt order key p place
  there_at there = subst (λ l. IsAt order key l place) (get_or_default ps i [] p there.in_range ∙ sym read) there.here

  free_part : IsFree order key ps i place → i < length ps → IsPart order key ps i p
  free_part free lt = part order key ps i p free.home lt read

  free_gap : IsFree order key ps i place → i < length ps → IsGap order key p place
  free_gap free lt = subst (λ l. IsGap order key l place) (get_or_default ps i [] p lt ∙ sym read) (free.gap lt)

  pub many_there : IsThere order key ps i place → length p ≢ 1 → 1 < length p
  many_there there more = omega (arith, (there_at there).in_range)

-- where no page has the spot, there are none
none_at : {X : Type 0} (ps : List X) (i : ℕ) → (0 < length ps → i < length ps) → length ps ≤ i → ps ≡ []
none_at [] i within all = refl
none_at (p ∷ ps) i within all = absurd (omega (arith, within (omega arith)))

-- an entry that stands in a list
entry_of : {X : Type 0} (es : List X) (i : ℕ) → i < length es → (e : X) × (e ≡ get_or es i e)
entry_of [] i lt = absurd (omega arith)
entry_of (e ∷ es) i lt = (get_or (e ∷ es) i e, get_or_default (e ∷ es) i e (get_or (e ∷ es) i e) lt)

-- ---- what is found

module _ {K V : Type 0} {order : K → K → Ordering} (total : IsTotalOrder order) (key : K) (ps : List (List (K × V))) (i place : ℕ) where
  pub value_there : (p : List (K × V)) (e : K × V) → p ≡ get_or ps i p → IsThere order key ps i place → e ≡ get_or p place e → value_at order key (joined ps) ≡ Some e.1
  value_there p e read there this = value_found total key ps i p place e (there_part order key ps i p place read there) (there_at order key ps i p place read there) this

  -- what holds where the place is a gap of its page, and where there are no pages
  nowhere : (P : List (List (K × V)) → Type 0) → IsFree order key ps i place → ((p : List (K × V)) → IsPart order key ps i p → IsGap order key p place → P ps) → P [] → P ps
  nowhere P free here none =
      let p = get_or ps i [] in
      elim (cases_lt i (length ps)) [
        | inl lt ↦
            let read : p ≡ get_or ps i p = get_or_default ps i [] p lt in
            here p (free_part order key ps i p place read free lt) (free_gap order key ps i p place read free lt)
        | inr all ↦ subst P (sym (none_at ps i free.home.in_range all)) none
      ]

  pub value_nowhere : IsFree order key ps i place → value_at order key (joined ps) ≡ None
  value_nowhere free = nowhere (λ l. value_at order key (joined l) ≡ None) free (λ p is gap. value_absent total key ps i p place is gap) refl

  pub without_nowhere : IsFree order key ps i place → without order key (joined ps) ≡ joined ps
  without_nowhere free = nowhere (λ l. without order key (joined l) ≡ joined l) free (λ p is gap. without_absent total key ps i p place is gap) refl

  pub edit_nowhere : {E : Type 0} (become : V → V) (left : V → E) (before : E) → IsFree order key ps i place → IsChanged become left (value_at order key (joined ps)) (λ value. with_value order key value (joined ps)) (joined ps) (joined ps) before before false
  edit_nowhere become left before free = edited_nowhere become left (λ value. with_value order key value (joined ps)) _ (joined ps) before (value_nowhere free)

  -- where the key has a value, none is set, and where it has none, this one is
  pub puts_nothing : (put : Map K V) → IsThere order key ps i place → PutsNew (value_at order key (joined ps)) put (joined ps) (joined ps) false
  puts_nothing put there =
      let p = get_or ps i [] in
      let read : p ≡ get_or ps i p = get_or_default ps i [] p there.in_range in
      let entry = entry_of p place there.here.in_range in
      subst (λ (o : Option V). PutsNew o put (joined ps) (joined ps) false) (sym (value_there p entry.0 read there entry.1)) (refl, refl)

  pub puts_fresh : (put new : Map K V) → IsFree order key ps i place → new ≡ put → PutsNew (value_at order key (joined ps)) put (joined ps) new true
  puts_fresh put new free made = subst (λ (o : Option V). PutsNew o put (joined ps) new true) (sym (value_nowhere free)) (refl, made)

-- ---- what is done

module _ {K V : Type 0} {order : K → K → Ordering} (total : IsTotalOrder order) (key : K) (ps : List (List (K × V))) (i : ℕ) (p q : List (K × V)) (len place : ℕ) (are : AreKept order ps len) (read : p ≡ get_or ps i p) where
  pub count_there : IsThere order key ps i place → 0 < len
  count_there there = omega (arith, part_length total key ps i p len are (there_part order key ps i p place read there), (there_at order key ps i p place read there).in_range)

  pub set_there : (value : V) → IsThere order key ps i place → IsSetAt p q place value → IsPutIn order key ps (set ps i q) len value
  set_there value there did = put_found total key ps i p len are (there_part order key ps i p place read there) value did.was place did.key q (there_at order key ps i p place read there) did.before did.made

  pub put_free : (value : V) (n : ℕ) → IsFree order key ps i place → i < length ps → q ≡ insert p place (key, value) → n ≡ len + 1 → IsPutIn order key ps (set ps i q) n value
  put_free value n free lt made more = put_new total key ps i p len are (free_part order key ps i p place read free lt) value place n q (free_gap order key ps i p place read free lt) made more

  pub keep_there : IsThere order key ps i place → KeepsKeyAt p q place → AreKept order (set ps i q) len
  keep_there there did = kept_somehow total key ps i p q len place are (there_part order key ps i p place read there) read (there_at order key ps i p place read there) did

  pub edit_there : {E : Type 0} (become : V → V) (left : V → E) (before after : E) → IsThere order key ps i place → IsEditedAt become left p q after place → record { kept : AreKept order (set ps i q) len; edited : IsChanged become left (value_at order key (joined ps)) (λ value. with_value order key value (joined ps)) (joined ps) (joined (set ps i q)) before after true }
  edit_there become left before after there did =
      let put = set_there (become did.was) there record { key = did.key; was = did.was; before = did.before; made = did.made } in
      let was = value_there total key ps i place p (did.key, did.was) read there (read_of p place (did.key, did.was) (there_at order key ps i p place read there).in_range did.before) in
      record { kept = put.kept; edited = edited_there become left (λ value. with_value order key value (joined ps)) _ did.was (joined ps) _ before after was put.same did.edit }

  pub take_there : (e : K × V) → IsThere order key ps i place → IsTakenAt p q place e → length p ≢ 1 → IsTakenOut order key ps (set ps i q) (len - 1) e.1
  take_there e there did more = without_found total key ps i p len are (there_part order key ps i p place read there) place (len - 1) e q (there_at order key ps i p place read there) did.before did.made more refl

module _ {K V : Type 0} {order : K → K → Ordering} (total : IsTotalOrder order) (key : K) (ps : List (List (K × V))) (i : ℕ) (p : List (K × V)) (len place : ℕ) (are : AreKept order ps len) (read : p ≡ get_or ps i p) where
  pub page_there : (e : K × V) → IsThere order key ps i place → e ≡ get_or p place e → length p ≡ 1 → IsTakenOut order key ps (remove ps i) (len - 1) e.1
  page_there e there this alone = without_page total key ps i p len are (there_part order key ps i p place read there) place (len - 1) e (there_at order key ps i p place read there) this alone refl
