-- Entries under their numbers: what is found through the number of a UUID is what the UUID finds,
-- also once an entry came, took its value or went.
use Rattle.std.proofs.Common.{◌≡◌, ℕ, ◌+◌, ◌<◌, Bool, true, false, cond, ◌==◌, List, [], ◌∷◌, ◌++◌, Some, None, Option, refl, sym, ap, ◌∙◌, arith}
use Rattle.std.proofs.lemmas.Bool.{eqb-true, eqb-false, ne_eqb}
use Rattle.std.specs.Str.{bytes_eq}
use Rattle.std.specs.Map.{lookup, remove_entry, set_value}
use Rattle.send_model.specs.Store as meant
use Rattle.send_model.specs.Store.{has_uuid}
use Rattle.send_model.proofs.Stores.{bytes_eq_true}
use Rattle.subvol_catalog.specs.declared.entry.Entry.{Entry}
use Rattle.subvol_catalog.specs.Entries.{entry_of, listed}
use Rattle.subvol_catalog.specs.Indexes.{number_led_to, if_its, if_led, numbered, AreNumbered, under_uuids}
use Rattle.subvol_catalog.proofs.Pairs.{some≢none, turned, or_false_left, or_false_right}

some_number : (a b : ℕ) → Some a ≡ Some b → a ≡ b
some_number a b e = cc

-- The list of entries doesn't speak of what they stand under.
pub seen : {V : Type 0} (es : List (ℕ × Entry V)) → listed (under_uuids es) ≡ listed es
seen [] = refl
seen {V} (p ∷ es) = ap (λ (r : List (meant.Entry V)). entry_of p.1 ∷ r) (seen es)

-- One entry more, under its UUID.
pub under_more : {V : Type 0} (es : List (ℕ × Entry V)) (n : ℕ) (e : Entry V) → under_uuids (es ++ (n, e) ∷ []) ≡ under_uuids es ++ (e.key.uuid, e) ∷ []
under_more [] n e = refl
under_more {V} (p ∷ es) n e = ap (λ (r : List (List ℕ × Entry V)). (p.1.key.uuid, p.1) ∷ r) (under_more es n e)

-- What a number finds where another entry stands behind, and where one took a value or went.
none_more : {V : Type 0} (m n : ℕ) (e : Entry V) (es : List (ℕ × Entry V)) → lookup (λ k. m == k) es ≡ None → (m == n) ≡ false → lookup (λ k. m == k) (es ++ (n, e) ∷ []) ≡ None
none_more {V} m n e [] f apart = ap (λ (b : Bool). cond b (Some e) None) apart
none_more {V} m n e (p ∷ es) f apart = one (m == p.0) f (none_more m n e es)
  where
    one : (b : Bool) → cond b (Some p.1) (lookup (λ k. m == k) es) ≡ None → (lookup (λ k. m == k) es ≡ None → (m == n) ≡ false → lookup (λ k. m == k) (es ++ (n, e) ∷ []) ≡ None) → cond b (Some p.1) (lookup (λ k. m == k) (es ++ (n, e) ∷ [])) ≡ None
    one true f more = absurd (some≢none p.1 f)
    one false f more = more f apart

none_set : {V : Type 0} (m n : ℕ) (w : Entry V) (es : List (ℕ × Entry V)) → lookup (λ k. m == k) es ≡ None → lookup (λ k. m == k) (set_value (λ k. n == k) es w) ≡ None
none_set {V} m n w [] f = refl
none_set {V} m n w (p ∷ es) f = one (n == p.0) (m == p.0) refl f (none_set m n w es)
  where
    one : (a b : Bool) → (m == p.0) ≡ b → cond b (Some p.1) (lookup (λ k. m == k) es) ≡ None → (lookup (λ k. m == k) es ≡ None → lookup (λ k. m == k) (set_value (λ k. n == k) es w) ≡ None)
        → lookup (λ k. m == k) (cond a ((p.0, w) ∷ es) (p ∷ set_value (λ k. n == k) es w)) ≡ None
    one a true is f more = absurd (some≢none p.1 f)
    one true false is f more = ap (λ (b : Bool). cond b (Some w) (lookup (λ k. m == k) es)) is ∙ f
    one false false is f more = ap (λ (b : Bool). cond b (Some p.1) (lookup (λ k. m == k) (set_value (λ k. n == k) es w))) is ∙ more f

none_less : {V : Type 0} (m n : ℕ) (es : List (ℕ × Entry V)) → lookup (λ k. m == k) es ≡ None → lookup (λ k. m == k) (remove_entry (λ k. n == k) es) ≡ None
none_less {V} m n [] f = refl
none_less {V} m n (p ∷ es) f = one (n == p.0) (m == p.0) refl f (none_less m n es)
  where
    one : (a b : Bool) → (m == p.0) ≡ b → cond b (Some p.1) (lookup (λ k. m == k) es) ≡ None → (lookup (λ k. m == k) es ≡ None → lookup (λ k. m == k) (remove_entry (λ k. n == k) es) ≡ None)
        → lookup (λ k. m == k) (cond a es (p ∷ remove_entry (λ k. n == k) es)) ≡ None
    one a true is f more = absurd (some≢none p.1 f)
    one true false is f more = f
    one false false is f more = ap (λ (b : Bool). cond b (Some p.1) (lookup (λ k. m == k) (remove_entry (λ k. n == k) es))) is ∙ more f

-- The entry that a number finds, where it has the UUID.
abbrev its : {V : Type 0} → List ℕ → Option (Entry V) → Option (Entry V)
its u None = None
its u (Some e) = cond (bytes_eq e.key.uuid u) (Some e) None

module _ {V : Type 0} (uuids : List (List ℕ × ℕ)) (next : ℕ) where
  -- A UUID that leads nowhere finds nothing.
  finds_nothing : (u : List ℕ) (es : List (ℕ × Entry V)) → AreNumbered uuids next es → number_led_to uuids u ≡ None → lookup (bytes_eq u) (under_uuids es) ≡ None
  finds_nothing u [] l e = refl
  finds_nothing u (p ∷ es) l e = one (bytes_eq u p.1.key.uuid) refl (finds_nothing u es l.3 e)
    where
      one : (b : Bool) → bytes_eq u p.1.key.uuid ≡ b → lookup (bytes_eq u) (under_uuids es) ≡ None → cond b (Some p.1) (lookup (bytes_eq u) (under_uuids es)) ≡ None
      one true t more = absurd (some≢none p.0 (sym l.0 ∙ ap (number_led_to uuids) (sym (bytes_eq_true u p.1.key.uuid t)) ∙ e))
      one false t more = more

  -- An entry with the UUID stands under the number to which it leads.
  has_number : (u : List ℕ) (n : ℕ) (p : ℕ × Entry V) → number_led_to uuids p.1.key.uuid ≡ Some p.0 → number_led_to uuids u ≡ Some n → bytes_eq u p.1.key.uuid ≡ true → n ≡ p.0
  has_number u n p own e t = some_number n p.0 (sym e ∙ ap (number_led_to uuids) (bytes_eq_true u p.1.key.uuid t) ∙ own)

  -- So one under another number has another UUID.
  other_uuid : (u : List ℕ) (n : ℕ) (p : ℕ × Entry V) → number_led_to uuids p.1.key.uuid ≡ Some p.0 → number_led_to uuids u ≡ Some n → (n == p.0) ≡ false → bytes_eq u p.1.key.uuid ≡ false
  other_uuid u n p own e f = one (bytes_eq u p.1.key.uuid) refl
    where
      one : (b : Bool) → bytes_eq u p.1.key.uuid ≡ b → bytes_eq u p.1.key.uuid ≡ false
      one true t = let same : n ≡ p.0 = has_number u n p own e t in absurd (eqb-false n p.0 f same)
      one false t = t

  -- What a UUID finds is what its number finds, where that has the UUID.
  finds_its : (u : List ℕ) (n : ℕ) (es : List (ℕ × Entry V)) → AreNumbered uuids next es → number_led_to uuids u ≡ Some n → lookup (bytes_eq u) (under_uuids es) ≡ its u (lookup (λ k. n == k) es)
  finds_its u n [] l e = refl
  finds_its u n (p ∷ es) l e = one (n == p.0) refl (finds_its u n es l.3 e)
    where
      one : (b : Bool) → (n == p.0) ≡ b → lookup (bytes_eq u) (under_uuids es) ≡ its u (lookup (λ k. n == k) es)
          → cond (bytes_eq u p.1.key.uuid) (Some p.1) (lookup (bytes_eq u) (under_uuids es)) ≡ its u (cond b (Some p.1) (lookup (λ k. n == k) es))
      one true t more =
          let alone : lookup (λ k. n == k) es ≡ None = ap (λ (m : ℕ). lookup (λ k. m == k) es) (eqb-true n p.0 t) ∙ l.2 in
          ap (λ (r : Option (Entry V)). cond (bytes_eq u p.1.key.uuid) (Some p.1) r) (more ∙ ap (its u) alone) ∙ ap (λ (b : Bool). cond b (Some p.1) None) (turned u p.1.key.uuid)
      one false t more = ap (λ (b : Bool). cond b (Some p.1) (lookup (bytes_eq u) (under_uuids es))) (other_uuid u n p l.0 e t) ∙ more

  -- A UUID without a number finds nothing.
  pub without_number : (u : List ℕ) (es : List (ℕ × Entry V)) → AreNumbered uuids next es → numbered uuids es u ≡ None → lookup (bytes_eq u) (under_uuids es) ≡ None
  without_number u es l e = one (number_led_to uuids u) refl
    where
      two : (n : ℕ) → number_led_to uuids u ≡ Some n → (o : Option (Entry V)) → lookup (λ k. n == k) es ≡ o → lookup (bytes_eq u) (under_uuids es) ≡ None
      two n is None at = finds_its u n es l is ∙ ap (its u) at
      two n is (Some x) at = three (bytes_eq x.key.uuid u) refl
        where
          three : (b : Bool) → bytes_eq x.key.uuid u ≡ b → lookup (bytes_eq u) (under_uuids es) ≡ None
          three true t = absurd (some≢none n (sym (ap (λ (o : Option ℕ). if_led es u o) is ∙ ap (if_its u n) at ∙ ap (λ (b : Bool). cond b (Some n) None) t) ∙ e))
          three false t = finds_its u n es l is ∙ ap (its u) at ∙ ap (λ (b : Bool). cond b (Some x) None) t

      one : (o : Option ℕ) → number_led_to uuids u ≡ o → lookup (bytes_eq u) (under_uuids es) ≡ None
      one None is = finds_nothing u es l is
      one (Some n) is = two n is (lookup (λ k. n == k) es) refl

  -- What is known of a UUID's number.
  pub record HasNumber (u : List ℕ) (n : ℕ) (es : List (ℕ × Entry V)) : Type 0 where
    pub led : number_led_to uuids u ≡ Some n
    pub entry : Entry V
    pub at : lookup (λ k. n == k) es ≡ Some entry
    pub has : bytes_eq entry.key.uuid u ≡ true

  pub number_known : (u : List ℕ) (n : ℕ) (es : List (ℕ × Entry V)) → numbered uuids es u ≡ Some n → HasNumber u n es
  number_known u n es e = one (number_led_to uuids u) refl
    where
      two : (m : ℕ) → number_led_to uuids u ≡ Some m → (o : Option (Entry V)) → lookup (λ k. m == k) es ≡ o → HasNumber u n es
      two m is None at = absurd (some≢none n (sym e ∙ ap (λ (o : Option ℕ). if_led es u o) is ∙ ap (if_its u m) at))
      two m is (Some x) at = three (bytes_eq x.key.uuid u) refl
        where
          three : (b : Bool) → bytes_eq x.key.uuid u ≡ b → HasNumber u n es
          three true t =
              let same : m ≡ n = some_number m n (sym (ap (λ (o : Option ℕ). if_led es u o) is ∙ ap (if_its u m) at ∙ ap (λ (b : Bool). cond b (Some m) None) t) ∙ e) in
              record { led = is ∙ ap Some same; entry = x; at = ap (λ (k : ℕ). lookup (λ j. k == j) es) (sym same) ∙ at; has = t }
          three false t = absurd (some≢none n (sym e ∙ ap (λ (o : Option ℕ). if_led es u o) is ∙ ap (if_its u m) at ∙ ap (λ (b : Bool). cond b (Some m) None) t))

      one : (o : Option ℕ) → number_led_to uuids u ≡ o → HasNumber u n es
      one None is = absurd (some≢none n (sym e ∙ ap (λ (o : Option ℕ). if_led es u o) is))
      one (Some m) is = two m is (lookup (λ k. m == k) es) refl

  -- What a UUID finds is what its number finds.
  pub through_number : (u : List ℕ) (n : ℕ) (es : List (ℕ × Entry V)) → AreNumbered uuids next es → numbered uuids es u ≡ Some n → lookup (bytes_eq u) (under_uuids es) ≡ lookup (λ k. n == k) es
  through_number u n es l e =
      let known : HasNumber u n es = number_known u n es e in
      finds_its u n es l known.led ∙ ap (its u) known.at ∙ ap (λ (b : Bool). cond b (Some known.entry) None) known.has ∙ sym known.at

  goes_there : (u : List ℕ) (n : ℕ) (es : List (ℕ × Entry V)) (e : Entry V) → AreNumbered uuids next es → number_led_to uuids u ≡ Some n → lookup (λ k. n == k) es ≡ Some e → bytes_eq e.key.uuid u ≡ true
      → under_uuids (remove_entry (λ k. n == k) es) ≡ remove_entry (bytes_eq u) (under_uuids es)
  goes_there u n [] e l led at has = refl
  goes_there u n (p ∷ es) e l led at has = one (n == p.0) refl at (goes_there u n es e l.3 led)
    where
      one : (b : Bool) → (n == p.0) ≡ b → cond b (Some p.1) (lookup (λ k. n == k) es) ≡ Some e
          → (lookup (λ k. n == k) es ≡ Some e → bytes_eq e.key.uuid u ≡ true → under_uuids (remove_entry (λ k. n == k) es) ≡ remove_entry (bytes_eq u) (under_uuids es))
          → under_uuids (cond b es (p ∷ remove_entry (λ k. n == k) es)) ≡ cond (bytes_eq u p.1.key.uuid) (under_uuids es) ((p.1.key.uuid, p.1) ∷ remove_entry (bytes_eq u) (under_uuids es))
      one true t at more =
          let same : p.1 ≡ e = cc in
          let here : bytes_eq u p.1.key.uuid ≡ true = turned u p.1.key.uuid ∙ ap (λ (x : Entry V). bytes_eq x.key.uuid u) same ∙ has in
          sym (ap (λ (b : Bool). cond b (under_uuids es) ((p.1.key.uuid, p.1) ∷ remove_entry (bytes_eq u) (under_uuids es))) here)
      one false t at more =
          ap (λ (r : List (List ℕ × Entry V)). (p.1.key.uuid, p.1) ∷ r) (more at has)
          ∙ sym (ap (λ (b : Bool). cond b (under_uuids es) ((p.1.key.uuid, p.1) ∷ remove_entry (bytes_eq u) (under_uuids es))) (other_uuid u n p l.0 led t))

  -- The entry of a number goes where that of the UUID does.
  pub gone_under : (u : List ℕ) (n : ℕ) (es : List (ℕ × Entry V)) → AreNumbered uuids next es → numbered uuids es u ≡ Some n → under_uuids (remove_entry (λ k. n == k) es) ≡ remove_entry (bytes_eq u) (under_uuids es)
  gone_under u n es l e = let known : HasNumber u n es = number_known u n es e in goes_there u n es known.entry l known.led known.at known.has

  takes_there : (u : List ℕ) (n : ℕ) (w : Entry V) (es : List (ℕ × Entry V)) (e : Entry V) → AreNumbered uuids next es → number_led_to uuids u ≡ Some n → lookup (λ k. n == k) es ≡ Some e → bytes_eq e.key.uuid u ≡ true → w.key.uuid ≡ e.key.uuid
      → (under_uuids (set_value (λ k. n == k) es w) ≡ set_value (bytes_eq u) (under_uuids es) w) × AreNumbered uuids next (set_value (λ k. n == k) es w)
  takes_there u n w [] e l led at has keeps = (refl, tt)
  takes_there u n w (p ∷ es) e l led at has keeps = one (n == p.0) refl at (λ at. takes_there u n w es e l.3 led at has keeps)
    where
      new : List (ℕ × Entry V)
      new = set_value (λ k. n == k) es w

      one : (b : Bool) → (n == p.0) ≡ b → cond b (Some p.1) (lookup (λ k. n == k) es) ≡ Some e
          → (lookup (λ k. n == k) es ≡ Some e → (under_uuids new ≡ set_value (bytes_eq u) (under_uuids es) w) × AreNumbered uuids next new)
          → (under_uuids (cond b ((p.0, w) ∷ es) (p ∷ new)) ≡ cond (bytes_eq u p.1.key.uuid) ((p.1.key.uuid, w) ∷ under_uuids es) ((p.1.key.uuid, p.1) ∷ set_value (bytes_eq u) (under_uuids es) w))
          × AreNumbered uuids next (cond b ((p.0, w) ∷ es) (p ∷ new))
      one true t at more =
          let same : p.1 ≡ e = cc in
          let here : bytes_eq u p.1.key.uuid ≡ true = turned u p.1.key.uuid ∙ ap (λ (x : Entry V). bytes_eq x.key.uuid u) same ∙ has in
          let kept : w.key.uuid ≡ p.1.key.uuid = keeps ∙ ap (λ (x : Entry V). x.key.uuid) (sym same) in (
            ap (λ (x : List ℕ). (x, w) ∷ under_uuids es) kept
                ∙ sym (ap (λ (b : Bool). cond b ((p.1.key.uuid, w) ∷ under_uuids es) ((p.1.key.uuid, p.1) ∷ set_value (bytes_eq u) (under_uuids es) w)) here),
            (ap (number_led_to uuids) kept ∙ l.0, l.1, l.2, l.3),
          )
      one false t at more =
          let m = more at in (
            ap (λ (r : List (List ℕ × Entry V)). (p.1.key.uuid, p.1) ∷ r) m.0
                ∙ sym (ap (λ (b : Bool). cond b ((p.1.key.uuid, w) ∷ under_uuids es) ((p.1.key.uuid, p.1) ∷ set_value (bytes_eq u) (under_uuids es) w)) (other_uuid u n p l.0 led t)),
            (l.0, l.1, none_set p.0 n w es l.2, m.1),
          )

  -- The entry of a number takes its value where that of the UUID does, and the numbers stay.
  pub value_under : (u : List ℕ) (n : ℕ) (w e : Entry V) (es : List (ℕ × Entry V)) → AreNumbered uuids next es → numbered uuids es u ≡ Some n → lookup (λ k. n == k) es ≡ Some e → w.key.uuid ≡ e.key.uuid
      → (under_uuids (set_value (λ k. n == k) es w) ≡ set_value (bytes_eq u) (under_uuids es) w) × AreNumbered uuids next (set_value (λ k. n == k) es w)
  value_under u n w e es l is at keeps =
      let known : HasNumber u n es = number_known u n es is in
      let same : e ≡ known.entry = some_entry e known.entry (sym at ∙ known.at) in
      takes_there u n w es known.entry l known.led known.at known.has (keeps ∙ ap (λ (x : Entry V). x.key.uuid) same)
    where
      some_entry : (a b : Entry V) → Some a ≡ Some b → a ≡ b
      some_entry a b e = cc

  -- Where an entry went, the others have their numbers.
  pub numbers_left : (n : ℕ) (es : List (ℕ × Entry V)) → AreNumbered uuids next es → AreNumbered uuids next (remove_entry (λ k. n == k) es)
  numbers_left n [] l = tt
  numbers_left n (p ∷ es) l = one (n == p.0) (numbers_left n es l.3)
    where
      one : (b : Bool) → AreNumbered uuids next (remove_entry (λ k. n == k) es) → AreNumbered uuids next (cond b es (p ∷ remove_entry (λ k. n == k) es))
      one true more = l.3
      one false more = (l.0, l.1, none_less p.0 n es l.2, more)

  -- Another index, in which only a UUID that no entry has leads elsewhere.
  pub numbers_kept : (uuids' : List (List ℕ × ℕ)) (gone : List ℕ) → ((u : List ℕ) → bytes_eq u gone ≡ false → number_led_to uuids' u ≡ number_led_to uuids u)
      → (es : List (ℕ × Entry V)) → has_uuid gone (listed es) ≡ false → AreNumbered uuids next es → AreNumbered uuids' next es
  numbers_kept uuids' gone same [] f l = tt
  numbers_kept uuids' gone same (p ∷ es) f l =
      let other : bytes_eq p.1.key.uuid gone ≡ false = or_false_left (bytes_eq p.1.key.uuid gone) (has_uuid gone (listed es)) f in
      (same p.1.key.uuid other ∙ l.0, l.1, l.2, numbers_kept uuids' gone same es (or_false_right (bytes_eq p.1.key.uuid gone) (has_uuid gone (listed es)) f) l.3)

  -- An entry more, under the next number.
  pub numbers_more : (e : Entry V) (es : List (ℕ × Entry V)) → AreNumbered uuids next es → number_led_to uuids e.key.uuid ≡ Some next → AreNumbered uuids (next + 1) (es ++ (next, e) ∷ [])
  numbers_more e [] l led = (led, below next, refl, tt)
    where
      below : (n : ℕ) → n < n + 1
      below n = omega arith
  numbers_more e (p ∷ es) l led = (l.0, further p.0 next l.1, none_more p.0 next e es l.2 (ne_eqb p.0 next (apart p.0 next l.1)), numbers_more e es l.3 led)
    where
      further : (m n : ℕ) → m < n → m < n + 1
      further m n f = omega arith

      apart : (m n : ℕ) → m < n → m ≡ n → ⊥
      apart m n f e = omega arith
