-- Rows that are ordered by the bytes of their keys, as those of names and of UUIDs: what they find
-- once a row was put in or taken out.
use Rattle.std.proofs.Common.{◌≡◌, ℕ, Bool, true, false, cond, List, [], ◌∷◌, Some, None, Option, refl, sym, ap, ◌∙◌}
use Rattle.std.proofs.lemmas.Map.Text.{is_eq-slice_cmp}
use Rattle.std.specs.declared.cmp.Ordering.{Ordering}
use Rattle.std.specs.declared.cmp.Ordering.TheVariants.{Less, Equal, Greater}
use Rattle.std.specs.Ordering.{nat_cmp, is_eq, match_ordering}
use Rattle.std.specs.Cmp.Lexicographic.{slice_cmp, bytes_decides}
use Rattle.std.specs.Str.{bytes_eq}
use Rattle.std.specs.BTreeMap.{insert_entry}
use Rattle.std.specs.Map.{remove_entry}
use Rattle.subvol_catalog.specs.Indexes.{led_by}

-- A value where two keys compare equal, else what other rows give.
abbrev tested : {X : Type 0} → Ordering → X → Option X → Option X
tested o v rest = cond (is_eq o) (Some v) rest

itself : (sought : List ℕ) → is_eq (slice_cmp nat_cmp sought sought) ≡ true
itself sought = is_eq-slice_cmp sought sought ∙ (bytes_decides sought sought).1 refl

module _ {K : Type 0} (bytes : K → List ℕ) where
  -- Keys by their bytes.
  abbrev pub by_bytes : K → K → Ordering
  by_bytes a b = slice_cmp nat_cmp (bytes a) (bytes b)

  -- Whether a key has the bytes.
  abbrev pub at : List ℕ → K → Bool
  at sought k = is_eq (slice_cmp nat_cmp sought (bytes k))

module _ {K X : Type 0} (bytes : K → List ℕ) where
  -- What bytes lead to.
  abbrev leads : List (K × X) → List ℕ → Option X
  leads es sought = led_by bytes es sought

  -- What was put is found.
  pub put_found : (k : K) (v : X) (es : List (K × X)) → leads (insert_entry (by_bytes bytes) es k v) (bytes k) ≡ Some v
  put_found k v [] = ap (λ (b : Bool). cond b (Some v) None) (itself (bytes k))
  put_found k v (e ∷ es) = one (by_bytes bytes k e.0) refl (put_found k v es)
    where
      one : (o : Ordering) → by_bytes bytes k e.0 ≡ o → leads (insert_entry (by_bytes bytes) es k v) (bytes k) ≡ Some v
          → leads (match_ordering o ((k, v) ∷ e ∷ es) ((e.0, v) ∷ es) (e ∷ insert_entry (by_bytes bytes) es k v)) (bytes k) ≡ Some v
      one Less o more = ap (λ (b : Bool). cond b (Some v) (leads (e ∷ es) (bytes k))) (itself (bytes k))
      one Equal o more = ap (λ (r : Ordering). tested r v (leads es (bytes k))) o
      one Greater o more = ap (λ (r : Ordering). tested r e.1 (leads (insert_entry (by_bytes bytes) es k v) (bytes k))) o ∙ more

  -- Others find what they found.
  pub put_apart : (k : K) (v : X) (es : List (K × X)) (sought : List ℕ) → bytes_eq sought (bytes k) ≡ false → leads (insert_entry (by_bytes bytes) es k v) sought ≡ leads es sought
  put_apart k v [] sought f = ap (λ (b : Bool). cond b (Some v) None) (is_eq-slice_cmp sought (bytes k) ∙ f)
  put_apart k v (e ∷ es) sought f = one (by_bytes bytes k e.0) refl (put_apart k v es sought f)
    where
      one : (o : Ordering) → by_bytes bytes k e.0 ≡ o → leads (insert_entry (by_bytes bytes) es k v) sought ≡ leads es sought
          → leads (match_ordering o ((k, v) ∷ e ∷ es) ((e.0, v) ∷ es) (e ∷ insert_entry (by_bytes bytes) es k v)) sought ≡ leads (e ∷ es) sought
      one Less o more = ap (λ (b : Bool). cond b (Some v) (leads (e ∷ es) sought)) (is_eq-slice_cmp sought (bytes k) ∙ f)
      one Equal o more =
          let same : bytes k ≡ bytes e.0 = (bytes_decides (bytes k) (bytes e.0)).0 (sym (is_eq-slice_cmp (bytes k) (bytes e.0)) ∙ ap is_eq o) in
          let other : is_eq (slice_cmp nat_cmp sought (bytes e.0)) ≡ false = ap (λ (x : List ℕ). is_eq (slice_cmp nat_cmp sought x)) (sym same) ∙ is_eq-slice_cmp sought (bytes k) ∙ f in
          ap (λ (b : Bool). cond b (Some v) (leads es sought)) other ∙ sym (ap (λ (b : Bool). cond b (Some e.1) (leads es sought)) other)
      one Greater o more = ap (λ (r : Option X). tested (slice_cmp nat_cmp sought (bytes e.0)) e.1 r) more

  -- Where a row was taken out, others find what they found.
  pub taken_apart : (gone : List ℕ) (es : List (K × X)) (sought : List ℕ) → bytes_eq sought gone ≡ false → leads (remove_entry (at bytes gone) es) sought ≡ leads es sought
  taken_apart gone [] sought f = refl
  taken_apart gone (e ∷ es) sought f = one (at bytes gone e.0) refl (taken_apart gone es sought f)
    where
      one : (b : Bool) → at bytes gone e.0 ≡ b → leads (remove_entry (at bytes gone) es) sought ≡ leads es sought → leads (cond b es (e ∷ remove_entry (at bytes gone) es)) sought ≡ leads (e ∷ es) sought
      one true t more =
          let same : gone ≡ bytes e.0 = (bytes_decides gone (bytes e.0)).0 (sym (is_eq-slice_cmp gone (bytes e.0)) ∙ t) in
          let other : at bytes sought e.0 ≡ false = ap (λ (x : List ℕ). is_eq (slice_cmp nat_cmp sought x)) (sym same) ∙ is_eq-slice_cmp sought gone ∙ f in
          sym (ap (λ (b : Bool). cond b (Some e.1) (leads es sought)) other)
      one false t more = ap (λ (r : Option X). cond (at bytes sought e.0) (Some e.1) r) more
