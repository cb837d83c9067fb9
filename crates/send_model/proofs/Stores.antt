-- What a store finds once a part is complete.
use Rattle.std.specs.Prelude.{◌≡◌, ◌⊎◌, ℕ, Bool, true, false, ◌&&◌, ◌||◌, List, [], ◌∷◌, ◌++◌, Option, None, Some, ◌==◌, if◌then◌else◌}
use Rattle.std.proofs.Common.{refl, sym, ap, ◌∙◌, eqb-true, eq-eqb, inl, inr}
use Rattle.std.specs.Str.{bytes_eq}
use Rattle.std.proofs.lemmas.Slice.Eq.{bytes_eq-Decides}
use Rattle.std.proofs.lemmas.Bool.{false≢true, true≢false}
use Rattle.send_model.specs.Store.{Key, same_key, Head, Entry, Store, has_uuid, find, with_contents, unfinished}
use Rattle.send_model.specs.Subvolume.{Subvolume}
use Rattle.send_model.proofs.Sorts.{same_inside}

pub bytes_eq_same : (xs : List ℕ) → bytes_eq xs xs ≡ true
bytes_eq_same xs = (bytes_eq-Decides xs xs).1 refl

pub bytes_eq_true : (xs ys : List ℕ) → bytes_eq xs ys ≡ true → xs ≡ ys
bytes_eq_true xs ys e = (bytes_eq-Decides xs ys).0 e

pub same_key_same : (key : Key) → same_key key key ≡ true
same_key_same key = rw (bytes_eq_same key.uuid, eq-eqb key.ctransid key.ctransid refl) refl

and_parts : (a b : Bool) → a && b ≡ true → (a ≡ true) × (b ≡ true)
and_parts true b e = (refl, e)
and_parts false b e = absurd (false≢true e)

pub or_parts : (a b : Bool) → a || b ≡ false → (a ≡ false) × (b ≡ false)
or_parts true b e = absurd (true≢false e)
or_parts false b e = (refl, e)

pub same_key_true : (a b : Key) → same_key a b ≡ true → a ≡ b
same_key_true a b e = let p = and_parts (bytes_eq a.uuid b.uuid) (a.ctransid == b.ctransid) e in
    λ i. record { uuid = bytes_eq_true a.uuid b.uuid p.0 i; ctransid = eqb-true a.ctransid b.ctransid p.1 i }

-- The key of the first entry with a uuid.
abbrev pub key_with : {C : Type 0} → List ℕ → Store C → Option Key
key_with uuid [] = None
key_with uuid (e ∷ store) = if bytes_eq e.key.uuid uuid then Some e.key else key_with uuid store

module _ {C : Type 0} where
  -- A part's entry gets its contents, and then its key finds them.
  found_here : (key : Key) (s : Subvolume C) (e : Entry (Subvolume C)) (store : Store C) (b : Bool) → bytes_eq e.key.uuid key.uuid ≡ b
      → (if b then Some e.key else key_with key.uuid store) ≡ Some key
      → (key_with key.uuid store ≡ Some key → find (with_contents key.uuid s store) key ≡ Some s)
      → find (if b then record e { contents = Some s } ∷ store else e ∷ with_contents key.uuid s store) key ≡ Some s
  unfolding find with_contents
  found_here key s e store true h k others = let t : same_key e.key key ≡ true = ap (λ x. same_key x key) (same_inside k) ∙ same_key_same key in rw t refl
  found_here key s e store false h k others = rw h (others k)

  pub finds_contents : (key : Key) (s : Subvolume C) (store : Store C) → key_with key.uuid store ≡ Some key → find (with_contents key.uuid s store) key ≡ Some s
  unfolding find with_contents
  finds_contents key s [] k = cc
  finds_contents key s (e ∷ store) k = found_here key s e store (bytes_eq e.key.uuid key.uuid) refl k (finds_contents key s store)

  -- A new entry is the first with its uuid, where no other has it.
  pub key_of_new : (head : Head) (store : Store C) → has_uuid head.key.uuid store ≡ false → key_with head.key.uuid (store ++ unfinished head ∷ []) ≡ Some head.key
  key_of_new head [] h = rw (bytes_eq_same head.key.uuid) refl
  key_of_new head (e ∷ store) h = let p = or_parts (bytes_eq e.key.uuid head.key.uuid) (has_uuid head.key.uuid store) h in rw p.0 (key_of_new head store p.1)

  -- Completing a part leaves the entries before its own.
  pub completes_new : (head : Head) (s : Subvolume C) (store : Store C) → has_uuid head.key.uuid store ≡ false
      → with_contents head.key.uuid s (store ++ unfinished head ∷ []) ≡ store ++ record { name = head.name; key = head.key; parent = head.parent; contents = Some s } ∷ []
  unfolding with_contents
  completes_new head s [] h = rw (bytes_eq_same head.key.uuid) refl
  completes_new head s (e ∷ store) h = let p = or_parts (bytes_eq e.key.uuid head.key.uuid) (has_uuid head.key.uuid store) h in rw p.0 (ap (λ (r : Store C). e ∷ r) (completes_new head s store p.1))

  -- ---- what is found under any key

  replaced : (b c : Bool) (s : Subvolume C) (here : Option (Subvolume C)) (rest rest' : Option (Subvolume C)) (t : Subvolume C)
      → (rest' ≡ Some t → (t ≡ s) ⊎ (rest ≡ Some t)) → (if c then (if b then Some s else rest) else (if b then (elim here as (λ x. Option (Subvolume C)) [ None ↦ rest' | Some x ↦ Some x ]) else rest')) ≡ Some t
      → (t ≡ s) ⊎ ((if b then (elim here as (λ x. Option (Subvolume C)) [ None ↦ rest | Some x ↦ Some x ]) else rest) ≡ Some t)
  replaced true true s here rest rest' t more e = inl (sym (same_inside e))
  replaced false true s here rest rest' t more e = inr e
  replaced true false s None rest rest' t more e = more e
  replaced true false s (Some x) rest rest' t more e = inr e
  replaced false false s here rest rest' t more e = more e

  -- After a part is complete, a key finds the part's subvolume, or what it found before.
  pub finds_one_of : (uuid : List ℕ) (s : Subvolume C) (store : Store C) (key : Key) (t : Subvolume C) → find (with_contents uuid s store) key ≡ Some t → (t ≡ s) ⊎ (find store key ≡ Some t)
  unfolding find with_contents
  finds_one_of uuid s [] key t e = cc
  finds_one_of uuid s (entry ∷ store) key t e = one (bytes_eq entry.key.uuid uuid) e (finds_one_of uuid s store key t)
    where
      one : (c : Bool) → find (if c then record entry { contents = Some s } ∷ store else entry ∷ with_contents uuid s store) key ≡ Some t
          → (find (with_contents uuid s store) key ≡ Some t → (t ≡ s) ⊎ (find store key ≡ Some t)) → (t ≡ s) ⊎ (find (entry ∷ store) key ≡ Some t)
      one true e more = replaced (same_key entry.key key) true s entry.contents (find store key) (find store key) t (λ x. inr x) e
      one false e more = replaced (same_key entry.key key) false s entry.contents (find store key) (find (with_contents uuid s store) key) t more e

  -- A key with another uuid finds what it found before.
  pub finds_other : (uuid : List ℕ) (s : Subvolume C) (store : Store C) (key : Key) → (key.uuid ≡ uuid → ⊥) → find (with_contents uuid s store) key ≡ find store key
  unfolding find with_contents
  finds_other uuid s [] key n = refl
  finds_other uuid s (entry ∷ store) key n = one (bytes_eq entry.key.uuid uuid) refl (same_key entry.key key) refl (finds_other uuid s store key n)
    where
      one : (c : Bool) → bytes_eq entry.key.uuid uuid ≡ c → (b : Bool) → same_key entry.key key ≡ b → find (with_contents uuid s store) key ≡ find store key
          → find (if c then record entry { contents = Some s } ∷ store else entry ∷ with_contents uuid s store) key ≡ find (entry ∷ store) key
      one true e true k more = absurd (n (ap (λ (q : Key). q.uuid) (sym (same_key_true entry.key key k)) ∙ bytes_eq_true entry.key.uuid uuid e))
      one true e false k more = rw k refl
      one false e b k more = ap (λ (rest : Option (Subvolume C)). if same_key entry.key key then (elim entry.contents as (λ x. Option (Subvolume C)) [ None ↦ rest | Some x ↦ Some x ]) else rest) more

  -- An unfinished entry is not found.
  pub finds_unfinished : (head : Head) (store : Store C) (key : Key) → find (store ++ unfinished head ∷ []) key ≡ find store key
  unfolding find
  finds_unfinished head [] key = one (same_key head.key key)
    where
      one : (b : Bool) → ◌≡◌ {A = Option (Subvolume C)} (if b then None else None) None
      one true = refl
      one false = refl
  finds_unfinished head (entry ∷ store) key = ap (λ (rest : Option (Subvolume C)). if same_key entry.key key then (elim entry.contents as (λ x. Option (Subvolume C)) [ None ↦ rest | Some x ↦ Some x ]) else rest) (finds_unfinished head store key)
