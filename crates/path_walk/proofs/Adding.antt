-- The paths of the entries of a directory, added name by name.
use Rattle.std.specs.Prelude.{◌≡◌, ◌≢◌, ◌⊎◌, ℕ, ◌<◌, ◌≤◌, List, [], ◌∷◌, length, Option, None, Some, Ok}
use Rattle.std.specs.declared.cmp.Ordering.{Ordering}
use Rattle.std.specs.declared.cmp.Ordering.TheVariants.{Less, Equal, Greater}
use Rattle.std.specs.Ordering.{nat_cmp, ordering_then, ordering_reverse}
use Rattle.std.specs.Cmp.{tied_itself, nat_cmp_total}
use Rattle.std.specs.Cmp.Lexicographic.{nat_list_cmp_total}
use Rattle.std.proofs.Common.{refl, sym, ap, subst, ◌∙◌, arith, inl, inr}
use Rattle.std.proofs.lemmas.Map.Lookups.{exact_bytes, exact_unsigned}
use Rattle.send_model.specs.Path.{longest_path}
use Rattle.send_model.specs.Map.{Map, bytes_cmp, named_cmp, value_at, with_value}
use Rattle.send_model.specs.Subvolume.{Subvolume, IsLawful, walk, named, path_below}
use Rattle.shared_map.specs.Sought.{entries_above, entry_after}
use Rattle.send_model.proofs.Fuel.{ok_same}
use Rattle.send_model.proofs.Sorts.{same_inside}
use Rattle.send_model.proofs.MapLaws.{named_cmp_total, named_cmp_exact, cases_key, with_value-order, with_value-here, with_value-other}
use Rattle.send_model.proofs.PathLaws.{is_name_length}
use Rattle.path_index.proofs.Above.{after_next}
use Rattle.path_index.proofs.Indexing.{first_gives}
use Rattle.path_walk.specs.Ahead.{IsEntry, Grows, HasEntries}
use Rattle.path_walk.proofs.Least.{IsLeastAbove, least_above, none_above}
use Rattle.path_walk.proofs.Below.{lawful_name, entry_walks}

abbrev Key : Type 0
Key = ℕ × List ℕ

-- A name of the same directory.
same_directory : (d : ℕ) (a b : List ℕ) (r : Ordering) → bytes_cmp a b ≡ r → named_cmp (d, a) (d, b) ≡ r
same_directory d a b r e = ap (λ (x : Ordering). ordering_then x (bytes_cmp a b)) (tied_itself nat_cmp_total d) ∙ e

-- What is between two names of a directory is in it.
between_in : (d e : ℕ) (last name other : List ℕ) → named_cmp (d, last) (e, other) ≡ Less → (named_cmp (e, other) (d, name) ≡ Less) ⊎ (◌≡◌ {A = Key} (e, other) (d, name)) → e ≡ d
between_in d e last name other low (inr same) = ap (λ (k : Key). k.0) same
between_in d e last name other low (inl high) = one (nat_cmp d e) refl (nat_cmp e d) refl low high
  where
    one : (r : Ordering) → nat_cmp d e ≡ r → (q : Ordering) → nat_cmp e d ≡ q → ordering_then r (bytes_cmp last other) ≡ Less → ordering_then q (bytes_cmp other name) ≡ Less → e ≡ d
    one Equal r q p l h = sym (exact_unsigned d e r)
    one Less r Equal p l h = exact_unsigned e d p
    one Less r Less p l h = let back : nat_cmp e d ≡ Greater = nat_cmp_total.antisymm e d ∙ ap ordering_reverse r in cc (back, p)
    one Less r Greater p l h = cc
    one Greater r q p l h = cc

-- All entries of a directory up to a name are there.
abbrev pub HasUpTo : {C : Type 0} → Subvolume C → List ℕ → ℕ → List ℕ → Map (List ℕ) ℕ → Type 0
HasUpTo s front d last m = (name : List ℕ) (ino : ℕ) → named s d name ≡ Some ino → (bytes_cmp last name ≡ Less → ⊥) → length (path_below front name) ≤ longest_path
    → value_at bytes_cmp (path_below front name) m ≡ Some ino

module _ {C : Type 0} (s : Subvolume C) (lawful : IsLawful s) (front : List ℕ) (d : ℕ) (w : walk s front ≡ Ok d) where
  pub nothing_added : (m : Map (List ℕ) ℕ) → Grows s front d m m
  nothing_added m = record { ordered = λ h. h; kept = λ p i v h. h; only = λ p i h. inl h }

  -- One entry's path more.
  pub one_more : (old new : Map (List ℕ) ℕ) (name : List ℕ) (ino : ℕ) → Grows s front d old new → named s d name ≡ Some ino → length (path_below front name) ≤ longest_path
      → Grows s front d old (with_value bytes_cmp (path_below front name) ino new)
  one_more old new name ino g there short = record {
    ordered = λ h. with_value-order bytes_cmp nat_list_cmp_total exact_bytes path ino new (g.ordered h);
    kept = λ p i v h. elim (cases_key bytes_cmp nat_list_cmp_total exact_bytes p path) [
      | inl same ↦
          let is : ino ≡ i = ok_same (sym (entry_walks s lawful front d path ino w e).0 ∙ ap (walk s) (sym same) ∙ v) in
          ap (λ (q : List ℕ). value_at bytes_cmp q (with_value bytes_cmp path ino new)) same ∙ with_value-here bytes_cmp nat_list_cmp_total exact_bytes path ino new ∙ (let some : ℕ → Option ℕ = λ n. Some n in ap some is)
      | inr other ↦ with_value-other bytes_cmp nat_list_cmp_total exact_bytes p path ino new other ∙ g.kept p i v h
    ];
    only = λ p i h. elim (cases_key bytes_cmp nat_list_cmp_total exact_bytes p path) [
      | inl same ↦
          let is : ino ≡ i = same_inside (sym (ap (λ (q : List ℕ). value_at bytes_cmp q (with_value bytes_cmp path ino new)) same ∙ with_value-here bytes_cmp nat_list_cmp_total exact_bytes path ino new) ∙ h) in
          inr (subst (λ (k : ℕ). IsEntry s front d p k) is (subst (λ (q : List ℕ). IsEntry s front d q ino) (sym same) e))
      | inr other ↦ g.only p i (sym (with_value-other bytes_cmp nat_list_cmp_total exact_bytes p path ino new other) ∙ h)
    ];
  }
    where
      path : List ℕ
      path = path_below front name

      e : IsEntry s front d (path_below front name) ino
      e = record { name = name; path_is = refl; there = there; short = short }

  pub none_up_to : (m : Map (List ℕ) ℕ) → HasUpTo s front d [] m
  none_up_to m name ino there low short = absurd (one name (is_name_length name (lawful_name s lawful d name ino there)).0 low)
    where
      one : (n : List ℕ) → 1 ≤ length n → (bytes_cmp [] n ≡ Less → ⊥) → ⊥
      one [] some low = absurd (omega (arith, some))
      one (b ∷ n) some low = low refl

  module _ (last : List ℕ) (next : ℕ) (name : List ℕ) (ino : ℕ) (is : entry_after named_cmp (d, last) s.names ≡ Some ((next, name), ino)) where
    l : IsLeastAbove named_cmp named_cmp_total (d, last) s.names ((next, name), ino)
    l = least_above named_cmp named_cmp_total (d, last) s.names ((next, name), ino) lawful.sound.names_in_order is

    pub name_there : next ≡ d → named s d name ≡ Some ino
    name_there at = ap (λ (k : ℕ). value_at named_cmp (k, name) s.names) (sym at) ∙ l.there

    -- The names of the directory that are not after the next one are not after the last, or it.
    upto : next ≡ d → (other : List ℕ) (i : ℕ) → named s d other ≡ Some i → (bytes_cmp name other ≡ Less → ⊥) → (bytes_cmp last other ≡ Less → ⊥) ⊎ (other ≡ name)
    upto at other i there low = one (bytes_cmp last other) refl (bytes_cmp other name) refl
      where
        one : (r : Ordering) → bytes_cmp last other ≡ r → (q : Ordering) → bytes_cmp other name ≡ q → (bytes_cmp last other ≡ Less → ⊥) ⊎ (other ≡ name)
        one Equal r q p = inl (λ less. cc (r, less))
        one Greater r q p = inl (λ less. cc (r, less))
        one Less r Equal p = inr (exact_bytes other name p)
        one Less r Less p = absurd (l.least (d, other) i there (same_directory d last other Less r) (ap (λ (k : ℕ). named_cmp (d, other) (k, name)) at ∙ same_directory d other name Less p))
        one Less r Greater p = absurd (low (nat_list_cmp_total.antisymm name other ∙ ap ordering_reverse p))

    pub next_up_to : next ≡ d → (m new : Map (List ℕ) ℕ) → HasUpTo s front d last m → ((p : List ℕ) (i : ℕ) → walk s p ≡ Ok i → value_at bytes_cmp p m ≡ Some i → value_at bytes_cmp p new ≡ Some i)
        → (length (path_below front name) ≤ longest_path → value_at bytes_cmp (path_below front name) new ≡ Some ino) → HasUpTo s front d name new
    next_up_to at m new has kept own other i there low short = elim (upto at other i there low) [
      | inl passed ↦
          let e : IsEntry s front d (path_below front other) i = record { name = other; path_is = refl; there = there; short = short } in
          kept (path_below front other) i (entry_walks s lawful front d (path_below front other) i w e).0 (has other i there passed short)
      | inr same ↦
          let i_is : ino ≡ i = same_inside (sym (name_there at) ∙ ap (named s d) (sym same) ∙ there) in
          ap (λ (n : List ℕ). value_at bytes_cmp (path_below front n) new) same ∙ own (subst (λ (n : List ℕ). length (path_below front n) ≤ longest_path) same short) ∙ (let some : ℕ → Option ℕ = λ n. Some n in ap some i_is)
    ]

    -- The next one's path is there too, or it is too long.
    pub added_grows : next ≡ d → (old m new : Map (List ℕ) ℕ) (path : List ℕ) → Grows s front d old m → (path ≡ path_below front name) × (length path ≤ longest_path) → new ≡ with_value bytes_cmp path ino m → Grows s front d old new
    added_grows at old m new path g p e =
        subst (λ (k : Map (List ℕ) ℕ). Grows s front d old k) (sym (e ∙ ap (λ (q : List ℕ). with_value bytes_cmp q ino m) p.0))
        (one_more old m name ino g (name_there at) (subst (λ (q : List ℕ). length q ≤ longest_path) p.0 p.1))

    pub added_has : next ≡ d → (m new : Map (List ℕ) ℕ) (path : List ℕ) → HasUpTo s front d last m → (path ≡ path_below front name) × (length path ≤ longest_path) → new ≡ with_value bytes_cmp path ino m → HasUpTo s front d name new
    added_has at m new path has p e =
        let is : new ≡ with_value bytes_cmp (path_below front name) ino m = e ∙ ap (λ (q : List ℕ). with_value bytes_cmp q ino m) p.0 in
        let g : Grows s front d m new = added_grows at m m new path (nothing_added m) p e in
        next_up_to at m new has g.kept (λ short. ap (value_at bytes_cmp (path_below front name)) is ∙ with_value-here bytes_cmp nat_list_cmp_total exact_bytes (path_below front name) ino m)

    pub skipped_has : next ≡ d → (m : Map (List ℕ) ℕ) → HasUpTo s front d last m → longest_path < length (path_below front name) → HasUpTo s front d name m
    skipped_has at m has long = next_up_to at m m has (λ p i v h. h) (λ short. absurd (omega (arith, long, short)))

    fewer : length (entries_above named_cmp (next, name) s.names) < length (entries_above named_cmp (d, last) s.names)
    fewer =
        let f = first_gives (entries_above named_cmp (d, last) s.names) ((next, name), ino) is in
        let rest : entries_above named_cmp (next, name) s.names ≡ f.0 = after_next named_cmp named_cmp_total (d, last) s.names ((next, name), ino) f.0 lawful.sound.names_in_order f.1 in
        omega (arith, ap length rest, ap length f.1)

    pub fewer_left : next ≡ d → length (entries_above named_cmp (d, name) s.names) < length (entries_above named_cmp (d, last) s.names)
    fewer_left at = subst (λ (k : ℕ). length (entries_above named_cmp (k, name) s.names) < length (entries_above named_cmp (d, last) s.names)) at fewer

    -- Where the next name is another directory's, all of this one are there.
    pub all_up_to : next ≢ d → (m : Map (List ℕ) ℕ) → HasUpTo s front d last m → HasEntries s front d m
    all_up_to other m has p i e = subst (λ (q : List ℕ). value_at bytes_cmp q m ≡ Some i) (sym e.path_is)
        (has e.name i e.there (λ less. one less) (subst (λ (q : List ℕ). length q ≤ longest_path) e.path_is e.short))
      where
        one : bytes_cmp last e.name ≡ Less → ⊥
        one less = two (named_cmp (d, e.name) (next, name)) refl
          where
            two : (r : Ordering) → named_cmp (d, e.name) (next, name) ≡ r → ⊥
            two Less r = l.least (d, e.name) i e.there (same_directory d last e.name Less less) r
            two Equal r = other (sym (ap (λ (k : Key). k.0) (named_cmp_exact (d, e.name) (next, name) r)))
            two Greater r = other (between_in d next last e.name name l.above (inl (named_cmp_total.antisymm (next, name) (d, e.name) ∙ ap ordering_reverse r)))

  pub none_left_up_to : (last : List ℕ) → entry_after named_cmp (d, last) s.names ≡ None → (m : Map (List ℕ) ℕ) → HasUpTo s front d last m → HasEntries s front d m
  none_left_up_to last none m has p i e = subst (λ (q : List ℕ). value_at bytes_cmp q m ≡ Some i) (sym e.path_is)
      (has e.name i e.there (λ less. none_above named_cmp named_cmp_total (d, last) s.names none (d, e.name) i e.there (same_directory d last e.name Less less))
      (subst (λ (q : List ℕ). length q ≤ longest_path) e.path_is e.short))
