-- An inode that is made in the root under a free name and then renamed is one that is made where it
-- goes.
use Rattle.std.specs.Prelude.{◌≡◌, ◌≢◌, ℕ, ◌+◌, ◌<◌, ◌==◌, Bool, true, false, ◌&&◌, ◌||◌, List, [], ◌∷◌, ◌++◌, Option, None, Some, Result, Ok, IsTrue, is_some}
use Rattle.std.specs.Ordering.{nat_cmp}
use Rattle.std.specs.Cmp.{nat_cmp_total}
use Rattle.std.specs.List.{list_any}
use Rattle.std.specs.FinMap.Entries.{same_entries}
use Rattle.std.proofs.Common.{refl, sym, ap, subst, ◌∙◌, arith, inl, inr}
use Rattle.std.proofs.lemmas.Bool.{ne_eqb}
use Rattle.std.proofs.lemmas.Map.Lookups.{exact_unsigned}
use Rattle.send_model.specs.Refusal.{Refusal, IntoItself}
use Rattle.send_model.specs.Chain.{◌>>=◌, ◌>>◌, refuse_if}
use Rattle.send_model.specs.Path.{path_names}
use Rattle.send_model.specs.Map.{Map, IsMap, named_cmp, value_at, with_value, without}
use Rattle.send_model.specs.Subvolume.{Inode, Subvolume, IsSound, root, spot, named, is_directory, inode_at, inodes_on_way, walk_names, all_but_last}
use Rattle.send_model.specs.Edit.{add_inode, move_name, make, greatest_number, lies_below, rename_onto, rename}
use Rattle.send_model.proofs.MapLaws.{named_cmp_total, named_cmp_exact, cases_key, with_value-here, with_value-other, with_value-order, without-here, without-other, without-order}
use Rattle.send_model.proofs.Soundness.{directory_is_there, directory_by}
use Rattle.send_model.proofs.WalkLaws.{Leads, Step, walk_from_leads}
use Rattle.snapshot_model.proofs.SentWalks.{last_of, but_last_of}

abbrev Cell : Type 0
Cell = Option ℕ

abbrev Key : Type 0
Key = ℕ × List ℕ

abbrev SameKey : Key → Key → Type 0
SameKey a b = a ≡ b

-- A name that comes and goes.
back_again : (k : Key) (x : ℕ) (m : Map Key ℕ) → IsMap named_cmp m → value_at named_cmp k m ≡ None → without named_cmp k (with_value named_cmp k x m) ≡ m
back_again k x m h none =
    same_entries named_cmp named_cmp_total named_cmp_exact (without named_cmp k (with_value named_cmp k x m)) m
    (without-order named_cmp named_cmp_total named_cmp_exact k (with_value named_cmp k x m) (with_value-order named_cmp named_cmp_total named_cmp_exact k x m h)) h
    (λ q. elim (cases_key named_cmp named_cmp_total named_cmp_exact q k) [
      | inl e ↦ subst (λ (r : Key). value_at named_cmp r (without named_cmp k (with_value named_cmp k x m)) ≡ value_at named_cmp r m) (sym e) (without-here named_cmp named_cmp_total named_cmp_exact k (with_value named_cmp k x m) ∙ sym none)
      | inr n ↦ without-other named_cmp named_cmp_total named_cmp_exact q k (with_value named_cmp k x m) n ∙ with_value-other named_cmp named_cmp_total named_cmp_exact q k x m n
    ])

module _ (t : Subvolume Cell) (sound : IsSound t) (p : List ℕ) (front : List (List ℕ)) (name : List ℕ) (names_are : path_names p ≡ Some (front ++ name ∷ []))
    (d : ℕ) (leads : Leads (Step t) front root d) (there : IsTrue (is_directory t d)) (free : named t d name ≡ None)
    (way : List ℕ) (way_is : path_names way ≡ Some (way ∷ [])) (way_free : named t root way ≡ None) (other : SameKey (d, name) (root, way) → ⊥)
    (number : t.next ≢ greatest_number) (fresh : Inode Cell) where
  x : ℕ
  x = t.next

  not_there : (k : ℕ) → IsTrue (is_some (inode_at t k)) → k ≡ x → ⊥
  unfolding x
  not_there k is e = let less : k < t.next = sound.below_next k is in absurd (omega (arith, less, e))

  no_directory : (k : ℕ) → IsTrue (is_directory t k) → k ≡ x → ⊥
  no_directory k is = not_there k (directory_is_there t k is)

  -- Made in the root.
  first_there : Subvolume Cell
  first_there = add_inode (record { directory = root; name = way }) fresh t

  names_then : first_there.names ≡ with_value named_cmp (root, way) x t.names
  unfolding first_there add_inode x
  names_then = refl

  spot_at_first : spot t way ≡ Ok (record { directory = root; name = way })
  unfolding spot walk_names
  spot_at_first = rw (way_is, sound.root_there) refl

  made_first : make fresh way t ≡ Ok first_there
  unfolding make first_there
  made_first = rw (spot_at_first, way_free, ne_eqb t.next greatest_number number) refl

  directory_then : (k : ℕ) → (k ≡ x → ⊥) → is_directory first_there k ≡ is_directory t k
  unfolding first_there add_inode x
  directory_then k n = directory_by t first_there k (with_value-other nat_cmp nat_cmp_total exact_unsigned k t.next fresh t.inodes n)

  named_then : (k : ℕ) (n : List ℕ) → (SameKey (k, n) (root, way) → ⊥) → named first_there k n ≡ named t k n
  named_then k n apart = ap (λ (m : Map Key ℕ). value_at named_cmp (k, n) m) names_then ∙ with_value-other named_cmp named_cmp_total named_cmp_exact (k, n) (root, way) x t.names apart

  way_then : named first_there root way ≡ Some x
  way_then = ap (λ (m : Map Key ℕ). value_at named_cmp (root, way) m) names_then ∙ with_value-here named_cmp named_cmp_total named_cmp_exact (root, way) x t.names

  step_then : (k : ℕ) (n : List ℕ) (b : ℕ) → Step t k n b → Step first_there k n b
  step_then k n b step = (
    directory_then k (no_directory k step.0) ∙ step.0,
    named_then k n (λ e. let none : named t k n ≡ None = ap (λ (q : Key). value_at named_cmp q t.names) e ∙ way_free in cc (none, step.1)) ∙ step.1,
  )

  leads_then : (names : List (List ℕ)) (from to : ℕ) → Leads (Step t) names from to → Leads (Step first_there) names from to
  leads_then [] from to l = l
  leads_then (n ∷ names) from to l = (l.0, step_then from n l.0 l.1, leads_then names l.0 to l.2)

  -- The way to its directory does not pass it.
  passes_not : (names : List (List ℕ)) (from to : ℕ) → Leads (Step t) names from to → IsTrue (is_some (inode_at t from)) → list_any (λ i. i == x) (inodes_on_way first_there from names) ≡ false
  unfolding inodes_on_way
  passes_not [] from to l is = rw (ne_eqb from x (not_there from is)) refl
  passes_not (n ∷ names) from to l is =
      let step = step_then from n l.0 l.1 in
      ap (λ (o : Option ℕ). list_any (λ i. i == x) (elim o as (λ y. List ℕ) [ None ↦ from ∷ [] | Some below ↦ from ∷ inodes_on_way first_there below names ])) step.1
      ∙ ap (λ (b : Bool). b || list_any (λ i. i == x) (inodes_on_way first_there l.0 names)) (ne_eqb from x (not_there from is))
      ∙ passes_not names l.0 to l.2 (sound.leads_somewhere from n l.0 l.1.1)

  lies_apart : lies_below first_there x p ≡ false
  unfolding lies_below
  lies_apart =
      ap (λ (o : Option (List (List ℕ))). elim o as (λ y. Bool) [ None ↦ false | Some names ↦ list_any (λ i. i == x) (inodes_on_way first_there root (all_but_last names)) ]) names_are
      ∙ ap (λ (names : List (List ℕ)). list_any (λ i. i == x) (inodes_on_way first_there root names)) (but_last_of front name)
      ∙ passes_not front root d leads (directory_is_there t root sound.root_there)

  spot_then : spot first_there p ≡ Ok (record { directory = d; name = name })
  unfolding spot
  spot_then = rw (names_are, last_of front name, but_last_of front name, walk_from_leads first_there front root d (leads_then front root d leads), directory_then d (no_directory d there), there) refl

  spot_then_way : spot first_there way ≡ Ok (record { directory = root; name = way })
  unfolding spot walk_names
  spot_then_way = rw (way_is, directory_then root (no_directory root sound.root_there), sound.root_there) refl

  -- Made where it goes.
  placed_there : Subvolume Cell
  placed_there = add_inode (record { directory = d; name = name }) fresh t

  moved_is : move_name (record { directory = root; name = way }) (record { directory = d; name = name }) x first_there ≡ placed_there
  unfolding move_name first_there placed_there add_inode x
  moved_is = let at : Map Key ℕ → Subvolume Cell = λ m. record { inodes = with_value nat_cmp t.next fresh t.inodes; names = with_value named_cmp (d, name) t.next m; next = t.next + 1 } in
      ap at (back_again (root, way) t.next t.names sound.names_in_order way_free)

  and_none : (a b : Bool) → b ≡ false → (a && b) ≡ false
  and_none true b e = e
  and_none false b e = refl

  onto_is : rename_onto (record { directory = root; name = way }) (record { directory = d; name = name }) p x None first_there ≡ Ok placed_there
  unfolding rename_onto
  onto_is =
      ap (λ (b : Bool). refuse_if b IntoItself >> Ok (move_name (record { directory = root; name = way }) (record { directory = d; name = name }) x first_there)) (and_none (is_directory first_there x) (lies_below first_there x p) lies_apart)
      ∙ (let ok : Subvolume Cell → Result (Subvolume Cell) Refusal = λ u. Ok u in ap ok moved_is)

  renamed_is : rename way p first_there ≡ Ok placed_there
  unfolding rename
  renamed_is = rw (spot_then_way, way_then, spot_then, named_then d name other ∙ free) onto_is

  -- ---- both commands

  made_there : make fresh p t ≡ Ok placed_there
  unfolding make placed_there spot
  made_there = rw (names_are, last_of front name, but_last_of front name, walk_from_leads t front root d leads, there, free, ne_eqb t.next greatest_number number) refl

  pub both_are : make fresh way t >>= rename way p ≡ make fresh p t
  both_are = ap (λ (r : Result (Subvolume Cell) Refusal). r >>= rename way p) made_first ∙ renamed_is ∙ sym made_there
