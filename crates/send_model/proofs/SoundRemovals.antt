-- A name that goes or moves keeps a subvolume sound.
use Rattle.std.specs.Prelude.{◌≡◌, ℕ, ◌+◌, ◌<◌, ◌≤◌, Bool, true, false, cond, List, ◌∷◌, ◌++◌, length, None, Some, Ok, IsTrue, is_some, nat_le, ◌==◌, ◌⊎◌}
use Rattle.std.specs.Ordering.{nat_cmp}
use Rattle.std.specs.Cmp.{nat_cmp_total}
use Rattle.std.specs.List.{filter}
use Rattle.std.proofs.Common.{refl, sym, ap, subst, ◌∙◌, arith, inl, inr, zero-add}
use Rattle.std.proofs.lemmas.Bool.{cases_Bool, leb-true, leb-false, true≢false, eq-eqb, ne_eqb}
use Rattle.std.proofs.lemmas.Map.Lookups.{exact_unsigned}
use Rattle.send_model.specs.Map.{Map, IsMap, named_cmp, value_at, without}
use Rattle.send_model.specs.Subvolume.{Subvolume, Spot, root, inode_at, named, is_directory, walk_names, name_count, IsSound}
use Rattle.send_model.specs.Edit.{remove_name, remove_inode, take_name, move_name, at_spot}
use Rattle.send_model.proofs.Sorts.{same_inside}
use Rattle.send_model.proofs.MapLaws.{counts_one, named_cmp_total, named_cmp_exact, with_value-order, without-order, without-here, without-other, count-with_value, count-without, count-found}
use Rattle.send_model.proofs.WalkLaws.{Leads, Step, Around, leads-map, leads-append, leads-leaf, leads-after, leads_from_walk, walk_from_leads}
use Rattle.send_model.proofs.Soundness.{touched_is_sound, found_none, key, same_place, other_place, name_here, name_other, name_gone, name_left, no_step, directory_by, directory_is_there}

module _ {C : Type 0} where
  -- ---- a name less

  pub removed_is_sound : (s t : Subvolume C) (place : Spot) (x : ℕ) → IsSound s → t.names ≡ without named_cmp (key place) s.names
      → IsMap nat_cmp t.inodes
      → ((ino : ℕ) → (ino ≡ x → ⊥) → inode_at t ino ≡ inode_at s ino)
      → t.next ≡ s.next
      → at_spot s place ≡ Some x
      → ((name : List ℕ) (ino : ℕ) → named s x name ≡ Some ino → ⊥)
      → (IsTrue (is_directory t x) → ⊥)
      → ((directory : ℕ) (name : List ℕ) → named t directory name ≡ Some x → IsTrue (is_some (inode_at t x)))
      → (IsTrue (is_some (inode_at t x)) → 1 ≤ name_count t x) → IsSound t
  unfolding name_count
  removed_is_sound s t place x h names order same next at leaf no_directory somewhere has_name = touched_is_sound s t x h (record {
    inodes_in_order = order;
    names_in_order = subst (IsMap named_cmp) (sym names) (without-order named_cmp named_cmp_total named_cmp_exact (key place) s.names h.names_in_order);
    same_directory = kept_directory;
    same_there = λ ino n. ap is_some (same ino n);
    came_from = λ d name ino n found. was d name ino found;
    same_count = λ ino n. sym (zero-add (name_count t ino)) ∙ ap (λ (b : Bool). cond b 1 0 + name_count t ino) (sym (ne_eqb x ino (λ e. n (sym e)))) ∙ counts ino;
    next_grows = omega arith;
    no_root = λ e. h.root_unnamed place.directory place.name (subst (λ (i : ℕ). at_spot s place ≡ Some i) e at);
    stays = λ name ino found. absurd (leaf name ino found);
    in_directory = λ d name found. let there = was d name x found in
        kept_directory d (λ e. leaf name x (subst (λ (i : ℕ). named s i name ≡ Some x) e there)) ∙ h.in_directory d name x there;
    leads_somewhere = somewhere;
    has_name = has_name;
    one_name = λ is. absurd (no_directory is);
    below_next = λ is. subst (λ (n : ℕ). x < n) (sym next) (h.below_next x (h.leads_somewhere place.directory place.name x at));
    from_root = λ d is. let n = not_there d is in let way = way_to d n (sym (kept_directory d n) ∙ is) in (way.0, walk_from_leads t way.0 root d way.1);
  })
    where
      kept_directory : (ino : ℕ) → (ino ≡ x → ⊥) → is_directory t ino ≡ is_directory s ino
      kept_directory ino n = directory_by s t ino (same ino n)

      not_there : (d : ℕ) → IsTrue (is_directory t d) → d ≡ x → ⊥
      not_there d is e = no_directory (subst (λ (i : ℕ). IsTrue (is_directory t i)) e is)

      was : (d : ℕ) (name : List ℕ) (ino : ℕ) → named t d name ≡ Some ino → named s d name ≡ Some ino
      was d name ino found = elim (same_place d name place) [
        | inl e ↦ absurd (found_none (named t d name) ino found (ap (λ (k : ℕ × List ℕ). value_at named_cmp k t.names) e ∙ name_gone s t place names))
        | inr m ↦ sym (name_left s t place names d name m) ∙ found
      ]

      counts : (ino : ℕ) → cond (x == ino) 1 0 + name_count t ino ≡ name_count s ino
      counts ino = ap (λ (m : Map (ℕ × List ℕ) ℕ). cond (x == ino) 1 0 + length (filter (λ e. e.1 == ino) m)) names ∙ count-without named_cmp named_cmp_total named_cmp_exact ino (key place) x s.names h.names_in_order at

      way_to : (d : ℕ) → (d ≡ x → ⊥) → IsTrue (is_directory s d) → (way : List (List ℕ)) × Leads (Step t) way root d
      way_to d n is = let from = h.from_root d is in (
        from.0,
        leads-leaf (Step s) (Step t) x (no_step s x leaf)
            (λ i name b m k step. (kept_directory i m ∙ step.0, name_left s t place names i name (other_place s i name place (Some x) at (λ e. k (same_inside (sym step.1 ∙ e)))) ∙ step.1))
            from.0 root d (leads_from_walk s from.0 root d from.1) n,
      )

  -- A name goes that leads to no directory with names, and with its last name the inode.
  pub taken_is_sound : (s : Subvolume C) (place : Spot) (x : ℕ) → IsSound s → at_spot s place ≡ Some x
      → ((name : List ℕ) (ino : ℕ) → named s x name ≡ Some ino → ⊥) → IsSound (take_name place x s)
  unfolding take_name name_count
  taken_is_sound s place x h at leaf = one (nat_le (name_count s x) 1) refl
    where
      fewer : cond (x == x) 1 0 + name_count (remove_name place s) x ≡ name_count s x
      fewer = count-without named_cmp named_cmp_total named_cmp_exact x (key place) x s.names h.names_in_order at

      one_less : 1 + name_count (remove_name place s) x ≡ name_count s x
      one_less = ap (λ (n : ℕ). n + name_count (remove_name place s) x) (sym (counts_one (x == x) (eq-eqb x x refl))) ∙ fewer

      gone : inode_at (remove_inode x (remove_name place s)) x ≡ None
      gone = without-here nat_cmp nat_cmp_total exact_unsigned x s.inodes

      one : (b : Bool) → nat_le (name_count s x) 1 ≡ b → IsSound (cond b (remove_inode x (remove_name place s)) (remove_name place s))
      one true few = removed_is_sound s (remove_inode x (remove_name place s)) place x h refl
          (without-order nat_cmp nat_cmp_total exact_unsigned x s.inodes h.inodes_in_order)
          (λ ino n. without-other nat_cmp nat_cmp_total exact_unsigned ino x s.inodes n)
          refl at leaf
          (λ is. none_there (directory_is_there (remove_inode x (remove_name place s)) x is))
          (λ d name found. let some = count-found named_cmp named_cmp_total named_cmp_exact x (d, name) (remove_name place s).names found in
          let all = one_less in let least = leb-true (name_count s x) 1 few in absurd (omega arith))
          (λ is. absurd (none_there is))
        where
          none_there : IsTrue (is_some (inode_at (remove_inode x (remove_name place s)) x)) → ⊥
          none_there is = true≢false (sym is ∙ ap is_some gone)
      one false more = removed_is_sound s (remove_name place s) place x h refl h.inodes_in_order (λ ino n. refl) refl at leaf
          (λ is. let least = h.one_name x (directory_by (remove_name place s) s x refl ∙ is) in let many = leb-false (name_count s x) 1 more in omega arith)
          (λ d name found. h.leads_somewhere place.directory place.name x at)
          (λ is. let all = one_less in let many = leb-false (name_count s x) 1 more in omega arith)

  -- ---- a name that moves

  -- What stands at a place where there is nothing takes the name there in place of its own. If it
  -- is a directory, some names lead to the directory of the new place that pass it by.
  pub moved_is_sound : (s : Subvolume C) (from to : Spot) (x : ℕ) → IsSound s → at_spot s from ≡ Some x → at_spot s to ≡ None
      → IsTrue (is_directory s to.directory)
      → (IsTrue (is_directory s x) → (way : List (List ℕ)) × Leads (Around (Step s) x) way root to.directory)
      → IsSound (move_name from to x s)
  unfolding move_name name_count
  moved_is_sound s from to x h at empty directory around = touched_is_sound s (move_name from to x s) x h (record {
    inodes_in_order = h.inodes_in_order;
    names_in_order = with_value-order named_cmp named_cmp_total named_cmp_exact (key to) x left.names (without-order named_cmp named_cmp_total named_cmp_exact (key from) s.names h.names_in_order);
    same_directory = λ ino n. same_directory ino;
    same_there = λ ino n. refl;
    came_from = before;
    same_count = λ ino n. counts ino;
    next_grows = omega arith;
    no_root = no_root;
    stays = λ name ino found. same_directory x ∙ h.in_directory x name ino found;
    in_directory = λ d name found. elim (same_place d name to) [
      | inl e ↦ subst (λ (i : ℕ). IsTrue (is_directory (move_name from to x s) i)) (sym (ap (λ (k : ℕ × List ℕ). k.0) e)) (same_directory to.directory ∙ directory)
      | inr m ↦ same_directory d ∙ h.in_directory d name x (was d name x m found)
    ];
    leads_somewhere = λ d name found. there;
    has_name = λ is. subst (λ (n : ℕ). 1 ≤ n) (sym (counts x)) (h.has_name x there no_root);
    one_name = λ is. subst (λ (n : ℕ). n ≤ 1) (sym (counts x)) (h.one_name x (sym (same_directory x) ∙ is));
    below_next = λ is. h.below_next x there;
    from_root = λ d is. elim (cases_Bool (is_directory s x)) [
      | inl folder ↦ let way = h.from_root d (sym (same_directory d) ∙ is) in
          joined (around folder) d way.0 (leads-after (Step s) (Step (move_name from to x s)) x kept way.0 root d (leads_from_walk s way.0 root d way.1))
      | inr none ↦ let way = h.from_root d (sym (same_directory d) ∙ is) in (
        way.0,
        walk_from_leads (move_name from to x s) way.0 root d (leads-leaf (Step s) (Step (move_name from to x s)) x (λ name b step. true≢false (sym step.0 ∙ none)) (λ i name b m k step. kept i name b k step) way.0 root d (leads_from_walk s way.0 root d way.1)
            (λ e. true≢false (sym (sym (same_directory d) ∙ is) ∙ ap (is_directory s) e ∙ none))),
      )
    ];
  })
    where
      left : Subvolume C
      left = remove_name from s

      there : IsTrue (is_some (inode_at s x))
      there = h.leads_somewhere from.directory from.name x at

      no_root : x ≡ root → ⊥
      no_root e = h.root_unnamed from.directory from.name (subst (λ (i : ℕ). at_spot s from ≡ Some i) e at)

      same_directory : (ino : ℕ) → is_directory (move_name from to x s) ino ≡ is_directory s ino
      same_directory ino = directory_by s (move_name from to x s) ino refl

      empty_left : at_spot left to ≡ None
      empty_left = name_left s left from refl to.directory to.name (other_place s to.directory to.name from (Some x) at (λ e. found_none (at_spot s to) x e empty)) ∙ empty

      was : (d : ℕ) (name : List ℕ) (ino : ℕ) → ((d, name) ≡ key to → ⊥) → named (move_name from to x s) d name ≡ Some ino → named s d name ≡ Some ino
      was d name ino m found =
          let in_left : named left d name ≡ Some ino = sym (name_other left (move_name from to x s) to x refl d name m) ∙ found in
          elim (same_place d name from) [
            | inl e ↦ absurd (found_none (named left d name) ino in_left (ap (λ (k : ℕ × List ℕ). value_at named_cmp k left.names) e ∙ name_gone s left from refl))
            | inr k ↦ sym (name_left s left from refl d name k) ∙ in_left
          ]

      before : (d : ℕ) (name : List ℕ) (ino : ℕ) → (ino ≡ x → ⊥) → named (move_name from to x s) d name ≡ Some ino → named s d name ≡ Some ino
      before d name ino n found = elim (same_place d name to) [
        | inl e ↦ absurd (n (same_inside (sym found ∙ ap (λ (k : ℕ × List ℕ). value_at named_cmp k (move_name from to x s).names) e ∙ name_here left (move_name from to x s) to x refl)))
        | inr m ↦ was d name ino m found
      ]

      counts : (ino : ℕ) → name_count (move_name from to x s) ino ≡ name_count s ino
      counts ino = count-with_value named_cmp named_cmp_total named_cmp_exact ino (key to) x left.names empty_left ∙ count-without named_cmp named_cmp_total named_cmp_exact ino (key from) x s.names h.names_in_order at

      kept : (i : ℕ) (name : List ℕ) (b : ℕ) → (b ≡ x → ⊥) → Step s i name b → Step (move_name from to x s) i name b
      kept i name b n step = (
        same_directory i ∙ step.0,
        name_other left (move_name from to x s) to x refl i name (other_place s i name to None empty (found_none (named s i name) b step.1))
            ∙ name_left s left from refl i name (other_place s i name from (Some x) at (λ e. n (same_inside (sym step.1 ∙ e)))) ∙ step.1,
      )

      joined : (way : List (List ℕ)) × Leads (Around (Step s) x) way root to.directory → (d : ℕ) (names : List (List ℕ))
          → Leads (Step (move_name from to x s)) names root d ⊎ ((more : List (List ℕ)) × Leads (Step (move_name from to x s)) more x d)
          → (names : List (List ℕ)) × (walk_names (move_name from to x s) root names ≡ Ok d)
      joined way d names (inl l) = (names, walk_from_leads (move_name from to x s) names root d l)
      joined way d names (inr m) = (
        way.0 ++ to.name ∷ m.0,
        walk_from_leads (move_name from to x s) (way.0 ++ to.name ∷ m.0) root d
            (leads-append (Step (move_name from to x s)) (Step (move_name from to x s)) way.0 (to.name ∷ m.0) root to.directory d
            (leads-map (Around (Step s) x) (Step (move_name from to x s)) (λ i name b step. kept i name b step.1 step.0) way.0 root to.directory way.1)
            (x, (same_directory to.directory ∙ directory, name_here left (move_name from to x s) to x refl), m.1)),
      )
