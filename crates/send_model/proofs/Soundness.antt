-- What changes at one inode and its names keeps a subvolume sound, where that inode has what
-- soundness asks of it; and so does a name more.
use Rattle.std.specs.Prelude.{◌≡◌, ℕ, ◌+◌, ◌<◌, ◌≤◌, Bool, true, cond, List, [], ◌∷◌, ◌++◌, length, Option, None, Some, Ok, IsTrue, is_some, ◌==◌, ◌⊎◌}
use Rattle.std.specs.Ordering.{nat_cmp}
use Rattle.std.specs.List.{filter}
use Rattle.std.proofs.Common.{refl, sym, ap, subst, ◌∙◌, arith, inl, inr, zero-add}
use Rattle.std.proofs.lemmas.Bool.{cases_eq, eq-eqb, ne_eqb}
use Rattle.send_model.specs.Map.{Map, IsMap, named_cmp, value_at, with_value, without}
use Rattle.send_model.specs.Subvolume.{Inode, Subvolume, Spot, root, passes_inode, is_directory_kind, inode_at, named, is_directory, walk_names, name_count, IsSound}
use Rattle.send_model.specs.Edit.{at_spot}
use Rattle.send_model.proofs.Sorts.{same_inside}
use Rattle.send_model.proofs.MapLaws.{counts_one, named_cmp_total, named_cmp_exact, cases_key, with_value-order, with_value-here, with_value-other, without-here, without-other, count-with_value}
use Rattle.send_model.proofs.WalkLaws.{Leads, Step, leads-append, leads-leaf, leads_from_walk, walk_from_leads}

pub found_none : {X : Type 0} (o : Option X) (x : X) → o ≡ Some x → o ≡ None → ⊥
found_none o x e n = cc

abbrev pub key : Spot → ℕ × List ℕ
key place = (place.directory, place.name)

pub same_place : (directory : ℕ) (name : List ℕ) (place : Spot) → ((directory, name) ≡ key place) ⊎ ((directory, name) ≡ key place → ⊥)
same_place directory name place = cases_key named_cmp named_cmp_total named_cmp_exact (directory, name) (key place)

module _ {C : Type 0} where
  -- What changes at one inode and its names, and what it has afterwards. All that is said of the
  -- other inodes stays.
  pub record Touches (s t : Subvolume C) (x : ℕ) : Type 0 where
    pub inodes_in_order : IsMap nat_cmp t.inodes
    pub names_in_order : IsMap named_cmp t.names
    pub same_directory : (ino : ℕ) → (ino ≡ x → ⊥) → is_directory t ino ≡ is_directory s ino
    pub same_there : (ino : ℕ) → (ino ≡ x → ⊥) → is_some (inode_at t ino) ≡ is_some (inode_at s ino)
    pub came_from : (directory : ℕ) (name : List ℕ) (ino : ℕ) → (ino ≡ x → ⊥) → named t directory name ≡ Some ino → named s directory name ≡ Some ino
    pub same_count : (ino : ℕ) → (ino ≡ x → ⊥) → name_count t ino ≡ name_count s ino
    pub next_grows : s.next ≤ t.next
    pub no_root : x ≡ root → ⊥
    pub stays : (name : List ℕ) (ino : ℕ) → named s x name ≡ Some ino → IsTrue (is_directory t x)
    pub in_directory : (directory : ℕ) (name : List ℕ) → named t directory name ≡ Some x → IsTrue (is_directory t directory)
    pub leads_somewhere : (directory : ℕ) (name : List ℕ) → named t directory name ≡ Some x → IsTrue (is_some (inode_at t x))
    pub has_name : IsTrue (is_some (inode_at t x)) → 1 ≤ name_count t x
    pub one_name : IsTrue (is_directory t x) → name_count t x ≤ 1
    pub below_next : IsTrue (is_some (inode_at t x)) → x < t.next
    pub from_root : (directory : ℕ) → IsTrue (is_directory t directory) → (names : List (List ℕ)) × (walk_names t root names ≡ Ok directory)

  pub touched_is_sound : (s t : Subvolume C) (x : ℕ) → IsSound s → Touches s t x → IsSound t
  touched_is_sound s t x h c = record {
    inodes_in_order = c.inodes_in_order;
    names_in_order = c.names_in_order;
    root_there = c.same_directory root (λ e. c.no_root (sym e)) ∙ h.root_there;
    in_directory = λ directory name ino found. elim (cases_eq ino x) [
      | inl e ↦ c.in_directory directory name (found ∙ some_number ino x e)
      | inr n ↦ directory_there directory name ino (c.came_from directory name ino n found) (cases_eq directory x)
    ];
    leads_somewhere = λ directory name ino found. elim (cases_eq ino x) [
      | inl e ↦ subst (λ (i : ℕ). IsTrue (is_some (inode_at t i))) (sym e) (c.leads_somewhere directory name (found ∙ some_number ino x e))
      | inr n ↦ c.same_there ino n ∙ h.leads_somewhere directory name ino (c.came_from directory name ino n found)
    ];
    root_unnamed = λ directory name found. h.root_unnamed directory name (c.came_from directory name root (λ e. c.no_root (sym e)) found);
    has_name = λ ino there n. elim (cases_eq ino x) [
      | inl e ↦ subst (λ (i : ℕ). 1 ≤ name_count t i) (sym e) (c.has_name (subst (λ (i : ℕ). IsTrue (is_some (inode_at t i))) e there))
      | inr m ↦ subst (λ (k : ℕ). 1 ≤ k) (sym (c.same_count ino m)) (h.has_name ino (sym (c.same_there ino m) ∙ there) n)
    ];
    one_name = λ ino there. elim (cases_eq ino x) [
      | inl e ↦ subst (λ (i : ℕ). name_count t i ≤ 1) (sym e) (c.one_name (subst (λ (i : ℕ). IsTrue (is_directory t i)) e there))
      | inr m ↦ subst (λ (k : ℕ). k ≤ 1) (sym (c.same_count ino m)) (h.one_name ino (sym (c.same_directory ino m) ∙ there))
    ];
    from_root = c.from_root;
    below_next = λ ino there. elim (cases_eq ino x) [
      | inl e ↦ subst (λ (i : ℕ). i < t.next) (sym e) (c.below_next (subst (λ (i : ℕ). IsTrue (is_some (inode_at t i))) e there))
      | inr m ↦ let below : ino < s.next = h.below_next ino (sym (c.same_there ino m) ∙ there) in let more : s.next ≤ t.next = c.next_grows in omega arith
    ];
  }
    where
      some_number : (a b : ℕ) → a ≡ b → ◌≡◌ {A = Option ℕ} (Some a) (Some b)
      some_number a b e = let some : ℕ → Option ℕ = λ n. Some n in ap some e

      directory_there : (directory : ℕ) (name : List ℕ) (ino : ℕ) → named s directory name ≡ Some ino → (directory ≡ x) ⊎ (directory ≡ x → ⊥) → IsTrue (is_directory t directory)
      directory_there directory name ino found (inl e) = subst (λ (d : ℕ). IsTrue (is_directory t d)) (sym e) (c.stays name ino (subst (λ (d : ℕ). named s d name ≡ Some ino) e found))
      directory_there directory name ino found (inr n) = c.same_directory directory n ∙ h.in_directory directory name ino found

  -- ---- steps between facts

  pub directory_by : (s t : Subvolume C) (ino : ℕ) → inode_at t ino ≡ inode_at s ino → is_directory t ino ≡ is_directory s ino
  unfolding is_directory
  directory_by s t ino e = ap (passes_inode (λ (inode : Inode C). is_directory_kind inode.kind)) e

  pub directory_is_there : (s : Subvolume C) (ino : ℕ) → IsTrue (is_directory s ino) → IsTrue (is_some (inode_at s ino))
  unfolding is_directory
  directory_is_there s ino d = one (inode_at s ino) d
    where
      one : (o : Option (Inode C)) → passes_inode (λ (inode : Inode C). is_directory_kind inode.kind) o ≡ true → is_some o ≡ true
      one None d = cc
      one (Some inode) d = refl

  -- what another key or no key finds
  pub other_place : (s : Subvolume C) (directory : ℕ) (name : List ℕ) (place : Spot) (o : Option ℕ) → at_spot s place ≡ o → (named s directory name ≡ o → ⊥) → (directory, name) ≡ key place → ⊥
  other_place s directory name place o e n same = n (ap (λ (k : ℕ × List ℕ). value_at named_cmp k s.names) same ∙ e)

  -- ---- a name more

  pub name_here : (s t : Subvolume C) (place : Spot) (x : ℕ) → t.names ≡ with_value named_cmp (key place) x s.names → at_spot t place ≡ Some x
  name_here s t place x e = ap (λ (m : Map (ℕ × List ℕ) ℕ). value_at named_cmp (key place) m) e ∙ with_value-here named_cmp named_cmp_total named_cmp_exact (key place) x s.names

  pub name_other : (s t : Subvolume C) (place : Spot) (x : ℕ) → t.names ≡ with_value named_cmp (key place) x s.names → (directory : ℕ) (name : List ℕ) → ((directory, name) ≡ key place → ⊥) → named t directory name ≡ named s directory name
  name_other s t place x e directory name n = ap (λ (m : Map (ℕ × List ℕ) ℕ). value_at named_cmp (directory, name) m) e ∙ with_value-other named_cmp named_cmp_total named_cmp_exact (directory, name) (key place) x s.names n

  pub name_gone : (s t : Subvolume C) (place : Spot) → t.names ≡ without named_cmp (key place) s.names → at_spot t place ≡ None
  name_gone s t place e = ap (λ (m : Map (ℕ × List ℕ) ℕ). value_at named_cmp (key place) m) e ∙ without-here named_cmp named_cmp_total named_cmp_exact (key place) s.names

  pub name_left : (s t : Subvolume C) (place : Spot) → t.names ≡ without named_cmp (key place) s.names → (directory : ℕ) (name : List ℕ) → ((directory, name) ≡ key place → ⊥) → named t directory name ≡ named s directory name
  name_left s t place e directory name n = ap (λ (m : Map (ℕ × List ℕ) ℕ). value_at named_cmp (directory, name) m) e ∙ without-other named_cmp named_cmp_total named_cmp_exact (directory, name) (key place) s.names n

  -- an inode that is no directory of names: it is left by no step
  pub no_step : (s : Subvolume C) (x : ℕ) → ((name : List ℕ) (ino : ℕ) → named s x name ≡ Some ino → ⊥) → (name : List ℕ) (below : ℕ) → Step s x name below → ⊥
  no_step s x leaf name below step = leaf name below step.1

  pub added_is_sound : (s t : Subvolume C) (place : Spot) (x : ℕ) → IsSound s → t.names ≡ with_value named_cmp (key place) x s.names
      → IsMap nat_cmp t.inodes
      → ((ino : ℕ) → (ino ≡ x → ⊥) → inode_at t ino ≡ inode_at s ino)
      → IsTrue (is_some (inode_at t x)) → x < t.next → s.next ≤ t.next → (x ≡ root → ⊥)
      → ((name : List ℕ) (ino : ℕ) → named s x name ≡ Some ino → ⊥)
      → (IsTrue (is_directory t x) → name_count s x ≡ 0)
      → (place.directory ≡ x → ⊥) → IsTrue (is_directory s place.directory) → at_spot s place ≡ None → IsSound t
  unfolding name_count
  added_is_sound s t place x h names order same there below grows no_root leaf one apart directory empty = touched_is_sound s t x h (record {
    inodes_in_order = order;
    names_in_order = subst (IsMap named_cmp) (sym names) (with_value-order named_cmp named_cmp_total named_cmp_exact (key place) x s.names h.names_in_order);
    same_directory = kept_directory;
    same_there = λ ino n. ap is_some (same ino n);
    came_from = λ d name ino n found. elim (same_place d name place) [
      | inl e ↦ absurd (n (same_inside (sym found ∙ ap (λ (k : ℕ × List ℕ). value_at named_cmp k t.names) e ∙ name_here s t place x names)))
      | inr m ↦ sym (name_other s t place x names d name m) ∙ found
    ];
    same_count = λ ino n. counts ino ∙ ap (λ (b : Bool). cond b 1 0 + name_count s ino) (ne_eqb x ino (λ e. n (sym e))) ∙ zero-add (name_count s ino);
    next_grows = grows;
    no_root = no_root;
    stays = λ name ino found. absurd (leaf name ino found);
    in_directory = λ d name found. elim (same_place d name place) [
      | inl e ↦ subst (λ (i : ℕ). IsTrue (is_directory t i)) (sym (ap (λ (k : ℕ × List ℕ). k.0) e)) place_there
      | inr m ↦ let before : named s d name ≡ Some x = sym (name_other s t place x names d name m) ∙ found in
          kept_directory d (λ e. leaf name x (subst (λ (i : ℕ). named s i name ≡ Some x) e before)) ∙ h.in_directory d name x before
    ];
    leads_somewhere = λ d name found. there;
    has_name = λ is. let c = counts x in let self : ◌≡◌ {A = ℕ} (cond (x == x) 1 0) 1 = counts_one (x == x) (eq-eqb x x refl) in omega arith;
    one_name = λ is. let c = counts x in let self : ◌≡◌ {A = ℕ} (cond (x == x) 1 0) 1 = counts_one (x == x) (eq-eqb x x refl) in let none = one is in omega arith;
    below_next = λ is. below;
    from_root = λ d is. elim (cases_eq d x) [
      | inl e ↦ let way = way_to place.directory apart directory in
          (way.0 ++ place.name ∷ [], walk_from_leads t (way.0 ++ place.name ∷ []) root d (leads-append (Step t) (Step t) way.0 (place.name ∷ []) root place.directory d way.1 (x, (place_there, name_here s t place x names), sym e)))
      | inr n ↦ let way = way_to d n (sym (kept_directory d n) ∙ is) in (way.0, walk_from_leads t way.0 root d way.1)
    ];
  })
    where
      kept_directory : (ino : ℕ) → (ino ≡ x → ⊥) → is_directory t ino ≡ is_directory s ino
      kept_directory ino n = directory_by s t ino (same ino n)

      place_there : IsTrue (is_directory t place.directory)
      place_there = kept_directory place.directory apart ∙ directory

      counts : (ino : ℕ) → name_count t ino ≡ cond (x == ino) 1 0 + name_count s ino
      counts ino = ap (λ (m : Map (ℕ × List ℕ) ℕ). length (filter (λ e. e.1 == ino) m)) names ∙ count-with_value named_cmp named_cmp_total named_cmp_exact ino (key place) x s.names empty

      way_to : (d : ℕ) → (d ≡ x → ⊥) → IsTrue (is_directory s d) → (way : List (List ℕ)) × Leads (Step t) way root d
      way_to d n is = let from = h.from_root d is in (
        from.0,
        leads-leaf (Step s) (Step t) x (no_step s x leaf)
            (λ i name b m k step. (kept_directory i m ∙ step.0, name_other s t place x names i name (other_place s i name place None empty (found_none _ b step.1)) ∙ step.1))
            from.0 root d (leads_from_walk s from.0 root d from.1) n,
      )
