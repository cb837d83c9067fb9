-- What a part looks like after the commands of the first paths of a listing: it has these paths and
-- no others, two of them lead to one inode exactly where they do in the subvolume that is sent, and
-- each inode has its fields.
use Rattle.std.specs.Prelude.{◌≡◌, ◌⊎◌, ℕ, List, [], ◌∷◌, ◌++◌, Option, None, Some, Ok, IsTrue}
use Rattle.std.specs.declared.cmp.Ordering.TheVariants.{Less}
use Rattle.std.specs.Cmp.Lexicographic.{nat_list_cmp_total}
use Rattle.std.specs.Option.{unwrap_or}
use Rattle.std.proofs.Common.{refl, sym, ap, subst, ◌∙◌, inl, inr}
use Rattle.std.proofs.lemmas.Map.Lookups.{exact_bytes}
use Rattle.send_model.specs.Path.{path_names}
use Rattle.send_model.specs.Map.{Map, IsMap, bytes_cmp, named_cmp, value_at, with_value}
use Rattle.send_model.specs.Subvolume.{Inode, Subvolume, IsLawful, root, walk, spot, named, is_directory, inode_at, first_path, passes_inode, is_directory_kind}
use Rattle.snapshot_model.specs.Listing.{paths_of}
use Rattle.send_model.proofs.Fuel.{ok_same}
use Rattle.send_model.proofs.Sorts.{same_inside}
use Rattle.send_model.proofs.MapLaws.{with_value-here, with_value-other, named_cmp_total, named_cmp_exact, cases_key}
use Rattle.send_model.proofs.WalkLaws.{Leads, Step, leads-map, walk_from_leads}
use Rattle.send_model.proofs.LeastPaths.{Among, among_left, among_right, entry_found, found_entry}
use Rattle.snapshot_model.proofs.SentWalks.{Ends, AtNone, AtLast, ends, last_of, but_last_of, Above, above, names_path, leads_last, leads_more, Newly, leads_new, one_way}
use Rattle.snapshot_model.proofs.SentPaths.{walked, walks_to, paths_ordered, path_found_walks, walked_path_found, before_there, not_before}

abbrev Cell : Type 0
Cell = Option ℕ

root_names : path_names [] ≡ Some []
unfolding path_names
root_names = refl

pub same_directory : (t s : Subvolume Cell) (j k : ℕ) → inode_at t j ≡ inode_at s k → is_directory t j ≡ is_directory s k
unfolding is_directory
same_directory t s j k e = ap (passes_inode (λ (inode : Inode Cell). is_directory_kind inode.kind)) e

module _ (s : Subvolume Cell) (lawful : IsLawful s) where
  abbrev pub first : ℕ → List ℕ
  first i = unwrap_or (first_path s i) []

-- What the inodes are to be, once their paths have come: those of the subvolume, or of the same
-- kinds.
module _ (s : Subvolume Cell) (lawful : IsLawful s) (look : ℕ → Option (Inode Cell)) (alike : (i : ℕ) → passes_inode (λ inode. is_directory_kind inode.kind) (look i) ≡ is_directory s i) where
  pub look_directory : (t : Subvolume Cell) (j k : ℕ) → inode_at t j ≡ look k → is_directory t j ≡ is_directory s k
  unfolding is_directory
  look_directory t j k e = ap (passes_inode (λ (inode : Inode Cell). is_directory_kind inode.kind)) e ∙ alike k

  -- A path leads to an inode with the fields of one that is looked for, and so does that one's
  -- first path.
  pub record Twin (t : Subvolume Cell) (p : List ℕ) (i : ℕ) : Type 0 where
    pub ino : ℕ
    pub walks : walk t p ≡ Ok ino
    pub first_walks : walk t (first s lawful i) ≡ Ok ino
    pub inode : inode_at t ino ≡ look i

  pub record Holds (done : Map (List ℕ) ℕ) (t : Subvolume Cell) : Type 0 where
    pub good : IsLawful t
    pub same : (p : List ℕ) (i : ℕ) → Among (p, i) done → Twin t p i
    pub only : (p : List ℕ) (j : ℕ) → walk t p ≡ Ok j → (i : ℕ) × Among (p, i) done
    pub apart : (p q : List ℕ) (i k j : ℕ) → Among (p, i) done → Among (q, k) done → walk t p ≡ Ok j → walk t q ≡ Ok j → i ≡ k

  -- ---- room for the next path

  -- The next path is free, and its directory is there.
  pub record Room (done : Map (List ℕ) ℕ) (p : List ℕ) (i : ℕ) (t : Subvolume Cell) : Type 0 where
    pub front : List (List ℕ)
    pub name : List ℕ
    pub names_are : path_names p ≡ Some (front ++ name ∷ [])
    pub from : ℕ
    pub leads : Leads (Step s) front root from
    pub is : IsTrue (is_directory s from)
    pub up : List ℕ
    pub up_names : path_names up ≡ Some front
    pub up_done : Among (up, from) done
    pub directory : ℕ
    pub up_walks : walk t up ≡ Ok directory
    pub there : IsTrue (is_directory t directory)
    pub free : named t directory name ≡ None

  module _ (done rest : Map (List ℕ) ℕ) (p : List ℕ) (i : ℕ) (all : done ++ (p, i) ∷ rest ≡ paths_of s) (t : Subvolume Cell) (h : Holds done t) where
    in_order : IsMap bytes_cmp (done ++ (p, i) ∷ rest)
    in_order = subst (IsMap bytes_cmp) (sym all) (paths_ordered s)

    pub among_done : (q : List ℕ) (k : ℕ) → walk s q ≡ Ok k → bytes_cmp q p ≡ Less → Among (q, k) done
    among_done q k w less =
        let there : Among (q, k) (paths_of s) = found_entry bytes_cmp nat_list_cmp_total exact_bytes q k (paths_of s) (walked_path_found s lawful q k w) in
        before_there p i q k done rest in_order (subst (λ (m : Map (List ℕ) ℕ). Among (q, k) m) (sym all) there) less

    entry_of : (q : List ℕ) (k : ℕ) → Among (q, k) (paths_of s) → value_at bytes_cmp q (paths_of s) ≡ Some k
    entry_of q k a = entry_found bytes_cmp nat_list_cmp_total exact_bytes (q, k) (paths_of s) (paths_ordered s) a

    nothing_there : (j : ℕ) → walk t p ≡ Ok j → ⊥
    nothing_there j w = let o = h.only p j w in not_before p i o.0 done rest in_order o.1

    pub room : walk s p ≡ Ok i → (p ≡ [] → ⊥) → Room done p i t
    room w some = let a = walked s p i w in one a.names a.names_are a.leads (ends a.names)
      where
        one : (names : List (List ℕ)) → path_names p ≡ Some names → Leads (Step s) names root i → Ends names → Room done p i t
        one names e l (AtNone none) = absurd (some (names_path s p [] [] (e ∙ ap (λ (r : List (List ℕ)). Some r) none) root_names))
        one names e l (AtLast front name at) =
            let e' : path_names p ≡ Some (front ++ name ∷ []) = e ∙ ap (λ (r : List (List ℕ)). Some r) at in
            let d = leads_last (Step s) front name root i (subst (λ (r : List (List ℕ)). Leads (Step s) r root i) at l) in
            let up : Above p front = above s p front name e' in
            let up_in_s : walk s up.path ≡ Ok d.0 = walks_to s up.path front d.0 up.names_are d.1 in
            let up_done : Among (up.path, d.0) done = among_done up.path d.0 up_in_s up.before in
            let twin : Twin t up.path d.0 = h.same up.path d.0 up_done in
            let there : IsTrue (is_directory t twin.ino) = look_directory t twin.ino d.0 twin.inode ∙ d.2.0 in
            let w' = walked t up.path twin.ino twin.walks in
            let fronts : w'.names ≡ front = same_inside (sym w'.names_are ∙ up.names_are) in
            let in_t : Leads (Step t) front root twin.ino = subst (λ (r : List (List ℕ)). Leads (Step t) r root twin.ino) fronts w'.leads in
            record {
              front = front;
              name = name;
              names_are = e';
              from = d.0;
              leads = d.1;
              is = d.2.0;
              up = up.path;
              up_names = up.names_are;
              up_done = up_done;
              directory = twin.ino;
              up_walks = twin.walks;
              there = there;
              free = free_name twin.ino front name e' in_t there (named t twin.ino name) refl;
            }
          where
            free_name : (d : ℕ) (front : List (List ℕ)) (name : List ℕ) → path_names p ≡ Some (front ++ name ∷ []) → Leads (Step t) front root d → IsTrue (is_directory t d) → (o : Option ℕ) → named t d name ≡ o → named t d name ≡ None
            free_name d front name e l is None n = n
            free_name d front name e l is (Some j) n = absurd (nothing_there j (walks_to t p (front ++ name ∷ []) j e (leads_more (Step t) front name root d j l (is, n))))

    -- ---- a name more

    abbrev SamePlace : ℕ × List ℕ → ℕ × List ℕ → Type 0
    SamePlace a b = a ≡ b

    module _ (r : Room done p i t) (x : ℕ) (u : Subvolume Cell) (names : u.names ≡ with_value named_cmp (r.directory, r.name) x t.names)
        (dirs : (k : ℕ) → (k ≡ x → ⊥) → is_directory u k ≡ is_directory t k) (leaf : (n : List ℕ) (b : ℕ) → named t x n ≡ Some b → ⊥) (other : r.directory ≡ x → ⊥) where
      named_here : named u r.directory r.name ≡ Some x
      named_here = ap (λ (m : Map (ℕ × List ℕ) ℕ). value_at named_cmp (r.directory, r.name) m) names ∙ with_value-here named_cmp named_cmp_total named_cmp_exact (r.directory, r.name) x t.names

      named_other : (k : ℕ) (n : List ℕ) → (SamePlace (k, n) (r.directory, r.name) → ⊥) → named u k n ≡ named t k n
      named_other k n apart = ap (λ (m : Map (ℕ × List ℕ) ℕ). value_at named_cmp (k, n) m) names ∙ with_value-other named_cmp named_cmp_total named_cmp_exact (k, n) (r.directory, r.name) x t.names apart

      new_leaf : (n : List ℕ) (b : ℕ) → Step u x n b → ⊥
      new_leaf n b step = leaf n b (sym (named_other x n (λ e. other (sym (ap (λ (k : ℕ × List ℕ). k.0) e)))) ∙ step.1)

      stays : (k : ℕ) (n : List ℕ) (b : ℕ) → Step t k n b → Step u k n b
      stays k n b step = (
        dirs k (λ e. leaf n b (subst (λ (j : ℕ). named t j n ≡ Some b) e step.1)) ∙ step.0,
        named_other k n (λ e. let none : named t k n ≡ None = ap (λ (q : ℕ × List ℕ). value_at named_cmp q t.names) e ∙ r.free in cc (none, step.1)) ∙ step.1,
      )

      was : (k : ℕ) (n : List ℕ) (b : ℕ) → Step u k n b → Step t k n b ⊎ ((k ≡ r.directory) × (n ≡ r.name) × (b ≡ x))
      was k n b step = elim (cases_key named_cmp named_cmp_total named_cmp_exact (k, n) (r.directory, r.name)) [
        | inl e ↦ inr (ap (λ (q : ℕ × List ℕ). q.0) e, ap (λ (q : ℕ × List ℕ). q.1) e, same_inside (sym step.1 ∙ ap (λ (q : ℕ × List ℕ). value_at named_cmp q u.names) e ∙ named_here))
        | inr m ↦ inl (sym (dirs k (λ e. new_leaf n b (subst (λ (j : ℕ). Step u j n b) e step))) ∙ step.0, sym (named_other k n m) ∙ step.1)
      ]

      pub old_walks : (q : List ℕ) (j : ℕ) → walk t q ≡ Ok j → walk u q ≡ Ok j
      old_walks q j w = let a = walked t q j w in walks_to u q a.names j a.names_are (leads-map (Step t) (Step u) stays a.names root j a.leads)

      pub new_walks : walk u p ≡ Ok x
      new_walks =
          let a = walked t r.up r.directory r.up_walks in
          let fronts : a.names ≡ r.front = same_inside (sym a.names_are ∙ r.up_names) in
          let l : Leads (Step u) r.front root r.directory = subst (λ (k : List (List ℕ)). Leads (Step u) k root r.directory) fronts (leads-map (Step t) (Step u) stays a.names root r.directory a.leads) in
          walks_to u p (r.front ++ r.name ∷ []) x r.names_are (leads_more (Step u) r.front r.name root r.directory x l (dirs r.directory other ∙ r.there, named_here))

      pub walks_back : (q : List ℕ) (j : ℕ) → walk u q ≡ Ok j → walk t q ≡ Ok j ⊎ ((q ≡ p) × (j ≡ x))
      walks_back q j w = let a = walked u q j w in one a.names a.names_are (leads_new (Step u) (Step t) r.directory x r.name new_leaf was a.names root j a.leads)
        where
          one : (names : List (List ℕ)) → path_names q ≡ Some names → Leads (Step t) names root j ⊎ Newly (Step u) (Step t) r.directory x r.name new_leaf was names root j → walk t q ≡ Ok j ⊎ ((q ≡ p) × (j ≡ x))
          one names e (inl l) = inl (walks_to t q names j e l)
          one names e (inr new) =
              let e' : path_names q ≡ Some (new.front ++ r.name ∷ []) = e ∙ ap (λ (k : List (List ℕ)). Some k) new.names_are in
              let up : Above q new.front = above s q new.front r.name e' in
              let way : walk t up.path ≡ Ok r.directory = walks_to t up.path new.front r.directory up.names_are new.leads in
              let o = h.only up.path r.directory way in
              let same : r.from ≡ o.0 = h.apart r.up up.path r.from o.0 r.directory r.up_done o.1 r.up_walks way in
              let in_paths : Among (up.path, o.0) (paths_of s) = subst (λ (m : Map (List ℕ) ℕ). Among (up.path, o.0) m) all (among_left (up.path, o.0) done ((p, i) ∷ rest) o.1) in
              let in_s = walked s up.path o.0 (path_found_walks s lawful up.path o.0 (entry_of up.path o.0 in_paths)) in
              let fronts : in_s.names ≡ new.front = same_inside (sym in_s.names_are ∙ up.names_are) in
              let l : Leads (Step s) new.front root r.from = subst (λ (k : ℕ). Leads (Step s) new.front root k) (sym same) (subst (λ (k : List (List ℕ)). Leads (Step s) k root o.0) fronts in_s.leads) in
              let ways : r.front ≡ new.front = one_way s lawful.sound r.front new.front r.from r.is r.leads l in
              inr (names_path s q p (r.front ++ r.name ∷ []) (e' ∙ ap (λ (k : List (List ℕ)). Some (k ++ r.name ∷ [])) (sym ways)) r.names_are, new.ends_there)

    -- ---- the next path has come

    pub record Grown (x : ℕ) (v : Subvolume Cell) : Type 0 where
      pub fine : IsLawful v
      pub old : (q : List ℕ) (j : ℕ) → walk t q ≡ Ok j → walk v q ≡ Ok j
      pub new : walk v p ≡ Ok x
      pub first_new : walk v (first s lawful i) ≡ Ok x
      pub back : (q : List ℕ) (j : ℕ) → walk v q ≡ Ok j → walk t q ≡ Ok j ⊎ ((q ≡ p) × (j ≡ x))
      pub kept : (q : List ℕ) (k j : ℕ) → Among (q, k) done → walk t q ≡ Ok j → inode_at v j ≡ inode_at t j
      pub here : inode_at v x ≡ look i
      pub one : (q : List ℕ) (k : ℕ) → Among (q, k) done → walk t q ≡ Ok x → k ≡ i

    abbrev SameEntry : List ℕ × ℕ → List ℕ × ℕ → Type 0
    SameEntry a b = a ≡ b

    either : (e : List ℕ × ℕ) (m : Map (List ℕ) ℕ) → Among e (m ++ (p, i) ∷ []) → Among e m ⊎ SameEntry (p, i) e
    either e [] (inl same) = inr same
    either e [] (inr none) = absurd none
    either e (f ∷ m) (inl same) = inl (inl same)
    either e (f ∷ m) (inr a) = elim (either e m a) [ inl b ↦ inl (inr b) | inr same ↦ inr same ]

    pub grown_holds : (x : ℕ) (v : Subvolume Cell) → Grown x v → Holds (done ++ (p, i) ∷ []) v
    grown_holds x v g = record {
      good = g.fine;
      same = λ q k a. twin q k (either (q, k) done a);
      only = λ q j w. elim (g.back q j w) [
        | inl before ↦ let o = h.only q j before in (o.0, among_left (q, o.0) done ((p, i) ∷ []) o.1)
        | inr new ↦ (i, subst (λ (r : List ℕ). Among (r, i) (done ++ (p, i) ∷ [])) (sym new.0) (among_right (p, i) done ((p, i) ∷ []) (inl refl)))
      ];
      apart = λ q r k l j a b w w'. both q r k l j (either (q, k) done a) (either (r, l) done b) w w';
    }
      where
        twin : (q : List ℕ) (k : ℕ) → Among (q, k) done ⊎ SameEntry (p, i) (q, k) → Twin v q k
        twin q k (inl a) = let b = h.same q k a in record { ino = b.ino; walks = g.old q b.ino b.walks; first_walks = g.old (first s lawful k) b.ino b.first_walks; inode = g.kept q k b.ino a b.walks ∙ b.inode }
        twin q k (inr e) = let here : Twin v p i = record { ino = x; walks = g.new; first_walks = g.first_new; inode = g.here } in
            subst (λ (f : List ℕ × ℕ). Twin v f.0 f.1) e here

        -- what an earlier path leads to was so before
        before : (q : List ℕ) (k j : ℕ) → Among (q, k) done → walk v q ≡ Ok j → walk t q ≡ Ok j
        before q k j a w = let b = h.same q k a in let at : b.ino ≡ j = ok_same (sym (g.old q b.ino b.walks) ∙ w) in
            subst (λ (n : ℕ). walk t q ≡ Ok n) at b.walks

        new_one : (q r : List ℕ) (k l j : ℕ) → Among (q, k) done → SameEntry (p, i) (r, l) → walk v q ≡ Ok j → walk v r ≡ Ok j → k ≡ l
        new_one q r k l j a e w w' =
            let path_is : p ≡ r = ap (λ (f : List ℕ × ℕ). f.0) e in
            let at : x ≡ j = ok_same (sym g.new ∙ subst (λ (n : List ℕ). walk v n ≡ Ok j) (sym path_is) w') in
            g.one q k a (subst (λ (n : ℕ). walk t q ≡ Ok n) (sym at) (before q k j a w)) ∙ ap (λ (f : List ℕ × ℕ). f.1) e

        both : (q r : List ℕ) (k l j : ℕ) → Among (q, k) done ⊎ SameEntry (p, i) (q, k) → Among (r, l) done ⊎ SameEntry (p, i) (r, l) → walk v q ≡ Ok j → walk v r ≡ Ok j → k ≡ l
        both q r k l j (inl a) (inl b) w w' = h.apart q r k l j a b (before q k j a w) (before r l j b w')
        both q r k l j (inl a) (inr e) w w' = new_one q r k l j a e w w'
        both q r k l j (inr e) (inl b) w w' = sym (new_one r q l k j b e w' w)
        both q r k l j (inr e) (inr f) w w' = sym (ap (λ (n : List ℕ × ℕ). n.1) e) ∙ ap (λ (n : List ℕ × ℕ). n.1) f

    -- ---- where the next name goes

    pub spot_is : (r : Room done p i t) → spot t p ≡ Ok (record { directory = r.directory; name = r.name })
    unfolding spot
    spot_is r =
        let a = walked t r.up r.directory r.up_walks in
        let fronts : a.names ≡ r.front = same_inside (sym a.names_are ∙ r.up_names) in
        let l : Leads (Step t) r.front root r.directory = subst (λ (k : List (List ℕ)). Leads (Step t) k root r.directory) fronts a.leads in
        rw (r.names_are, last_of r.front r.name, but_last_of r.front r.name, walk_from_leads t r.front root r.directory l, r.there) refl
