-- The paths of a subvolume in order are those that lead to an inode, and which of them stand before
-- a given one.
use Rattle.std.specs.Prelude.{◌≡◌, ℕ, Bool, true, false, cond, T, List, [], ◌∷◌, ◌++◌, Option, Some, Ok, IsTrue, is_some}
use Rattle.std.specs.declared.cmp.Ordering.TheVariants.{Less, Equal, Greater}
use Rattle.std.specs.Ordering.{eq_by_cmp, ordering_reverse}
use Rattle.std.specs.Cmp.{tied_itself, Equal-is}
use Rattle.std.specs.Cmp.Lexicographic.{nat_list_cmp_total}
use Rattle.std.specs.FinMap.Entries.{below_all, find-put, is_sorted-put}
use Rattle.std.proofs.Common.{refl, sym, ap, subst, ◌∙◌, inl, inr}
use Rattle.std.proofs.lemmas.Map.Lookups.{exact_bytes}
use Rattle.send_model.specs.Refusal.{BadPath}
use Rattle.send_model.specs.Chain.{found}
use Rattle.send_model.specs.Path.{path_names}
use Rattle.send_model.specs.Map.{Map, IsMap, bytes_cmp, value_at}
use Rattle.send_model.specs.Subvolume.{Subvolume, Reached, IsLawful, IsSound, root, walk, walk_names, all_paths, inode_at}
use Rattle.snapshot_model.specs.Listing.{in_order, paths_of}
use Rattle.send_model.proofs.Fuel.{bound, ok_same}
use Rattle.send_model.proofs.Sorts.{same_inside}
use Rattle.send_model.proofs.MapLaws.{T_left, T_right, is_less}
use Rattle.send_model.proofs.Soundness.{directory_is_there}
use Rattle.send_model.proofs.WalkLaws.{Leads, Step, leads_from_walk, walk_from_leads}
use Rattle.send_model.proofs.LeastPaths.{Among, all_at, all_steps, walk_among, found_some}
use Rattle.send_model.proofs.FirstPaths.{Leading, paths_lead}
use Rattle.snapshot_model.proofs.SentWalks.{Ends, AtNone, AtLast, ends, leads_last}

-- ---- walks and names

module _ {C : Type 0} (s : Subvolume C) where
  pub record Walked (p : List ℕ) (ino : ℕ) : Type 0 where
    pub names : List (List ℕ)
    pub names_are : path_names p ≡ Some names
    pub leads : Leads (Step s) names root ino

  pub walked : (p : List ℕ) (ino : ℕ) → walk s p ≡ Ok ino → Walked p ino
  unfolding walk
  walked p ino w =
      let a = bound (found (path_names p) BadPath) (λ names. walk_names s root names) ino w in
      record { names = a.0; names_are = found_some s (path_names p) BadPath a.0 a.1; leads = leads_from_walk s a.0 root ino a.2 }

  pub walks_to : (p : List ℕ) (names : List (List ℕ)) (ino : ℕ) → path_names p ≡ Some names → Leads (Step s) names root ino → walk s p ≡ Ok ino
  unfolding walk
  walks_to p names ino e l = rw e (walk_from_leads s names root ino l)

  -- What a path leads to is there.
  pub walked_there : IsSound s → (p : List ℕ) (ino : ℕ) → walk s p ≡ Ok ino → IsTrue (is_some (inode_at s ino))
  walked_there sound p ino w = let a = walked p ino w in one a.names a.leads (ends a.names)
    where
      one : (names : List (List ℕ)) → Leads (Step s) names root ino → Ends names → IsTrue (is_some (inode_at s ino))
      one names l (AtNone e) =
          let at : root ≡ ino = subst (λ (r : List (List ℕ)). Leads (Step s) r root ino) e l in
          subst (λ (i : ℕ). IsTrue (is_some (inode_at s i))) at (directory_is_there s root sound.root_there)
      one names l (AtLast front last e) =
          let a = leads_last (Step s) front last root ino (subst (λ (r : List (List ℕ)). Leads (Step s) r root ino) e l) in
          sound.leads_somewhere a.0 last ino a.2.1

-- ---- paths in order

ordered : (rs : List Reached) → IsMap bytes_cmp (in_order rs)
ordered [] = tt
ordered (r ∷ rs) = is_sorted-put bytes_cmp nat_list_cmp_total r.path r.ino (in_order rs) (ordered rs)

put_at : (p : List ℕ) (r : Reached) (rs : List Reached) → value_at bytes_cmp p (in_order (r ∷ rs)) ≡ cond (eq_by_cmp bytes_cmp p r.path) (Some r.ino) (value_at bytes_cmp p (in_order rs))
put_at p r rs = find-put bytes_cmp nat_list_cmp_total p r.path r.ino (in_order rs)

found_among : (p : List ℕ) (ino : ℕ) (rs : List Reached) → value_at bytes_cmp p (in_order rs) ≡ Some ino → Among (record { path = p; ino = ino }) rs
found_among p ino [] e = cc
found_among p ino (r ∷ rs) e = one (eq_by_cmp bytes_cmp p r.path) refl (sym (put_at p r rs) ∙ e) (found_among p ino rs)
  where
    one : (b : Bool) → eq_by_cmp bytes_cmp p r.path ≡ b → cond b (Some r.ino) (value_at bytes_cmp p (in_order rs)) ≡ Some ino
        → (value_at bytes_cmp p (in_order rs) ≡ Some ino → Among (record { path = p; ino = ino }) rs) → Among (record { path = p; ino = ino }) (r ∷ rs)
    one true t f more = let same : p ≡ r.path = exact_bytes p r.path ((Equal-is _).0 t) in inl (λ i. record { path = sym same i; ino = same_inside f i })
    one false t f more = inr (more f)

among_found : (p : List ℕ) (ino : ℕ) (rs : List Reached) → Among (record { path = p; ino = ino }) rs → (other : ℕ) × (value_at bytes_cmp p (in_order rs) ≡ Some other)
among_found p ino [] a = absurd a
among_found p ino (r ∷ rs) (inl e) =
    let same : r.path ≡ p = ap (λ (x : Reached). x.path) e in
    let tie : eq_by_cmp bytes_cmp p r.path ≡ true = (Equal-is _).1 (ap (bytes_cmp p) same ∙ tied_itself nat_list_cmp_total p) in
    (r.ino, put_at p r rs ∙ ap (λ (b : Bool). cond b (Some r.ino) (value_at bytes_cmp p (in_order rs))) tie)
among_found p ino (r ∷ rs) (inr a) = let more = among_found p ino rs a in one (eq_by_cmp bytes_cmp p r.path) refl more.0 more.1
  where
    one : (b : Bool) → eq_by_cmp bytes_cmp p r.path ≡ b → (other : ℕ) → value_at bytes_cmp p (in_order rs) ≡ Some other → (other : ℕ) × (value_at bytes_cmp p (in_order (r ∷ rs)) ≡ Some other)
    one true t other f = (r.ino, put_at p r rs ∙ ap (λ (b : Bool). cond b (Some r.ino) (value_at bytes_cmp p (in_order rs))) t)
    one false t other f = (other, put_at p r rs ∙ ap (λ (b : Bool). cond b (Some r.ino) (value_at bytes_cmp p (in_order rs))) t ∙ f)

module _ {C : Type 0} (s : Subvolume C) where
  pub paths_ordered : IsMap bytes_cmp (paths_of s)
  unfolding paths_of
  paths_ordered = ordered (all_paths s)

  pub path_found_walks : IsLawful s → (p : List ℕ) (ino : ℕ) → value_at bytes_cmp p (paths_of s) ≡ Some ino → walk s p ≡ Ok ino
  unfolding paths_of all_paths path_names
  path_found_walks lawful p ino e =
      let a = found_among p ino (all_paths s) e in
      let all = paths_lead s (all_steps s lawful) 2048 (record { path = []; ino = root } ∷ []) (record { steps = []; names_are = refl; leads = refl }, tt) in
      let l : Leading s p ino = all_at (λ (r : Reached). Leading s r.path r.ino) (record { path = p; ino = ino }) (all_paths s) all a in
      walks_to s p l.steps ino l.names_are l.leads

  pub walked_path_found : IsLawful s → (p : List ℕ) (ino : ℕ) → walk s p ≡ Ok ino → value_at bytes_cmp p (paths_of s) ≡ Some ino
  unfolding paths_of
  walked_path_found lawful p ino w =
      let f = among_found p ino (all_paths s) (walk_among s p ino w) in
      let same : f.0 ≡ ino = ok_same (sym (path_found_walks lawful p f.0 f.1) ∙ w) in
      f.1 ∙ (let some : ℕ → Option ℕ = λ n. Some n in ap some same)

-- ---- what stands before an entry

module _ {X : Type 0} where
  pub entry_below : (p : List ℕ) (q : List ℕ) (k : X) (m : Map (List ℕ) X) → T (below_all bytes_cmp p m) → Among (q, k) m → bytes_cmp p q ≡ Less
  entry_below p q k [] h a = absurd a
  entry_below p q k (e ∷ m) h (inl same) = ap (bytes_cmp p) (sym (ap (λ (f : List ℕ × X). f.0) same)) ∙ is_less _ (T_left _ _ h)
  entry_below p q k (e ∷ m) h (inr a) = entry_below p q k m (T_right _ _ h) a

  pub among_end : (x : List ℕ × X) (done rest : Map (List ℕ) X) → Among x (done ++ x ∷ rest)
  among_end x [] rest = inl refl
  among_end x (e ∷ done) rest = inr (among_end x done rest)

  -- A lesser path stands before it.
  pub before_there : (p : List ℕ) (i : X) (q : List ℕ) (k : X) (done rest : Map (List ℕ) X) → IsMap bytes_cmp (done ++ (p, i) ∷ rest) → Among (q, k) (done ++ (p, i) ∷ rest) → bytes_cmp q p ≡ Less → Among (q, k) done
  before_there p i q k [] rest h (inl same) less =
      let at : p ≡ q = ap (λ (f : List ℕ × X). f.0) same in
      let tie : bytes_cmp q p ≡ Equal = ap (bytes_cmp q) at ∙ tied_itself nat_list_cmp_total q in cc (tie, less)
  before_there p i q k [] rest h (inr a) less =
      let more : bytes_cmp p q ≡ Less = entry_below p q k rest (T_left _ _ h) a in
      let back : bytes_cmp q p ≡ Greater = nat_list_cmp_total.antisymm q p ∙ ap ordering_reverse more in cc (back, less)
  before_there p i q k (e ∷ done) rest h (inl same) less = inl same
  before_there p i q k (e ∷ done) rest h (inr a) less = inr (before_there p i q k done rest (T_right _ _ h) a less)

  -- It is not there twice.
  pub not_before : (p : List ℕ) (i k : X) (done rest : Map (List ℕ) X) → IsMap bytes_cmp (done ++ (p, i) ∷ rest) → Among (p, k) done → ⊥
  not_before p i k [] rest h a = a
  not_before p i k (e ∷ done) rest h (inl same) =
      let less : bytes_cmp e.0 p ≡ Less = entry_below e.0 p i (done ++ (p, i) ∷ rest) (T_left _ _ h) (among_end (p, i) done rest) in
      let at : e.0 ≡ p = ap (λ (f : List ℕ × X). f.0) same in
      let tie : bytes_cmp e.0 p ≡ Equal = ap (bytes_cmp e.0) (sym at) ∙ tied_itself nat_list_cmp_total e.0 in cc (tie, less)
  not_before p i k (e ∷ done) rest h (inr a) = not_before p i k done rest (T_right _ _ h) a
