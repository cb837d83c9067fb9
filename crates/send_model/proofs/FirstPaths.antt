-- The first path of an inode leads to it.
use Rattle.std.specs.Prelude.{◌≡◌, ℕ, zero, suc, ◌==◌, Bool, true, false, ◌&&◌, List, [], ◌∷◌, ◌++◌, length, Option, None, Some, Ok, nat_le, if◌then◌else◌}
use Rattle.std.specs.declared.cmp.Ordering.{Ordering}
use Rattle.std.specs.declared.cmp.Ordering.TheVariants.{Less, Equal, Greater}
use Rattle.std.specs.List.{AllByRecursion, list_all}
use Rattle.std.proofs.Common.{refl, sym, ap, ap₂, subst, ◌∙◌, arith, eqb-true}
use Rattle.std.proofs.lemmas.Bool.{true≢false, leb-true}
use Rattle.send_model.specs.Path.{slash, is_name, between_slashes, onto_first, path_names, longest_path}
use Rattle.send_model.specs.Map.{Map, bytes_cmp}
use Rattle.send_model.specs.Subvolume.{Subvolume, root, walk, path_below, Reached, one_further, all_further, paths_from, all_paths, lesser, least_path, first_path}
use Rattle.send_model.proofs.ElementLaws.{all_both}
use Rattle.send_model.proofs.WalkLaws.{Step, Leads, leads-append, walk_from_leads}
use Rattle.send_model.proofs.PathLaws.{path_by_pieces, is_name_length, path_names_pieces}
use Rattle.send_model.proofs.Sorts.{same_inside}

-- ---- pieces

onto_append : (b : ℕ) (ps qs : List (List ℕ)) → (p : List ℕ) (rest : List (List ℕ)) → ps ≡ p ∷ rest → onto_first b (ps ++ qs) ≡ onto_first b ps ++ qs
onto_append b [] qs p rest e = cc
onto_append b (x ∷ ps) qs p rest e = refl

-- there is always a piece
some_piece : (bytes : List ℕ) → (p : List ℕ) × (rest : List (List ℕ)) × (between_slashes bytes ≡ p ∷ rest)
unfolding between_slashes
some_piece [] = ([], [], refl)
some_piece (b ∷ bytes) = one (b == slash) (some_piece bytes)
  where
    onto : (ps : List (List ℕ)) → (p : List ℕ) × (rest : List (List ℕ)) × (onto_first b ps ≡ p ∷ rest)
    onto [] = (b ∷ [], [], refl)
    onto (x ∷ ps) = (b ∷ x, ps, refl)

    one : (t : Bool) → (p : List ℕ) × (rest : List (List ℕ)) × (between_slashes bytes ≡ p ∷ rest) → (p : List ℕ) × (rest : List (List ℕ)) × ((if t then [] ∷ between_slashes bytes else onto_first b (between_slashes bytes)) ≡ p ∷ rest)
    one true m = ([], between_slashes bytes, refl)
    one false m = onto (between_slashes bytes)

pub slashes_append : (path name : List ℕ) → between_slashes (path ++ slash ∷ name) ≡ between_slashes path ++ between_slashes name
unfolding between_slashes
slashes_append [] name = refl
slashes_append (b ∷ path) name = one (b == slash) (slashes_append path name)
  where
    one : (t : Bool) → between_slashes (path ++ slash ∷ name) ≡ between_slashes path ++ between_slashes name
        → (if t then [] ∷ between_slashes (path ++ slash ∷ name) else onto_first b (between_slashes (path ++ slash ∷ name))) ≡ (if t then [] ∷ between_slashes path else onto_first b (between_slashes path)) ++ between_slashes name
    one true e = ap (λ (r : List (List ℕ)). [] ∷ r) e
    one false e = let p = some_piece path in ap (onto_first b) e ∙ onto_append b (between_slashes path) (between_slashes name) p.0 p.1 p.2

-- ---- the least of some paths is one of them

module _ (P : List ℕ → ℕ → Type 0) where
  lesser_is : (path : List ℕ) (o : Option (List ℕ)) (ino : ℕ) (p : List ℕ) → P path ino → ((q : List ℕ) → o ≡ Some q → P q ino) → lesser path o ≡ Some p → P p ino
  lesser_is path None ino p here there e = subst (λ (q : List ℕ). P q ino) (same_inside e) here
  lesser_is path (Some other) ino p here there e = one (bytes_cmp path other) e
    where
      one : (r : Ordering) → (elim r as (λ x. Option (List ℕ)) [ Greater ↦ Some other | _ ↦ Some path ]) ≡ Some p → P p ino
      one Greater f = there p f
      one Less f = subst (λ (q : List ℕ). P q ino) (same_inside f) here
      one Equal f = subst (λ (q : List ℕ). P q ino) (same_inside f) here

  pub least_is : (ino : ℕ) (rs : List Reached) → AllByRecursion (λ r. P r.path r.ino) rs → (p : List ℕ) → least_path ino rs ≡ Some p → P p ino
  least_is ino [] all p e = cc
  least_is ino (r ∷ rs) all p e = one (r.ino == ino) refl e (λ q g. least_is ino rs all.1 q g)
    where
      one : (b : Bool) → (r.ino == ino) ≡ b → (if b then lesser r.path (least_path ino rs) else least_path ino rs) ≡ Some p → ((q : List ℕ) → least_path ino rs ≡ Some q → P q ino) → P p ino
      one true t f more = lesser_is r.path (least_path ino rs) ino p (subst (λ (i : ℕ). P r.path i) (eqb-true r.ino ino t) all.0) more f
      one false t f more = more p f

names_append : (name : List ℕ) (ns : List (List ℕ)) → is_name name ≡ true → list_all is_name ns ≡ true → list_all is_name (ns ++ name ∷ []) ≡ true
names_append name [] is g = rw is refl
names_append name (n ∷ ns) is g = one (is_name n) g (names_append name ns is)
  where
    one : (t : Bool) → t && list_all is_name ns ≡ true → (list_all is_name ns ≡ true → list_all is_name (ns ++ name ∷ []) ≡ true) → t && list_all is_name (ns ++ name ∷ []) ≡ true
    one true u more = more u
    one false u more = absurd (true≢false (sym u))

-- ---- all paths lead where they say

module _ {C : Type 0} (s : Subvolume C) where
  pub record Leading (path : List ℕ) (ino : ℕ) : Type 0 where
    pub steps : List (List ℕ)
    pub names_are : path_names path ≡ Some steps
    pub leads : Leads (Step s) steps root ino

  abbrev pub IsStep : (ℕ × List ℕ) × ℕ → Type 0
  IsStep e = Step s e.0.0 e.0.1 e.1 × (is_name e.0.1 ≡ true) × (between_slashes e.0.1 ≡ e.0.1 ∷ [])

  further : (path name : List ℕ) (from below : ℕ) → Leading path from → Step s from name below → is_name name ≡ true → between_slashes name ≡ name ∷ [] → nat_le (length (path_below path name)) longest_path ≡ true → Leading (path_below path name) below
  unfolding path_names
  further [] name from below h st is alone short = record {
    steps = name ∷ [];
    names_are = path_by_pieces name true (omega (arith, is_name_length name is)) (leb-true (length name) 4095 short) (ap (list_all is_name) alone ∙ rw is refl) ∙ ap Some alone;
    leads = leads-append (Step s) (Step s) [] (name ∷ []) root root below refl (below, subst (λ (i : ℕ). Step s i name below) (sym at_root) st, refl);
  }
    where
      at_root : root ≡ from
      at_root = let none : h.steps ≡ [] = sym (same_inside h.names_are) in subst (λ (ns : List (List ℕ)). Leads (Step s) ns root from) none h.leads
  further (b ∷ path) name from below h st is alone short =
      let pieces = path_names_pieces (b ∷ path) h.steps (omega arith) h.names_are in
      let all : between_slashes ((b ∷ path) ++ slash ∷ name) ≡ h.steps ++ name ∷ [] = slashes_append (b ∷ path) name ∙ ap₂ (λ (x y : List (List ℕ)). x ++ y) (sym pieces.0) alone in
      let good : list_all is_name (h.steps ++ name ∷ []) ≡ true = names_append name h.steps is (ap (list_all is_name) pieces.0 ∙ pieces.1) in
      record {
        steps = h.steps ++ name ∷ [];
        names_are = path_by_pieces ((b ∷ path) ++ slash ∷ name) true (omega arith) (leb-true _ 4095 short) (ap (list_all is_name) all ∙ good) ∙ ap Some all;
        leads = leads-append (Step s) (Step s) h.steps (name ∷ []) root from below h.leads (below, st, refl);
      }

  one_further_leads : (names : Map (ℕ × List ℕ) ℕ) → AllByRecursion IsStep names → (from : Reached) → Leading from.path from.ino → AllByRecursion (λ r. Leading r.path r.ino) (one_further names from)
  one_further_leads [] all from h = tt
  one_further_leads (e ∷ names) all from h = one (e.0.0 == from.ino) refl (nat_le (length (path_below from.path e.0.1)) longest_path) refl (one_further_leads names all.1 from h)
    where
      one : (b : Bool) → (e.0.0 == from.ino) ≡ b → (t : Bool) → nat_le (length (path_below from.path e.0.1)) longest_path ≡ t → AllByRecursion (λ r. Leading r.path r.ino) (one_further names from)
          → AllByRecursion (λ r. Leading r.path r.ino) (if b then (if t then record { path = path_below from.path e.0.1; ino = e.1 } ∷ one_further names from else one_further names from) else one_further names from)
      one true same true short more = (further from.path e.0.1 from.ino e.1 h (subst (λ (i : ℕ). Step s i e.0.1 e.1) (eqb-true e.0.0 from.ino same) all.0.0) all.0.1 all.0.2 short, more)
      one true same false short more = more
      one false same t short more = more

  all_further_leads : AllByRecursion IsStep s.names → (froms : List Reached) → AllByRecursion (λ r. Leading r.path r.ino) froms → AllByRecursion (λ r. Leading r.path r.ino) (all_further s.names froms)
  all_further_leads steps [] all = tt
  all_further_leads steps (from ∷ froms) all = all_both (λ r. Leading r.path r.ino) (one_further s.names from) (all_further s.names froms) (one_further_leads s.names steps from all.0) (all_further_leads steps froms all.1)

  pub paths_lead : AllByRecursion IsStep s.names → (depth : ℕ) (froms : List Reached) → AllByRecursion (λ r. Leading r.path r.ino) froms → AllByRecursion (λ r. Leading r.path r.ino) (paths_from depth s.names froms)
  unfolding paths_from
  paths_lead steps depth [] all = tt
  paths_lead steps zero (from ∷ froms) all = all
  paths_lead steps (suc depth) (from ∷ froms) all = all_both (λ r. Leading r.path r.ino) (from ∷ froms) _ all (paths_lead steps depth (all_further s.names (from ∷ froms)) (all_further_leads steps (from ∷ froms) all))

  pub first_path_leads : AllByRecursion IsStep s.names → (ino : ℕ) (path : List ℕ) → first_path s ino ≡ Some path → walk s path ≡ Ok ino
  unfolding first_path all_paths walk path_names
  first_path_leads steps ino path e =
      let at : Leading path ino = least_is (λ p i. Leading p i) ino (all_paths s) (paths_lead steps 2048 (record { path = []; ino = root } ∷ []) (record { steps = []; names_are = refl; leads = refl }, tt)) path e in
      rw at.names_are (walk_from_leads s at.steps root ino at.leads)
