-- The first path of an inode is the least by bytes of all paths that lead to it, and there is one
-- where any leads to it.
use Rattle.std.specs.Prelude.{◌≡◌, ◌≢◌, ◌⊎◌, ℕ, zero, suc, ◌+◌, ◌≤◌, ◌==◌, Bool, true, false, cond, not, ◌&&◌, List, [], ◌∷◌, ◌++◌, length, Option, None, Some, Ok, nat_le, is_some, if◌then◌else◌}
use Rattle.std.specs.declared.cmp.Ordering.{Ordering}
use Rattle.std.specs.declared.cmp.Ordering.TheVariants.{Less, Equal, Greater}
use Rattle.std.specs.Ordering.{ordering_reverse, eq_by_cmp, is_eq}
use Rattle.std.specs.Cmp.{Equal-is, IsTotalOrder, tied_itself}
use Rattle.std.specs.Cmp.Lexicographic.{nat_list_cmp_total}
use Rattle.std.specs.List.{AllByRecursion, list_all, list_any, join_with_byte}
use Rattle.std.proofs.Common.{refl, sym, ap, subst, ◌∙◌, arith, inl, inr, append_assoc, length-append}
use Rattle.std.proofs.lemmas.Bool.{true≢false, le-leb, eq-eqb, and_parts}
use Rattle.std.proofs.lemmas.List.Splits.{join_with_byte-slice_split}
use Rattle.std.proofs.lemmas.Map.Lookups.{CmpEqualImpliesEq, exact_bytes}
use Rattle.send_model.specs.Refusal.{Refusal, BadPath}
use Rattle.send_model.specs.Chain.{found}
use Rattle.send_model.specs.Path.{slash, is_name, between_slashes, path_names, longest_path}
use Rattle.send_model.specs.Map.{Map, IsMap, bytes_cmp, named_cmp, value_at}
use Rattle.send_model.specs.Subvolume.{Subvolume, IsLawful, IsNameable, root, named, walk_names, walk, path_below, Reached, one_further, all_further, paths_from, all_paths, lesser, least_path, first_path, is_nameable}
use Rattle.send_model.specs.Laws.{IsLeastPath, FirstPathsAreLeast}
use Rattle.send_model.proofs.Stores.{or_parts}
use Rattle.send_model.proofs.Fuel.{bound}
use Rattle.send_model.proofs.Sorts.{same_inside}
use Rattle.send_model.proofs.MapLaws.{T_left, T_right, below_none, named_cmp_total, named_cmp_exact}
use Rattle.send_model.proofs.WalkLaws.{Step, Leads, leads_from_walk}
use Rattle.send_model.proofs.PathLaws.{between_slashes-split, path_names_pieces, path_names_short, is_name_length, none_left}
use Rattle.send_model.proofs.FirstPaths.{IsStep, first_path_leads}

-- ---- elements of a list

abbrev pub Among : {A : Type 0} → A → List A → Type 0
Among x [] = ⊥
Among x (y ∷ ys) = (y ≡ x) ⊎ Among x ys

pub among_left : {A : Type 0} (x : A) (xs ys : List A) → Among x xs → Among x (xs ++ ys)
among_left x [] ys a = absurd a
among_left x (y ∷ xs) ys (inl e) = inl e
among_left x (y ∷ xs) ys (inr more) = inr (among_left x xs ys more)

pub among_right : {A : Type 0} (x : A) (xs ys : List A) → Among x ys → Among x (xs ++ ys)
among_right x [] ys a = a
among_right x (y ∷ xs) ys a = inr (among_right x xs ys a)

pub all_from_among : {A : Type 0} (P : A → Type 0) (xs : List A) → ((x : A) → Among x xs → P x) → AllByRecursion P xs
all_from_among P [] f = tt
all_from_among P (x ∷ xs) f = (f x (inl refl), all_from_among P xs (λ y a. f y (inr a)))

pub all_at : {A : Type 0} (P : A → Type 0) (x : A) (xs : List A) → AllByRecursion P xs → Among x xs → P x
all_at P x [] all a = absurd a
all_at P x (y ∷ xs) all (inl e) = subst P e all.0
all_at P x (y ∷ xs) all (inr more) = all_at P x xs all.1 more

-- ---- entries of a map in order

module _ {K X : Type 0} (R : K → K → Ordering) (o : IsTotalOrder R) (exact : CmpEqualImpliesEq R) where
  pub entry_found : (e : K × X) (m : Map K X) → IsMap R m → Among e m → value_at R e.0 m ≡ Some e.1
  entry_found e [] h a = absurd a
  entry_found e (f ∷ m) h (inl same) =
      let at : value_at R f.0 (f ∷ m) ≡ Some f.1 = ap (λ (b : Bool). cond b (Some f.1) (value_at R f.0 m)) (ap is_eq (tied_itself o f.0)) in
      subst (λ (g : K × X). value_at R g.0 (f ∷ m) ≡ Some g.1) same at
  entry_found e (f ∷ m) h (inr more) = one (eq_by_cmp R e.0 f.0) refl (entry_found e m (T_right _ _ h) more)
    where
      one : (b : Bool) → eq_by_cmp R e.0 f.0 ≡ b → value_at R e.0 m ≡ Some e.1 → cond b (Some f.1) (value_at R e.0 m) ≡ Some e.1
      one true t later = let none : value_at R e.0 m ≡ None = below_none R o exact e.0 f.0 m ((Equal-is _).0 t) (T_left _ _ h) in cc (none, later)
      one false t later = later

  pub found_entry : (k : K) (x : X) (m : Map K X) → value_at R k m ≡ Some x → Among (k, x) m
  found_entry k x [] e = cc
  found_entry k x (f ∷ m) e = one (eq_by_cmp R k f.0) refl e (found_entry k x m)
    where
      one : (b : Bool) → eq_by_cmp R k f.0 ≡ b → cond b (Some f.1) (value_at R k m) ≡ Some x → (value_at R k m ≡ Some x → Among (k, x) m) → Among (k, x) (f ∷ m)
      one true t s later = let same : k ≡ f.0 = exact k f.0 ((Equal-is _).0 t) in inl (λ i. (sym same i, same_inside s i))
      one false t s later = inr (later s)

  -- Each entry of a map in order is found.
  pub each_found : (m : Map K X) → IsMap R m → AllByRecursion (λ e. value_at R e.0 m ≡ Some e.1) m
  each_found m h = all_from_among (λ e. value_at R e.0 m ≡ Some e.1) m (λ e a. entry_found e m h a)

-- ---- names

not_true : (b : Bool) → not b ≡ true → b ≡ false
not_true true e = absurd (true≢false (sym e))
not_true false e = refl

third : (p q r s t u : Bool) → (p && q && r && s && t && u) ≡ true → r ≡ true
third p q r s t u good =
    let to_t : (p && q && r && s && t) ≡ true = (and_parts _ u good).0 in
    let to_s : (p && q && r && s) ≡ true = (and_parts _ t to_t).0 in
    let to_r : (p && q && r) ≡ true = (and_parts _ s to_s).0 in
    (and_parts (p && q) r to_r).1

pub name_has_no_slash : (name : List ℕ) → is_name name ≡ true → list_any (λ b. b == slash) name ≡ false
unfolding is_name
name_has_no_slash name good = not_true (list_any (λ b. b == slash) name) (third (nat_le 1 (length name)) (nat_le (length name) 255) (not (list_any (λ b. b == slash) name)) _ _ _ good)

pub no_slash_alone : (name : List ℕ) → list_any (λ b. b == slash) name ≡ false → between_slashes name ≡ name ∷ []
unfolding between_slashes
no_slash_alone [] h = refl
no_slash_alone (b ∷ name) h = let p = or_parts (b == slash) (list_any (λ c. c == slash) name) h in rw (p.0, no_slash_alone name p.1) refl

-- ---- a path as its names, one below the other

abbrev pub join_names : List ℕ → List (List ℕ) → List ℕ
join_names path [] = path
join_names path (name ∷ names) = join_names (path_below path name) names

below_longer : (path name : List ℕ) → length path ≤ length (path_below path name)
below_longer [] name = omega arith
below_longer (b ∷ path) name = omega (arith, length-append (b ∷ path) (slash ∷ name))

join_longer : (path : List ℕ) (names : List (List ℕ)) → length path ≤ length (join_names path names)
join_longer path [] = omega arith
join_longer path (name ∷ names) = omega (arith, below_longer path name, join_longer (path_below path name) names)

join_after : (b : ℕ) (path name : List ℕ) (names : List (List ℕ)) → join_names (b ∷ path) (name ∷ names) ≡ (b ∷ path) ++ slash ∷ join_with_byte slash (name ∷ names)
join_after b path name [] = refl
join_after b path name (more ∷ names) =
    join_after b (path ++ slash ∷ name) more names
    ∙ append_assoc (b ∷ path) (slash ∷ name) (slash ∷ join_with_byte slash (more ∷ names))

pub join_all : (names : List (List ℕ)) → list_all is_name names ≡ true → join_names [] names ≡ join_with_byte slash names
join_all [] good = refl
join_all (name ∷ []) good = refl
join_all (name ∷ more ∷ names) good = one name (is_name_length name (and_parts (is_name name) (list_all is_name (more ∷ names)) good).0).0
  where
    one : (n : List ℕ) → 1 ≤ length n → join_names n (more ∷ names) ≡ n ++ slash ∷ join_with_byte slash (more ∷ names)
    one [] some = absurd (omega (arith, some))
    one (b ∷ n) some = join_after b n more names

-- Names are few where their path is short.
few_names : (names : List (List ℕ)) → list_all is_name names ≡ true → length names + length names ≤ length (join_with_byte slash names) + 1
few_names [] good = omega arith
few_names (name ∷ []) good = omega (arith, is_name_length name (and_parts (is_name name) true good).0)
few_names (name ∷ more ∷ names) good =
    let p = and_parts (is_name name) (list_all is_name (more ∷ names)) good in
    omega (arith, is_name_length name p.0, few_names (more ∷ names) p.1, length-append name (slash ∷ join_with_byte slash (more ∷ names)))

-- ---- all paths are among them

module _ {C : Type 0} (s : Subvolume C) where
  kept_among : (b t : Bool) (x r : Reached) (rest : List Reached) → Among x rest → Among x (if b then (if t then r ∷ rest else rest) else rest)
  kept_among true true x r rest a = inr a
  kept_among true false x r rest a = a
  kept_among false t x r rest a = a

  first_among : (b t : Bool) (x : Reached) (rest : List Reached) → b ≡ true → t ≡ true → Among x (if b then (if t then x ∷ rest else rest) else rest)
  first_among true true x rest d e = inl refl
  first_among true false x rest d e = absurd (true≢false (sym e))
  first_among false t x rest d e = absurd (true≢false (sym d))

  one_among : (names : Map (ℕ × List ℕ) ℕ) (path name : List ℕ) (from below : ℕ) → Among ((from, name), below) names → length (path_below path name) ≤ 4095
      → Among (record { path = path_below path name; ino = below }) (one_further names (record { path = path; ino = from }))
  one_among [] path name from below a short = absurd a
  one_among (e ∷ names) path name from below (inl same) short =
      let P : (ℕ × List ℕ) × ℕ → Type 0 = λ f. Among (record { path = path_below path name; ino = below }) (one_further (f ∷ names) (record { path = path; ino = from })) in
      let at : P ((from, name), below) = first_among (from == from) (nat_le (length (path_below path name)) longest_path) (record { path = path_below path name; ino = below }) (one_further names (record { path = path; ino = from })) (eq-eqb from from refl) (le-leb (length (path_below path name)) 4095 short) in
      subst P (sym same) at
  one_among (e ∷ names) path name from below (inr more) short =
      kept_among (e.0.0 == from) (nat_le (length (path_below path e.0.1)) longest_path) (record { path = path_below path name; ino = below }) (record { path = path_below path e.0.1; ino = e.1 }) (one_further names (record { path = path; ino = from }))
      (one_among names path name from below more short)

  further_among : (names : Map (ℕ × List ℕ) ℕ) (froms : List Reached) (path name : List ℕ) (from below : ℕ) → Among ((from, name), below) names → length (path_below path name) ≤ 4095
      → Among (record { path = path; ino = from }) froms → Among (record { path = path_below path name; ino = below }) (all_further names froms)
  further_among names [] path name from below a short r = absurd r
  further_among names (f ∷ froms) path name from below a short (inl same) =
      let P : Reached → Type 0 = λ g. Among (record { path = path_below path name; ino = below }) (all_further names (g ∷ froms)) in
      let here : Reached = record { path = path; ino = from } in
      let at : P here = among_left (record { path = path_below path name; ino = below }) (one_further names here) (all_further names froms) (one_among names path name from below a short) in
      subst P (sym same) at
  further_among names (f ∷ froms) path name from below a short (inr more) =
      among_right (record { path = path_below path name; ino = below }) (one_further names f) (all_further names froms) (further_among names froms path name from below a short more)

  start_among : (depth : ℕ) (names : Map (ℕ × List ℕ) ℕ) (froms : List Reached) (x : Reached) → Among x froms → Among x (paths_from depth names froms)
  unfolding paths_from
  start_among depth names [] x a = absurd a
  start_among zero names (f ∷ froms) x a = a
  start_among (suc depth) names (f ∷ froms) x a = among_left x (f ∷ froms) (paths_from depth names (all_further names (f ∷ froms))) a

  leads_among : (names : List (List ℕ)) (depth : ℕ) (froms : List Reached) (path : List ℕ) (from to : ℕ) → Among (record { path = path; ino = from }) froms → Leads (Step s) names from to
      → length names ≤ depth → length (join_names path names) ≤ 4095 → Among (record { path = join_names path names; ino = to }) (paths_from depth s.names froms)
  unfolding paths_from
  leads_among [] depth froms path from to a l d short =
      let P : ℕ → Type 0 = λ i. Among (record { path = path; ino = i }) (paths_from depth s.names froms) in
      subst P l (start_among depth s.names froms (record { path = path; ino = from }) a)
  leads_among (name ∷ names) zero froms path from to a l d short = absurd (omega (arith, d))
  leads_among (name ∷ names) (suc depth) [] path from to a l d short = absurd a
  leads_among (name ∷ names) (suc depth) (f ∷ froms) path from to a l d short =
      let entry : Among ((from, name), l.0) s.names = found_entry named_cmp named_cmp_total named_cmp_exact (from, name) l.0 s.names l.1.1 in
      let fits : length (path_below path name) ≤ 4095 = omega (arith, short, join_longer (path_below path name) names) in
      let next = further_among s.names (f ∷ froms) path name from l.0 entry fits a in
      among_right (record { path = join_names (path_below path name) names; ino = to }) (f ∷ froms) (paths_from depth s.names (all_further s.names (f ∷ froms)))
      (leads_among names depth (all_further s.names (f ∷ froms)) (path_below path name) l.0 to next l.2 (omega (arith, d)) short)

  -- ---- what walks is among all paths

  pub found_some : {A : Type 0} (o : Option A) (refusal : Refusal) (x : A) → found o refusal ≡ Ok x → o ≡ Some x
  found_some None refusal x e = cc
  found_some (Some y) refusal x e = cc

  pub joined : (path : List ℕ) (names : List (List ℕ)) → path_names path ≡ Some names → (join_names [] names ≡ path) × (length names ≤ 2048)
  joined [] names e = let none = none_left names e in (ap (λ (ns : List (List ℕ)). join_names [] ns) none, omega (arith, ap length none))
  joined (b ∷ path) names e =
      let p = path_names_pieces (b ∷ path) names (omega arith) e in
      let good : list_all is_name names ≡ true = ap (list_all is_name) p.0 ∙ p.1 in
      let whole : join_with_byte slash names ≡ b ∷ path = ap (join_with_byte slash) (p.0 ∙ between_slashes-split (b ∷ path)) ∙ join_with_byte-slice_split slash (b ∷ path) in
      (join_all names good ∙ whole, omega (arith, few_names names good, path_names_short (b ∷ path) names e, ap length whole))

  pub walk_among : (path : List ℕ) (ino : ℕ) → walk s path ≡ Ok ino → Among (record { path = path; ino = ino }) (all_paths s)
  unfolding walk all_paths
  walk_among path ino w =
      let a = bound (found (path_names path) BadPath) (λ names. walk_names s root names) ino w in
      let names : List (List ℕ) = a.0 in
      let some = found_some (path_names path) BadPath names a.1 in
      let j = joined path names some in
      let l = leads_from_walk s names root ino a.2 in
      let at = leads_among names 2048 (record { path = []; ino = root } ∷ []) [] root ino (inl refl) l j.1 (omega (arith, ap length j.0, path_names_short path names some)) in
      subst (λ (p : List ℕ). Among (record { path = p; ino = ino }) (paths_from 2048 s.names (record { path = []; ino = root } ∷ []))) j.0 at

-- ---- the order of paths

-- A path is not after another by bytes.
abbrev pub NotAfter : List ℕ → List ℕ → Type 0
NotAfter p q = bytes_cmp p q ≢ Greater

pub flipped : (p q : List ℕ) (r : Ordering) → bytes_cmp p q ≡ r → bytes_cmp q p ≡ ordering_reverse r
flipped p q r e = nat_list_cmp_total.antisymm q p ∙ ap ordering_reverse e

pub not_after_itself : (p : List ℕ) → NotAfter p p
not_after_itself p e = let t : bytes_cmp p p ≡ Equal = tied_itself nat_list_cmp_total p in cc

pub not_after_one : (r : Ordering) → r ≢ Greater → (r ≡ Less) ⊎ (r ≡ Equal)
not_after_one Less n = inl refl
not_after_one Equal n = inr refl
not_after_one Greater n = absurd (n refl)

pub not_after_trans : (p q r : List ℕ) → NotAfter p q → NotAfter q r → NotAfter p r
not_after_trans p q r a b e = elim (not_after_one (bytes_cmp p q) a) [
  | inr same ↦ b (sym (nat_list_cmp_total.congr p q r same) ∙ e)
  | inl less ↦ elim (not_after_one (bytes_cmp q r) b) [
    | inl less' ↦ let t : bytes_cmp p r ≡ Less = nat_list_cmp_total.trans p q r less less' in cc (t, e)
    | inr same ↦ let is : q ≡ r = exact_bytes q r same in a (ap (bytes_cmp p) is ∙ e)
  ]
]

pub not_after_both : (p q : List ℕ) → NotAfter p q → NotAfter q p → p ≡ q
not_after_both p q a b = elim (not_after_one (bytes_cmp p q) a) [
  | inr same ↦ exact_bytes p q same
  | inl less ↦ absurd (b (flipped p q Less less))
]

not_after_other : (p q : List ℕ) → bytes_cmp p q ≡ Greater → NotAfter q p
not_after_other p q e g = let t : bytes_cmp q p ≡ Less = flipped p q Greater e in cc (t, g)

-- ---- the least of some paths

-- The least of some paths is there, and is not after a given one.
abbrev Below : List ℕ → Option (List ℕ) → Type 0
Below q o = (p : List ℕ) × (o ≡ Some p) × NotAfter p q

lesser_here : (q : List ℕ) (o : Option (List ℕ)) → Below q (lesser q o)
lesser_here q None = (q, refl, not_after_itself q)
lesser_here q (Some other) = one (bytes_cmp q other) refl
  where
    one : (r : Ordering) → bytes_cmp q other ≡ r → Below q (elim r as (λ x. Option (List ℕ)) [ Greater ↦ Some other | _ ↦ Some q ])
    one Less e = (q, refl, not_after_itself q)
    one Equal e = (q, refl, not_after_itself q)
    one Greater e = (other, refl, not_after_other q other e)

lesser_there : (path q : List ℕ) (o : Option (List ℕ)) → Below q o → Below q (lesser path o)
lesser_there path q None b = cc
lesser_there path q (Some other) b = one (bytes_cmp path other) refl
  where
    low : NotAfter other q
    low = let same : other ≡ b.0 = same_inside b.1 in subst (λ (x : List ℕ). NotAfter x q) (sym same) b.2

    one : (r : Ordering) → bytes_cmp path other ≡ r → Below q (elim r as (λ x. Option (List ℕ)) [ Greater ↦ Some other | _ ↦ Some path ])
    one Less e = (path, refl, not_after_trans path other q (λ g. let t : bytes_cmp path other ≡ Less = e in cc (t, g)) low)
    one Equal e = (path, refl, not_after_trans path other q (λ g. let t : bytes_cmp path other ≡ Equal = e in cc (t, g)) low)
    one Greater e = (other, refl, low)

least_below : (ino : ℕ) (rs : List Reached) (q : List ℕ) → Among (record { path = q; ino = ino }) rs → Below q (least_path ino rs)
least_below ino [] q a = absurd a
least_below ino (r ∷ rs) q (inl same) =
    let P : Reached → Type 0 = λ x. Below q (least_path ino (x ∷ rs)) in
    let at : P (record { path = q; ino = ino }) = rw (eq-eqb ino ino refl) (lesser_here q (least_path ino rs)) in
    subst P (sym same) at
least_below ino (r ∷ rs) q (inr more) = one (r.ino == ino) (least_below ino rs q more)
  where
    one : (b : Bool) → Below q (least_path ino rs) → Below q (if b then lesser r.path (least_path ino rs) else least_path ino rs)
    one true b = lesser_there r.path q (least_path ino rs) b
    one false b = b

-- ---- the law

module _ {C : Type 0} (s : Subvolume C) where
  -- All entries of the names are steps of walks.
  pub all_steps : IsLawful s → AllByRecursion (IsStep s) s.names
  all_steps lawful = all_from_among (IsStep s) s.names (λ e a.
      let there : named s e.0.0 e.0.1 ≡ Some e.1 = entry_found named_cmp named_cmp_total named_cmp_exact e s.names lawful.sound.names_in_order a in
      let is : is_name e.0.1 ≡ true = all_at (λ (f : (ℕ × List ℕ) × ℕ). is_name f.0.1 ≡ true) e s.names lawful.lawful_names a in
      ((lawful.sound.in_directory e.0.0 e.0.1 e.1 there, there), is, no_slash_alone e.0.1 (name_has_no_slash e.0.1 is)))

  -- There is a first path where any path leads to the inode. This holds of every subvolume.
  pub first_path_there : (ino : ℕ) (q : List ℕ) → walk s q ≡ Ok ino → (p : List ℕ) × (first_path s ino ≡ Some p) × NotAfter p q
  unfolding first_path
  first_path_there ino q w = least_below ino (all_paths s) q (walk_among s q ino w)

  pub first_path_is_first : IsLawful s → (ino : ℕ) (p : List ℕ) → first_path s ino ≡ Some p → IsLeastPath s ino p
  first_path_is_first lawful ino p e = record {
    leads = first_path_leads s (all_steps lawful) ino p e;
    least = λ q w. let b = first_path_there ino q w in let same : b.0 ≡ p = same_inside (sym b.1 ∙ e) in subst (λ (x : List ℕ). NotAfter x q) same b.2;
  }

  pub first_is_first_path : IsLawful s → (ino : ℕ) (p : List ℕ) → IsLeastPath s ino p → first_path s ino ≡ Some p
  first_is_first_path lawful ino p f =
      let b = first_path_there ino p f.leads in
      let found = first_path_is_first lawful ino b.0 b.1 in
      let same : b.0 ≡ p = not_after_both b.0 p b.2 (f.least b.0 found.leads) in
      subst (λ (x : List ℕ). first_path s ino ≡ Some x) same b.1

  -- There is none exactly where no path leads to the inode.
  pub no_first_path : (ino : ℕ) → first_path s ino ≡ None → (q : List ℕ) → walk s q ≢ Ok ino
  no_first_path ino none q w = let b = first_path_there ino q w in let some : None ≡ Some b.0 = sym none ∙ b.1 in cc some

  pub no_path_no_first : IsLawful s → (ino : ℕ) → ((q : List ℕ) → walk s q ≢ Ok ino) → first_path s ino ≡ None
  no_path_no_first lawful ino nowhere = one (first_path s ino) refl
    where
      one : (o : Option (List ℕ)) → first_path s ino ≡ o → o ≡ None
      one None e = refl
      one (Some p) e = absurd (nowhere p (first_path_is_first lawful ino p e).leads)

  -- An inode has a first path exactly where it can be named.
  pub nameable_there : IsLawful s → (ino : ℕ) → is_nameable s ino ≡ true → IsNameable s ino
  unfolding is_nameable IsNameable
  nameable_there lawful ino h = one (first_path s ino) refl h
    where
      one : (o : Option (List ℕ)) → first_path s ino ≡ o → is_some o ≡ true → (path : List ℕ) × (walk s path ≡ Ok ino)
      one None e h = absurd (true≢false (sym h))
      one (Some p) e h = (p, (first_path_is_first lawful ino p e).leads)

  pub there_nameable : (ino : ℕ) → IsNameable s ino → is_nameable s ino ≡ true
  unfolding is_nameable IsNameable
  there_nameable ino n = let b = first_path_there ino n.0 n.1 in ap is_some b.1

  pub first_paths_are_least : IsLawful s → FirstPathsAreLeast s
  first_paths_are_least lawful = record {
    some = first_path_is_first lawful;
    only = first_is_first_path lawful;
    none = no_first_path;
    nowhere = no_path_no_first lawful;
    nameable = nameable_there lawful;
    named = there_nameable;
  }
