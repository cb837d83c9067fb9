-- The least of the paths ahead is the next of all paths; what stands ahead once it was passed, and
-- which first paths are known then.
use Rattle.std.specs.Prelude.{◌≡◌, ◌⊎◌, ℕ, zero, suc, ◌≤◌, ◌<◌, Bool, true, false, List, [], ◌∷◌, length, Option, None, Some, Ok, if◌then◌else◌}
use Rattle.std.specs.declared.cmp.Ordering.{Ordering}
use Rattle.std.specs.declared.cmp.Ordering.TheVariants.{Less, Equal, Greater}
use Rattle.std.specs.Ordering.{nat_cmp, ordering_reverse}
use Rattle.std.specs.Option.{unwrap_or}
use Rattle.std.specs.Str.{bytes_eq}
use Rattle.std.specs.Cmp.{nat_cmp_total}
use Rattle.std.specs.Cmp.Lexicographic.{nat_list_cmp_total}
use Rattle.std.proofs.Common.{refl, sym, ap, subst, ◌∙◌, arith, inl, inr}
use Rattle.std.proofs.lemmas.Bool.{true≢false}
use Rattle.std.proofs.lemmas.Map.Lookups.{exact_bytes, exact_unsigned}
use Rattle.send_model.specs.Path.{path_names}
use Rattle.send_model.specs.Map.{Map, bytes_cmp, value_at, with_value, without}
use Rattle.send_model.specs.Subvolume.{Subvolume, IsLawful, walk, walk_names, first_path, is_directory}
use Rattle.shared_map.specs.Sought.{entry_after}
use Rattle.shared_map.specs.Edited.{PutsNew}
use Rattle.snapshot_model.specs.Listing.{listed, paths_of}
use Rattle.send_model.proofs.Fuel.{ok_same}
use Rattle.send_model.proofs.Sorts.{same_inside}
use Rattle.send_model.proofs.MapLaws.{cases_key, with_value-here, with_value-other, without-order, without-here, without-other}
use Rattle.send_model.proofs.LeastPaths.{first_path_there, first_path_is_first, first_is_first_path}
use Rattle.send_model.proofs.Stores.{bytes_eq_same}
use Rattle.snapshot_model.proofs.SentWalks.{names_path, one_way}
use Rattle.snapshot_model.proofs.SentPaths.{walked, paths_ordered, path_found_walks, walked_path_found}
use Rattle.path_walk.specs.Ahead.{IsEntry, Grows, HasEntries}
use Rattle.path_walk.specs.Passing.{Passed, StepsOn, earlier, IsAfter, IsAhead, AreFirsts, Learns, IsKnown, IsPassed}
use Rattle.path_walk.proofs.Least.{IsLeastAbove, least_above, none_above, is_least, is_none}
use Rattle.path_walk.proofs.Below.{Place, AtRoot, InDirectory, place_of, entry_walks}

abbrev SamePath : List ℕ → List ℕ → Type 0
SamePath p q = p ≡ q

no_loop : (p q : List ℕ) → IsAfter p q → IsAfter q p → ⊥
no_loop p q a b = let back : bytes_cmp q p ≡ Greater = nat_list_cmp_total.antisymm q p ∙ ap ordering_reverse a in cc (back, b)

not_itself : (p q : List ℕ) → SamePath p q → IsAfter p q → ⊥
not_itself p q same a = let b = subst (λ (x : List ℕ). IsAfter x q) same a in no_loop q q b b

-- One of two paths comes after the other, unless they are one.
pub by_order : (p q : List ℕ) → SamePath p q ⊎ (IsAfter p q ⊎ IsAfter q p)
by_order p q = one (bytes_cmp p q) refl
  where
    one : (r : Ordering) → bytes_cmp p q ≡ r → SamePath p q ⊎ (IsAfter p q ⊎ IsAfter q p)
    one Less e = inr (inl e)
    one Equal e = inl (exact_bytes p q e)
    one Greater e = inr (inr (nat_list_cmp_total.antisymm q p ∙ ap ordering_reverse e))

module _ {C : Type 0} (s : Subvolume C) (lawful : IsLawful s) (at : List ℕ) (m : Map (List ℕ) ℕ) (h : IsAhead s at m) where
  -- Where a path comes after the one that was passed, one of those ahead does not come after it.
  record Before (path : List ℕ) : Type 0 where
    other : List ℕ
    ino : ℕ
    there : value_at bytes_cmp other m ≡ Some ino
    low : IsAfter path other → ⊥

  by_place : (path : List ℕ) (ino : ℕ) → IsAfter at path → Place s lawful path ino
      → ((front : List ℕ) (d : ℕ) → length front < length path → walk s front ≡ Ok d → IsAfter at front → Before front) → Before path
  by_place path ino after (AtRoot none) more = absurd (no_root at (subst (λ (p : List ℕ). IsAfter at p) none after))
    where
      no_root : (p : List ℕ) → IsAfter p [] → ⊥
      no_root [] e = cc
      no_root (b ∷ p) e = cc
  by_place path ino after (InDirectory front directory v e up longer) more = elim (by_order at front) [
    | inr (inl later) ↦
        let b = more front directory longer v later in
        record { other = b.other; ino = b.ino; there = b.there; low = λ a. b.low (nat_list_cmp_total.trans front path b.other up a) }
    | inl same ↦ here (not_itself at front same)
    | inr (inr sooner) ↦ here (λ a. no_loop at front a sooner)
  ]
    where
      here : (IsAfter at front → ⊥) → Before path
      here passed = record { other = path; ino = ino; there = h.all front directory v passed path ino e after; low = λ a. no_loop path path a a }

  before : (n : ℕ) (path : List ℕ) (ino : ℕ) → length path ≤ n → walk s path ≡ Ok ino → IsAfter at path → Before path
  before zero path ino short w after = by_place path ino after (place_of s lawful path ino w) (λ front d less v later. absurd (omega (arith, short, less)))
  before (suc n) path ino short w after = by_place path ino after (place_of s lawful path ino w) (λ front d less v later. before n front d (omega (arith, short, less)) v later)

  -- The least of those ahead is the next of all.
  pub next_is : (e : List ℕ × ℕ) → entry_after bytes_cmp at m ≡ Some e → entry_after bytes_cmp at (paths_of s) ≡ Some e
  next_is e is =
      let l = least_above bytes_cmp nat_list_cmp_total at m e h.ordered is in
      is_least bytes_cmp nat_list_cmp_total exact_bytes at (paths_of s) e (paths_ordered s) (record {
        above = l.above;
        there = walked_path_found s lawful e.0 e.1 (h.leads e.0 e.1 l.there).0;
        least = λ p i valued after less.
            let b = before (length p) p i (omega arith) (path_found_walks s lawful p i valued) after in
            let later = (h.leads b.other b.ino b.there).1 in
            elim (by_order b.other e.0) [
              | inl same ↦ b.low (subst (λ (q : List ℕ). IsAfter p q) (sym same) less)
              | inr (inl sooner) ↦ l.least b.other b.ino b.there later sooner
              | inr (inr after_it) ↦ b.low (nat_list_cmp_total.trans p e.0 b.other less after_it)
            ];
      })

  pub none_is : entry_after bytes_cmp at m ≡ None → entry_after bytes_cmp at (paths_of s) ≡ None
  none_is is = is_none bytes_cmp nat_list_cmp_total exact_bytes at (paths_of s) (paths_ordered s) (λ p i valued after.
      let b = before (length p) p i (omega arith) (path_found_walks s lawful p i valued) after in
      none_above bytes_cmp nat_list_cmp_total at m is b.other b.ino b.there (h.leads b.other b.ino b.there).1)

  -- ---- once it is passed

  module _ (e : List ℕ × ℕ) (is : entry_after bytes_cmp at m ≡ Some e) where
    l : IsLeastAbove bytes_cmp nat_list_cmp_total at m e
    l = least_above bytes_cmp nat_list_cmp_total at m e h.ordered is

    pub next_walks : walk s e.0 ≡ Ok e.1
    next_walks = (h.leads e.0 e.1 l.there).0

    -- No other path comes between.
    between : (p : List ℕ) (i : ℕ) → walk s p ≡ Ok i → IsAfter at p → IsAfter p e.0 → ⊥
    between p i w after less = let n = least_above bytes_cmp nat_list_cmp_total at (paths_of s) e (paths_ordered s) (next_is e is) in n.least p i (walked_path_found s lawful p i w) after less

    -- With the paths of its entries, what is ahead still is.
    pub grown_ahead : (new : Map (List ℕ) ℕ) → Grows s e.0 e.1 m new → IsAhead s at new
    grown_ahead new g = record {
      ordered = g.ordered h.ordered;
      leads = λ p i valued. elim (g.only p i valued) [
        | inl old ↦ h.leads p i old
        | inr entry ↦ let w = entry_walks s lawful e.0 e.1 p i next_walks entry in (w.0, nat_list_cmp_total.trans at e.0 p l.above w.1)
      ];
      all = λ front d v passed p i entry after. g.kept p i (entry_walks s lawful front d p i v entry).0 (h.all front d v passed p i entry after);
    }

    -- And without it, once it was passed.
    pub passed_ahead : (new : Map (List ℕ) ℕ) → Grows s e.0 e.1 m new → HasEntries s e.0 e.1 new → IsAhead s e.0 (without bytes_cmp e.0 new)
    passed_ahead new g has = record {
      ordered = without-order bytes_cmp nat_list_cmp_total exact_bytes e.0 new (g.ordered h.ordered);
      leads = λ p i valued. left p i valued;
      all = λ front d v passed p i entry after.
          without-other bytes_cmp nat_list_cmp_total exact_bytes p e.0 new (λ same. not_itself e.0 p (sym same) after)
          ∙ found front d v passed p i entry after;
    }
      where
        a : IsAhead s at new
        a = grown_ahead new g

        left : (p : List ℕ) (i : ℕ) → value_at bytes_cmp p (without bytes_cmp e.0 new) ≡ Some i → (walk s p ≡ Ok i) × IsAfter e.0 p
        left p i valued = elim (cases_key bytes_cmp nat_list_cmp_total exact_bytes p e.0) [
          | inl same ↦ let none : value_at bytes_cmp p (without bytes_cmp e.0 new) ≡ None = ap (λ (q : List ℕ). value_at bytes_cmp q (without bytes_cmp e.0 new)) same ∙ without-here bytes_cmp nat_list_cmp_total exact_bytes e.0 new in cc (none, valued)
          | inr other ↦
              let w = a.leads p i (sym (without-other bytes_cmp nat_list_cmp_total exact_bytes p e.0 new other) ∙ valued) in (
                w.0,
                elim (by_order p e.0) [
                  | inl same ↦ absurd (other same)
                  | inr (inl sooner) ↦ absurd (between p i w.0 w.1 sooner)
                  | inr (inr later) ↦ later
                ],
              )
        ]

        found : (front : List ℕ) (d : ℕ) → walk s front ≡ Ok d → (IsAfter e.0 front → ⊥) → (p : List ℕ) (i : ℕ) → IsEntry s front d p i → IsAfter e.0 p → value_at bytes_cmp p new ≡ Some i
        found front d v passed p i entry after = elim (by_order at front) [
          | inl same ↦ old (not_itself at front same)
          | inr (inr sooner) ↦ old (λ x. no_loop at front x sooner)
          | inr (inl later) ↦ elim (by_order front e.0) [
            | inl same ↦
                let d_is : d ≡ e.1 = ok_same (sym v ∙ ap (walk s) same ∙ next_walks) in
                has p i (subst (λ (k : ℕ). IsEntry s e.0 k p i) d_is (subst (λ (q : List ℕ). IsEntry s q d p i) same entry))
            | inr (inl sooner) ↦ absurd (between front d v later sooner)
            | inr (inr after_it) ↦ absurd (passed after_it)
          ]
        ]
          where
            old : (IsAfter at front → ⊥) → value_at bytes_cmp p new ≡ Some i
            old x = a.all front d v x p i entry (nat_list_cmp_total.trans at e.0 p l.above after)

    -- ---- first paths

    -- The inode that it leads to has its first path, one that was passed or this one.
    pub firsts_put : (firsts : Map ℕ (List ℕ)) → AreFirsts s at firsts → value_at nat_cmp e.1 firsts ≡ None → is_directory s e.1 ≡ false → first_path s e.1 ≡ Some e.0
    firsts_put firsts f none plain = first_is_first_path s lawful e.1 e.0 (record {
      leads = next_walks;
      least = λ q w greater.
          let sooner : IsAfter q e.0 = nat_list_cmp_total.antisymm q e.0 ∙ ap ordering_reverse greater in
          elim (by_order at q) [
            | inr (inl later) ↦ between q e.1 w later sooner
            | inl same ↦ known (f.all q e.1 w (not_itself at q same) plain)
            | inr (inr earlier) ↦ known (f.all q e.1 w (λ a. no_loop at q a earlier) plain)
          ];
    })
      where
        known : ((path : List ℕ) × (value_at nat_cmp e.1 firsts ≡ Some path)) → ⊥
        known k = let some : value_at nat_cmp e.1 firsts ≡ Some k.0 = k.1 in cc (some, none)

    -- Where it is learnt, what is known is right.
    pub learnt_right : (firsts new : Map ℕ (List ℕ)) → AreFirsts s at firsts → Learns s e.1 e.0 firsts new → (ino : ℕ) (path : List ℕ) → value_at nat_cmp ino new ≡ Some path → first_path s ino ≡ Some path
    learnt_right firsts new f learns ino path valued = elim (learns.only ino path valued) [
      | inl old ↦ f.first ino path old
      | inr (same, is, none, plain) ↦ ap (first_path s) same ∙ firsts_put firsts f none plain ∙ (let some : List ℕ → Option (List ℕ) = λ p. Some p in ap some (sym is))
    ]

    pub learnt_firsts : (firsts new : Map ℕ (List ℕ)) → AreFirsts s at firsts → Learns s e.1 e.0 firsts new → AreFirsts s at new
    learnt_firsts firsts new f learns = record {
      first = learnt_right firsts new f learns;
      all = λ p i w passed plain. let k = f.all p i w passed plain in (k.0, learns.kept i k.0 k.1);
    }

    -- Once it was passed, all inodes that were passed and are no directories are known.
    pub passed_firsts : (firsts new : Map ℕ (List ℕ)) → AreFirsts s at firsts → Learns s e.1 e.0 firsts new → IsKnown s e.1 new → AreFirsts s e.0 new
    passed_firsts firsts new f learns own = record {
      first = learnt_right firsts new f learns;
      all = λ p i w passed plain. elim (by_order at p) [
        | inl same ↦ old p i w (not_itself at p same) plain
        | inr (inr sooner) ↦ old p i w (λ a. no_loop at p a sooner) plain
        | inr (inl later) ↦ elim (by_order p e.0) [
          | inl same ↦
              let i_is : e.1 ≡ i = ok_same (sym next_walks ∙ ap (walk s) (sym same) ∙ w) in
              let o = own (ap (is_directory s) i_is ∙ plain) in
              (o.0, ap (λ (k : ℕ). value_at nat_cmp k new) (sym i_is) ∙ o.1)
          | inr (inl sooner) ↦ absurd (between p i w later sooner)
          | inr (inr after_it) ↦ absurd (passed after_it)
        ]
      ];
    }
      where
        old : (p : List ℕ) (i : ℕ) → walk s p ≡ Ok i → (IsAfter at p → ⊥) → is_directory s i ≡ false → (path : List ℕ) × (value_at nat_cmp i new ≡ Some path)
        old p i w x plain = let k = f.all p i w x plain in (k.0, learns.kept i k.0 k.1)

-- ---- the first path of what was passed

module _ {C : Type 0} (s : Subvolume C) (lawful : IsLawful s) (at : List ℕ) (firsts : Map ℕ (List ℕ)) (f : AreFirsts s at firsts) (ino : ℕ) (w : walk s at ≡ Ok ino) where
  first_listed : (path : List ℕ) → first_path s ino ≡ Some path → (listed s ino).first ≡ path
  unfolding listed
  first_listed path is = ap (λ (o : Option (List ℕ)). unwrap_or o []) is

  -- A directory has one path.
  pub known_none : value_at nat_cmp ino firsts ≡ None → earlier (record { subvolume = s; at = at }) ino ≡ None
  known_none none = one (is_directory s ino) refl
    where
      own : (listed s ino).first ≡ at → earlier (record { subvolume = s; at = at }) ino ≡ None
      own is = ap (λ (p : List ℕ). if bytes_eq at p then None else Some p) is ∙ rw (bytes_eq_same at) refl

      one : (b : Bool) → is_directory s ino ≡ b → earlier (record { subvolume = s; at = at }) ino ≡ None
      one false plain = let k = f.all at ino w (λ a. no_loop at at a a) plain in let some : value_at nat_cmp ino firsts ≡ Some k.0 = k.1 in cc (some, none)
      one true dir =
          let there = first_path_there s ino at w in
          let leads = (first_path_is_first s lawful ino there.0 there.1).leads in
          let a = walked s at ino w in
          let b = walked s there.0 ino leads in
          let ways : a.names ≡ b.names = one_way s lawful.sound a.names b.names ino dir a.leads b.leads in
          let same : there.0 ≡ at = names_path s there.0 at a.names (b.names_are ∙ ap (λ (n : List (List ℕ)). Some n) (sym ways)) a.names_are in
          own (first_listed there.0 there.1 ∙ same)

  pub known_some : (path : List ℕ) → value_at nat_cmp ino firsts ≡ Some path → earlier (record { subvolume = s; at = at }) ino ≡ (if bytes_eq at path then None else Some path)
  known_some path is = ap (λ (p : List ℕ). if bytes_eq at p then None else Some p) (first_listed path (f.first ino path is))

-- ---- at first

pub root_walks : {C : Type 0} (s : Subvolume C) → walk s [] ≡ Ok 256
unfolding walk path_names walk_names
root_walks s = refl

is_root : (path : List ℕ) → (IsAfter [] path → ⊥) → path ≡ []
is_root [] low = refl
is_root (b ∷ path) low = absurd (low refl)

module _ {C : Type 0} (s : Subvolume C) (lawful : IsLawful s) where
  pub begins : (m : Map (List ℕ) ℕ) → Grows s [] 256 [] m → HasEntries s [] 256 m → IsPassed s [] m []
  begins m g has = record {
    lawful = lawful;
    ahead_is = record {
      ordered = g.ordered tt;
      leads = λ p i valued. elim (g.only p i valued) [
        | inl none ↦ cc
        | inr entry ↦ entry_walks s lawful [] 256 p i (root_walks s) entry
      ];
      all = λ front d v passed p i entry after.
          let at : front ≡ [] = is_root front passed in
          let d_is : d ≡ 256 = ok_same (sym v ∙ ap (walk s) at ∙ root_walks s) in
          has p i (subst (λ (k : ℕ). IsEntry s [] k p i) d_is (subst (λ (q : List ℕ). IsEntry s q d p i) at entry));
    };
    firsts_are = record {
      first = λ ino path valued. cc;
      all = λ p i w passed plain.
          let at : p ≡ [] = is_root p passed in
          let i_is : 256 ≡ i = ok_same (sym (root_walks s) ∙ ap (walk s) (sym at) ∙ w) in
          absurd (true≢false (sym lawful.sound.root_there ∙ ap (is_directory s) i_is ∙ plain));
    };
  }

-- ---- one path more that is known

pub learns_new : {C : Type 0} (s : Subvolume C) (ino : ℕ) (path : List ℕ) (old new : Map ℕ (List ℕ)) (fresh : Bool) → is_directory s ino ≡ false
    → PutsNew (value_at nat_cmp ino old) (with_value nat_cmp ino path old) old new fresh → Learns s ino path old new × IsKnown s ino new
learns_new s ino path old new fresh plain puts = one (value_at nat_cmp ino old) refl puts
  where
    one : (o : Option (List ℕ)) → value_at nat_cmp ino old ≡ o → PutsNew o (with_value nat_cmp ino path old) old new fresh → Learns s ino path old new × IsKnown s ino new
    one (Some known) is p = (subst (λ (m : Map ℕ (List ℕ)). Learns s ino path old m) (sym p.1) (record { kept = λ o k v. v; only = λ o k v. inl v }), λ x. (known, ap (value_at nat_cmp ino) p.1 ∙ is))
    one None is p =
        let here : value_at nat_cmp ino new ≡ Some path = ap (value_at nat_cmp ino) p.1 ∙ with_value-here nat_cmp nat_cmp_total exact_unsigned ino path old in
        let there : (other : ℕ) → (other ≡ ino → ⊥) → value_at nat_cmp other new ≡ value_at nat_cmp other old = λ other n. ap (value_at nat_cmp other) p.1 ∙ with_value-other nat_cmp nat_cmp_total exact_unsigned other ino path old n in (
          record {
            kept = λ other known v. elim (cases_key nat_cmp nat_cmp_total exact_unsigned other ino) [
              | inl same ↦ let some : value_at nat_cmp ino old ≡ Some known = ap (λ (k : ℕ). value_at nat_cmp k old) (sym same) ∙ v in cc (some, is)
              | inr n ↦ there other n ∙ v
            ];
            only = λ other known v. elim (cases_key nat_cmp nat_cmp_total exact_unsigned other ino) [
              | inl same ↦ inr (same, same_inside (sym v ∙ ap (λ (k : ℕ). value_at nat_cmp k new) same ∙ here), is, plain)
              | inr n ↦ inl (sym (there other n) ∙ v)
            ];
          },
          λ x. (path, here),
        )

pub learns_nothing : {C : Type 0} (s : Subvolume C) (ino : ℕ) (path : List ℕ) (m : Map ℕ (List ℕ)) → Learns s ino path m m
learns_nothing s ino path m = record { kept = λ o k v. v; only = λ o k v. inl v }

-- ---- the step

pub steps_to : {C : Type 0} (s : Subvolume C) (at : List ℕ) (e : List ℕ × ℕ) → entry_after bytes_cmp at (paths_of s) ≡ Some e → StepsOn (record { subvolume = s; at = at }) (record { subvolume = s; at = e.0 }) (Some e.1)
steps_to s at e is = rw is (refl, refl)

pub steps_nowhere : {C : Type 0} (s : Subvolume C) (at : List ℕ) → entry_after bytes_cmp at (paths_of s) ≡ None → StepsOn (record { subvolume = s; at = at }) (record { subvolume = s; at = at }) None
steps_nowhere s at is = rw is (refl, refl)

-- The same of values that are seen so.
pub steps_view : {C : Type 0} (p : Passed C) (s : Subvolume C) (at next other : List ℕ) (result : Option ℕ) → record { subvolume = s; at = at } ≡ p → other ≡ next
    → StepsOn (record { subvolume = s; at = at }) (record { subvolume = s; at = next }) result → StepsOn p (record { subvolume = s; at = other }) result
steps_view p s at next other result is same h =
    subst (λ (x : Passed _). StepsOn x (record { subvolume = s; at = other }) result) is
    (subst (λ (q : List ℕ). StepsOn (record { subvolume = s; at = at }) (record { subvolume = s; at = q }) result) (sym same) h)

pub stays_view : {C : Type 0} (p : Passed C) (s : Subvolume C) (at : List ℕ) → record { subvolume = s; at = at } ≡ p → StepsOn (record { subvolume = s; at = at }) (record { subvolume = s; at = at }) None → StepsOn p p None
stays_view p s at is h = subst (λ (x : Passed _). StepsOn x x None) is h

-- What is answered of a value that is seen so.
module _ {C : Type 0} (p : Passed C) (s : Subvolume C) (lawful : IsLawful s) (at : List ℕ) (firsts : Map ℕ (List ℕ)) (f : AreFirsts s at firsts) (ino : ℕ) (is : record { subvolume = s; at = at } ≡ p) (w : walk p.subvolume p.at ≡ Ok ino) where
  there : walk s at ≡ Ok ino
  there = subst (λ (x : Passed C). walk x.subvolume x.at ≡ Ok ino) (sym is) w

  pub not_known : value_at nat_cmp ino firsts ≡ None → earlier p ino ≡ None
  not_known none = subst (λ (x : Passed C). earlier x ino ≡ None) is (known_none s lawful at firsts f ino there none)

  pub known_by : (path : List ℕ) (b : Bool) → value_at nat_cmp ino firsts ≡ Some path → bytes_eq at path ≡ b → earlier p ino ≡ (if b then None else Some path)
  known_by path b valued same = subst (λ (x : Passed C). earlier x ino ≡ (if b then None else Some path)) is
      (known_some s lawful at firsts f ino there path valued ∙ ap (λ (c : Bool). if c then None else Some path) same)
