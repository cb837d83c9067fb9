-- What a tree keeps through changes of its names and inodes.
use Rattle.std.specs.Prelude.{◌≡◌, ℕ, ◌+◌, ◌-◌, ◌<◌, ◌≤◌, Bool, true, false, cond, List, [], ◌∷◌, Option, None, Some, Result, Ok, Err, is_some, ◌==◌, if◌then◌else◌}
use Rattle.std.specs.Option.{unwrap_or}
use Rattle.std.specs.Ordering.{nat_cmp}
use Rattle.std.specs.Cmp.{nat_cmp_total}
use Rattle.std.proofs.Common.{refl, sym, ap, subst, ◌∙◌, arith, inl, inr}
use Rattle.std.proofs.lemmas.Bool.{cases_eq, cases_lt, eq-eqb, ne_eqb, le-leb, lt-leb, true≢false}
use Rattle.std.proofs.lemmas.Map.Lookups.{exact_unsigned}
use Rattle.send_model.specs.Refusal.{Refusal, NoNumber}
use Rattle.send_model.specs.Path.{path_names}
use Rattle.send_model.specs.Map.{Map, named_cmp, value_at, with_value, without}
use Rattle.send_model.specs.Subvolume.{Inode, Subvolume, Spot, root, root_alone, new_directory, inode_at, named, is_directory, name_count, walk, spot, IsSound}
use Rattle.send_model.specs.Edit.{make, add_inode, link, add_name, take_name, remove_name, remove_inode, at_spot, greatest_number, set_inode, change_inode}
use Rattle.send_model.specs.Clone.{cells_of}
use Rattle.send_model.proofs.MapLaws.{named_cmp_total, named_cmp_exact, with_value-here, with_value-other, count-with_value, count-without, count-found, count-key, counts_one}
use Rattle.send_model.proofs.SoundChanges.{root_alone_is_sound, changed_is_sound}
use Rattle.send_model.proofs.SoundEdits.{make_is_sound, link_is_sound, walk_there}
use Rattle.send_model.proofs.SoundRemovals.{taken_is_sound}
use Rattle.inode_tree.specs.Places.{spot_of}
use Rattle.inode_tree.specs.Trees.{further_names, IsTree, IsWholeTree}
use Rattle.inode_tree.proofs.EditSteps.{make_made, make_numberless, link_made}

further_here : (f : Map ℕ ℕ) (ino n : ℕ) → further_names (with_value nat_cmp ino n f) ino ≡ n
further_here f ino n = ap (λ (o : Option ℕ). unwrap_or o 0) (with_value-here nat_cmp nat_cmp_total exact_unsigned ino n f)

further_other : (f : Map ℕ ℕ) (ino n v : ℕ) → (v ≡ ino → ⊥) → further_names (with_value nat_cmp ino n f) v ≡ further_names f v
further_other f ino n v differ = ap (λ (o : Option ℕ). unwrap_or o 0) (with_value-other nat_cmp nat_cmp_total exact_unsigned v ino n f differ)

pub none_by : {A : Type 0} (o : Option A) → is_some o ≡ false → o ≡ None
none_by None e = refl
none_by (Some x) e = absurd (true≢false e)

one_of : (a b : ℕ) → a ≡ b → ◌≡◌ {A = ℕ} (cond (a == b) 1 0) 1
one_of a b e = counts_one (a == b) (eq-eqb a b e)

none_of : (a b : ℕ) → (a ≡ b → ⊥) → ◌≡◌ {A = ℕ} (cond (a == b) 1 0) 0
none_of a b n = ap (λ (t : Bool). cond t 1 0) (ne_eqb a b n)

module _ {C : Type 0} where
  root_is_tree : IsTree {C = C} root_alone []
  unfolding root_alone name_count
  root_is_tree = record { sound = root_alone_is_sound; counted = λ ino. refl }

  pub new_tree : (inodes : Map ℕ (Inode C)) (names : Map (ℕ × List ℕ) ℕ) (further : Map ℕ ℕ) → inodes ≡ (root, new_directory) ∷ [] → names ≡ [] → further ≡ []
      → IsTree (record { inodes = inodes; names = names; next = 257 }) further
  unfolding root_alone
  new_tree inodes names further a b c =
      subst (λ (m : Map ℕ (Inode C)). IsTree (record { inodes = m; names = names; next = 257 }) further) (sym a)
      (subst (λ (m : Map (ℕ × List ℕ) ℕ). IsTree (record { inodes = (root, new_directory {C = C}) ∷ []; names = m; next = 257 }) further) (sym b)
      (subst (λ (m : Map ℕ ℕ). IsTree (record { inodes = (root, new_directory {C = C}) ∷ []; names = []; next = 257 }) m) (sym c) root_is_tree))

  -- What a tree keeps is there while memory never ran out in the middle of a change.
  pub whole_is : (b : Bool) (s : Subvolume C) (f : Map ℕ ℕ) → b ≡ true → IsWholeTree b s f → IsTree s f
  whole_is true s f e h = h
  whole_is false s f e h = absurd (true≢false (sym e))

  pub cells_found : (s : Subvolume C) (ino : ℕ) (inode : Inode C) → inode_at s ino ≡ Some inode → cells_of s ino ≡ inode.cells
  unfolding cells_of
  cells_found s ino inode e = ap (λ (o : Option (Inode C)). elim o as (λ i. List C) [ None ↦ [] | Some i ↦ i.cells ]) e

  module _ (s : Subvolume C) (f : Map ℕ ℕ) (tree : IsTree s f) where
    -- What is no directory and is walked to has a name.
    walked_named : (path : List ℕ) (ino : ℕ) → walk s path ≡ Ok ino → is_directory s ino ≡ false → 1 ≤ name_count s ino
    walked_named path ino walked plain =
        tree.sound.has_name ino (walk_there s path ino tree.sound walked) (λ same. true≢false (sym (subst (λ (i : ℕ). is_directory s i ≡ true) (sym same) tree.sound.root_there) ∙ plain))

    -- A number that no inode has yet has no name.
    unnamed : (ino : ℕ) → s.next ≤ ino → name_count s ino ≡ 0
    unfolding name_count
    unnamed ino le = elim (cases_lt 0 (name_count s ino)) [
      | inr none ↦ omega arith
      | inl some ↦
          let one = count-key named_cmp named_cmp_total named_cmp_exact ino s.names tree.sound.names_in_order (omega arith) in
          let below : ino < s.next = tree.sound.below_next ino (tree.sound.leads_somewhere one.0.0 one.0.1 ino one.1) in
          absurd (omega arith)
    ]

    -- One name more for an inode.
    more_names : (place : Spot) (ino v : ℕ) → at_spot s place ≡ None → name_count (add_name place ino s) v ≡ cond (ino == v) 1 0 + name_count s v
    unfolding name_count
    more_names place ino v free = count-with_value named_cmp named_cmp_total named_cmp_exact v (place.directory, place.name) ino s.names free

    -- A name less.
    less_names : (place : Spot) (ino v : ℕ) → at_spot s place ≡ Some ino → cond (ino == v) 1 0 + name_count (remove_name place s) v ≡ name_count s v
    unfolding name_count
    less_names place ino v there = count-without named_cmp named_cmp_total named_cmp_exact v (place.directory, place.name) ino s.names tree.sound.names_in_order there

    pub made_tree : (inode : Inode C) (path : List ℕ) (place : Spot) → make inode path s ≡ Ok (add_inode place inode s) → at_spot s place ≡ None → IsTree (add_inode place inode s) f
    unfolding add_inode name_count
    made_tree inode path place said free = record {
      sound = make_is_sound inode path s (add_inode place inode s) tree.sound said;
      counted = λ v. let old = tree.counted v in let more = more_names place s.next v free in elim (cases_eq s.next v) [
        | inl same ↦ let none = unnamed v (omega arith) in let one = one_of s.next v same in omega arith
        | inr differ ↦ let none = none_of s.next v differ in omega arith
      ];
    }

    pub linked_tree : (path existing : List ℕ) (place : Spot) (ino : ℕ) → link path existing s ≡ Ok (add_name place ino s) → at_spot s place ≡ None → 1 ≤ name_count s ino
        → IsTree (add_name place ino s) (with_value nat_cmp ino (further_names f ino + 1) f)
    linked_tree path existing place ino said free named = record {
      sound = link_is_sound path existing s (add_name place ino s) tree.sound said;
      counted = λ v. let old = tree.counted v in let more = more_names place ino v free in elim (cases_eq ino v) [
        | inl same ↦
            let one = one_of ino v same in
            let here : further_names (with_value nat_cmp ino (further_names f ino + 1) f) v ≡ further_names f ino + 1 = subst (λ (x : ℕ). further_names (with_value nat_cmp ino (further_names f ino + 1) f) x ≡ further_names f ino + 1) same (further_here f ino (further_names f ino + 1)) in
            let count : name_count s v ≡ name_count s ino = ap (name_count s) (sym same) in
            let before = tree.counted ino in omega arith
        | inr differ ↦ let none = none_of ino v differ in let rest = further_other f ino (further_names f ino + 1) v (λ e. differ (sym e)) in omega arith
      ];
    }

    module _ (place : Spot) (ino : ℕ) (there : at_spot s place ≡ Some ino) where
      some_name : 1 ≤ name_count s ino
      unfolding name_count
      some_name = count-found named_cmp named_cmp_total named_cmp_exact ino (place.directory, place.name) s.names there

      pub take_last : further_names f ino ≡ 0 → take_name place ino s ≡ remove_inode ino (remove_name place s)
      unfolding take_name
      take_last none = let old = tree.counted ino in
          ap (λ (b : Bool). if b then remove_inode ino (remove_name place s) else remove_name place s) (le-leb (name_count s ino) 1 (omega arith))

      pub take_one : (further_names f ino ≡ 0 → ⊥) → take_name place ino s ≡ remove_name place s
      unfolding take_name
      take_one some = let old = tree.counted ino in
          ap (λ (b : Bool). if b then remove_inode ino (remove_name place s) else remove_name place s) (lt-leb (name_count s ino) 1 (omega arith))

      count_of_removed : (v : ℕ) → name_count (remove_inode ino (remove_name place s)) v ≡ name_count (remove_name place s) v
      unfolding name_count
      count_of_removed v = refl

      module _ (leaf : (name : List ℕ) (below : ℕ) → named s ino name ≡ Some below → ⊥) where
        pub last_taken : further_names f ino ≡ 0 → IsTree (remove_inode ino (remove_name place s)) f
        last_taken none = record {
          sound = subst (λ (t : Subvolume C). IsSound t) (take_last none) (taken_is_sound s place ino tree.sound there leaf);
          counted = λ v. let old = tree.counted v in let less = less_names place ino v there in let mine = tree.counted ino in elim (cases_eq ino v) [
            | inl same ↦ let one = one_of ino v same in let count : name_count s v ≡ name_count s ino = ap (name_count s) (sym same) in omega (arith, count_of_removed v)
            | inr differ ↦ let zero_ = none_of ino v differ in omega (arith, count_of_removed v)
          ];
        }

        pub one_taken : (further_names f ino ≡ 0 → ⊥) → IsTree (remove_name place s) (with_value nat_cmp ino (further_names f ino - 1) f)
        one_taken some = record {
          sound = subst (λ (t : Subvolume C). IsSound t) (take_one some) (taken_is_sound s place ino tree.sound there leaf);
          counted = λ v. let old = tree.counted v in let less = less_names place ino v there in let mine = tree.counted ino in elim (cases_eq ino v) [
            | inl same ↦
                let one = one_of ino v same in
                let here : further_names (with_value nat_cmp ino (further_names f ino - 1) f) v ≡ further_names f ino - 1 = subst (λ (x : ℕ). further_names (with_value nat_cmp ino (further_names f ino - 1) f) x ≡ further_names f ino - 1) same (further_here f ino (further_names f ino - 1)) in
                let count : name_count s v ≡ name_count s ino = ap (name_count s) (sym same) in
                omega arith
            | inr differ ↦ let none = none_of ino v differ in let rest = further_other f ino (further_names f ino - 1) v (λ e. differ (sym e)) in omega arith
          ];
        }

  -- ---- the same, as the fields of a tree change

  -- What a change left keeps the tree, and is what the definition says.
  pub record Kept (t : Subvolume C) (f : Map ℕ ℕ) (said : Result (Subvolume C) Refusal) : Type 0 where
    pub tree : IsTree t f
    pub says : said ≡ Ok t

  -- The same of a change that no test refuses.
  pub record Became (t : Subvolume C) (f : Map ℕ ℕ) (said : Subvolume C) : Type 0 where
    pub tree : IsTree t f
    pub is : t ≡ said

  -- For s the fields of the tree that contracts see as S.
  module _ (s S : Subvolume C) (view : s ≡ S) where
    pub numberless : (inode : Inode C) (path : List ℕ) (place : ℕ × List ℕ) → spot S path ≡ Ok (spot_of place) → is_some (named S place.0 place.1) ≡ false → s.next ≡ greatest_number → make inode path S ≡ Err NoNumber
    numberless inode path place at free last =
        make_numberless S path inode (spot_of place) at free (eq-eqb S.next greatest_number (ap (λ (x : Subvolume C). x.next) (sym view) ∙ last))

    module _ (f : Map ℕ ℕ) (tree : IsTree s f) (place : ℕ × List ℕ) where
      pub made_whole : (inode : Inode C) (path : List ℕ) → spot S path ≡ Ok (spot_of place) → is_some (named S place.0 place.1) ≡ false → (s.next ≡ greatest_number → ⊥)
          → (t : Subvolume C) → t.inodes ≡ with_value nat_cmp s.next inode s.inodes → t.names ≡ with_value named_cmp place s.next s.names → t.next ≡ s.next + 1 → Kept t f (make inode path S)
      unfolding add_inode
      made_whole inode path at free more t a b c =
          let same : add_inode (spot_of place) inode s ≡ t = λ i. record { inodes = sym a i; names = sym b i; next = sym c i } in
          let at_s = subst (λ (x : Subvolume C). spot x path ≡ Ok (spot_of place)) (sym view) at in
          let free_s = subst (λ (x : Subvolume C). is_some (named x place.0 place.1) ≡ false) (sym view) free in
          let said = make_made s path inode (spot_of place) at_s free_s (ne_eqb s.next greatest_number more) in
          record {
            tree = subst (λ (x : Subvolume C). IsTree x f) same (made_tree s f tree inode path (spot_of place) said (none_by _ free_s));
            says = subst (λ (x : Subvolume C). make inode path x ≡ Ok t) view (said ∙ (let ok : Subvolume C → Result (Subvolume C) Refusal = λ x. Ok x in ap ok same));
          }

      pub linked_whole : (path existing : List ℕ) (names : List (List ℕ)) (ino : ℕ) → path_names path ≡ Some names → walk S existing ≡ Ok ino → is_directory S ino ≡ false → spot S path ≡ Ok (spot_of place)
          → is_some (named S place.0 place.1) ≡ false → (t : Subvolume C) → t.inodes ≡ s.inodes → t.names ≡ with_value named_cmp place ino s.names → t.next ≡ s.next
          → (g : Map ℕ ℕ) → g ≡ with_value nat_cmp ino (further_names f ino + 1) f → Kept t g (link path existing S)
      linked_whole path existing names ino good walked plain at free t a b c g more =
          let same : add_name (spot_of place) ino s ≡ t = λ i. record { inodes = sym a i; names = sym b i; next = sym c i } in
          let walked_s = subst (λ (x : Subvolume C). walk x existing ≡ Ok ino) (sym view) walked in
          let plain_s = subst (λ (x : Subvolume C). is_directory x ino ≡ false) (sym view) plain in
          let at_s = subst (λ (x : Subvolume C). spot x path ≡ Ok (spot_of place)) (sym view) at in
          let free_s = subst (λ (x : Subvolume C). is_some (named x place.0 place.1) ≡ false) (sym view) free in
          let said = link_made s path existing names good ino walked_s plain_s (spot_of place) at_s free_s in
          record {
            tree = subst (λ (h : Map ℕ ℕ). IsTree t h) (sym more) (subst (λ (x : Subvolume C). IsTree x (with_value nat_cmp ino (further_names f ino + 1) f)) same (linked_tree s f tree path existing (spot_of place) ino said (none_by _ free_s) (walked_named s f tree existing ino walked_s plain_s)));
            says = subst (λ (x : Subvolume C). link path existing x ≡ Ok t) view (said ∙ (let ok : Subvolume C → Result (Subvolume C) Refusal = λ x. Ok x in ap ok same));
          }

      module _ (ino : ℕ) (there : named S place.0 place.1 ≡ Some ino) (leaf : (name : List ℕ) (below : ℕ) → named S ino name ≡ Some below → ⊥) where
        there_s : named s place.0 place.1 ≡ Some ino
        there_s = subst (λ (x : Subvolume C). named x place.0 place.1 ≡ Some ino) (sym view) there

        leaf_s : (name : List ℕ) (below : ℕ) → named s ino name ≡ Some below → ⊥
        leaf_s = subst (λ (x : Subvolume C). (name : List ℕ) (below : ℕ) → named x ino name ≡ Some below → ⊥) (sym view) leaf

        pub last_whole : further_names f ino ≡ 0 → (t : Subvolume C) → t.inodes ≡ without nat_cmp ino s.inodes → t.names ≡ without named_cmp place s.names → t.next ≡ s.next → Became t f (take_name (spot_of place) ino S)
        last_whole none t a b c =
            let same : remove_inode ino (remove_name (spot_of place) s) ≡ t = λ i. record { inodes = sym a i; names = sym b i; next = sym c i } in
            record {
              tree = subst (λ (x : Subvolume C). IsTree x f) same (last_taken s f tree (spot_of place) ino there_s leaf_s none);
              is = sym same ∙ sym (take_last s f tree (spot_of place) ino there_s none) ∙ ap (take_name (spot_of place) ino) view;
            }

        pub one_whole : (further_names f ino ≡ 0 → ⊥) → (t : Subvolume C) → t.inodes ≡ s.inodes → t.names ≡ without named_cmp place s.names → t.next ≡ s.next
            → (g : Map ℕ ℕ) → g ≡ with_value nat_cmp ino (further_names f ino - 1) f → Became t g (take_name (spot_of place) ino S)
        one_whole some t a b c g less =
            let same : remove_name (spot_of place) s ≡ t = λ i. record { inodes = sym a i; names = sym b i; next = sym c i } in
            record {
              tree = subst (λ (h : Map ℕ ℕ). IsTree t h) (sym less) (subst (λ (x : Subvolume C). IsTree x (with_value nat_cmp ino (further_names f ino - 1) f)) same (one_taken s f tree (spot_of place) ino there_s leaf_s some));
              is = sym same ∙ sym (take_one s f tree (spot_of place) ino there_s some) ∙ ap (take_name (spot_of place) ino) view;
            }

    -- ---- an inode that changes

    module _ (f : Map ℕ ℕ) (tree : IsTree s f) (ino : ℕ) (change : Inode C → Inode C) (kind : (inode : Inode C) → (change inode).kind ≡ inode.kind) (x : Inode C) (found : value_at nat_cmp ino s.inodes ≡ Some x) where
      is_change : change_inode ino change s ≡ set_inode ino (change x) s
      unfolding change_inode
      is_change = ap (λ (o : Option (Inode C)). elim o as (λ i. Subvolume C) [ None ↦ s | Some inode ↦ set_inode ino (change inode) s ]) found

      same_counts : (v : ℕ) → name_count (set_inode ino (change x) s) v ≡ name_count s v
      unfolding name_count
      same_counts v = refl

      changed_tree : IsTree (set_inode ino (change x) s) f
      changed_tree = record {
        sound = subst (λ (t : Subvolume C). IsSound t) is_change (changed_is_sound ino change s kind tree.sound);
        counted = λ v. tree.counted v ∙ ap (λ (n : ℕ). n - 1) (sym (same_counts v));
      }

      pub changed_whole : (t : Subvolume C) → t.inodes ≡ with_value nat_cmp ino (change x) s.inodes → t.names ≡ s.names → t.next ≡ s.next → Became t f (change_inode ino change S)
      changed_whole t a b c =
          let same : set_inode ino (change x) s ≡ t = λ i. record { inodes = sym a i; names = sym b i; next = sym c i } in
          record {
            tree = subst (λ (u : Subvolume C). IsTree u f) same changed_tree;
            is = sym same ∙ sym is_change ∙ ap (change_inode ino change) view;
          }
