-- Inodes with other contents: what a tree keeps, and how they are put in one after the other.
use Rattle.std.specs.Prelude.{◌≡◌, ℕ, ◌<◌, ◌≤◌, ◌^◌, Bool, true, false, cond, ◌&&◌, T, List, [], ◌∷◌, ◌++◌, map, length, Some, is_some}
use Rattle.std.specs.List.{AllByRecursion}
use Rattle.std.specs.Ordering.{nat_cmp, is_lt, eq_by_cmp}
use Rattle.std.specs.declared.cmp.Ordering.TheVariants.{Less}
use Rattle.std.specs.Cmp.{nat_cmp_total}
use Rattle.std.specs.FinMap.Entries.{below_all}
use Rattle.std.proofs.Common.{refl, sym, ap, subst, ◌∙◌, append_assoc}
use Rattle.std.proofs.lemmas.List.{append-nil}
use Rattle.send_model.specs.Map.{Map, IsMap, value_at, with_value}
use Rattle.send_model.specs.Subvolume.{Inode, Subvolume, root, inode_at, passes_inode, is_directory_kind, is_directory, name_count, IsSound}
use Rattle.send_model.specs.Provenance.{inode_with, with_cells}
use Rattle.send_model.proofs.MapLaws.{T_left, T_right}
use Rattle.send_model.proofs.WalkLaws.{Step, leads-map, leads_from_walk, walk_from_leads}
use Rattle.shared_map.specs.Pages.{Rises}
use Rattle.shared_map.proofs.Edits.{map_rises, put_skip}
use Rattle.extent_map.specs.Pieces.{run_cells}
use Rattle.inode_tree.specs.Retraced.{retraced_inode, IsReached, AreReached}
use Rattle.inode_tree.specs.Trees.{IsWholeTree}

both : (a b : Bool) → T a → T b → T (a && b)
both true b p q = q
both false b p q = p

-- What holds of each element holds of the first and of the others.
pub first_and_others : {X : Type 0} (P : X → Type 0) (left rest : List X) (e : X) → left ≡ e ∷ rest → AllByRecursion P left → P e × AllByRecursion P rest
first_and_others {X = X} P left rest e steps h = subst (λ (l : List X). AllByRecursion P l) steps h

-- ---- maps whose values are changed by their keys

module _ {X Y : Type 0} (g : ℕ → X → Y) where
  abbrev pub valued : Map ℕ X → Map ℕ Y
  valued m = map (λ e. (e.0, g e.0 e.1)) m

  below_valued : (k : ℕ) (m : Map ℕ X) → below_all nat_cmp k (valued m) ≡ below_all nat_cmp k m
  below_valued k [] = refl
  below_valued k (e ∷ m) = ap (λ (b : Bool). is_lt (nat_cmp k e.0) && b) (below_valued k m)

  pub valued_in_order : (m : Map ℕ X) → IsMap nat_cmp m → IsMap nat_cmp (valued m)
  valued_in_order [] h = tt
  valued_in_order (e ∷ m) h = both _ _ (subst T (sym (below_valued e.0 m)) (T_left _ _ h)) (valued_in_order m (T_right _ _ h))

  -- Entries that are put in one after the other.
  pub put_all : Map ℕ Y → Map ℕ X → Map ℕ Y
  put_all there [] = there
  put_all there (e ∷ m) = put_all (with_value nat_cmp e.0 (g e.0 e.1) there) m

  pub put_none : (there : Map ℕ Y) → put_all there [] ≡ there
  unfolding put_all
  put_none there = refl

  -- The next entry is put in.
  pub put_next : (there new all : Map ℕ Y) (left rest : Map ℕ X) (e : ℕ × X) (y : Y) → left ≡ e ∷ rest → new ≡ with_value nat_cmp e.0 y there → y ≡ g e.0 e.1
      → put_all there left ≡ all → put_all new rest ≡ all
  unfolding put_all
  put_next there new all left rest e y steps put is h =
      ap (λ (t : Map ℕ Y). put_all t rest) (put ∙ ap (λ (x : Y). with_value nat_cmp e.0 x there) is) ∙ sym (ap (put_all there) steps) ∙ h

  -- A key behind those that are there is below the others.
  still_below : (there : Map ℕ Y) (k : ℕ) (y : Y) (m : Map ℕ X) → AllByRecursion (λ f. nat_cmp k f.0 ≡ Less) m
      → AllByRecursion (λ e. AllByRecursion (λ f. nat_cmp f.0 e.0 ≡ Less) there) m → AllByRecursion (λ e. AllByRecursion (λ f. nat_cmp f.0 e.0 ≡ Less) (there ++ (k, y) ∷ [])) m
  still_below there k y [] above below = tt
  still_below there k y (e ∷ m) above below = (behind there below.0, still_below there k y m above.1 below.1)
    where
      behind : (t : Map ℕ Y) → AllByRecursion (λ f. nat_cmp f.0 e.0 ≡ Less) t → AllByRecursion (λ f. nat_cmp f.0 e.0 ≡ Less) (t ++ (k, y) ∷ [])
      behind [] h = (above.0, tt)
      behind (f ∷ t) h = (h.0, behind t h.1)

  -- Put in as they rise, they stand behind each other.
  put_behind : (there : Map ℕ Y) (m : Map ℕ X) → Rises nat_cmp m → AllByRecursion (λ e. AllByRecursion (λ f. nat_cmp f.0 e.0 ≡ Less) there) m → put_all there m ≡ there ++ valued m
  unfolding put_all
  put_behind there [] r below = sym (append-nil there)
  put_behind there (e ∷ m) r below =
      let y : Y = g e.0 e.1 in
      let last : with_value nat_cmp e.0 y there ≡ there ++ (e.0, y) ∷ [] =
      ap (with_value nat_cmp e.0 y) (sym (append-nil there)) ∙ put_skip nat_cmp_total e.0 y there [] below.0 in
      ap (λ (t : Map ℕ Y). put_all t m) last ∙ put_behind (there ++ (e.0, y) ∷ []) m r.1 (still_below there e.0 y m r.0 below.1)
      ∙ append_assoc there ((e.0, y) ∷ []) (valued m)

  none : Map ℕ Y
  none = []

  nothing_below : (m : Map ℕ X) → AllByRecursion (λ e. AllByRecursion (λ f. nat_cmp f.0 e.0 ≡ Less) none) m
  unfolding none
  nothing_below [] = tt
  nothing_below (e ∷ m) = (tt, nothing_below m)

  pub put_all_is : (m : Map ℕ X) → IsMap nat_cmp m → put_all [] m ≡ valued m
  unfolding none
  put_all_is m h = put_behind [] m (map_rises nat_cmp m h) (nothing_below m)

-- ---- a tree with other contents

module _ {C D : Type 0} (change : ℕ → List C → List D) where
  passes_same : (test : Inode C → Bool) (other : Inode D → Bool) → ((inode : Inode C) (cells : List D) → other (inode_with inode cells) ≡ test inode) → (ino : ℕ) (m : Map ℕ (Inode C))
      → passes_inode other (value_at nat_cmp ino (map (λ e. (e.0, inode_with e.1 (change e.0 e.1.cells))) m)) ≡ passes_inode test (value_at nat_cmp ino m)
  passes_same test other same ino [] = refl
  passes_same test other same ino (e ∷ m) = one (eq_by_cmp nat_cmp ino e.0) (passes_same test other same ino m)
    where
      one : (b : Bool) → passes_inode other (value_at nat_cmp ino (map (λ x. (x.0, inode_with x.1 (change x.0 x.1.cells))) m)) ≡ passes_inode test (value_at nat_cmp ino m)
          → passes_inode other (cond b (Some (inode_with e.1 (change e.0 e.1.cells))) (value_at nat_cmp ino (map (λ x. (x.0, inode_with x.1 (change x.0 x.1.cells))) m))) ≡ passes_inode test (cond b (Some e.1) (value_at nat_cmp ino m))
      one true more = same e.1 (change e.0 e.1.cells)
      one false more = more

  module _ (s : Subvolume C) where
    same_directory : (ino : ℕ) → is_directory (with_cells change s) ino ≡ is_directory s ino
    unfolding is_directory
    same_directory ino = passes_same (λ inode. is_directory_kind inode.kind) (λ inode. is_directory_kind inode.kind) (λ inode cells. refl) ino s.inodes

    same_there : (ino : ℕ) → is_some (inode_at (with_cells change s) ino) ≡ is_some (inode_at s ino)
    same_there ino = some_same s.inodes
      where
        some_same : (m : Map ℕ (Inode C)) → is_some (value_at nat_cmp ino (map (λ e. (e.0, inode_with e.1 (change e.0 e.1.cells))) m)) ≡ is_some (value_at nat_cmp ino m)
        some_same [] = refl
        some_same (e ∷ m) = one (eq_by_cmp nat_cmp ino e.0) (some_same m)
          where
            one : (b : Bool) → is_some (value_at nat_cmp ino (map (λ x. (x.0, inode_with x.1 (change x.0 x.1.cells))) m)) ≡ is_some (value_at nat_cmp ino m)
                → is_some (cond b (Some (inode_with e.1 (change e.0 e.1.cells))) (value_at nat_cmp ino (map (λ x. (x.0, inode_with x.1 (change x.0 x.1.cells))) m))) ≡ is_some (cond b (Some e.1) (value_at nat_cmp ino m))
            one true more = refl
            one false more = more

    other_is_sound : IsSound s → IsSound (with_cells change s)
    unfolding name_count
    other_is_sound h = record {
      inodes_in_order = valued_in_order (λ ino inode. inode_with inode (change ino inode.cells)) s.inodes h.inodes_in_order;
      names_in_order = h.names_in_order;
      root_there = same_directory root ∙ h.root_there;
      in_directory = λ d name ino found. same_directory d ∙ h.in_directory d name ino found;
      leads_somewhere = λ d name ino found. same_there ino ∙ h.leads_somewhere d name ino found;
      root_unnamed = h.root_unnamed;
      has_name = λ ino is. h.has_name ino (sym (same_there ino) ∙ is);
      one_name = λ ino is. h.one_name ino (sym (same_directory ino) ∙ is);
      from_root = λ d is. let way = h.from_root d (sym (same_directory d) ∙ is) in
          (way.0, walk_from_leads (with_cells change s) way.0 root d (leads-map (Step s) (Step (with_cells change s)) (λ from name below step. (same_directory from ∙ step.0, step.1)) way.0 root d (leads_from_walk s way.0 root d way.1)));
      below_next = λ ino is. h.below_next ino (sym (same_there ino) ∙ is);
    }

    pub other_is_tree : (whole : Bool) (further : Map ℕ ℕ) → IsWholeTree whole s further → IsWholeTree whole (with_cells change s) further
    unfolding name_count
    other_is_tree true further h = record { sound = other_is_sound h.sound; counted = h.counted }
    other_is_tree false further h = tt

    -- The same of the fields of a tree that contracts see as S.
    pub other_whole : (S : Subvolume C) → s ≡ S → (whole : Bool) (f g : Map ℕ ℕ) → IsWholeTree whole s f → (t : Subvolume D)
        → t.inodes ≡ map (λ e. (e.0, inode_with e.1 (change e.0 e.1.cells))) s.inodes → t.names ≡ s.names → t.next ≡ s.next → g ≡ f
        → IsWholeTree whole t g × (t ≡ with_cells change S)
    other_whole S view whole f g tree t a b c d =
        let same : with_cells change s ≡ t = λ i. record { inodes = sym a i; names = sym b i; next = sym c i } in (
          subst (λ (h : Map ℕ ℕ). IsWholeTree whole t h) (sym d) (subst (λ (x : Subvolume D). IsWholeTree whole x f) same (other_is_tree whole f tree)),
          sym same ∙ ap (with_cells change) view,
        )

-- ---- one inode

module _ {C P : Type 0} (start : ℕ → P) (e : ℕ × Inode C) (inode : Inode C) (origin : P) (is : inode ≡ e.1) (at : origin ≡ start e.0) where
  pub reached_as : (reach : P → ℕ) → IsReached reach start e → length inode.cells < 2 ^ 63 → length inode.cells ≤ reach origin
  reached_as reach h =
      subst (λ (o : P). length inode.cells < 2 ^ 63 → length inode.cells ≤ reach o) (sym at)
      (subst (λ (i : Inode C). length i.cells < 2 ^ 63 → length i.cells ≤ reach (start e.0)) (sym is) h)

  pub retraced_as : (advanced : P → ℕ → P) → inode_with inode (run_cells advanced origin (length inode.cells)) ≡ retraced_inode advanced start e.0 e.1
  retraced_as advanced = λ i. inode_with (is i) (run_cells advanced (at i) (length (is i).cells))

-- Starts that reach over all contents that there can be.
pub all_reached : {C P : Type 0} (reach : P → ℕ) (start : ℕ → P) → ((ino len : ℕ) → len < 2 ^ 63 → len ≤ reach (start ino)) → (inodes : Map ℕ (Inode C)) → AreReached reach start inodes
all_reached reach start far [] = tt
all_reached reach start far (e ∷ inodes) = (far e.0 (length e.1.cells), all_reached reach start far inodes)
