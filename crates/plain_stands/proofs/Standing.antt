-- At which places of a file a block stands.
use Rattle.std.specs.Prelude.{◌≡◌, ◌⊎◌, ℕ, ◌+◌, ◌-◌, ◌%◌, ◌<◌, ◌≤◌, ◌==◌, Bool, true, false, not, ◌&&◌, ◌||◌, nat_lt, List, [], ◌∷◌, map, length, drop, T, Option, None, Some, MatchOption, is_some}
use Rattle.std.specs.Ordering.{nat_cmp, is_lt}
use Rattle.std.specs.FinMap.Entries.{below_all, is_sorted}
use Rattle.std.proofs.Common.{refl, sym, ap, subst, ◌∙◌, arith, inl, inr}
use Rattle.std.proofs.lemmas.Bool.{eqb-true, eq-eqb, ne_eqb, and_parts, false≢true, true≢false, cases_lt, cases_eq}
use Rattle.std.proofs.lemmas.List.{drop-map, length-drop, length-map}
use Rattle.send_model.specs.Map.{Map, IsMap}
use Rattle.send_model.specs.Subvolume.{Subvolume, Inode, inode_at, passes_inode, is_file_kind, is_file, is_nameable, first_path, all_paths}
use Rattle.send_model.specs.Clone.{block_len, cells_of}
use Rattle.send_model.specs.Store.{Key}
use Rattle.send_model.specs.Provenance.{Place, inode_with}
use Rattle.send_model.specs.Cells.{recelled}
use Rattle.send_model.proofs.CellMaps.{is_file-cells}
use Rattle.send_model.proofs.CellClones.{cells_of-cells}
use Rattle.standing_model.specs.Births.{Tagged}
use Rattle.standing_model.specs.Standing.{begin_with, stands_at, place_in, tags_alike, stand_of, StandIsLeast, IsLeastStand}
use Rattle.provenance.specs.declared.trace.Trace.{Trace}
use Rattle.plain_stands.specs.Tags.{tagged, tagged_part}
use Rattle.plain_stands.specs.Stands.{stands_in, may_end, FindsLeast}

nameable-cells : {C D : Type 0} (f : C → D) (s : Subvolume C) (ino : ℕ)
    → is_nameable (recelled f s) ino ≡ is_nameable s ino
unfolding is_nameable first_path all_paths
nameable-cells f s ino = refl

-- What begins with a block is as long.
begins_long : (cells block : List Tagged) → begin_with cells block ≡ true
    → length block ≤ length cells
begins_long cells [] e = omega arith
begins_long [] (c ∷ block) e = absurd (false≢true e)
begins_long (d ∷ cells) (c ∷ block) e = let more =
    begins_long cells block (and_parts (tags_alike c.tag d.tag) (begin_with cells block) e).1 in
    omega (arith, more)

-- A test that never holds fails.
pub never_so : (b : Bool) → (b ≡ true → ⊥) → b ≡ false
never_so true n = absurd (n refl)
never_so false n = refl

module _ (byte : Option Trace → ℕ) (s : Subvolume (Option Trace)) (target : ℕ)
    (block : List (Option Trace)) (ino : ℕ) where
  abbrev pub begins_at : ℕ → Bool
  begins_at at = begin_with (map (tagged byte) (drop at (cells_of s ino))) (map (tagged byte) block)

  abbrev there : Subvolume Tagged
  there = tagged_part byte s

  -- The tests of a place, over the cells as they are.
  stands_is : (at : ℕ) → stands_in byte s target block ino at
      ≡ (((((at % 4096 == 0) && (is_file s ino && is_nameable s ino))
      && ((length block == 4096) || (at + length block == length (cells_of s ino))))
      && not (ino == target)) && begins_at at)
  stands_is at =
      let file : is_file there ino ≡ is_file s ino = is_file-cells (tagged byte) s ino in
      let path : is_nameable there ino ≡ is_nameable s ino = nameable-cells (tagged byte) s ino in
      let cells : cells_of there ino ≡ map (tagged byte) (cells_of s ino) =
      cells_of-cells (tagged byte) s ino in
      let long : length (map (tagged byte) block) ≡ length block = length-map block (tagged byte) in
      let size : length (cells_of there ino) ≡ length (cells_of s ino) =
      ap length cells ∙ length-map (cells_of s ino) (tagged byte) in
      let left : drop at (cells_of there ino) ≡ map (tagged byte) (drop at (cells_of s ino)) =
      ap (drop at) cells ∙ drop-map (tagged byte) at (cells_of s ino) in
      ap (λ (f : Bool).
      ((((at % 4096 == 0) && (f && is_nameable there ino))
      && ((length (map (tagged byte) block) == 4096)
      || (at + length (map (tagged byte) block) == length (cells_of there ino))))
      && not (ino == target))
      && begin_with (drop at (cells_of there ino)) (map (tagged byte) block)) file
      ∙ ap (λ (p : Bool).
      ((((at % 4096 == 0) && (is_file s ino && p))
      && ((length (map (tagged byte) block) == 4096)
      || (at + length (map (tagged byte) block) == length (cells_of there ino))))
      && not (ino == target))
      && begin_with (drop at (cells_of there ino)) (map (tagged byte) block)) path
      ∙ ap (λ (n : ℕ).
      ((((at % 4096 == 0) && (is_file s ino && is_nameable s ino))
      && ((n == 4096) || (at + n == length (cells_of there ino)))) && not (ino == target))
      && begin_with (drop at (cells_of there ino)) (map (tagged byte) block)) long
      ∙ ap (λ (n : ℕ).
      ((((at % 4096 == 0) && (is_file s ino && is_nameable s ino))
      && ((length block == 4096) || (at + length block == n))) && not (ino == target))
      && begin_with (drop at (cells_of there ino)) (map (tagged byte) block)) size
      ∙ ap (λ (xs : List Tagged).
      ((((at % 4096 == 0) && (is_file s ino && is_nameable s ino))
      && ((length block == 4096) || (at + length block == length (cells_of s ino))))
      && not (ino == target)) && begin_with xs (map (tagged byte) block)) left

  -- What is so where it stands.
  pub record Says (at : ℕ) : Type 0 where
    pub whole : at % 4096 ≡ 0
    pub file : is_file s ino ≡ true
    pub path : is_nameable s ino ≡ true
    pub other : ino ≡ target → ⊥
    pub within : at + length block ≤ length (cells_of s ino)
    pub ends : (length block ≡ 4096) ⊎ (at + length block ≡ length (cells_of s ino))
    pub begins : begins_at at ≡ true

  either : (a b : Bool) → (a || b) ≡ true → (a ≡ true) ⊎ (b ≡ true)
  either true b e = inl refl
  either false b e = inr e

  pub stands_says : 0 < length block → (at : ℕ) → stands_in byte s target block ino at ≡ true
      → Says at
  stands_says some at e =
      let p = and_parts
      ((((at % 4096 == 0) && (is_file s ino && is_nameable s ino))
      && ((length block == 4096) || (at + length block == length (cells_of s ino))))
      && not (ino == target)) (begins_at at) (sym (stands_is at) ∙ e) in
      let q = and_parts
      (((at % 4096 == 0) && (is_file s ino && is_nameable s ino))
      && ((length block == 4096) || (at + length block == length (cells_of s ino))))
      (not (ino == target)) p.0 in
      let r = and_parts ((at % 4096 == 0) && (is_file s ino && is_nameable s ino))
      ((length block == 4096) || (at + length block == length (cells_of s ino))) q.0 in
      let t = and_parts (at % 4096 == 0) (is_file s ino && is_nameable s ino) r.0 in
      let u = and_parts (is_file s ino) (is_nameable s ino) t.1 in
      let long = begins_long (map (tagged byte) (drop at (cells_of s ino)))
      (map (tagged byte) block) p.1 in
      let a = length-map block (tagged byte) in
      let b = length-map (drop at (cells_of s ino)) (tagged byte) in
      let d = length-drop at (cells_of s ino) in
      record {
        whole = eqb-true (at % 4096) 0 t.0;
        file = u.0;
        path = u.1;
        other = λ same. true≢false (sym q.1 ∙ ap not (eq-eqb ino target same));
        within = omega (arith, long, a, b, d, some);
        ends = elim (either (length block == 4096)
            (at + length block == length (cells_of s ino)) r.1) [
              | inl is ↦
                  inl (eqb-true (length block) 4096 is)
              | inr is ↦
                  inr (eqb-true (at + length block) (length (cells_of s ino)) is)
            ];
        begins = p.1;
      }

  -- Where all is so it stands.
  pub so_stands : (at : ℕ) → at % 4096 ≡ 0 → is_file s ino ≡ true → is_nameable s ino ≡ true
      → (ino ≡ target → ⊥) → (length block ≡ 4096) ⊎ (at + length block ≡ length (cells_of s ino))
      → begins_at at ≡ true → stands_in byte s target block ino at ≡ true
  so_stands at whole file path other ends begins =
      stands_is at
      ∙ ap (λ (b : Bool).
      ((((b && (is_file s ino && is_nameable s ino))
      && ((length block == 4096) || (at + length block == length (cells_of s ino))))
      && not (ino == target)) && begins_at at)) (eq-eqb (at % 4096) 0 whole)
      ∙ ap (λ (b : Bool).
      (((b && is_nameable s ino)
      && ((length block == 4096) || (at + length block == length (cells_of s ino))))
      && not (ino == target)) && begins_at at) file
      ∙ ap (λ (b : Bool).
      ((b && ((length block == 4096) || (at + length block == length (cells_of s ino))))
      && not (ino == target)) && begins_at at) path
      ∙ ap (λ (b : Bool). (b && not (ino == target)) && begins_at at) ends_so
      ∙ ap (λ (b : Bool). not b && begins_at at) (ne_eqb ino target other)
      ∙ begins
    where
      orred : (a b : Bool) → b ≡ true → (a || b) ≡ true
      orred true b e = refl
      orred false b e = e

      ends_so : ((length block == 4096) || (at + length block == length (cells_of s ino))) ≡ true
      ends_so = elim ends [
        | inl is ↦ ap (λ (b : Bool). b || (at + length block == length (cells_of s ino)))
            (eq-eqb (length block) 4096 is)
        | inr is ↦ orred (length block == 4096) (at + length block == length (cells_of s ino))
            (eq-eqb (at + length block) (length (cells_of s ino)) is)
      ]

  -- ---- block by block

  -- No place before one is such a place.
  abbrev pub NoneBefore : ℕ → Type 0
  NoneBefore at = (o : ℕ) → stands_in byte s target block ino o ≡ true → at ≤ o

  pub next_none : 0 < length block → (at : ℕ) → at % 4096 ≡ 0 → NoneBefore at → (Says at → ⊥)
      → NoneBefore (at + 4096)
  next_none some at whole none not_here o e = one (cases_eq at o)
    where
      one : (at ≡ o) ⊎ (at ≡ o → ⊥) → at + 4096 ≤ o
      one (inl same) = absurd (not_here (subst Says (sym same) (stands_says some o e)))
      one (inr apart) = let low = none o e in let w =
          (stands_says some o e).whole in far at o whole w low apart
        where
          far : (a b : ℕ) → a % 4096 ≡ 0 → b % 4096 ≡ 0 → a ≤ b → (a ≡ b → ⊥) → a + 4096 ≤ b
          far a b p q low apart = let strict = strictly a b low apart in omega (arith, p, q, strict)
            where
              strictly : (a b : ℕ) → a ≤ b → (a ≡ b → ⊥) → a < b
              strictly a b low apart =
                  elim (cases_lt a b) [ inl l ↦ l | inr m ↦ absurd (apart (omega (arith, low, m))) ]

  pub none_left : 0 < length block → (at : ℕ) → length (cells_of s ino) ≤ at → NoneBefore at
      → FindsLeast (stands_in byte s target block ino) None
  none_left some at past none o =
      never_so (stands_in byte s target block ino o)
      (λ e. let low = none o e in let within = (stands_says some o e).within in
      absurd (omega (arith, past, low, within, some)))

  -- Where one may not end, or does not begin with the block's tags, it does not stand.
  pub not_ends : 0 < length block → (at : ℕ)
      → may_end (length block) (length (cells_of s ino) - at) ≡ false → Says at → ⊥
  not_ends some at misses says =
      true≢false
      (sym (ending (length block) (length (cells_of s ino)) says.within says.ends) ∙ misses)
    where
      ending : (len size : ℕ) → at + len ≤ size → (len ≡ 4096) ⊎ (at + len ≡ size)
          → may_end len (size - at) ≡ true
      ending len size within (inl is) =
          elim (cases_eq len (size - at)) [ inl same ↦ grind arith | inr apart ↦ grind arith ]
      ending len size within (inr is) = grind arith

-- ---- files and their cells

pub no_file : {C : Type 0} (s : Subvolume C) (ino : ℕ) → inode_at s ino ≡ None
    → is_file s ino ≡ false
unfolding is_file
no_file s ino e = ap (passes_inode (λ inode. is_file_kind inode.kind)) e

pub file_there : {C : Type 0} (s : Subvolume C) (ino : ℕ) → is_file s ino ≡ true
    → (inode : Inode C) × (inode_at s ino ≡ Some inode)
unfolding is_file
file_there {C} s ino e = one (inode_at s ino) refl e
  where
    one : (o : Option (Inode C)) → inode_at s ino ≡ o
        → passes_inode (λ inode. is_file_kind inode.kind) o ≡ true
        → (inode : Inode C) × (inode_at s ino ≡ Some inode)
    one None is e = absurd (false≢true e)
    one (Some inode) is e = (inode, is)

pub cells_there : {C : Type 0} (s : Subvolume C) (ino : ℕ) (inode : Inode C)
    → inode_at s ino ≡ Some inode → cells_of s ino ≡ inode.cells
unfolding cells_of
cells_there {C} s ino inode e =
    ap (λ (o : Option (Inode C)). elim o [ None ↦ [] | Some i ↦ i.cells ]) e

-- A block that may end there.
pub ends_where : (len at size : ℕ) → at < size → may_end len (size - at) ≡ true
    → (len ≡ 4096) ⊎ (at + len ≡ size)
ends_where len at size below e = one (len == (size - at)) refl e
  where
    one : (b : Bool) → (len == (size - at)) ≡ b
        → (b || ((len == 4096) && nat_lt len (size - at))) ≡ true → (len ≡ 4096) ⊎ (at + len ≡ size)
    one true is q = let same = eqb-true len (size - at) is in inr (omega (arith, same, below))
    one false is q = inl (eqb-true len 4096 (and_parts (len == 4096) (nat_lt len (size - at)) q).0)

-- ---- the stand

module _ (s : Subvolume (Option Trace)) (f : Option Trace → Tagged) where
  abbrev retold : ℕ × Inode (Option Trace) → ℕ × Inode Tagged
  retold e = (e.0, inode_with e.1 (map f e.1.cells))

  below_told : (k : ℕ) (m : Map ℕ (Inode (Option Trace)))
      → below_all nat_cmp k (map retold m) ≡ below_all nat_cmp k m
  below_told k [] = refl
  below_told k (e ∷ m) = ap (λ (b : Bool). is_lt (nat_cmp k e.0) && b) (below_told k m)

  sorted_told : (m : Map ℕ (Inode (Option Trace)))
      → is_sorted nat_cmp (map retold m) ≡ is_sorted nat_cmp m
  sorted_told [] = refl
  sorted_told (e ∷ m) =
      ap (λ (b : Bool). b && is_sorted nat_cmp (map retold m)) (below_told e.0 m)
      ∙ ap (λ (b : Bool). below_all nat_cmp e.0 m && b) (sorted_told m)

  pub still_map : IsMap nat_cmp s.inodes → IsMap nat_cmp (recelled f s).inodes
  still_map sorted = subst (λ (b : Bool). T b) (sym (sorted_told s.inodes)) sorted

module _ (law : StandIsLeast) (byte : Option Trace → ℕ) (s : Subvolume (Option Trace)) (target : ℕ)
    (block : List (Option Trace)) (some : 0 < length block) (sorted : IsMap nat_cmp s.inodes)
    (key : Key) where
  abbrev stand : Option Place
  stand = stand_of key (tagged_part byte s) target (map (tagged byte) block)

  told : MatchOption stand
      ((u o : ℕ)
      → stands_at (tagged_part byte s) target (map (tagged byte) block) (place_in key u o) ≡ false)
      (IsLeastStand key (tagged_part byte s) target (map (tagged byte) block))
  told = let l =
      length-map block (tagged byte) in
      law key (tagged_part byte s) target (map (tagged byte) block) (omega (arith, l, some))
      (still_map s (tagged byte) sorted)

  -- A least place is the stand.
  pub least_is_stand : (u o : ℕ) → stands_in byte s target block u o ≡ true
      → ((v p : ℕ) → stands_in byte s target block v p ≡ true → (u < v) ⊎ ((u ≡ v) × (o ≤ p)))
      → stand ≡ Some (place_in key u o)
  least_is_stand u o stands least = one stand refl told
    where
      made : Key → ℕ → ℕ → Place
      made k i a = record { key = k; ino = i; offset = a }

      one : (r : Option Place) → stand ≡ r
          → MatchOption r
          ((u o : ℕ)
          → stands_at (tagged_part byte s) target (map (tagged byte) block) (place_in key u o)
          ≡ false) (IsLeastStand key (tagged_part byte s) target (map (tagged byte) block))
          → stand ≡ Some (place_in key u o)
      one None is none = absurd (true≢false (sym stands ∙ none u o))
      one (Some p) is found =
          let mine = least p.ino p.offset found.stands in
          let theirs = found.least u o stands in
          let inos : p.ino ≡ u = same_ino mine theirs in
          let offsets : p.offset ≡ o = same_offset mine theirs in
          is ∙ ap (λ (x : Place). Some x)
          (ap (λ (k : Key). made k p.ino p.offset) found.own
          ∙ ap (λ (i : ℕ). made key i p.offset) inos ∙ ap (made key u) offsets)
        where
          same_ino : (u < p.ino) ⊎ ((u ≡ p.ino) × (o ≤ p.offset))
              → (p.ino < u) ⊎ ((p.ino ≡ u) × (p.offset ≤ o)) → p.ino ≡ u
          same_ino (inl a) (inl b) = absurd (omega (arith, a, b))
          same_ino (inl a) (inr b) = b.0
          same_ino (inr a) (inl b) = sym a.0
          same_ino (inr a) (inr b) = b.0

          same_offset : (u < p.ino) ⊎ ((u ≡ p.ino) × (o ≤ p.offset))
              → (p.ino < u) ⊎ ((p.ino ≡ u) × (p.offset ≤ o)) → p.offset ≡ o
          same_offset (inl a) (inl b) = absurd (omega (arith, a, b))
          same_offset (inl a) (inr b) = let h = b.0 in absurd (omega (arith, a, h))
          same_offset (inr a) (inl b) = let h = a.0 in absurd (omega (arith, h, b))
          same_offset (inr a) (inr b) = let h = a.1 in let i = b.1 in omega (arith, h, i)

  -- With no such place there is none.
  pub none_is_stand : ((v p : ℕ) → stands_in byte s target block v p ≡ true → ⊥) → stand ≡ None
  none_is_stand none = one stand refl told
    where
      one : (r : Option Place) → stand ≡ r
          → MatchOption r
          ((u o : ℕ)
          → stands_at (tagged_part byte s) target (map (tagged byte) block) (place_in key u o)
          ≡ false) (IsLeastStand key (tagged_part byte s) target (map (tagged byte) block))
          → stand ≡ None
      one None is missing = is
      one (Some p) is found = absurd (none p.ino p.offset found.stands)
