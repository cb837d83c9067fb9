-- Files that are passed one after the other.
use Rattle.std.specs.Prelude.{◌≡◌, ◌⊎◌, ℕ, ◌<◌, ◌≤◌, Bool, true, false, List, [], ◌∷◌, map, length, Option, None, Some}
use Rattle.std.specs.Option.{option_map}
use Rattle.std.specs.Ordering.{nat_cmp}
use Rattle.std.proofs.Common.{refl, sym, ap, subst, ◌∙◌, arith, inl, inr}
use Rattle.std.proofs.lemmas.Bool.{cases_lt, cases_eq, true≢false}
use Rattle.std.proofs.lemmas.Cmp.{nat_cmp_total}
use Rattle.send_model.specs.Map.{Map, IsMap}
use Rattle.send_model.specs.Subvolume.{Subvolume, Inode}
use Rattle.send_model.specs.Store.{Key}
use Rattle.shared_map.specs.Sought.{entries_above, entry_after}
use Rattle.path_index.proofs.Above.{after_next}
use Rattle.path_index.proofs.Indexing.{first_gives}
use Rattle.standing_model.specs.Standing.{place_in, stand_of, StandIsLeast}
use Rattle.provenance.specs.declared.trace.Trace.{Trace}
use Rattle.plain_stands.specs.Tags.{tagged, tagged_part}
use Rattle.plain_stands.specs.Stands.{stands_in, FindsLeast}
use Rattle.plain_stands.proofs.Standing.{stands_says, file_there, least_is_stand, none_is_stand}
use Rattle.plain_stands.proofs.Between.{IsNoLess, next_above}

-- ---- numbers

some_same : (a b : ℕ) → Some a ≡ Some b → a ≡ b
some_same a b e = cc

none_some : (a : ℕ) → None ≡ Some a → ⊥
none_some a e = cc

strictly : (a b : ℕ) → a ≤ b → (a ≡ b → ⊥) → a < b
strictly a b low apart =
    elim (cases_lt a b) [ inl l ↦ l | inr m ↦ absurd (apart (omega (arith, low, m))) ]

-- ---- the next inode

pub fewer_left : {X : Type 0} (m : Map ℕ X) (k next : ℕ) → IsMap nat_cmp m
    → Some next ≡ option_map (λ e. e.0) (entry_after nat_cmp k m)
    → length (entries_above nat_cmp next m) < length (entries_above nat_cmp k m)
fewer_left {X} m k next sorted is = one (entry_after nat_cmp k m) refl is
  where
    one : (o : Option (ℕ × X)) → entry_after nat_cmp k m ≡ o → Some next ≡ option_map (λ e. e.0) o
        → length (entries_above nat_cmp next m) < length (entries_above nat_cmp k m)
    one None found is = absurd (none_some next (sym is))
    one (Some e) found is =
        let f = first_gives (entries_above nat_cmp k m) e found in
        let left : entries_above nat_cmp e.0 m ≡ f.0 =
        after_next nat_cmp nat_cmp_total k m e f.0 sorted f.1 in
        let same : next ≡ e.0 = some_same next e.0 is in
        let short : length (entries_above nat_cmp next m) ≡ length f.0 =
        ap (λ (n : ℕ). length (entries_above nat_cmp n m)) same ∙ ap length left in
        let long = ap length f.1 in
        omega (arith, short, long)

module _ (s : Subvolume (Option Trace)) (target : ℕ) (block : List (Option Trace))
    (some : 0 < length block) (sorted : IsMap nat_cmp s.inodes) where
  -- The block stands only in files of at least this number, or above it.
  abbrev pub IsLow : ℕ → Type 0
  IsLow u = (byte : Option Trace → ℕ) (v p : ℕ) → stands_in byte s target block v p ≡ true → u ≤ v

  abbrev pub IsBelow : ℕ → Type 0
  IsBelow u = (byte : Option Trace → ℕ) (v p : ℕ) → stands_in byte s target block v p ≡ true → u < v

  pub zero_low : IsLow 0
  zero_low byte v p e = omega arith

  -- It does not stand in this one.
  pub not_here : (t : Subvolume (Option Trace)) → t ≡ s → (u : ℕ)
      → ((byte : Option Trace → ℕ) → FindsLeast (stands_in byte t target block u) None) → IsLow u
      → IsBelow u
  not_here t is u none low byte v p e = strictly u v (low byte v p e) (λ same.
      true≢false (sym e ∙ ap (λ (k : ℕ). stands_in byte s target block k p) (sym same)
      ∙ ap (λ (x : Subvolume (Option Trace)). stands_in byte x target block u p) (sym is)
      ∙ none byte p))

  found_there : (v p : ℕ) (byte : Option Trace → ℕ) → stands_in byte s target block v p ≡ true
      → (k : ℕ) → k < v → IsNoLess v (entry_after nat_cmp k s.inodes)
  found_there v p byte e k above =
      let there = file_there s v (stands_says byte s target block v some p e).file in
      next_above s.inodes k v there.0 sorted there.1 above

  -- The next inode is the least that is left.
  pub next_low : (t : Subvolume (Option Trace)) → t ≡ s → (k next : ℕ)
      → Some next ≡ option_map (λ e. e.0) (entry_after nat_cmp k t.inodes) → IsBelow k → IsLow next
  next_low t is k next found below byte v p e =
      one (entry_after nat_cmp k s.inodes)
      (found ∙ ap
      (λ (x : Subvolume (Option Trace)). option_map (λ e. e.0) (entry_after nat_cmp k x.inodes)) is)
      (found_there v p byte e k (below byte v p e))
    where
      one : (o : Option (ℕ × Inode (Option Trace))) → Some next ≡ option_map (λ e. e.0) o
          → IsNoLess v o → next ≤ v
      one None is low = absurd low
      one (Some x) is low = let same = some_same next x.0 is in omega (arith, same, low)

  pub none_left : (t : Subvolume (Option Trace)) → t ≡ s → (k : ℕ)
      → None ≡ option_map (λ e. e.0) (entry_after nat_cmp k t.inodes) → IsBelow k
      → (byte : Option Trace → ℕ) (v p : ℕ) → stands_in byte s target block v p ≡ true → ⊥
  none_left t is k found below byte v p e =
      one (entry_after nat_cmp k s.inodes)
      (found ∙ ap
      (λ (x : Subvolume (Option Trace)). option_map (λ e. e.0) (entry_after nat_cmp k x.inodes)) is)
      (found_there v p byte e k (below byte v p e))
    where
      one : (o : Option (ℕ × Inode (Option Trace))) → None ≡ option_map (λ e. e.0) o → IsNoLess v o
          → ⊥
      one None is low = low
      one (Some x) is low = none_some x.0 is

  -- The least place of the least file at which it stands is the stand.
  pub found_first : StandIsLeast → (t : Subvolume (Option Trace)) → t ≡ s → (u o : ℕ)
      → ((byte : Option Trace → ℕ) → FindsLeast (stands_in byte t target block u) (Some o))
      → IsLow u
      → (key : Key) (byte : Option Trace → ℕ)
      → stand_of key (tagged_part byte s) target (map (tagged byte) block)
      ≡ Some (place_in key u o)
  found_first law t is u o found low key byte =
      let f = subst
      (λ (x : Subvolume (Option Trace)). FindsLeast (stands_in byte x target block u)
      (Some o)) is (found byte) in
      least_is_stand law byte s target block some sorted key u o f.0
      (λ v p e. one v p e (low byte v p e) (cases_eq u v) f.1)
    where
      one : (v p : ℕ) → stands_in byte s target block v p ≡ true → u ≤ v → (u ≡ v) ⊎ (u ≡ v → ⊥)
          → ((at : ℕ) → stands_in byte s target block u at ≡ true → o ≤ at)
          → (u < v) ⊎ ((u ≡ v) × (o ≤ p))
      one v p e low (inl same) f =
          inr (same, f p (ap (λ (k : ℕ). stands_in byte s target block k p) same ∙ e))
      one v p e low (inr apart) f = inl (strictly u v low apart)

  pub found_none : StandIsLeast → (t : Subvolume (Option Trace)) → t ≡ s → (k : ℕ)
      → None ≡ option_map (λ e. e.0) (entry_after nat_cmp k t.inodes) → IsBelow k
      → (key : Key) (byte : Option Trace → ℕ)
      → stand_of key (tagged_part byte s) target (map (tagged byte) block) ≡ None
  found_none law t is k found below key byte =
      none_is_stand law byte s target block some sorted key (none_left t is k found below byte)
