-- The stand that is found is the least place at which the block stands; and it stands where the file's own block has just its tags.
use Rattle.std.specs.Prelude.{◌≡◌, ◌≢◌, ◌⊎◌, ℕ, zero, suc, ◌+◌, ◌%◌, ◌<◌, ◌≤◌, ◌==◌, Bool, true, false, cond, not, T, ◌&&◌, ◌||◌, List, [], ◌∷◌, ◌++◌, map, length, take, drop, Option, None, Some, MatchOption, nat_lt, if◌then◌else◌}
use Rattle.std.specs.declared.cmp.Ordering.TheVariants.{Equal, Greater}
use Rattle.std.specs.List.{flat_map}
use Rattle.std.specs.Ordering.{nat_cmp, is_lt, eq_by_cmp}
use Rattle.std.specs.Cmp.{nat_cmp_is, unsigned_tied}
use Rattle.std.specs.FinMap.Entries.{below_all, is_sorted}
use Rattle.std.proofs.Common.{refl, sym, ap, subst, ◌∙◌, arith, eqb-true, eq-eqb, inl, inr}
use Rattle.std.proofs.lemmas.Bool.{false≢true, true≢false, and_parts, ltb-true, ltb-false}
use Rattle.std.proofs.lemmas.List.{length-take, length-drop}
use Rattle.send_model.specs.Map.{Map, IsMap, value_at}
use Rattle.send_model.specs.Subvolume.{Inode, Subvolume, inode_at, is_file, is_nameable}
use Rattle.send_model.specs.Clone.{block_len, cells_of}
use Rattle.send_model.specs.Store.{Key}
use Rattle.send_model.specs.Provenance.{Place, can_serve, blocks_from, blocks}
use Rattle.send_model.proofs.Sorts.{same_inside}
use Rattle.send_model.proofs.MapLaws.{T_left, T_right}
use Rattle.send_model.proofs.Rewriting.{file_there}
use Rattle.standing_model.specs.Births.{Tagged}
use Rattle.standing_model.specs.Standing.{tags_alike, begin_with, stands_at, starts_from, place_in, block_places, first_such, stand_of, IsLeastStand, StandIsLeast, StandIsBlock}

-- ---- numbers in order

less_is : (a b : ℕ) → T (is_lt (nat_cmp a b)) → a < b
less_is a b t = one (nat_lt a b) refl
  where
    one : (x : Bool) → nat_lt a b ≡ x → a < b
    one true e = ltb-true a b e
    one false e = two (nat_lt b a) refl (ltb-false a b e)
      where
        two : (y : Bool) → nat_lt b a ≡ y → b ≤ a → a < b
        two true f l = absurd (subst (λ r. T (is_lt r)) (sym (nat_cmp_is a b Greater (ltb-true b a f))) t)
        two false f l = absurd (subst (λ r. T (is_lt r)) (sym (nat_cmp_is a b Equal (let m = ltb-false b a f in omega (arith, l, m)))) t)

-- ---- where a block stands

begin_long : (cells block : List Tagged) → begin_with cells block ≡ true → length block ≤ length cells
begin_long cells [] e = omega arith
begin_long [] (c ∷ block) e = absurd (false≢true e)
begin_long (d ∷ cells) (c ∷ block) e = let more = begin_long cells block (and_parts (tags_alike c.tag d.tag) (begin_with cells block) e).1 in omega (arith, more)

-- What begins with a block still does where it is cut behind it, and the other way.
begin_cut : (n : ℕ) (cells block : List Tagged) → length block ≤ n → begin_with (take n cells) block ≡ begin_with cells block
begin_cut n cells [] l = refl
begin_cut zero cells (c ∷ block) l = absurd (omega (arith, l))
begin_cut (suc n) [] (c ∷ block) l = refl
begin_cut (suc n) (d ∷ cells) (c ∷ block) l = ap (λ (b : Bool). tags_alike c.tag d.tag && b) (begin_cut n cells block (omega (arith, l)))

-- It stands within the cells of its file.
stands_within : (key : Key) (s : Subvolume Tagged) (target : ℕ) (block : List Tagged) (u o : ℕ) → 1 ≤ length block → stands_at s target block (place_in key u o) ≡ true
    → (o % 4096 ≡ 0) × (is_file s u ≡ true) × (o < length (cells_of s u))
stands_within key s target block u o some e =
    let a = and_parts (can_serve (Some s) (place_in key u o) (length block) && not (u == target)) (begin_with (drop o (cells_of s u)) block) e in
    let b = and_parts (can_serve (Some s) (place_in key u o) (length block)) (not (u == target)) a.0 in
    let c = and_parts ((o % block_len == 0) && (is_file s u && is_nameable s u)) ((length block == block_len) || (o + length block == length (cells_of s u))) b.0 in
    let d = and_parts (o % block_len == 0) (is_file s u && is_nameable s u) c.0 in
    let long = begin_long (drop o (cells_of s u)) block a.1 in
    let size = length-drop o (cells_of s u) in
    (eqb-true (o % block_len) 0 d.0, (and_parts (is_file s u) (is_nameable s u) d.1).0, omega (arith, some, long, size))

-- ---- one file

module _ (key : Key) (test : Place → Bool) (u : ℕ) where
  abbrev places : List ℕ → List Place
  places starts = map (λ at. place_in key u at) starts

  -- What is found among the places of one file is one of them.
  found_of : (starts : List ℕ) (p : Place) → first_such test (places starts) ≡ Some p → (p.key ≡ key) × (p.ino ≡ u) × (test p ≡ true)
  found_of [] p e = cc
  found_of (at ∷ starts) p e = one (test (place_in key u at)) refl e (found_of starts p)
    where
      one : (b : Bool) → test (place_in key u at) ≡ b → (if b then Some (place_in key u at) else first_such test (places starts)) ≡ Some p
          → (first_such test (places starts) ≡ Some p → (p.key ≡ key) × (p.ino ≡ u) × (test p ≡ true)) → (p.key ≡ key) × (p.ino ≡ u) × (test p ≡ true)
      one true t q more = let same : place_in key u at ≡ p = same_inside q in (sym (ap (λ (x : Place). x.key) same), sym (ap (λ (x : Place). x.ino) same), ap test (sym same) ∙ t)
      one false t q more = more q

  -- Blocks of any length above 0.
  abbrev cut : ℕ → ℕ → List Tagged → List (List Tagged)
  cut w zero cells = []
  cut w (suc n) [] = []
  cut w (suc n) (c ∷ cells) = take (suc w) (c ∷ cells) ∷ cut w n (drop (suc w) (c ∷ cells))

  cut_is : (w : ℕ) → block_len ≡ suc w → (n : ℕ) (cells : List Tagged) → blocks_from n cells ≡ cut w n cells
  cut_is w e zero cells = refl
  cut_is w e (suc n) [] = refl
  cut_is w e (suc n) (c ∷ cells) =
      let more : ℕ → List (List Tagged) = λ m. take m (c ∷ cells) ∷ blocks_from n (drop m (c ∷ cells)) in
      ap more e ∙ ap (λ (r : List (List Tagged)). take (suc w) (c ∷ cells) ∷ r) (cut_is w e n (drop (suc w) (c ∷ cells)))

  -- Found no later than a place of the file, from one on.
  record FoundBy (starts : List ℕ) (o : ℕ) : Type 0 where
    place : Place
    found : first_such test (places starts) ≡ Some place
    low : place.offset ≤ o

  found_by : (w : ℕ) → suc w ≡ 4096 → (n : ℕ) (cells : List Tagged) (at o : ℕ) → length cells ≤ n → at % 4096 ≡ 0 → o % 4096 ≡ 0 → at ≤ o → o < at + length cells → test (place_in key u o) ≡ true
      → FoundBy (starts_from at (cut w n cells)) o
  found_by w is zero cells at o fits even even' low high t = absurd (omega (arith, fits, low, high))
  found_by w is (suc n) [] at o fits even even' low high t = absurd (omega (arith, low, high))
  found_by w is (suc n) (c ∷ cells) at o fits even even' low high t = one (test (place_in key u at)) refl (λ next. found_by w is n (drop w cells) (at + length (take (suc w) (c ∷ cells))) o next)
    where
      rest : List ℕ
      rest = starts_from (at + length (take (suc w) (c ∷ cells))) (cut w n (drop w cells))

      one : (b : Bool) → test (place_in key u at) ≡ b
          → (length (drop w cells) ≤ n → (at + length (take (suc w) (c ∷ cells))) % 4096 ≡ 0 → o % 4096 ≡ 0 → at + length (take (suc w) (c ∷ cells)) ≤ o → o < at + length (take (suc w) (c ∷ cells)) + length (drop w cells) → test (place_in key u o) ≡ true → FoundBy rest o)
          → FoundBy (at ∷ rest) o
      one true q more = record { place = place_in key u at; found = ap (λ (b : Bool). if b then Some (place_in key u at) else first_such test (places rest)) q; low = low }
      one false q more =
          let left = length-drop w cells in
          let front = length-take w cells in
          let apart : at ≢ o = λ same. true≢false (sym t ∙ ap (λ (k : ℕ). test (place_in key u k)) (sym same) ∙ q) in
          let strict : at < o = strictly at o apart low in
          let far : at + 4096 ≤ o = omega (arith, even, even', strict) in
          let r = more (omega (arith, left, fits)) (omega (arith, even, front, far, high, is)) even' (omega (arith, far, front, is)) (omega (arith, high, front, left, is, far)) t in
          record { place = r.place; found = ap (λ (b : Bool). if b then Some (place_in key u at) else first_such test (places rest)) q ∙ r.found; low = r.low }
        where
          strictly : (a b : ℕ) → a ≢ b → a ≤ b → a < b
          strictly a b n l = two (nat_lt a b) refl
            where
              two : (x : Bool) → nat_lt a b ≡ x → a < b
              two true e = ltb-true a b e
              two false e = absurd (n (let m = ltb-false a b e in omega (arith, m, l)))

  in_file : (cells : List Tagged) (o : ℕ) → o % 4096 ≡ 0 → o < length cells → test (place_in key u o) ≡ true → FoundBy (starts_from 0 (blocks cells)) o
  unfolding blocks
  in_file cells o even high t =
      subst (λ (bs : List (List Tagged)). FoundBy (starts_from 0 bs) o) (sym (cut_is 4095 refl (length cells) cells)) (found_by 4095 refl (length cells) cells 0 o (omega arith) refl even (omega arith) (omega (arith, high)) t)

-- ---- all files

such_append : (test : Place → Bool) (xs ys : List Place) → first_such test (xs ++ ys) ≡ (elim (first_such test xs) as (λ o. Option Place) [ None ↦ first_such test ys | Some p ↦ Some p ])
such_append test [] ys = refl
such_append test (p ∷ xs) ys = one (test p) (such_append test xs ys)
  where
    one : (b : Bool) → first_such test (xs ++ ys) ≡ (elim (first_such test xs) as (λ o. Option Place) [ None ↦ first_such test ys | Some q ↦ Some q ])
        → (if b then Some p else first_such test (xs ++ ys)) ≡ (elim (if b then Some p else first_such test xs) as (λ o. Option Place) [ None ↦ first_such test ys | Some q ↦ Some q ])
    one true more = refl
    one false more = more

module _ (key : Key) (test : Place → Bool) where
  abbrev own_places : ℕ × Inode Tagged → List Place
  own_places e = map (λ at. place_in key e.0 at) (starts_from 0 (blocks e.1.cells))

  abbrev all_places : Map ℕ (Inode Tagged) → List Place
  all_places m = flat_map own_places m

  found_any : (m : Map ℕ (Inode Tagged)) (p : Place) → first_such test (all_places m) ≡ Some p → (p.key ≡ key) × (test p ≡ true)
  found_any [] p e = cc
  found_any (x ∷ m) p e = one (first_such test (own_places x)) refl (sym (such_append test (own_places x) (all_places m)) ∙ e) (found_any m p)
    where
      one : (o : Option Place) → first_such test (own_places x) ≡ o → (elim o as (λ t. Option Place) [ None ↦ first_such test (all_places m) | Some q ↦ Some q ]) ≡ Some p
          → (first_such test (all_places m) ≡ Some p → (p.key ≡ key) × (test p ≡ true)) → (p.key ≡ key) × (test p ≡ true)
      one None f q more = more q
      one (Some y) f q more = let w = found_of key test x.0 (starts_from 0 (blocks x.1.cells)) y f in subst (λ (z : Place). (z.key ≡ key) × (test z ≡ true)) (same_inside q) (w.0, w.2)

  -- A key that is found above another is greater.
  found_above : (k u : ℕ) (inode : Inode Tagged) (m : Map ℕ (Inode Tagged)) → T (below_all nat_cmp k m) → value_at nat_cmp u m ≡ Some inode → k < u
  found_above k u inode [] b e = cc
  found_above k u inode (x ∷ m) b e = one (eq_by_cmp nat_cmp u x.0) refl e (found_above k u inode m (T_right (is_lt (nat_cmp k x.0)) (below_all nat_cmp k m) b))
    where
      one : (t : Bool) → eq_by_cmp nat_cmp u x.0 ≡ t → cond t (Some x.1) (value_at nat_cmp u m) ≡ Some inode → (value_at nat_cmp u m ≡ Some inode → k < u) → k < u
      one true q f more =
          let same : u ≡ x.0 = eqb-true u x.0 (sym (unsigned_tied u x.0) ∙ q) in
          let less = less_is k x.0 (T_left (is_lt (nat_cmp k x.0)) (below_all nat_cmp k m) b) in
          omega (arith, same, less)
      one false q f more = more f

  record Before (m : Map ℕ (Inode Tagged)) (u o : ℕ) : Type 0 where
    place : Place
    found : first_such test (all_places m) ≡ Some place
    low : (place.ino < u) ⊎ ((place.ino ≡ u) × (place.offset ≤ o))

  before : (m : Map ℕ (Inode Tagged)) → IsMap nat_cmp m → (u o : ℕ) (inode : Inode Tagged) → value_at nat_cmp u m ≡ Some inode → o % 4096 ≡ 0 → o < length inode.cells → test (place_in key u o) ≡ true → Before m u o
  before [] h u o inode e even high t = cc
  before (x ∷ m) h u o inode e even high t = one (eq_by_cmp nat_cmp u x.0) refl e
      (λ f. before m (T_right (below_all nat_cmp x.0 m) (is_sorted nat_cmp m) h) u o inode f even high t)
    where
      rest : Option Place
      rest = first_such test (all_places m)

      joined : first_such test (own_places x ++ all_places m) ≡ (elim (first_such test (own_places x)) as (λ o. Option Place) [ None ↦ rest | Some p ↦ Some p ])
      joined = such_append test (own_places x) (all_places m)

      one : (b : Bool) → eq_by_cmp nat_cmp u x.0 ≡ b → cond b (Some x.1) (value_at nat_cmp u m) ≡ Some inode → (value_at nat_cmp u m ≡ Some inode → Before m u o) → Before (x ∷ m) u o
      one true q f more =
          let same : u ≡ x.0 = eqb-true u x.0 (sym (unsigned_tied u x.0) ∙ q) in
          let cells : x.1 ≡ inode = same_inside f in
          let r = in_file key test x.0 x.1.cells o even (subst (λ (i : Inode Tagged). o < length i.cells) (sym cells) high) (ap (λ (k : ℕ). test (place_in key k o)) (sym same) ∙ t) in
          let w = found_of key test x.0 (starts_from 0 (blocks x.1.cells)) r.place r.found in
          record {
            place = r.place;
            found = joined ∙ ap (λ (z : Option Place). elim z as (λ o. Option Place) [ None ↦ rest | Some p ↦ Some p ]) r.found;
            low = inr (w.1 ∙ sym same, r.low);
          }
      one false q f more = two (first_such test (own_places x)) refl
        where
          two : (z : Option Place) → first_such test (own_places x) ≡ z → Before (x ∷ m) u o
          two None g = let r = more f in record { place = r.place; found = joined ∙ ap (λ (z : Option Place). elim z as (λ o. Option Place) [ None ↦ rest | Some p ↦ Some p ]) g ∙ r.found; low = r.low }
          two (Some p) g =
              let w = found_of key test x.0 (starts_from 0 (blocks x.1.cells)) p g in
              let ino = w.1 in
              let above = found_above x.0 u inode m (T_left (below_all nat_cmp x.0 m) (is_sorted nat_cmp m) h) f in
              record { place = p; found = joined ∙ ap (λ (z : Option Place). elim z as (λ o. Option Place) [ None ↦ rest | Some p ↦ Some p ]) g; low = inl (omega (arith, ino, above)) }

-- ---- the law

cells_there : (s : Subvolume Tagged) (u : ℕ) (inode : Inode Tagged) → inode_at s u ≡ Some inode → cells_of s u ≡ inode.cells
unfolding cells_of
cells_there s u inode e = ap (λ (o : Option (Inode Tagged)). elim o as (λ x. List Tagged) [ None ↦ [] | Some i ↦ i.cells ]) e

module _ (key : Key) (s : Subvolume Tagged) (target : ℕ) (block : List Tagged) (some : 1 ≤ length block) (sorted : IsMap nat_cmp s.inodes) where
  stand_before : (u o : ℕ) → stands_at s target block (place_in key u o) ≡ true → Before key (stands_at s target block) s.inodes u o
  stand_before u o t =
      let w = stands_within key s target block u o some t in
      let there = file_there s u w.1 in
      before key (stands_at s target block) s.inodes sorted u o there.0 there.1 w.0 (subst (λ (cells : List Tagged). o < length cells) (cells_there s u there.0 there.1) w.2) t

pub stand_is_least : StandIsLeast
unfolding stand_of
stand_is_least key s target block some sorted = one (first_such (stands_at s target block) (block_places key s)) refl
  where
    test : Place → Bool
    test = stands_at s target block

    one : (z : Option Place) → first_such (stands_at s target block) (block_places key s) ≡ z
        → MatchOption z ((u o : ℕ) → stands_at s target block (place_in key u o) ≡ false) (IsLeastStand key s target block)
    one None e = λ u o. two (stands_at s target block (place_in key u o)) u o refl
      where
        two : (b : Bool) (u o : ℕ) → stands_at s target block (place_in key u o) ≡ b → b ≡ false
        two true u o t = absurd (let r = stand_before key s target block some sorted u o t in none_some r.place (sym e ∙ r.found))
          where
            none_some : (p : Place) → None ≡ Some p → ⊥
            none_some p q = cc
        two false u o t = refl
    one (Some p) e =
        let w = found_any key (stands_at s target block) s.inodes p e in
        record {
          own = w.0;
          stands = w.1;
          least = λ u o t. let r = stand_before key s target block some sorted u o t in
              subst (λ (x : Place). (x.ino < u) ⊎ ((x.ino ≡ u) × (x.offset ≤ o))) (same_inside (sym r.found ∙ e)) r.low;
        }

-- ---- blocks

both_true : (a b : Bool) → a ≡ true → b ≡ true → a && b ≡ true
both_true true b e f = f
both_true false b e f = absurd (false≢true e)

left_true : (a b : Bool) → a ≡ true → a || b ≡ true
left_true true b e = refl
left_true false b e = absurd (false≢true e)

right_true : (a b : Bool) → b ≡ true → a || b ≡ true
right_true true b e = refl
right_true false b e = e

one_true : (a b : Bool) → a || b ≡ true → (a ≡ true) ⊎ (b ≡ true)
one_true true b e = inl refl
one_true false b e = inr e

module _ (s : Subvolume Tagged) (target : ℕ) (block : List Tagged) (place : Place) (some : 1 ≤ length block) (short : length block ≤ 4096) where
  abbrev cells : List Tagged
  cells = cells_of s place.ino

  abbrev left : List Tagged
  left = drop place.offset cells

  abbrev fits : Bool
  fits = (place.offset % 4096 == 0) && (is_file s place.ino && is_nameable s place.ino)

  abbrev ends : Bool
  ends = (length block == 4096) || (place.offset + length block == length cells)

  abbrev other : Bool
  other = not (place.ino == target)

  to_block : (fits && ends && other && begin_with left block) ≡ true → (fits && other && ((length (take 4096 left) == length block) && begin_with (take 4096 left) block)) ≡ true
  to_block t =
      let a = and_parts (fits && ends && other) (begin_with left block) t in
      let b = and_parts (fits && ends) other a.0 in
      let c = and_parts fits ends b.0 in
      let long = begin_long left block a.1 in
      let size = length-drop place.offset cells in
      let there = length-take 4096 left in
      let same : length (take 4096 left) ≡ length block = elim (one_true (length block == 4096) (place.offset + length block == length cells) c.1) [
        | inl whole ↦ (let e : length block ≡ 4096 = eqb-true (length block) 4096 whole in omega (arith, e, long, there))
        | inr end ↦ (let e : place.offset + length block ≡ length cells = eqb-true (place.offset + length block) (length cells) end in omega (arith, e, size, there, short))
      ] in
      both_true (fits && other) ((length (take 4096 left) == length block) && begin_with (take 4096 left) block) (both_true fits other c.0 b.1)
      (both_true (length (take 4096 left) == length block) (begin_with (take 4096 left) block) (eq-eqb (length (take 4096 left)) (length block) same) (begin_cut 4096 left block short ∙ a.1))

  from_block : (fits && other && ((length (take 4096 left) == length block) && begin_with (take 4096 left) block)) ≡ true → (fits && ends && other && begin_with left block) ≡ true
  from_block t =
      let a = and_parts (fits && other) ((length (take 4096 left) == length block) && begin_with (take 4096 left) block) t in
      let b = and_parts fits other a.0 in
      let c = and_parts (length (take 4096 left) == length block) (begin_with (take 4096 left) block) a.1 in
      let same : length (take 4096 left) ≡ length block = eqb-true (length (take 4096 left)) (length block) c.0 in
      both_true (fits && ends && other) (begin_with left block)
      (both_true (fits && ends) other (both_true fits ends b.0 (one (nat_lt (length left) 4096) refl same)) b.1)
      (sym (begin_cut 4096 left block short) ∙ c.1)
    where
      one : (x : Bool) → nat_lt (length left) 4096 ≡ x → length (take 4096 left) ≡ length block → ends ≡ true
      one true e same =
          let l = ltb-true (length left) 4096 e in
          let size = length-drop place.offset cells in
          let there = length-take 4096 left in
          right_true (length block == 4096) (place.offset + length block == length cells) (eq-eqb (place.offset + length block) (length cells) (omega (arith, l, same, size, there, some)))
      one false e same =
          let l = ltb-false (length left) 4096 e in
          let there = length-take 4096 left in
          left_true (length block == 4096) (place.offset + length block == length cells) (eq-eqb (length block) 4096 (omega (arith, l, same, there)))

pub stand_is_block : StandIsBlock
stand_is_block s target block place some short = (to_block s target block place some short, from_block s target block place some short)
