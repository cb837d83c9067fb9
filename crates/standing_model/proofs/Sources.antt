-- Where a block is cloned from: what an outside subvolume carries, and what stands in the part, is there with the block's bytes.
use Rattle.std.specs.Prelude.{◌≡◌, ◌≢◌, ◌⊎◌, ℕ, ◌+◌, ◌%◌, ◌≤◌, ◌==◌, Bool, true, false, not, ◌&&◌, ◌||◌, List, [], ◌∷◌, map, length, take, drop, Option, None, Some, if◌then◌else◌}
use Rattle.std.specs.List.{AllByRecursion, flat_map}
use Rattle.std.proofs.Common.{refl, sym, ap, subst, ◌∙◌, arith, eqb-true, inl, inr}
use Rattle.std.proofs.lemmas.Bool.{false≢true, and_parts, eqb-false}
use Rattle.std.proofs.lemmas.List.{length-map, length-drop, drop-map}
use Rattle.send_model.specs.Map.{Map}
use Rattle.send_model.specs.Subvolume.{Inode, Subvolume, is_file, first_path, all_paths, is_nameable}
use Rattle.send_model.specs.Clone.{block_len, cells_of}
use Rattle.send_model.specs.Store.{Key, same_key, Store, find}
use Rattle.send_model.specs.Receive.{first_of}
use Rattle.send_model.specs.Outside.{IsAmong}
use Rattle.send_model.specs.Provenance.{Place, Traced, Piece, Carried, Literal, come_from, carried_from, can_serve, join_piece, piece_by, pieces_by, place_after, same_place, blocks}
use Rattle.send_model.specs.Cells.{recelled, Holds}
use Rattle.send_model.proofs.ElementLaws.{all_both, all_drop}
use Rattle.send_model.proofs.Sorts.{same_inside}
use Rattle.send_model.proofs.Stores.{same_key_same}
use Rattle.send_model.proofs.CellMaps.{is_file-cells}
use Rattle.send_model.proofs.CellClones.{cells_of-cells}
use Rattle.send_model.proofs.Held.{cells_hold}
use Rattle.send_model.proofs.Carrying.{Serves, Covers, bytes_at, carried_serves, all_covered}
use Rattle.send_model.proofs.PieceRuns.{MayClone}
use Rattle.send_model.proofs.MergingClones.{turned_false}
use Rattle.send_model.proofs.Elsewhere.{AreApart}
use Rattle.standing_model.specs.Births.{Tagged, byte_in, traced_of}
use Rattle.standing_model.specs.Standing.{begin_with, stands_at, starts_from, place_in, block_places, first_such, stand_of, source_of, with_part}
use Rattle.standing_model.proofs.Told.{IsTold, all_placed, begin_bytes}

either : (a b : Bool) → a || b ≡ true → (a ≡ true) ⊎ (b ≡ true)
either true b e = inl refl
either false b e = inr e

not_equal : (a b : ℕ) → not (a == b) ≡ true → a ≢ b
not_equal a b e = eqb-false a b (one (a == b) e)
  where
    one : (t : Bool) → not t ≡ true → t ≡ false
    one true q = cc
    one false q = refl

-- Of two answers the first, or else the second.
either_of : {A : Type 0} (a b : Option A) (x : A) → first_of a b ≡ Some x → (a ≡ Some x) ⊎ (b ≡ Some x)
either_of None b x e = inr e
either_of (Some y) b x e = inl e

-- ---- the places that are looked at

found_such : (Q : Place → Type 0) (test : Place → Bool) (places : List Place) (place : Place) → AllByRecursion Q places → first_such test places ≡ Some place → Q place × (test place ≡ true)
found_such Q test [] place a e = cc
found_such Q test (p ∷ places) place a e = one (test p) refl e (found_such Q test places place a.1)
  where
    one : (b : Bool) → test p ≡ b → (if b then Some p else first_such test places) ≡ Some place → (first_such test places ≡ Some place → Q place × (test place ≡ true)) → Q place × (test place ≡ true)
    one true t q more = subst (λ (x : Place). Q x × (test x ≡ true)) (same_inside q) (a.0, t)
    one false t q more = more q

all_keyed : (key : Key) (ino : ℕ) (starts : List ℕ) → AllByRecursion (λ (p : Place). key ≡ p.key) (map (λ at. place_in key ino at) starts)
all_keyed key ino [] = tt
all_keyed key ino (at ∷ starts) = (refl, all_keyed key ino starts)

places_keyed : {C : Type 0} (key : Key) (m : Map ℕ (Inode C)) → AllByRecursion (λ (p : Place). key ≡ p.key) (flat_map (λ (e : ℕ × Inode C). map (λ at. place_in key e.0 at) (starts_from 0 (blocks e.1.cells))) m)
places_keyed key [] = tt
places_keyed {C} key (e ∷ m) =
    all_both (λ (p : Place). key ≡ p.key) (map (λ at. place_in key e.0 at) (starts_from 0 (blocks e.1.cells))) (flat_map (λ (e : ℕ × Inode C). map (λ at. place_in key e.0 at) (starts_from 0 (blocks e.1.cells))) m)
    (all_keyed key e.0 (starts_from 0 (blocks e.1.cells))) (places_keyed key m)

-- ---- pieces by their sources

-- What is known of the source of each block is known of the place of each piece that is cloned.
pub all_may : {C : Type 0} (bytes : C → ℕ) (source : List C → Option Place) (May : Place → Type 0) → ((block : List C) (place : Place) → source block ≡ Some place → May place)
    → (at : ℕ) (bs : List (List C)) → AllByRecursion (MayClone May) (pieces_by bytes source at bs)
all_may bytes source May h at [] = tt
all_may {C} bytes source May h at (b ∷ bs) = joined (piece_by bytes source at b) (pieces_by bytes source (at + length b) bs) (one (source b) refl) (all_may bytes source May h (at + length b) bs)
  where
    one : (o : Option Place) → source b ≡ o → MayClone May (elim o as (λ x. Piece) [ None ↦ Literal at (map bytes b) | Some place ↦ Carried at place (length b) ])
    one None e = tt
    one (Some place) e = h b place e

    joined : (p : Piece) (ps : List Piece) → MayClone May p → AllByRecursion (MayClone May) ps → AllByRecursion (MayClone May) (join_piece p ps)
    joined (Literal at bytes) [] m a = (tt, tt)
    joined (Literal at bytes) (Literal at' bytes' ∷ rest) m a = (tt, a.1)
    joined (Literal at bytes) (Carried at' place' len' ∷ rest) m a = (tt, a)
    joined (Carried at place len) [] m a = (m, tt)
    joined (Carried at place len) (Literal at' bytes' ∷ rest) m a = (m, a)
    joined (Carried at place len) (Carried at' place' len' ∷ rest) m a = two (same_place (place_after place len) place')
      where
        two : (b : Bool) → AllByRecursion (MayClone May) (if b then Carried at place (len + len') ∷ rest else Carried at place len ∷ Carried at' place' len' ∷ rest)
        two true = (m, a.1)
        two false = (m, a)

-- ---- one block

map_traced : (cells : List Tagged) → map (λ (c : Traced). c.byte) (map traced_of cells) ≡ map byte_in cells
map_traced [] = refl
map_traced (c ∷ cells) = ap (λ (r : List ℕ). c.byte ∷ r) (map_traced cells)

-- Names do not look at cells.
pub nameable-cells : {C D : Type 0} (f : C → D) (s : Subvolume C) (ino : ℕ) → is_nameable (recelled f s) ino ≡ is_nameable s ino
unfolding is_nameable first_path all_paths
nameable-cells f s ino = refl

module _ (files : List (List ℕ)) (base : Store ℕ) (keys : List Key) (last : Key) (apart : AreApart keys last) (s : Subvolume Tagged) (target : ℕ) where
  abbrev pub plain : Subvolume ℕ
  plain = recelled byte_in s

  -- Where sources are looked for: the part under the last one's key, and the base.
  abbrev pub around : Store ℕ
  around = with_part last s base

  abbrev pub keys_around : List Key
  keys_around = last ∷ keys

  not_last : (key : Key) → IsAmong key keys → same_key last key ≡ false
  not_last key among = ap (λ (b : Bool). b && (last.ctransid == key.ctransid)) (turned_false key.uuid last.uuid (apart key among))

  pub finds_outside : (key : Key) → IsAmong key keys → find around key ≡ find base key
  unfolding find
  finds_outside key among = ap (λ (b : Bool). if b then Some plain else find base key) (not_last key among)

  pub finds_part : find around last ≡ Some plain
  unfolding find
  finds_part = ap (λ (b : Bool). if b then Some plain else find base last) (same_key_same last)

  -- A place has the bytes of a block.
  abbrev Has : List Tagged → Place → ℕ → Type 0
  Has block place len = (h : Serves around keys_around place len) × (bytes_at around keys_around place len h ≡ map byte_in block)

  carried_has : (block : List Tagged) (place : Place) → carried_from base (map traced_of block) ≡ Some place → AllByRecursion (IsTold files base keys) block → Has block place (length block)
  carried_has block place e told =
      let k = carried_serves base keys (map traced_of block) place e (all_placed files base keys block told) in
      let h = k.0 in
      let at : Has block place (length (map traced_of block)) = (
        record {
          among = inr h.among;
          source = h.source;
          found = finds_outside place.key h.among ∙ h.found;
          file = h.file;
          nameable = h.nameable;
          start = h.start;
          some = h.some;
          within = h.within;
          ends = h.ends;
        },
        k.1 ∙ map_traced block,
      ) in
      subst (λ (n : ℕ). Has block place n) (length-map block traced_of) at

  -- What is known of a block's stand.
  pub record IsStand (block : List Tagged) (place : Place) : Type 0 where
    pub own : last ≡ place.key
    pub start : place.offset % 4096 ≡ 0
    pub file : is_file s place.ino ≡ true
    pub nameable : is_nameable s place.ino ≡ true
    pub ends : (length block ≡ 4096) ⊎ (place.offset + length block ≡ length (cells_of s place.ino))
    pub other : place.ino ≢ target
    pub tags : begin_with (drop place.offset (cells_of s place.ino)) block ≡ true

  pub is_stand : (block : List Tagged) (place : Place) → stand_of last s target block ≡ Some place → IsStand block place
  unfolding stand_of
  is_stand block place e =
      let size : ℕ = length (cells_of s place.ino) in
      let f = found_such (λ (p : Place). last ≡ p.key) (stands_at s target block) (block_places last s) place (places_keyed last s.inodes) e in
      let a = and_parts (can_serve (Some s) place (length block) && not (place.ino == target)) (begin_with (drop place.offset (cells_of s place.ino)) block) f.1 in
      let b = and_parts (can_serve (Some s) place (length block)) (not (place.ino == target)) a.0 in
      let c = and_parts ((place.offset % block_len == 0) && (is_file s place.ino && is_nameable s place.ino)) ((length block == block_len) || (place.offset + length block == size)) b.0 in
      let d = and_parts (place.offset % block_len == 0) (is_file s place.ino && is_nameable s place.ino) c.0 in
      let g = and_parts (is_file s place.ino) (is_nameable s place.ino) d.1 in
      record {
        own = f.0;
        start = eqb-true (place.offset % block_len) 0 d.0;
        file = g.0;
        nameable = g.1;
        ends = elim (either (length block == block_len) (place.offset + length block == size) c.1) [
          | inl whole ↦ inl (eqb-true (length block) block_len whole)
          | inr end ↦ inr (eqb-true (place.offset + length block) size end)
        ];
        other = not_equal place.ino target b.1;
        tags = a.1;
      }

  module _ (held : Holds (IsTold files base keys) s) where
    stand_has : (block : List Tagged) (place : Place) → 1 ≤ length block → IsStand block place → AllByRecursion (IsTold files base keys) block → Has block place (length block)
    stand_has block place some t told =
        let cells : List Tagged = cells_of s place.ino in
        let b = begin_bytes files base keys (drop place.offset cells) block t.tags (all_drop (IsTold files base keys) place.offset cells (cells_hold (IsTold files base keys) s place.ino held)) told in
        let plain_cells : cells_of plain place.ino ≡ map byte_in cells = cells_of-cells byte_in s place.ino in
        let size : length (cells_of plain place.ino) ≡ length cells = ap length plain_cells ∙ length-map cells byte_in in
        let left = length-drop place.offset cells in
        let long = b.0 in (
          record {
            among = inl t.own;
            source = plain;
            found = subst (λ (k : Key). find around k ≡ Some plain) t.own finds_part;
            file = is_file-cells byte_in s place.ino ∙ t.file;
            nameable = nameable-cells byte_in s place.ino ∙ t.nameable;
            start = t.start;
            some = some;
            within = omega (arith, size, left, long, some);
            ends = elim t.ends [
              | inl whole ↦ inl (omega (arith, whole))
              | inr end ↦ inr (omega (arith, end, size))
            ];
          },
          ap (λ (xs : List ℕ). take (length block) (drop place.offset xs)) plain_cells ∙ ap (take (length block)) (drop-map byte_in place.offset cells) ∙ b.1,
        )

    -- The source of a block has its bytes.
    pub source_has : (block : List Tagged) (place : Place) → 1 ≤ length block → source_of base last s target block ≡ Some place → AllByRecursion (IsTold files base keys) block → Has block place (length block)
    source_has block place some e told = elim (either_of (carried_from base (map traced_of block)) (stand_of last s target block) place e) [
      | inl carried ↦ carried_has block place carried told
      | inr stands ↦ stand_has block place some (is_stand block place stands) told
    ]

    -- The pieces of a range stand for its bytes.
    pub standing_covered : (range : List Tagged) → AllByRecursion (IsTold files base keys) range
        → Covers around keys_around 0 (pieces_by byte_in (source_of base last s target) 0 (blocks range)) (map byte_in range)
    standing_covered range told = all_covered around keys_around byte_in (IsTold files base keys) (source_of base last s target) source_has range told

  -- ---- the file that is written to

  -- A place that is the part's own is not in the file that is written to.
  abbrev pub Avoids : Place → Type 0
  Avoids place = last ≡ place.key → place.ino ≢ target

  module _ (none : find base last ≡ None) where
    not_carried : (cells : List Traced) (place : Place) → carried_from base cells ≡ Some place → last ≡ place.key → ⊥
    unfolding carried_from
    not_carried [] place e own = cc
    not_carried (c ∷ cells) place e own = one c.place e
      where
        one : (o : Option Place) → (elim o as (λ x. Option Place) [ None ↦ None | Some p ↦ if come_from p (c ∷ cells) && can_serve (find base p.key) p (length (c ∷ cells)) then Some p else None ]) ≡ Some place → ⊥
        one None q = cc
        one (Some p) q = two (come_from p (c ∷ cells) && can_serve (find base p.key) p (length (c ∷ cells))) refl q
          where
            two : (b : Bool) → come_from p (c ∷ cells) && can_serve (find base p.key) p (length (c ∷ cells)) ≡ b → (if b then Some p else None) ≡ Some place → ⊥
            two false t r = cc
            two true t r =
                let can : can_serve (find base p.key) p (length (c ∷ cells)) ≡ true = (and_parts (come_from p (c ∷ cells)) (can_serve (find base p.key) p (length (c ∷ cells))) t).1 in
                let gone : find base p.key ≡ None = ap (find base) (ap (λ (x : Place). x.key) (same_inside r) ∙ sym own) ∙ none in
                false≢true (sym (ap (λ (o : Option (Subvolume ℕ)). can_serve o p (length (c ∷ cells))) gone) ∙ can)

    source_avoids : (block : List Tagged) (place : Place) → source_of base last s target block ≡ Some place → Avoids place
    source_avoids block place e = elim (either_of (carried_from base (map traced_of block)) (stand_of last s target block) place e) [
      | inl carried ↦ λ own. absurd (not_carried (map traced_of block) place carried own)
      | inr stands ↦ λ own. (let t = is_stand block place stands in t.other)
    ]

    pub all_avoid : (at : ℕ) (bs : List (List Tagged)) → AllByRecursion (MayClone Avoids) (pieces_by byte_in (source_of base last s target) at bs)
    all_avoid at bs = all_may byte_in (source_of base last s target) Avoids source_avoids at bs
