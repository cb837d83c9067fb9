-- Cells that begin with the tags of a block, piece by piece.
use Rattle.std.specs.Prelude.{◌≡◌, ℕ, zero, suc, ◌+◌, ◌-◌, ◌<◌, ◌≤◌, ◌==◌, Bool, true, false, ◌&&◌, List, [], ◌∷◌, ◌++◌, map, length, take, drop, get_or, Option, None, Some}
use Rattle.std.specs.List.{AllByRecursion, range_with_len}
use Rattle.std.specs.Str.{bytes_eq}
use Rattle.std.proofs.Common.{refl, sym, ap, subst, ◌∙◌, arith, length-append}
use Rattle.std.proofs.lemmas.Bool.{eqb-true, eq-eqb, and_parts}
use Rattle.std.proofs.lemmas.List.{take-append-drop, drop-drop, take-take, drop-map, drop-take, length-take, length-drop}
use Rattle.std.proofs.Math.Seq.{take-append_seam}
use Rattle.extent_map.specs.Cells.{cells_between}
use Rattle.extent_map.specs.Pieces.{piece_cells, run_cells}
use Rattle.extent_map.proofs.Layouts.{length-piece, get_or-hole, get_or-run}
use Rattle.extent_map.proofs.Ranges.{piece_front}
use Rattle.send_model.specs.Store as meant
use Rattle.send_model.specs.Provenance.{Place, same_place}
use Rattle.send_model.proofs.Carrying.{same_place_true}
use Rattle.standing_model.specs.Births.{Tag, CameFrom, BornAt, Tagged, Birth}
use Rattle.standing_model.specs.Standing.{same_birth, same_tag, tags_alike, begin_with}
use Rattle.subvol_catalog.specs.declared.key.Key.{Key}
use Rattle.subvol_catalog.specs.Entries.{key_of}
use Rattle.provenance.specs.declared.trace.Trace.{Trace}
use Rattle.provenance.specs.declared.trace.Trace.TheVariants.{Fresh, Outside}
use Rattle.provenance.specs.Traces.{advanced_by, reach_of}
use Rattle.provenance.specs.TraceLaws.{by_none}
use Rattle.plain_stands.specs.Tags.{tag_of, tagged}
use Rattle.plain_stands.specs.Stands.{AreAlike}

-- ---- tags

bytes_same : (bytes : List ℕ) → bytes_eq bytes bytes ≡ true
bytes_same [] = refl
bytes_same (b ∷ bytes) = grind (arith, bytes_same bytes)

pub tag_itself : (t : Trace) → same_tag (tag_of t) (tag_of t) ≡ true
tag_itself (Fresh file at) = grind arith
tag_itself (Outside key ino at) = let e = bytes_same key.uuid in grind (arith, e)

key_same : (k l : Key) → key_of k ≡ key_of l → k ≡ l
key_same k l e =
    ap (λ (u : List ℕ). made u k.ctransid) (ap (λ (x : meant.Key). x.uuid) e)
    ∙ ap (made l.uuid) (ap (λ (x : meant.Key). x.ctransid) e)
  where
    made : List ℕ → ℕ → Key
    made uuid ctransid = record { uuid = uuid; ctransid = ctransid }

born_same : (a b : Birth) → same_birth a b ≡ true → (a.file ≡ b.file) × (a.at ≡ b.at)
born_same a b e = let p =
    and_parts (a.file == b.file) (a.at == b.at) e in
    (eqb-true a.file b.file p.0, eqb-true a.at b.at p.1)

-- Traces with the same tag are the same.
pub tag_tells : (t u : Trace) → same_tag (tag_of t) (tag_of u) ≡ true → t ≡ u
tag_tells (Fresh file at) (Fresh file' at') e =
    let p = born_same (record { file = file + 1; at = at })
    (record { file = file' + 1; at = at' }) e in
    ap (λ (n : ℕ). Fresh n at) (omega (arith, p.0)) ∙ ap (Fresh file') p.1
tag_tells (Fresh file at) (Outside key ino at') e = cc
tag_tells (Outside key ino at) (Fresh file at') e = cc
tag_tells (Outside key ino at) (Outside key' ino' at') e =
    let p = same_place_true (record { key = key_of key; ino = ino; offset = at })
    (record { key = key_of key'; ino = ino'; offset = at' }) e in
    ap (λ (k : Key). Outside k ino at) (key_same key key' (ap (λ (x : Place). x.key) p))
    ∙ ap (λ (n : ℕ). Outside key' n at) (ap (λ (x : Place). x.ino) p)
    ∙ ap (Outside key' ino') (ap (λ (x : Place). x.offset) p)

-- ---- pieces

abbrev HasTrace : Option Trace → Type 0
HasTrace None = ⊥
HasTrace (Some trace) = Unit {0}

run_told : (t : Trace) (ks : List ℕ)
    → AllByRecursion HasTrace (map (λ k. Some (advanced_by t k)) ks)
run_told t [] = tt
run_told t (k ∷ ks) = (tt, run_told t ks)

piece_told : (t : Trace) (n : ℕ) → AllByRecursion HasTrace (piece_cells advanced_by (Some t) n)
unfolding piece_cells run_cells
piece_told t n = run_told t (range_with_len 0 n)

module _ (byte : Option Trace → ℕ) where
  same_front : (front : List (Option Trace)) → AllByRecursion HasTrace front
      → (there block : List (Option Trace))
      → begin_with (map (tagged byte) (front ++ there)) (map (tagged byte) (front ++ block))
      ≡ begin_with (map (tagged byte) there) (map (tagged byte) block)
  same_front [] all there block = refl
  same_front (None ∷ front) all there block = absurd all.0
  same_front (Some t ∷ front) all there block =
      ap (λ (b : Bool). b
      && begin_with (map (tagged byte) (front ++ there)) (map (tagged byte) (front ++ block)))
      (tag_itself t) ∙ same_front front all.1 there block

  -- A piece that both begin with is passed.
  pub piece_passed : (t : Trace) (n : ℕ) (there block : List (Option Trace))
      → take n there ≡ piece_cells advanced_by (Some t) n
      → take n block ≡ piece_cells advanced_by (Some t) n
      → begin_with (map (tagged byte) there) (map (tagged byte) block)
      ≡ begin_with (map (tagged byte) (drop n there)) (map (tagged byte) (drop n block))
  piece_passed t n there block p q =
      let front = piece_cells advanced_by (Some t) n in
      let whole : there ≡ front ++ drop n there =
      sym (take-append-drop n there) ∙ ap (λ (f : List (Option Trace)). f ++ drop n there) p in
      let other : block ≡ front ++ drop n block =
      sym (take-append-drop n block) ∙ ap (λ (f : List (Option Trace)). f ++ drop n block) q in
      ap (λ (x : List (Option Trace)). begin_with (map (tagged byte) x)
      (map (tagged byte) block)) whole
      ∙ ap (λ (x : List (Option Trace)). begin_with (map (tagged byte) (front ++ drop n there))
      (map (tagged byte) x)) other
      ∙ same_front front (piece_told t n) (drop n there) (drop n block)

  -- Cells that are not alike at the front.
  pub first_apart : (own other : Option Trace) (there block : List (Option Trace))
      → AreAlike own other false
      → begin_with (map (tagged byte) (other ∷ there)) (map (tagged byte) (own ∷ block)) ≡ false
  first_apart None other there block apart = refl
  first_apart (Some t) None there block apart = refl
  first_apart (Some t) (Some u) there block apart = one (same_tag (tag_of t) (tag_of u)) refl
    where
      one : (b : Bool) → same_tag (tag_of t) (tag_of u) ≡ b
          → (b && begin_with (map (tagged byte) there) (map (tagged byte) block)) ≡ false
      one true e = absurd (apart t refl (ap (λ (x : Trace). Some x) (sym (tag_tells t u e))))
      one false e = refl

-- The first cell of a piece.
piece_first : (o : Option Trace) (n : ℕ) → 0 < n → get_or (piece_cells advanced_by o n) 0 None ≡ o
piece_first None n some = get_or-hole advanced_by n 0 some
piece_first (Some t) n some =
    get_or-run advanced_by t n 0 some ∙ ap (λ (u : Trace). Some u) (by_none t)

pub first_is : (o : Option Trace) (n : ℕ) (cells : List (Option Trace)) → 0 < n
    → take n cells ≡ piece_cells advanced_by o n → (rest : List (Option Trace)) × (cells ≡ o ∷ rest)
first_is o zero cells some e = absurd (omega (arith, some))
first_is o (suc n) [] some e =
    absurd (let l = length-piece advanced_by o (suc n) in omega (arith, l, ap length e))
first_is o (suc n) (c ∷ cells) some e =
    let is : c ≡ o =
    ap (λ (xs : List (Option Trace)). get_or xs 0 None) e ∙ piece_first o (suc n) some in
    (cells, ap (λ (x : Option Trace). x ∷ cells) is)

-- ---- a look at contents

-- What is read of a range is what stands there.
pub range_front : (at len n : ℕ) (cells rest : List (Option Trace)) (o : Option Trace)
    → at + len ≤ length cells → cells_between at len cells ≡ piece_cells advanced_by o n ++ rest
    → (n ≤ len) × (take n (drop at cells) ≡ piece_cells advanced_by o n)
unfolding cells_between
range_front at len n cells rest o within e =
    let long : length (take len (drop at cells)) ≡ len = let l =
    length-take len (drop at cells) in let m = length-drop at cells in
    omega (arith, l, m, within) in
    let piece = length-piece advanced_by o n in
    let both : length (piece_cells advanced_by o n ++ rest)
    ≡ length (piece_cells advanced_by o n) + length rest =
    length-append (piece_cells advanced_by o n) rest in
    let few : n ≤ len = omega (arith, long, ap length e, piece, both) in
    (few, sym (take-take n len (drop at cells) few) ∙ ap (take n) e ∙ front n piece)
  where
    front : (k : ℕ) → length (piece_cells advanced_by o n) ≡ k
        → take k (piece_cells advanced_by o n ++ rest) ≡ piece_cells advanced_by o n
    front k l = ap (λ (j : ℕ). take j (piece_cells advanced_by o n ++ rest)) (sym l)
        ∙ take-append_seam (piece_cells advanced_by o n) rest

-- Some of it is the front of the piece.
pub part_front : (at n m : ℕ) (cells : List (Option Trace)) (t : Trace) → m ≤ n
    → take n (drop at cells) ≡ piece_cells advanced_by (Some t) n
    → take m (drop at cells) ≡ piece_cells advanced_by (Some t) m
part_front at n m cells t few e =
    sym (take-take m n (drop at cells) few) ∙ ap (take m) e
    ∙ piece_front advanced_by (Some t) n m few

-- The same of a range that is at least as long, and what is left of it.
pub range_part : (from len m : ℕ) (cells : List (Option Trace)) → m ≤ len
    → take m (cells_between from len cells) ≡ take m (drop from cells)
unfolding cells_between
range_part from len m cells few = take-take m len (drop from cells) few

pub range_left : (from len m : ℕ) (cells : List (Option Trace)) → m ≤ len
    → drop m (cells_between from len cells) ≡ cells_between (from + m) (len - m) cells
unfolding cells_between
range_left from len m cells few =
    ap (λ (n : ℕ). drop m (take n (drop from cells))) (whole few)
    ∙ drop-take m (len - m) (drop from cells) ∙ ap (take (len - m)) (drop-drop m from cells)
  where
    whole : m ≤ len → len ≡ m + (len - m)
    whole h = omega (arith, h)

-- With no cell left of the block, nothing is left to compare.
pub block_done : (byte : Option Trace → ℕ) (there contents : List (Option Trace)) (at from left : ℕ)
    → left ≡ 0
    → begin_with (map (tagged byte) (drop at there))
    (map (tagged byte) (cells_between from left contents)) ≡ true
unfolding cells_between
block_done byte there contents at from left e =
    ap (λ (n : ℕ). begin_with (map (tagged byte) (drop at there))
    (map (tagged byte) (take n (drop from contents)))) e
