-- Cells that are gone through piece by piece, of any origin, and a buffer that is filled with what
-- they stand for.
use Rattle.std.specs.Prelude.{◌≡◌, ℕ, zero, suc, ◌+◌, ◌-◌, ◌<◌, ◌≤◌, List, [], ◌∷◌, ◌++◌, map, length, take, drop, Option, Some, None}
use Rattle.std.specs.List.{range_with_len}
use Rattle.std.proofs.Common.{refl, sym, ap, ap₂, subst, ◌∙◌, arith, length-append}
use Rattle.std.proofs.Math.Seq.{take-add, drop-append_seam}
use Rattle.std.proofs.lemmas.List.{length-map, length-take, length-drop, map-append, drop-drop, take_at, take_all}
use Rattle.std.proofs.lemmas.Slice.{take-put_mid}
use borrow.Rule.Slice.PartMut.{put_mid}
use lib.ListN.{replicate}
use Rattle.extent_map.specs.Cells.{cells_between}
use Rattle.extent_map.specs.Pieces.{run_cells, zero_cells, piece_cells}
use Rattle.extent_map.proofs.CellLists.{length-between}
use Rattle.extent_map.proofs.Layouts.{length-piece}

map_twice : {A B C : Type 0} (f : B → C) (g : A → B) (xs : List A) → map f (map g xs) ≡ map (λ x. f (g x)) xs
map_twice f g [] = refl
map_twice f g (x ∷ xs) = ap (λ l. f (g x) ∷ l) (map_twice f g xs)

-- The front of a buffer has the bytes of the front of the cells.
abbrev pub FilledTo : {C : Type 0} → (C → ℕ) → List C → ℕ → List ℕ → Type 0
FilledTo byte whole have buf = take have buf ≡ map byte (take have whole)

-- Nothing is left after all cells.
pub all_had : {C : Type 0} (whole : List C) (have : ℕ) → drop have whole ≡ [] → length whole ≤ have
all_had whole have none = omega (arith, length-drop have whole, ap length none)

-- All cells are in front.
pub filled_all : {C : Type 0} (byte : C → ℕ) (whole : List C) (have : ℕ) (buf : List ℕ) → drop have whole ≡ [] → length buf ≡ length whole → FilledTo byte whole have buf → buf ≡ map byte whole
filled_all byte whole have buf none long filled =
    let all : length whole ≤ have = all_had whole have none in
    sym (take_all have buf (omega (arith, all, long))) ∙ filled ∙ ap (map byte) (take_all have whole all)

-- The length of the room for a piece.
pub mid_length : (have n : ℕ) (buf : List ℕ) → have + n ≤ length buf → length (take (have + n - have) (drop have buf)) ≡ n
mid_length have n buf fits = let l = length-take (have + n - have) (drop have buf) in let d = length-drop have buf in omega (arith, l, d, fits)

module _ {O : Type 0} (advanced : O → ℕ → O) where
  module _ (byte : Option O → ℕ) where
    -- The bytes of a run.
    pub run_bytes : (origin : O) (len : ℕ) → map byte (piece_cells advanced (Some origin) len) ≡ map (λ k. byte (Some (advanced origin k))) (range_with_len 0 len)
    unfolding piece_cells run_cells
    run_bytes origin len = map_twice byte (λ k. Some (advanced origin k)) (range_with_len 0 len)

    hole_cells : byte None ≡ 0 → (len : ℕ) → map byte (replicate len None) ≡ replicate len 0
    hole_cells zeros zero = refl
    hole_cells zeros (suc n) = ap₂ (λ (b : ℕ) (l : List ℕ). b ∷ l) zeros (hole_cells zeros n)

    -- The bytes of a hole.
    pub hole_bytes : byte None ≡ 0 → (len : ℕ) → map byte (piece_cells advanced None len) ≡ replicate len 0
    unfolding piece_cells zero_cells
    hole_bytes zeros len = hole_cells zeros len

  module _ (whole : List (Option O)) (have n : ℕ) (origin : Option O) (rest : List (Option O)) (is : drop have whole ≡ piece_cells advanced origin n ++ rest) where
    -- A piece is within the cells.
    pub reaches : 0 < n → have + n ≤ length whole
    reaches some =
        let d = length-drop have whole in
        let l = ap length is in
        omega (arith, some, d, l, length-append (piece_cells advanced origin n) rest, length-piece advanced origin n)

    -- What is left after a piece.
    pub left_after : drop (have + n) whole ≡ rest
    left_after = sym (drop-drop n have whole) ∙ ap (drop n) is ∙ ap (λ (k : ℕ). drop k (piece_cells advanced origin n ++ rest)) (sym (length-piece advanced origin n)) ∙ drop-append_seam (piece_cells advanced origin n) rest

    -- A piece more in front.
    pub filled_more : (byte : Option O → ℕ) (old new : List ℕ) (k size : ℕ) → k ≡ n → size ≡ n → have ≤ length old → FilledTo byte whole have old → new ≡ map byte (piece_cells advanced origin size) → FilledTo byte whole (have + n) (put_mid have k old new)
    filled_more byte old new k size k_is size_is within so_far filled =
        let cells : List (Option O) = piece_cells advanced origin n in
        let here : new ≡ map byte cells = filled ∙ ap (λ (m : ℕ). map byte (piece_cells advanced origin m)) size_is in
        let long : length new ≡ n = ap length here ∙ length-map cells byte ∙ length-piece advanced origin n in
        let next : take (have + n) whole ≡ take have whole ++ cells =
        take-add have n whole ∙ ap (λ (l : List (Option O)). take have whole ++ l) (ap (take n) is ∙ take_at cells rest n (length-piece advanced origin n)) in
        subst (λ (m : ℕ). FilledTo byte whole (have + n) (put_mid have m old new)) (sym k_is)
        (take-put_mid have n old new (have + n) (omega (arith, long)) within
        ∙ ap₂ (λ (a b : List ℕ). a ++ b) so_far here
        ∙ sym (map-append byte (take have whole) cells)
        ∙ ap (map byte) (sym next))

  -- The next piece of a part of some contents is within the part.
  pub next_within : (contents : List (Option O)) (from len have n : ℕ) (origin : Option O) (rest : List (Option O)) → from + len ≤ length contents
      → drop have (cells_between from len contents) ≡ piece_cells advanced origin n ++ rest → 0 < n → have + n ≤ len
  next_within contents from len have n origin rest within is some =
      let r = reaches (cells_between from len contents) have n origin rest is some in
      let l = length-between from len contents within in
      omega (arith, r, l)
