-- Cells as the edits have them, and as runs of cells make them.
use Rattle.std.proofs.Common.{◌≡◌, ℕ, ◌+◌, ◌-◌, ◌<◌, ◌≤◌, List, [], ◌∷◌, ◌++◌, length, take, drop, map, replicate, min, refl, sym, ap, ◌∙◌, arith}
use Rattle.std.proofs.Math.Logic.{⊎_elim}
use Rattle.std.proofs.Math.ListN.{drop_of_length-le}
use Rattle.std.proofs.lemmas.Bool.{cases_lt}
use Rattle.std.proofs.lemmas.List.{append-nil, take_all, take-append-le, length-append, length-take, length-drop, length-replicate}
use Rattle.std.proofs.lemmas.Simd.{splat_is_map}
use Rattle.extent_map.specs.Cells.{resize_cells, put_cells, cells_between}
use Rattle.extent_map.proofs.CellLists.{put_some, length-between, between_all}
use Rattle.send_model.specs.Edit.{filled, resized, overwritten, written_at, zeroed}

module _ {C : Type 0} (z : C) where
  cut_filled : (n : ℕ) (cells : List C) → take n (filled z n cells) ≡ take n cells ++ replicate (n - length cells) z
  cut_filled n cells = let rest : List C = replicate (n - length cells) z in ⊎_elim
      (λ (lt : n < length cells).
      let none : n - length cells ≡ 0 = omega arith in
      take-append-le n cells rest (omega arith) ∙ sym (ap (λ (k : ℕ). take n cells ++ replicate k z) none ∙ append-nil (take n cells)))
      (λ (le : length cells ≤ n).
      take_all n (filled z n cells) (omega (arith, length-append cells rest, length-replicate (n - length cells) z))
      ∙ ap (λ (l : List C). l ++ rest) (sym (take_all n cells le)))
      (cases_lt n (length cells))

  pub resized_is : (n : ℕ) (cells : List C) → resize_cells z n cells ≡ resized z n cells
  unfolding resize_cells resized
  resized_is n cells = sym (cut_filled n cells)

  pub overwritten_is : (at : ℕ) (new cells : List C) → 0 < length new → put_cells z at new cells ≡ overwritten z at new cells
  unfolding resize_cells overwritten
  overwritten_is at new cells some = put_some z at new cells some ∙ ap (λ (l : List C). l ++ new ++ drop (at + length new) cells) (sym (cut_filled at cells))

  pub written_is : (at : ℕ) (new cells : List C) → put_cells z at new cells ≡ written_at z at new cells
  unfolding put_cells written_at
  written_is at [] cells = refl
  written_is at (c ∷ new) cells = overwritten_is at (c ∷ new) cells (omega arith)

  pub lengthened : (n : ℕ) (cells : List C) → length cells < n → resize_cells z n cells ≡ filled z n cells
  unfolding resize_cells
  lengthened n cells h = ap (λ (l : List C). l ++ replicate (n - length cells) z) (take_all n cells (omega arith))

  pub zeroed_is : (at n len : ℕ) (cells : List C) → at < length cells → 0 < len → n ≡ min len (length cells - at) → put_cells z at (replicate n z) cells ≡ zeroed z at len cells
  unfolding resize_cells
  zeroed_is at n len cells inside some least =
      let none : at - length cells ≡ 0 = omega arith in
      let front : resize_cells z at cells ≡ take at cells = ap (λ (k : ℕ). take at cells ++ replicate k z) none ∙ append-nil (take at cells) in
      let count : length (take len (drop at cells)) ≡ n = omega (arith, length-take len (drop at cells), length-drop at cells) in
      let middle : replicate n z ≡ map (λ c. z) (take len (drop at cells)) = splat_is_map (take len (drop at cells)) n z count in
      let back : drop (at + length (replicate n z)) cells ≡ drop (at + len) cells = ⊎_elim
      (λ (lt : length cells < at + len). drop_of_length-le cells (omega (arith, length-replicate n z)) ∙ sym (drop_of_length-le cells (omega arith)))
      (λ (le : at + len ≤ length cells). ap (λ (k : ℕ). drop k cells) (omega (arith, length-replicate n z)))
      (cases_lt (length cells) (at + len)) in
      put_some z at (replicate n z) cells (omega (arith, length-replicate n z))
      ∙ ap (λ (l : List C). l ++ replicate n z ++ drop (at + length (replicate n z)) cells) front
      ∙ ap (λ (l : List C). take at cells ++ l ++ drop (at + length (replicate n z)) cells) middle
      ∙ ap (λ (l : List C). take at cells ++ map (λ c. z) (take len (drop at cells)) ++ l) back

  -- ---- parts that are cloned

  pub cloned_is : (at from len : ℕ) (source cells : List C) → 0 < len → from + len ≤ length source → put_cells z at (cells_between from len source) cells ≡ overwritten z at (take len (drop from source)) cells
  unfolding cells_between
  cloned_is at from len source cells some within =
      let count : length (take len (drop from source)) ≡ len = length-between from len source within in
      overwritten_is at (take len (drop from source)) cells (omega arith)

  pub part_cloned : (at from len : ℕ) (part source cells : List C) → 0 < len → from + len ≤ length source → part ≡ cells_between from len source
      → put_cells z at (cells_between 0 len part) cells ≡ overwritten z at (take len (drop from source)) cells
  part_cloned at from len part source cells some within is =
      let count : length part ≡ len = ap length is ∙ length-between from len source within in
      ap (λ (l : List C). put_cells z at l cells) (between_all len part count ∙ is) ∙ cloned_is at from len source cells some within
