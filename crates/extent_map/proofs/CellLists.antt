-- The cells of a list that was resized or written over, one by one. Past the end of a list its
-- cells read as empty.
use Rattle.std.proofs.Common.{◌≡◌, ℕ, ◌+◌, ◌-◌, ◌<◌, ◌≤◌, ◌⊎◌, inl, inr, List, [], ◌∷◌, ◌++◌, length, take, drop, get_or, refl, sym, ◌∙◌, ap, arith, add-zero, zero-add, length-append, length-drop}
use lib.ListN.{replicate}
use Rattle.std.proofs.Math.Logic.{⊎_elim}
use Rattle.std.proofs.lemmas.Bool.{cases_lt}
use Rattle.std.proofs.lemmas.List.{append-nil, take_all, length-take, length-replicate, get_or-replicate, get_or_append_left, get_or-take, get_or-drop, get_or-append_right, get_or_past, ext_get_or, drop_all}
use Rattle.extent_map.specs.Cells.{resize_cells, put_cells, cells_between}

module _ {C : Type 0} (empty : C) where
  get_or-empties : (n i : ℕ) → get_or (replicate n empty) i empty ≡ empty
  get_or-empties n i = ⊎_elim (λ lt. get_or-replicate n i empty empty lt) (λ le. get_or_past (replicate n empty) i empty (omega (arith, length-replicate n empty))) (cases_lt i n)

  pub length-resize : (size : ℕ) (cells : List C) → length (resize_cells empty size cells) ≡ size
  unfolding resize_cells
  length-resize size cells = omega (arith, length-append (take size cells) (replicate (size - length cells) empty), length-take size cells, length-replicate (size - length cells) empty)

  pub get_or-resize_below : (size : ℕ) (cells : List C) (i : ℕ) → i < size → get_or (resize_cells empty size cells) i empty ≡ get_or cells i empty
  unfolding resize_cells
  get_or-resize_below size cells i h =
      ⊎_elim
      (λ lt. get_or_append_left (take size cells) (replicate (size - length cells) empty) empty i (omega (arith, length-take size cells)) ∙ get_or-take size cells i empty h)
      (λ le.
      get_or-append_right (take size cells) (replicate (size - length cells) empty) (length cells) i empty (omega (arith, length-take size cells)) le
      ∙ get_or-empties (size - length cells) (i - length cells)
      ∙ sym (get_or_past cells i empty le))
      (cases_lt i (length cells))

  -- no new cells change nothing
  pub put_none : (at : ℕ) (cells : List C) → put_cells empty at [] cells ≡ cells
  unfolding put_cells
  put_none at cells = refl

  -- some new cells
  pub put_some : (at : ℕ) (new cells : List C) → 0 < length new → put_cells empty at new cells ≡ resize_cells empty at cells ++ new ++ drop (at + length new) cells
  unfolding put_cells
  put_some at [] cells h = absurd (omega arith)
  put_some at (c ∷ cs) cells h = refl

  pub resized_shorter : (size : ℕ) (cells : List C) → size ≤ length cells → resize_cells empty size cells ≡ take size cells
  unfolding resize_cells
  resized_shorter size cells h =
      let e : size - length cells ≡ 0 = omega (arith, h) in
      ap (λ (n : ℕ). take size cells ++ replicate n empty) e ∙ append-nil (take size cells)

  pub resized_longer : (size : ℕ) (cells : List C) → length cells ≤ size → resize_cells empty size cells ≡ cells ++ replicate (size - length cells) empty
  unfolding resize_cells
  resized_longer size cells h = ap (λ (l : List C). l ++ replicate (size - length cells) empty) (take_all size cells h)

  pub put_to_end : (at : ℕ) (new cells : List C) → 0 < length new → length cells ≤ at + length new → put_cells empty at new cells ≡ resize_cells empty at cells ++ new
  put_to_end at new cells some h =
      put_some at new cells some
      ∙ ap (λ (l : List C). resize_cells empty at cells ++ new ++ l) (drop_all (at + length new) cells h)
      ∙ append-nil (resize_cells empty at cells ++ new)

  pub length-put : (at : ℕ) (new cells : List C) → 0 < length new → length (put_cells empty at new cells) ≡ at + length new + (length cells - (at + length new))
  length-put at new cells h =
      ap length (put_some at new cells h)
      ∙ omega (arith, length-append (resize_cells empty at cells ++ new) (drop (at + length new) cells), length-append (resize_cells empty at cells) new, length-resize at cells, length-drop (at + length new) cells)

  front_length : (at : ℕ) (new cells : List C) → length (resize_cells empty at cells ++ new) ≡ at + length new
  front_length at new cells = omega (arith, length-append (resize_cells empty at cells) new, length-resize at cells)

  some_below : (at : ℕ) (new cells : List C) (i : ℕ) → i < at → 0 < length new → get_or (put_cells empty at new cells) i empty ≡ get_or cells i empty
  some_below at new cells i h some =
      ap (λ (l : List C). get_or l i empty) (put_some at new cells some)
      ∙ get_or_append_left (resize_cells empty at cells ++ new) (drop (at + length new) cells) empty i (omega (arith, front_length at new cells))
      ∙ get_or_append_left (resize_cells empty at cells) new empty i (omega (arith, length-resize at cells))
      ∙ get_or-resize_below at cells i h

  some_past : (at : ℕ) (new cells : List C) (i : ℕ) → at + length new ≤ i → 0 < length new → get_or (put_cells empty at new cells) i empty ≡ get_or cells i empty
  some_past at new cells i h some =
      ap (λ (l : List C). get_or l i empty) (put_some at new cells some)
      ∙ get_or-append_right (resize_cells empty at cells ++ new) (drop (at + length new) cells) (at + length new) i empty (front_length at new cells) h
      ∙ get_or-drop (at + length new) cells (i - (at + length new)) empty
      ∙ ap (λ (n : ℕ). get_or cells n empty) (let e : at + length new + (i - (at + length new)) ≡ i = omega arith in e)

  pub get_or-put_outside : (at : ℕ) (new cells : List C) (i : ℕ) → (i < at) ⊎ (at + length new ≤ i) → get_or (put_cells empty at new cells) i empty ≡ get_or cells i empty
  get_or-put_outside at [] cells i out = ap (λ (l : List C). get_or l i empty) (put_none at cells)
  get_or-put_outside at (c ∷ cs) cells i out = ⊎_elim (λ lt. some_below at (c ∷ cs) cells i lt (omega arith)) (λ le. some_past at (c ∷ cs) cells i le (omega arith)) out

  pub get_or-put_inside : (at : ℕ) (new cells : List C) (k : ℕ) → k < length new → get_or (put_cells empty at new cells) (at + k) empty ≡ get_or new k empty
  get_or-put_inside at new cells k h =
      ap (λ (l : List C). get_or l (at + k) empty) (put_some at new cells (omega arith))
      ∙ get_or_append_left (resize_cells empty at cells ++ new) (drop (at + length new) cells) empty (at + k) (omega (arith, front_length at new cells))
      ∙ get_or-append_right (resize_cells empty at cells) new at (at + k) empty (length-resize at cells) (omega arith)
      ∙ ap (λ (n : ℕ). get_or new n empty) (let e : at + k - at ≡ k = omega arith in e)

  put_put_some : (at : ℕ) (xs ys cells : List C) → 0 < length xs → 0 < length ys → put_cells empty (at + length xs) ys (put_cells empty at xs cells) ≡ put_cells empty at (xs ++ ys) cells
  put_put_some at xs ys cells p q =
      let l = length-append xs ys in
      let m = length-put (at + length xs) ys (put_cells empty at xs cells) q in
      let n = length-put at xs cells p in
      let o = length-put at (xs ++ ys) cells (omega arith) in
      ext_get_or empty _ _ (omega arith) (λ i h.
      ⊎_elim
      (λ lt. get_or-put_outside (at + length xs) ys (put_cells empty at xs cells) i (inl (omega arith)) ∙ get_or-put_outside at xs cells i (inl lt) ∙ sym (get_or-put_outside at (xs ++ ys) cells i (inl lt)))
      (λ le.
      let e : at + (i - at) ≡ i = omega arith in
      ⊎_elim
      (λ lt.
      get_or-put_outside (at + length xs) ys (put_cells empty at xs cells) i (inl lt)
      ∙ ap (λ (n : ℕ). get_or (put_cells empty at xs cells) n empty) (sym e)
      ∙ get_or-put_inside at xs cells (i - at) (omega arith)
      ∙ sym (get_or_append_left xs ys empty (i - at) (omega arith))
      ∙ sym (get_or-put_inside at (xs ++ ys) cells (i - at) (omega arith))
      ∙ ap (λ (n : ℕ). get_or (put_cells empty at (xs ++ ys) cells) n empty) e)
      (λ le'. ⊎_elim
      (λ lt'.
      let f : at + length xs + (i - (at + length xs)) ≡ i = omega arith in
      let f' : i - at - length xs ≡ i - (at + length xs) = omega arith in
      ap (λ (n : ℕ). get_or (put_cells empty (at + length xs) ys (put_cells empty at xs cells)) n empty) (sym f)
      ∙ get_or-put_inside (at + length xs) ys (put_cells empty at xs cells) (i - (at + length xs)) (omega arith)
      ∙ ap (λ (n : ℕ). get_or ys n empty) (sym f')
      ∙ sym (get_or-append_right xs ys (length xs) (i - at) empty refl (omega arith))
      ∙ sym (get_or-put_inside at (xs ++ ys) cells (i - at) (omega arith))
      ∙ ap (λ (n : ℕ). get_or (put_cells empty at (xs ++ ys) cells) n empty) e)
      (λ le''. get_or-put_outside (at + length xs) ys (put_cells empty at xs cells) i (inr le'') ∙ get_or-put_outside at xs cells i (inr (omega arith)) ∙ sym (get_or-put_outside at (xs ++ ys) cells i (inr (omega arith))))
      (cases_lt i (at + length xs + length ys)))
      (cases_lt i (at + length xs)))
      (cases_lt i at))

  -- cells written one after the other are written at once
  pub put_put : (at : ℕ) (xs ys cells : List C) → put_cells empty (at + length xs) ys (put_cells empty at xs cells) ≡ put_cells empty at (xs ++ ys) cells
  put_put at [] ys cells = ap (λ (n : ℕ). put_cells empty n ys (put_cells empty at [] cells)) (add-zero at) ∙ ap (λ (l : List C). put_cells empty at ys l) (put_none at cells)
  put_put at (x ∷ xs) [] cells = put_none (at + length (x ∷ xs)) (put_cells empty at (x ∷ xs) cells) ∙ ap (λ (l : List C). put_cells empty at l cells) (sym (append-nil (x ∷ xs)))
  put_put at (x ∷ xs) (y ∷ ys) cells = put_put_some at (x ∷ xs) (y ∷ ys) cells (omega arith) (omega arith)

  -- what is put at the start of nothing is all
  pub put_first : (new : List C) → put_cells empty 0 new [] ≡ new
  put_first [] = put_none 0 []
  put_first (c ∷ cs) =
      let l = length-put 0 (c ∷ cs) [] (omega arith) in
      ext_get_or empty _ _ (omega arith) (λ i h. ap (λ (n : ℕ). get_or (put_cells empty 0 (c ∷ cs) []) n empty) (sym (zero-add i)) ∙ get_or-put_inside 0 (c ∷ cs) [] i (omega arith))

pub length-between : {C : Type 0} (from len : ℕ) (cells : List C) → from + len ≤ length cells → length (cells_between from len cells) ≡ len
unfolding cells_between
length-between from len cells h = omega (arith, length-take len (drop from cells), length-drop from cells)

-- all the cells of a list
pub between_all : {C : Type 0} (len : ℕ) (cells : List C) → length cells ≡ len → cells_between 0 len cells ≡ cells
unfolding cells_between
between_all len cells e = take_all len cells (omega (arith, e))
