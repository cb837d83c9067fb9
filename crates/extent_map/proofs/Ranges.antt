-- Parts of two lists that stand one after the other, and of runs.
use Rattle.std.proofs.Common.{◌≡◌, ℕ, ◌+◌, ◌-◌, ◌≤◌, Option, Some, None, List, [], ◌++◌, length, take, drop, refl, sym, ap, ap₂, ◌∙◌, arith, append_assoc}
use Rattle.std.proofs.Math.Seq.{take-append-add, drop-append-add, take-add}
use Rattle.std.proofs.lemmas.List.{take-append-le, drop-append-le, length-drop, drop-drop, take-append-drop, take-replicate, drop-replicate, replicate-append-replicate, ext_get_or, get_or-drop}
use Rattle.std.proofs.lemmas.List.FromFn.{take-map-range_with_len}
use Rattle.extent_map.specs.Cells.{cells_between}
use Rattle.extent_map.specs.Pieces.{run_cells, zero_cells, piece_cells, RunsOn, AreOne}
use Rattle.extent_map.proofs.CellLists.{length-between}
use Rattle.extent_map.proofs.Layouts.{length-run_cells, get_or-run_cells}

module _ {C : Type 0} (left right : List C) where
  -- the front of two lists that reaches into the second, and what is behind a front of the second
  pub front_right : (n : ℕ) → length left ≤ n → take n (left ++ right) ≡ left ++ take (n - length left) right
  front_right n h =
      let e : n ≡ length left + (n - length left) = omega (arith, h) in
      ap (λ (m : ℕ). take m (left ++ right)) e ∙ take-append-add left right (n - length left)

  pub behind_right : (n : ℕ) → length left ≤ n → drop n (left ++ right) ≡ drop (n - length left) right
  behind_right n h =
      let e : n ≡ length left + (n - length left) = omega (arith, h) in
      ap (λ (m : ℕ). drop m (left ++ right)) e ∙ drop-append-add left right (n - length left)

  -- a range of one of two lists is one of both
  pub between_left : (from n : ℕ) → from + n ≤ length left → cells_between from n (left ++ right) ≡ cells_between from n left
  unfolding cells_between
  between_left from n h =
      ap (take n) (drop-append-le from left right (omega (arith, h)))
      ∙ take-append-le n (drop from left) right (omega (arith, h, length-drop from left))

  pub between_right : (from n : ℕ) → cells_between (length left + from) n (left ++ right) ≡ cells_between from n right
  unfolding cells_between
  between_right from n = ap (take n) (drop-append-add left right from)

-- no cells, and a range in two parts
pub between_none : {C : Type 0} (from : ℕ) (cells : List C) → cells_between from 0 cells ≡ []
unfolding cells_between
between_none from cells = refl

pub between_split : {C : Type 0} (from a b : ℕ) (cells : List C) → cells_between from (a + b) cells ≡ cells_between from a cells ++ cells_between (from + a) b cells
unfolding cells_between
between_split from a b cells = take-add a b (drop from cells) ∙ ap (λ l. take a (drop from cells) ++ take b l) (drop-drop a from cells)

-- a range within another one
pub between_within : {C : Type 0} (cells piece : List C) (start n at m : ℕ) → start + n ≤ length cells → start ≤ at → at + m ≤ start + n → cells_between start n cells ≡ piece → cells_between at m cells ≡ take m (drop (at - start) piece)
unfolding cells_between
between_within cells piece start n at m all from to is =
    let j : start + (at - start) ≡ at = omega (arith, from) in
    let l : length piece ≡ n = sym (ap length is) ∙ length-between start n cells all in
    let whole : drop start cells ≡ piece ++ drop n (drop start cells) = sym (take-append-drop n (drop start cells)) ∙ ap (λ l. l ++ drop n (drop start cells)) is in
    ap (λ (k : ℕ). take m (drop k cells)) (sym j)
    ∙ ap (take m) (sym (drop-drop (at - start) start cells) ∙ ap (drop (at - start)) whole ∙ drop-append-le (at - start) piece (drop n (drop start cells)) (omega (arith, l, from, to)))
    ∙ take-append-le m (drop (at - start) piece) (drop n (drop start cells)) (omega (arith, l, from, to, length-drop (at - start) piece))

-- the end of a list, and its front
pub back_is : {C : Type 0} (cells piece : List C) (start n : ℕ) → start + n ≡ length cells → cells_between start n cells ≡ piece → cells ≡ take start cells ++ piece
unfolding cells_between
back_is cells piece start n all is =
    sym (take-append-drop start cells)
    ∙ ap (λ l. take start cells ++ l) (sym (Rattle.std.proofs.lemmas.List.take_all n (drop start cells) (omega (arith, all, length-drop start cells))) ∙ is)

pub front_is : {C : Type 0} (cells piece : List C) (n : ℕ) → cells_between 0 n cells ≡ piece → cells ≡ piece ++ drop n cells
unfolding cells_between
front_is cells piece n is = sym (take-append-drop n cells) ∙ ap (λ l. l ++ drop n cells) is

-- two lists whose end and front become one piece
pub appended : {C : Type 0} (left right p q pq low high : List C) (start n m : ℕ) → start + n ≡ length left → cells_between start n left ≡ p → cells_between 0 m right ≡ q
    → low ≡ take start left → high ≡ drop m right → pq ≡ p ++ q → (low ++ pq) ++ high ≡ left ++ right
appended left right p q pq low high start n m all p_is q_is low_is high_is both =
    let front : low ++ pq ≡ left ++ q =
    ap₂ (λ (x y : List _). x ++ y) low_is both
    ∙ sym (append_assoc (take start left) p q)
    ∙ ap (λ (l : List _). l ++ q) (sym (back_is left p start n all p_is)) in
    ap₂ (λ (x y : List _). x ++ y) front high_is
    ∙ append_assoc left q (drop m right)
    ∙ ap (λ (l : List _). left ++ l) (sym (front_is right q m q_is))

module _ {O : Type 0} (advanced : O → ℕ → O) where
  pub run_front : (origin : O) (len n : ℕ) → n ≤ len → take n (run_cells advanced origin len) ≡ run_cells advanced origin n
  unfolding run_cells
  run_front origin len n h = take-map-range_with_len (λ k. Some (advanced origin k)) 0 len n h

  pub zeros_front : (len n : ℕ) → n ≤ len → take n (zero_cells {O = O} len) ≡ zero_cells n
  unfolding zero_cells
  zeros_front len n h = take-replicate n len None h

  pub zeros_behind : (len n : ℕ) → drop n (zero_cells {O = O} len) ≡ zero_cells (len - n)
  unfolding zero_cells
  zeros_behind len n = drop-replicate n len None

  module _ (reach : O → ℕ) (twice : (o : O) (j k : ℕ) → j + k ≤ reach o → advanced (advanced o j) k ≡ advanced o (j + k)) where
    pub run_behind : (origin : O) (len n : ℕ) → n ≤ len → len ≤ reach origin → drop n (run_cells advanced origin len) ≡ run_cells advanced (advanced origin n) (len - n)
    run_behind origin len n h reaches =
        let a = length-run_cells advanced origin len in
        let b = length-run_cells advanced (advanced origin n) (len - n) in
        let c = length-drop n (run_cells advanced origin len) in
        ext_get_or None _ _ (omega (arith, a, b, c)) (λ i lt.
        get_or-drop n (run_cells advanced origin len) i None
        ∙ get_or-run_cells advanced origin len (n + i) (omega (arith, a, c, lt))
        ∙ ap (λ (o : O). Some o) (sym (twice origin n i (omega (arith, a, c, lt, reaches))))
        ∙ sym (get_or-run_cells advanced (advanced origin n) (len - n) i (omega (arith, a, c, lt))))

    pub one_run : (origin : O) (len : ℕ) (next : O) (more : ℕ) → RunsOn advanced reach origin len next more → run_cells advanced origin len ++ run_cells advanced next more ≡ run_cells advanced origin (len + more)
    one_run origin len next more h =
        let f : take len (run_cells advanced origin (len + more)) ≡ run_cells advanced origin len = run_front origin (len + more) len (omega arith) in
        let e : len + more - len ≡ more = omega arith in
        let b : drop len (run_cells advanced origin (len + more)) ≡ run_cells advanced next more =
        run_behind origin (len + more) len (omega arith) h.reaches
        ∙ ap₂ (λ (o : O) (n : ℕ). run_cells advanced o n) (sym h.follows) e in
        ap₂ (λ (l m : List (Option O)). l ++ m) (sym f) (sym b)
        ∙ take-append-drop len (run_cells advanced origin (len + more))

    -- two pieces that are one
    pub one_piece : (origin : Option O) (len : ℕ) (next : Option O) (more : ℕ) → AreOne advanced reach origin len next more → piece_cells advanced origin len ++ piece_cells advanced next more ≡ piece_cells advanced origin (len + more)
    unfolding piece_cells zero_cells
    one_piece None len None more h = replicate-append-replicate len more None
    one_piece (Some origin) len (Some next) more h = one_run origin len next more h
    one_piece None len (Some next) more h = absurd h
    one_piece (Some origin) len None more h = absurd h

    pub one_reaches : (origin : Option O) (len : ℕ) (next : Option O) (more : ℕ) → AreOne advanced reach origin len next more → Rattle.std.specs.Prelude.IfSome origin (λ o. len + more ≤ reach o)
    one_reaches None len None more h = tt
    one_reaches (Some origin) len (Some next) more h = h.reaches
    one_reaches None len (Some next) more h = absurd h
    one_reaches (Some origin) len None more h = absurd h

    -- the piece from a place in it on
    pub piece_behind : (origin : O) (len n : ℕ) → n ≤ len → len ≤ reach origin → drop n (piece_cells advanced (Some origin) len) ≡ piece_cells advanced (Some (advanced origin n)) (len - n)
    unfolding piece_cells
    piece_behind origin len n h reaches = run_behind origin len n h reaches

  -- the front of a piece
  pub piece_front : (origin : Option O) (len n : ℕ) → n ≤ len → take n (piece_cells advanced origin len) ≡ piece_cells advanced origin n
  unfolding piece_cells
  piece_front None len n h = zeros_front len n h
  piece_front (Some origin) len n h = run_front origin len n h

  pub hole_behind : (len n : ℕ) → drop n (piece_cells advanced None len) ≡ piece_cells advanced None (len - n)
  unfolding piece_cells
  hole_behind len n = zeros_behind len n
