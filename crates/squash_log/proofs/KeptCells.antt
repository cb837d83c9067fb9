-- Which places live in contents that were cut, zeroed, written or copied.
use Rattle.std.specs.Prelude.{◌≡◌, ℕ, ◌+◌, ◌-◌, ◌<◌, ◌≤◌, Bool, true, false, not, ◌&&◌, ◌||◌, [], ◌++◌, length, drop, get_or, min, Option, None, Some, nat_le, nat_lt, is_some, ◌⊎◌}
use Rattle.std.proofs.Common.{refl, sym, ap, ap₂, ◌∙◌, arith, inl, inr}
use Rattle.std.proofs.lemmas.Bool.{cases_lt}
use Rattle.std.proofs.lemmas.List.{get_or_past, get_or-take, get_or-drop, get_or_append_left, length-take}
use Rattle.extent_map.specs.Cells.{resize_cells, put_cells, cells_between}
use Rattle.extent_map.specs.Pieces.{run_cells, zero_cells, piece_cells}
use Rattle.extent_map.proofs.CellLists.{get_or-resize_below, length-resize, get_or-put_outside, get_or-put_inside, put_first}
use Rattle.extent_map.proofs.Layouts.{length-zero_cells, length-run_cells, get_or-run_cells, get_or-hole, get_or-run, piece_zeros, length-piece}
use Rattle.extent_map.specs.declared.nowhere.Nowhere.{Nowhere}
use Rattle.squash_model.specs.Liveness.{covers}
use Rattle.squash_model.proofs.LiveReads.{covered, uncovered, covers_true}
use Rattle.squash_log.specs.Cells.{Cells, cell_lives, IsBelow, IsOutside, IsBeside, IsWithRange, IsPartOf, IsWithPart}
use Rattle.squash_log.proofs.RangeTests.{lt_yes, lt_no, le_yes, le_no, covers_no, and_assoc, or_assoc}

-- A place behind the cells does not live.
pub past_dead : (cells : Cells) (p : ℕ) → length cells ≤ p → cell_lives cells p ≡ false
past_dead cells p h = ap (λ (o : Option Nowhere). is_some o) (get_or_past cells p None h)

-- ---- below a size

pub below_cut : (size : ℕ) (old : Cells) → IsBelow size old (resize_cells None size old)
below_cut size old p = elim (cases_lt p size) [
  | inl lt ↦ ap (λ (o : Option Nowhere). is_some o) (get_or-resize_below None size old p lt) ∙ sym (ap (λ (b : Bool). b && cell_lives old p) (lt_yes p size lt))
  | inr le ↦ past_dead (resize_cells None size old) p (omega (arith, le, length-resize None size old)) ∙ sym (ap (λ (b : Bool). b && cell_lives old p) (lt_no p size le))
]

pub below_all : (size : ℕ) (old : Cells) → length old ≤ size → IsBelow size old old
below_all size old h p = elim (cases_lt p size) [
  | inl lt ↦ sym (ap (λ (b : Bool). b && cell_lives old p) (lt_yes p size lt))
  | inr le ↦ past_dead old p (omega (arith, le, h)) ∙ sym (ap (λ (b : Bool). b && cell_lives old p) (lt_no p size le))
]

-- ---- outside a range

pub outside_none : (at len : ℕ) (old : Cells) → length old ≤ at → IsOutside at len old old
outside_none at len old h p = one (covers at len p) refl
  where
    one : (b : Bool) → covers at len p ≡ b → cell_lives old p ≡ (not (covers at len p) && cell_lives old p)
    one true e = let c = covered at len p e in let low = c.0 in past_dead old p (omega (arith, low, h)) ∙ sym (ap (λ (b : Bool). not b && cell_lives old p) e)
    one false e = sym (ap (λ (b : Bool). not b && cell_lives old p) e)

pub outside_zeros : (at len n : ℕ) (old : Cells) → n ≡ min len (length old - at) → at < length old
    → IsOutside at len old (put_cells None at (zero_cells n) old)
outside_zeros at len n old n_is some p = one (covers at len p) refl
  where
    new : Cells
    new = put_cells None at (zero_cells n) old

    long : length (zero_cells {O = Nowhere} n) ≡ n
    long = length-zero_cells Nowhere n

    hole : (k : ℕ) → k < n → get_or (zero_cells {O = Nowhere} n) k None ≡ None
    hole k h = ap (λ (c : Cells). get_or c k None) (piece_zeros {O = Nowhere} (λ o j. o) n) ∙ get_or-hole {O = Nowhere} (λ o j. o) n k h

    same : (p < at) ⊎ (at + n ≤ p) → cell_lives new p ≡ cell_lives old p
    same (inl h) = ap (λ (o : Option Nowhere). is_some o) (get_or-put_outside None at (zero_cells n) old p (inl h))
    same (inr h) = ap (λ (o : Option Nowhere). is_some o) (get_or-put_outside None at (zero_cells n) old p (inr (omega (arith, h, long))))

    dead : at ≤ p → p < at + len → cell_lives new p ≡ false
    dead low high = elim (cases_lt p (at + n)) [
      | inl within ↦
          let e : at + (p - at) ≡ p = omega (arith, low) in
          ap (λ (q : ℕ). cell_lives new q) (sym e)
          ∙ ap (λ (o : Option Nowhere). is_some o) (get_or-put_inside None at (zero_cells n) old (p - at) (omega (arith, low, within, long)) ∙ hole (p - at) (omega (arith, low, within)))
      | inr behind ↦ same (inr behind) ∙ past_dead old p (omega (arith, n_is, high, behind))
    ]

    one : (b : Bool) → covers at len p ≡ b → cell_lives new p ≡ (not (covers at len p) && cell_lives old p)
    one true e = let c = covered at len p e in dead c.0 c.1 ∙ sym (ap (λ (b : Bool). not b && cell_lives old p) e)
    one false e = out (uncovered at len p e) ∙ sym (ap (λ (b : Bool). not b && cell_lives old p) e)
      where
        out : (p < at) ⊎ (at + len ≤ p) → cell_lives new p ≡ cell_lives old p
        out (inl h) = same (inl h)
        out (inr h) = same (inr (omega (arith, n_is, h)))

pub beside_both : (at len size : ℕ) (old mid new : Cells) → IsOutside at len old mid → IsBelow size mid new → IsBeside at len size old new
beside_both at len size old mid new out below p =
    below p ∙ ap (λ (b : Bool). nat_lt p size && b) (out p) ∙ and_assoc (nat_lt p size) (not (covers at len p)) (cell_lives old p)

-- ---- with a range

run_lives : (advanced : Nowhere → ℕ → Nowhere) (o : Nowhere) (n k : ℕ) → k < n → is_some (get_or (run_cells advanced o n) k None) ≡ true
run_lives advanced o n k h = ap (λ (c : Option Nowhere). is_some c) (get_or-run_cells advanced o n k h)

pub with_run : (advanced : Nowhere → ℕ → Nowhere) (o : Nowhere) (at n : ℕ) (old : Cells) → IsWithRange at n old (put_cells None at (run_cells advanced o n) old)
with_run advanced o at n old p = one (covers at n p) refl
  where
    new : Cells
    new = put_cells None at (run_cells advanced o n) old

    long : length (run_cells advanced o n) ≡ n
    long = length-run_cells advanced o n

    one : (b : Bool) → covers at n p ≡ b → cell_lives new p ≡ (covers at n p || cell_lives old p)
    one true e =
        let c = covered at n p e in
        let low = c.0 in
        let high = c.1 in
        let is : at + (p - at) ≡ p = omega (arith, low) in
        ap (λ (q : ℕ). cell_lives new q) (sym is)
        ∙ ap (λ (o : Option Nowhere). is_some o) (get_or-put_inside None at (run_cells advanced o n) old (p - at) (omega (arith, low, high, long)))
        ∙ run_lives advanced o n (p - at) (omega (arith, low, high))
        ∙ sym (ap (λ (b : Bool). b || cell_lives old p) e)
    one false e = out (uncovered at n p e) ∙ sym (ap (λ (b : Bool). b || cell_lives old p) e)
      where
        out : (p < at) ⊎ (at + n ≤ p) → cell_lives new p ≡ cell_lives old p
        out (inl h) = ap (λ (c : Option Nowhere). is_some c) (get_or-put_outside None at (run_cells advanced o n) old p (inl h))
        out (inr h) = ap (λ (c : Option Nowhere). is_some c) (get_or-put_outside None at (run_cells advanced o n) old p (inr (omega (arith, h, long))))

-- A run from the start of nothing.
pub run_from_start : (advanced : Nowhere → ℕ → Nowhere) (o : Nowhere) (n p : ℕ) → cell_lives (put_cells None 0 (run_cells advanced o n) []) p ≡ nat_lt p n
run_from_start advanced o n p = with_run advanced o 0 n [] p ∙ ap (λ (b : Bool). covers 0 n p || b) (past_dead [] p (omega arith)) ∙ plain (nat_lt p n)
    ∙ ap (λ (m : ℕ). nat_lt p m) (let e : 0 + n ≡ n = omega arith in e)
  where
    first : covers 0 n p ≡ nat_lt p (0 + n)
    first = ap (λ (b : Bool). b && nat_lt p (0 + n)) (le_yes 0 p (omega arith))

    or_false : (b : Bool) → (b || false) ≡ b
    or_false true = refl
    or_false false = refl

    plain : (b : Bool) → (covers 0 n p || false) ≡ nat_lt p (0 + n)
    plain b = or_false (covers 0 n p) ∙ first

-- ---- parts

pub part_none : (at len : ℕ) (cells : Cells) → length cells ≤ at → IsPartOf at len cells []
part_none at len cells h k = past_dead [] k (omega arith) ∙ sym (ap (λ (b : Bool). nat_lt k len && b) (past_dead cells (at + k) (omega (arith, h))) ∙ none (nat_lt k len))
  where
    none : (b : Bool) → (b && false) ≡ false
    none true = refl
    none false = refl

pub between_read : (at n k : ℕ) (cells : Cells) → k < n → get_or (cells_between at n cells) k None ≡ get_or cells (at + k) None
unfolding cells_between
between_read at n k cells h = get_or-take n (drop at cells) k None h ∙ get_or-drop at cells k None

between_length : (at n : ℕ) (cells : Cells) → length (cells_between at n cells) ≤ n
unfolding cells_between
between_length at n cells = omega (arith, length-take n (drop at cells))

pub part_copied : (at len n : ℕ) (cells : Cells) → n ≡ min len (length cells - at) → IsPartOf at len cells (put_cells None 0 (cells_between at n cells) [])
part_copied at len n cells n_is k = ap (λ (c : Cells). cell_lives c k) (put_first None (cells_between at n cells)) ∙ elim (cases_lt k n) [
  | inl lt ↦ ap (λ (o : Option Nowhere). is_some o) (between_read at n k cells lt) ∙ sym (ap (λ (b : Bool). b && cell_lives cells (at + k)) (lt_yes k len (omega (arith, lt, n_is))))
  | inr le ↦ past_dead (cells_between at n cells) k (omega (arith, le, between_length at n cells)) ∙ sym (dead le)
]
  where
    none : (b : Bool) → (b && false) ≡ false
    none true = refl
    none false = refl

    dead : n ≤ k → (nat_lt k len && cell_lives cells (at + k)) ≡ false
    dead le = elim (cases_lt k len) [
      | inl within ↦ ap (λ (b : Bool). nat_lt k len && b) (past_dead cells (at + k) (omega (arith, le, within, n_is))) ∙ none (nat_lt k len)
      | inr behind ↦ ap (λ (b : Bool). b && cell_lives cells (at + k)) (lt_no k len behind)
    ]

pub part_long : (at n : ℕ) (cells : Cells) → length (put_cells None 0 (cells_between at n cells) []) ≤ n
part_long at n cells = let e = ap length (put_first None (cells_between at n cells)) in omega (arith, e, between_length at n cells)

-- ---- a part more

-- So many places of the part were added.
abbrev pub IsWithFront : (from have : ℕ) (part old new : Cells) → Type 0
IsWithFront from have part old new =
    (p : ℕ) → cell_lives new p ≡ ((covers from have p && cell_lives part (p - from)) || cell_lives old p)

pub front_none : (from : ℕ) (part old : Cells) → IsWithFront from 0 part old old
front_none from part old p = sym (ap (λ (b : Bool). (b && cell_lives part (p - from)) || cell_lives old p) (covers_no from 0 p (either (cases_lt p from))))
  where
    either : (p < from) ⊎ (from ≤ p) → (p < from) ⊎ (from + 0 ≤ p)
    either (inl h) = inl h
    either (inr h) = inr (omega (arith, h))

pub front_whole : (from have : ℕ) (part old new : Cells) → length part ≤ have → IsWithFront from have part old new → IsWithPart from part old new
front_whole from have part old new all is p = is p ∙ ap (λ (b : Bool). b || cell_lives old p) (elim (cases_lt p from) [
  | inl below ↦ ap (λ (b : Bool). b && cell_lives part (p - from)) (covers_no from have p (inl below) ∙ sym (le_no from p below))
  | inr above ↦ elim (cases_lt p (from + have)) [
    | inl within ↦ ap (λ (b : Bool). b && cell_lives part (p - from)) (covers_true from have p above within ∙ sym (le_yes from p above))
    | inr behind ↦
        let dead = past_dead part (p - from) (omega (arith, above, behind, all)) in
        ap (λ (b : Bool). covers from have p && b) dead ∙ none (covers from have p) ∙ sym (ap (λ (b : Bool). nat_le from p && b) dead ∙ none (nat_le from p))
  ]
])
  where
    none : (b : Bool) → (b && false) ≡ false
    none true = refl
    none false = refl

-- A piece at a place of the part reads as its cells.
pub piece_at : (advanced : Nowhere → ℕ → Nowhere) (part : Cells) (have n : ℕ) (origin : Option Nowhere) (rest : Cells)
    → drop have part ≡ piece_cells advanced origin n ++ rest → (k : ℕ) → have ≤ k → k < have + n → cell_lives part k ≡ is_some origin
piece_at advanced part have n origin rest is k low high =
    let e : have + (k - have) ≡ k = omega (arith, low) in
    ap (λ (q : ℕ). cell_lives part q) (sym e)
    ∙ ap (λ (o : Option Nowhere). is_some o) (sym (get_or-drop have part (k - have) None) ∙ ap (λ (c : Cells). get_or c (k - have) None) is ∙ left (k - have) (omega (arith, low, high)))
    ∙ same origin (k - have) (omega (arith, low, high))
  where
    left : (j : ℕ) → j < n → get_or (piece_cells advanced origin n ++ rest) j None ≡ get_or (piece_cells advanced origin n) j None
    left j h = get_or_append_left (piece_cells advanced origin n) rest None j (omega (arith, h, length-piece advanced origin n))

    same : (o : Option Nowhere) (j : ℕ) → j < n → is_some (get_or (piece_cells advanced o n) j None) ≡ is_some o
    same None j h = ap (λ (c : Option Nowhere). is_some c) (get_or-hole advanced n j h)
    same (Some x) j h = ap (λ (c : Option Nowhere). is_some c) (get_or-run advanced x n j h)

-- A piece of places that live.
pub front_run : (advanced : Nowhere → ℕ → Nowhere) (from have n : ℕ) (part old mid new rest : Cells) (x : Nowhere)
    → drop have part ≡ piece_cells advanced (Some x) n ++ rest → IsWithFront from have part old mid → IsWithRange (from + have) n mid new
    → IsWithFront from (have + n) part old new
front_run advanced from have n part old mid new rest x is front more p =
    more p ∙ ap (λ (b : Bool). covers (from + have) n p || b) (front p) ∙ or_assoc (covers (from + have) n p) (covers from have p && cell_lives part (p - from)) (cell_lives old p)
    ∙ ap (λ (b : Bool). b || cell_lives old p) both
  where
    lives : Bool
    lives = cell_lives part (p - from)

    both : (covers (from + have) n p || (covers from have p && lives)) ≡ (covers from (have + n) p && lives)
    both = elim (cases_lt p (from + have)) [
      | inl before ↦
          ap (λ (b : Bool). b || (covers from have p && lives)) (covers_no (from + have) n p (inl before))
          ∙ ap (λ (b : Bool). b && lives) (elim (cases_lt p from) [
            | inl low ↦ covers_no from have p (inl low) ∙ sym (covers_no from (have + n) p (inl low))
            | inr high ↦ covers_true from have p high before ∙ sym (covers_true from (have + n) p high (omega (arith, before)))
          ])
      | inr above ↦ elim (cases_lt p (from + have + n)) [
        | inl within ↦
            ap (λ (b : Bool). b || (covers from have p && lives)) (covers_true (from + have) n p above within)
            ∙ sym (ap₂ (λ (a b : Bool). a && b) (covers_true from (have + n) p (omega (arith, above)) (omega (arith, within))) (piece_at advanced part have n (Some x) rest is (p - from) (omega (arith, above)) (omega (arith, above, within))))
        | inr behind ↦
            ap₂ (λ (a b : Bool). a || (b && lives)) (covers_no (from + have) n p (inr behind)) (covers_no from have p (inr above))
            ∙ sym (ap (λ (b : Bool). b && lives) (covers_no from (have + n) p (inr (omega (arith, behind)))))
      ]
    ]

-- A piece of places that do not.
pub front_hole : (advanced : Nowhere → ℕ → Nowhere) (from have n : ℕ) (part old new rest : Cells)
    → drop have part ≡ piece_cells advanced None n ++ rest → IsWithFront from have part old new → IsWithFront from (have + n) part old new
front_hole advanced from have n part old new rest is front p = front p ∙ ap (λ (b : Bool). b || cell_lives old p) both
  where
    lives : Bool
    lives = cell_lives part (p - from)

    none : (b : Bool) → (b && false) ≡ false
    none true = refl
    none false = refl

    both : (covers from have p && lives) ≡ (covers from (have + n) p && lives)
    both = elim (cases_lt p (from + have)) [
      | inl before ↦ ap (λ (b : Bool). b && lives) (elim (cases_lt p from) [
        | inl low ↦ covers_no from have p (inl low) ∙ sym (covers_no from (have + n) p (inl low))
        | inr high ↦ covers_true from have p high before ∙ sym (covers_true from (have + n) p high (omega (arith, before)))
      ])
      | inr above ↦ ap (λ (b : Bool). b && lives) (covers_no from have p (inr above)) ∙ sym (elim (cases_lt p (from + have + n)) [
        | inl within ↦
            ap (λ (b : Bool). covers from (have + n) p && b) (piece_at advanced part have n None rest is (p - from) (omega (arith, above)) (omega (arith, above, within))) ∙ none (covers from (have + n) p)
        | inr behind ↦ ap (λ (b : Bool). b && lives) (covers_no from (have + n) p (inr (omega (arith, behind))))
      ])
    ]

-- ---- as the code has them

pub all_lives : (advanced : Nowhere → ℕ → Nowhere) (o : Nowhere) (n : ℕ) (old new : Cells) → old ≡ [] → new ≡ put_cells None 0 (run_cells advanced o n) old
    → (p : ℕ) → cell_lives new p ≡ nat_lt p n
all_lives advanced o n old new none is p =
    ap (λ (c : Cells). cell_lives c p) (is ∙ ap (λ (c : Cells). put_cells None 0 (run_cells advanced o n) c) none) ∙ run_from_start advanced o n p

pub all_long : (advanced : Nowhere → ℕ → Nowhere) (o : Nowhere) (n : ℕ) (old new : Cells) → old ≡ [] → new ≡ put_cells None 0 (run_cells advanced o n) old
    → length new ≡ n
all_long advanced o n old new none is =
    ap length (is ∙ ap (λ (c : Cells). put_cells None 0 (run_cells advanced o n) c) none ∙ put_first None (run_cells advanced o n)) ∙ length-run_cells advanced o n

pub part_is : (at len n : ℕ) (cells old new : Cells) → n ≡ min len (length cells - at) → old ≡ [] → new ≡ put_cells None 0 (cells_between at n cells) old
    → IsPartOf at len cells new
part_is at len n cells old new n_is none is k =
    ap (λ (c : Cells). cell_lives c k) (is ∙ ap (λ (c : Cells). put_cells None 0 (cells_between at n cells) c) none) ∙ part_copied at len n cells n_is k

pub part_fits : (at len n : ℕ) (cells old new : Cells) → n ≡ min len (length cells - at) → old ≡ [] → new ≡ put_cells None 0 (cells_between at n cells) old
    → length new ≤ len
part_fits at len n cells old new n_is none is =
    let e = ap length (is ∙ ap (λ (c : Cells). put_cells None 0 (cells_between at n cells) c) none) in
    omega (arith, e, n_is, part_long at n cells)

pub below_is : (size : ℕ) (old new : Cells) → new ≡ resize_cells None size old → IsBelow size old new
below_is size old new is p = ap (λ (c : Cells). cell_lives c p) is ∙ below_cut size old p

pub outside_is : (at len n : ℕ) (old new : Cells) → n ≡ min len (length old - at) → at < length old → new ≡ put_cells None at (zero_cells n) old
    → IsOutside at len old new
outside_is at len n old new n_is some is p = ap (λ (c : Cells). cell_lives c p) is ∙ outside_zeros at len n old n_is some p

pub with_run_is : (advanced : Nowhere → ℕ → Nowhere) (o : Nowhere) (at n : ℕ) (old new : Cells) → new ≡ put_cells None at (run_cells advanced o n) old
    → IsWithRange at n old new
with_run_is advanced o at n old new is p = ap (λ (c : Cells). cell_lives c p) is ∙ with_run advanced o at n old p

pub front_live : (advanced : Nowhere → ℕ → Nowhere) (from have n : ℕ) (part old mid new rest : Cells) (origin : Option Nowhere) → is_some origin ≡ true
    → drop have part ≡ piece_cells advanced origin n ++ rest → IsWithFront from have part old mid → IsWithRange (from + have) n mid new
    → IsWithFront from (have + n) part old new
front_live advanced from have n part old mid new rest None lives is front more = cc
front_live advanced from have n part old mid new rest (Some x) lives is front more = front_run advanced from have n part old mid new rest x is front more

pub front_dead : (advanced : Nowhere → ℕ → Nowhere) (from have n : ℕ) (part old mid new rest : Cells) (origin : Option Nowhere) → is_some origin ≡ false
    → drop have part ≡ piece_cells advanced origin n ++ rest → IsWithFront from have part old mid → new ≡ mid
    → IsWithFront from (have + n) part old new
front_dead advanced from have n part old mid new rest None dead is front same =
    λ p. ap (λ (c : Cells). cell_lives c p) same ∙ front_hole advanced from have n part old mid rest is front p
front_dead advanced from have n part old mid new rest (Some x) dead is front same = cc
