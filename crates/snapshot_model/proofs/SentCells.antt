-- The stretches of some cells that are written one after the other, and the hole at the end, make
-- these cells again.
use Rattle.std.specs.Prelude.{◌≡◌, ℕ, zero, suc, ◌+◌, ◌-◌, ◌≤◌, ◌==◌, Bool, true, false, List, [], ◌∷◌, ◌++◌, length, take, drop, replicate, Option, None, Some, if◌then◌else◌}
use Rattle.std.proofs.Common.{refl, sym, ap, ap₂, ◌∙◌, arith, append_assoc, append-nil, length-append, eqb-true}
use Rattle.std.proofs.lemmas.List.{length-replicate}
use Rattle.send_model.specs.Edit.{filled, resized, overwritten, written_at}
use Rattle.snapshot_model.specs.Listing.{held}
use Rattle.snapshot_model.specs.Sent.{Stretch, onto_stretches, stretches, ends_in_hole}
use Rattle.send_model.proofs.Overwriting.{written_at-append}

abbrev hole : Option ℕ
hole = None

-- What stretches make of cells, written in their order.
abbrev pub write_all : List Stretch → List (Option ℕ) → List (Option ℕ)
write_all [] cells = cells
write_all (st ∷ rest) cells = write_all rest (written_at None st.at (held st.bytes) cells)

-- A byte in front of stretches is written first.
onto_is : (at byte : ℕ) (sts : List Stretch) (cells : List (Option ℕ)) → write_all (onto_stretches at byte sts) cells ≡ write_all sts (written_at None at (Some byte ∷ []) cells)
onto_is at byte [] cells = refl
onto_is at byte (first ∷ rest) cells = one (first.at == at + 1) refl
  where
    one : (b : Bool) → (first.at == at + 1) ≡ b
        → write_all (if b then record { at = at; bytes = byte ∷ first.bytes } ∷ rest else record { at = at; bytes = byte ∷ [] } ∷ first ∷ rest) cells
        ≡ write_all (first ∷ rest) (written_at None at (Some byte ∷ []) cells)
    one false e = refl
    one true e =
        let next : first.at ≡ at + 1 = eqb-true first.at (at + 1) e in
        ap (write_all rest) (sym (written_at-append None at (Some byte ∷ []) (held first.bytes) cells)
        ∙ ap (λ (k : ℕ). written_at None k (held first.bytes) (written_at None at (Some byte ∷ []) cells)) (sym next))

filled_one : (at : ℕ) (cells : List (Option ℕ)) → length cells ≤ at → filled None (at + 1) cells ≡ filled None at cells ++ None ∷ []
filled_one at cells l = let e : at + 1 - length cells ≡ suc (at - length cells) = omega arith in
    ap (λ (n : ℕ). cells ++ replicate n None) e ∙ ap (λ (r : List (Option ℕ)). cells ++ r) (last_one (at - length cells)) ∙ sym (append_assoc cells (replicate (at - length cells) None) (None ∷ []))
  where
    last_one : (n : ℕ) → replicate (suc n) None ≡ replicate n hole ++ None ∷ []
    last_one zero = refl
    last_one (suc n) = ap (λ (r : List (Option ℕ)). None ∷ r) (last_one n)

filled_length : (at : ℕ) (cells : List (Option ℕ)) → length cells ≤ at → length (filled None at cells) ≡ at
filled_length at cells l = omega (arith, length-append cells (replicate (at - length cells) None), length-replicate (at - length cells) hole)

filled_full : (at : ℕ) (cells : List (Option ℕ)) → at ≤ length cells → filled None at cells ≡ cells
filled_full at cells l = let e : at - length cells ≡ 0 = omega arith in ap (λ (n : ℕ). cells ++ replicate n None) e ∙ append-nil cells

take_full : (n : ℕ) (xs : List (Option ℕ)) → length xs ≡ n → take n xs ≡ xs
take_full zero [] e = refl
take_full zero (x ∷ xs) e = absurd (omega (arith, e))
take_full (suc n) [] e = absurd (omega (arith, e))
take_full (suc n) (x ∷ xs) e = ap (λ (r : List (Option ℕ)). x ∷ r) (take_full n xs (omega (arith, e)))

drop_past : (n : ℕ) (xs : List (Option ℕ)) → length xs ≤ n → drop n xs ≡ []
drop_past zero [] l = refl
drop_past zero (x ∷ xs) l = absurd (omega (arith, l))
drop_past (suc n) [] l = refl
drop_past (suc n) (x ∷ xs) l = drop_past n xs (omega (arith, l))

-- One byte that is written behind some cells.
one_written : (at byte : ℕ) (cells : List (Option ℕ)) → length cells ≤ at → written_at None at (Some byte ∷ []) cells ≡ filled None at cells ++ Some byte ∷ []
unfolding written_at overwritten
one_written at byte cells l =
    ap₂ (λ (u v : List (Option ℕ)). (u ++ Some byte ∷ []) ++ v) (take_full at (filled None at cells) (filled_length at cells l)) (drop_past (at + 1) cells (omega (arith, l)))
    ∙ append-nil (filled None at cells ++ Some byte ∷ [])

abbrev written_from : ℕ → List (Option ℕ) → List (Option ℕ) → List (Option ℕ)
written_from at cells start = write_all (stretches at cells) start

record Writes (at : ℕ) (cells start : List (Option ℕ)) : Type 0 where
  short : length (written_from at cells start) ≤ at + length cells
  fills : filled None (at + length cells) (written_from at cells start) ≡ filled None at start ++ cells

writes : (at : ℕ) (cells start : List (Option ℕ)) → length start ≤ at → Writes at cells start
writes at [] start l = record {
  short = omega (arith, l);
  fills = (let e : at + 0 ≡ at = omega arith in ap (λ (n : ℕ). filled None n start) e) ∙ sym (append-nil (filled None at start));
}
writes at (None ∷ cells) start l =
    let more = writes (at + 1) cells start (omega (arith, l)) in
    let e : at + suc (length cells) ≡ at + 1 + length cells = omega arith in
    record {
      short = omega (arith, more.short);
      fills = ap (λ (n : ℕ). filled None n (written_from (at + 1) cells start)) e ∙ more.fills
          ∙ ap (λ (r : List (Option ℕ)). r ++ cells) (filled_one at start l) ∙ append_assoc (filled None at start) (None ∷ []) cells;
    }
writes at (Some byte ∷ cells) start l =
    let next : List (Option ℕ) = written_at None at (Some byte ∷ []) start in
    let next_is = one_written at byte start l in
    let next_length : length next ≡ at + 1 = ap length next_is ∙ length-append (filled None at start) (Some byte ∷ []) ∙ ap (λ (n : ℕ). n + 1) (filled_length at start l) in
    let more = writes (at + 1) cells next (omega (arith, next_length)) in
    let same : written_from at (Some byte ∷ cells) start ≡ written_from (at + 1) cells next = onto_is at byte (stretches (at + 1) cells) start in
    let e : at + suc (length cells) ≡ at + 1 + length cells = omega arith in
    record {
      short = omega (arith, more.short, ap length same);
      fills = ap₂ (λ (n : ℕ) (r : List (Option ℕ)). filled None n r) e same ∙ more.fills
          ∙ ap (λ (r : List (Option ℕ)). r ++ cells) (filled_full (at + 1) next (omega (arith, next_length)) ∙ next_is)
          ∙ append_assoc (filled None at start) (Some byte ∷ []) cells;
    }

-- ---- whole contents

abbrev pub ended : List (Option ℕ) → List (Option ℕ) → List (Option ℕ)
ended cells written = if ends_in_hole cells then resized None (length cells) written else written

-- Where the last cell is no hole, the stretches reach to the end.
reaches : (at : ℕ) (cell : Option ℕ) (cells start : List (Option ℕ)) → length start ≤ at → ends_in_hole (cell ∷ cells) ≡ false
    → length (written_from at (cell ∷ cells) start) ≡ at + length (cell ∷ cells)
reaches at None [] start l e = cc
reaches at (Some byte) [] start l e =
    ap length (one_written at byte start l) ∙ length-append (filled None at start) (Some byte ∷ []) ∙ ap (λ (n : ℕ). n + 1) (filled_length at start l)
reaches at None (more ∷ cells) start l e = reaches (at + 1) more cells start (omega (arith, l)) e ∙ omega arith
reaches at (Some byte) (more ∷ cells) start l e =
    let next : List (Option ℕ) = written_at None at (Some byte ∷ []) start in
    let next_length : length next ≡ at + 1 = ap length (one_written at byte start l) ∙ length-append (filled None at start) (Some byte ∷ []) ∙ ap (λ (n : ℕ). n + 1) (filled_length at start l) in
    ap length (onto_is at byte (stretches (at + 1) (more ∷ cells)) start) ∙ reaches (at + 1) more cells next (omega (arith, next_length)) e ∙ omega arith

-- A file that is written so has these cells, holes among them.
pub contents_again : (cells : List (Option ℕ)) → ended cells (write_all (stretches 0 cells) []) ≡ cells
unfolding resized
contents_again [] = refl
contents_again (cell ∷ cells) = one (ends_in_hole (cell ∷ cells)) refl
  where
    all : Writes 0 (cell ∷ cells) []
    all = writes 0 (cell ∷ cells) [] (omega arith)

    fills : filled None (length (cell ∷ cells)) (write_all (stretches 0 (cell ∷ cells)) []) ≡ cell ∷ cells
    fills = (let e : length (cell ∷ cells) ≡ 0 + length (cell ∷ cells) = omega arith in ap (λ (n : ℕ). filled None n (write_all (stretches 0 (cell ∷ cells)) [])) e) ∙ all.fills

    one : (b : Bool) → ends_in_hole (cell ∷ cells) ≡ b
        → (if b then resized None (length (cell ∷ cells)) (write_all (stretches 0 (cell ∷ cells)) []) else write_all (stretches 0 (cell ∷ cells)) []) ≡ cell ∷ cells
    one true e = ap (take (length (cell ∷ cells))) fills ∙ take_full (length (cell ∷ cells)) (cell ∷ cells) refl
    one false e = sym (filled_full (length (cell ∷ cells)) (write_all (stretches 0 (cell ∷ cells)) []) (omega (arith, reaches 0 cell cells [] (omega arith) e))) ∙ fills
