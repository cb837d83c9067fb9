-- Texts that are added in parts, and the pieces of a stretch.
use Rattle.std.specs.Prelude.{◌≡◌, ◌≤◌, ◌<◌, ◌⊎◌, ℕ, zero, suc, ◌+◌, ◌-◌, min, List, [], ◌∷◌, ◌++◌, length, take, drop, Option, Result, Err}
use Rattle.std.proofs.Common.{refl, sym, ap, subst, ◌∙◌, append_assoc, append-nil, arith, length-take, inl, inr}
use Rattle.std.proofs.lemmas.List.{take-take, take_all, drop-take, drop-drop, drop_all, length-drop}
use Rattle.send_model.specs.Command.{Command, Write}
use Rattle.send_model.specs.Composed.{writes_from}
use Rattle.snapshot_model.specs.Sent.{stretch_commands}
use Rattle.store_commands.specs.declared.ends.StoreEnd.{StoreEnd}
use Rattle.full_send.specs.Adding.{TextAdded, Adds}
use Rattle.full_send.proofs.Added.{none_added, added_then, then_adds, stops_early}

-- Of a text some is added, and this is left.
pub record PartAdded (all left : List ℕ) (old now : List ℕ) (first then : Option (List ℕ)) : Type 0 where
  pub done : List ℕ
  pub whole : done ++ left ≡ all
  pub added : TextAdded done old now first then

module _ (all : List ℕ) where
  pub part_first : (left old : List ℕ) (taken : Option (List ℕ)) → left ≡ all → PartAdded all left old old taken taken
  part_first left old taken is = record { done = []; whole = is; added = none_added old taken }

  pub part_next : (left piece more old mid new : List ℕ) (first then last : Option (List ℕ)) → left ≡ piece ++ more → PartAdded all left old mid first then → TextAdded piece mid new then last → PartAdded all more old new first last
  part_next left piece more old mid new first then last is p x = record {
    done = p.done ++ piece;
    whole = append_assoc p.done piece more ∙ ap (λ (l : List ℕ). p.done ++ l) (sym is) ∙ p.whole;
    added = added_then p.done piece old mid new first then last p.added x;
  }

  pub part_stops : (left piece more old mid new : List ℕ) (first then last : Option (List ℕ)) (end : StoreEnd) → left ≡ piece ++ more → PartAdded all left old mid first then → Adds piece mid new then last (Err end)
      → Adds all old new first last (Err end)
  part_stops left piece more old mid new first then last end is p stops =
      subst (λ (l : List ℕ). Adds l old new first last (Err end)) (append_assoc p.done piece more ∙ ap (λ (l : List ℕ). p.done ++ l) (sym is) ∙ p.whole)
      (stops_early (p.done ++ piece) more old new first last end (then_adds p.done piece old mid new first then last (Err end) p.added stops))

  -- The rest is added, or stops.
  pub part_last : (left piece old mid new : List ℕ) (first then last : Option (List ℕ)) (result : Result (Unit {0}) StoreEnd) → left ≡ piece → PartAdded all left old mid first then → Adds piece mid new then last result
      → Adds all old new first last result
  part_last left piece old mid new first then last result is p x =
      subst (λ (l : List ℕ). Adds l old new first last result) (ap (λ (l : List ℕ). p.done ++ l) (sym is) ∙ p.whole) (then_adds p.done piece old mid new first then last result p.added x)

  pub part_all : (left old now : List ℕ) (first last : Option (List ℕ)) → left ≡ [] → PartAdded all left old now first last → TextAdded all old now first last
  part_all left old now first last is p = subst (λ (l : List ℕ). TextAdded l old now first last) (sym (append-nil p.done) ∙ ap (λ (l : List ℕ). p.done ++ l) (sym is) ∙ p.whole) p.added

-- ---- the pieces of a stretch

abbrev pub stretch_of : List ℕ → ℕ → ℕ → List ℕ → List Command
stretch_of path from to cells = stretch_commands path (record { at = from; bytes = take (to - from) (drop from cells) })

writes_nothing : (n : ℕ) (path : List ℕ) (at : ℕ) → writes_from n path at [] ≡ []
writes_nothing zero path at = refl
writes_nothing (suc n) path at = refl

-- More commands than there are bytes are not needed.
fewer : (k n m : ℕ) (path : List ℕ) (at : ℕ) (bytes : List ℕ) → length bytes ≤ k → k ≤ n → k ≤ m → writes_from n path at bytes ≡ writes_from m path at bytes
fewer k n m path at [] short long more = writes_nothing n path at ∙ sym (writes_nothing m path at)
fewer zero n m path at (b ∷ bytes) short long more = absurd (omega (arith, short))
fewer (suc k) zero m path at (b ∷ bytes) short long more = absurd (omega (arith, long))
fewer (suc k) (suc n) zero path at (b ∷ bytes) short long more = absurd (omega (arith, more))
fewer (suc k) (suc n) (suc m) path at (b ∷ bytes) short long more =
    let cut : length (drop 49_152 (b ∷ bytes)) ≡ length (b ∷ bytes) - 49_152 = length-drop 49_152 (b ∷ bytes) in
    ap (λ (cs : List Command). Write path at (take 49_152 (b ∷ bytes)) ∷ cs)
    (fewer k n m path (at + 49_152) (drop 49_152 (b ∷ bytes)) (omega (arith, cut, short)) (omega (arith, long)) (omega (arith, more)))

pub first_write : (path : List ℕ) (at : ℕ) (bytes : List ℕ) → 0 < length bytes
    → writes_from (length bytes) path at bytes ≡ Write path at (take 49_152 bytes) ∷ writes_from (length (drop 49_152 bytes)) path (at + 49_152) (drop 49_152 bytes)
first_write path at [] some = absurd (omega (arith, some))
first_write path at (b ∷ bytes) some =
    let cut : length (drop 49_152 (b ∷ bytes)) ≡ length (b ∷ bytes) - 49_152 = length-drop 49_152 (b ∷ bytes) in
    ap (λ (cs : List Command). Write path at (take 49_152 (b ∷ bytes)) ∷ cs)
    (fewer (length (drop 49_152 (b ∷ bytes))) (length bytes) (length (drop 49_152 (b ∷ bytes))) path (at + 49_152) (drop 49_152 (b ∷ bytes)) (omega arith) (omega (arith, cut)) (omega arith))

or_less : (n m : ℕ) → (n ≤ m) ⊎ (m < n)
or_less zero m = inl (omega arith)
or_less (suc n) zero = inr (omega arith)
or_less (suc n) (suc m) = elim (or_less n m) [
  | inl more ↦ inl (omega (arith, more))
  | inr less ↦ inr (omega (arith, less))
]

-- One piece, and the stretch behind it.
pub next_piece : (path cells : List ℕ) (at to count : ℕ) → at < to → to ≤ length cells → count ≡ min (to - at) 49_152
    → stretch_of path at to cells ≡ Write path at (take count (drop at cells)) ∷ stretch_of path (at + count) to cells
next_piece path cells at to count some within is = elim (or_less 49_152 (to - at)) [
  | inl more ↦
      let all : count ≡ 49_152 = omega (arith, is, more) in
      let left : to - at ≡ 49_152 + (to - (at + 49_152)) = omega (arith, more) in
      let front : take 49_152 part ≡ take count (drop at cells) = take-take 49_152 (to - at) (drop at cells) more ∙ ap (λ (n : ℕ). take n (drop at cells)) (sym all) in
      let rest : drop 49_152 part ≡ take (to - (at + 49_152)) (drop (at + 49_152) cells) =
      ap (λ (n : ℕ). drop 49_152 (take n (drop at cells))) left ∙ drop-take 49_152 (to - (at + 49_152)) (drop at cells) ∙ ap (take (to - (at + 49_152))) (drop-drop 49_152 at cells) in
      let behind : writes_from (length (drop 49_152 part)) path (at + 49_152) (drop 49_152 part) ≡ stretch_of path (at + count) to cells =
      ap (λ (l : List ℕ). writes_from (length l) path (at + 49_152) l) rest ∙ ap (λ (n : ℕ). stretch_of path (at + n) to cells) (sym all) in
      first_write path at part (omega (arith, some, long)) ∙ (λ i. Write path at (front i) ∷ behind i)
  | inr less ↦
      let all : count ≡ to - at = omega (arith, is, less) in
      let ends : to - (at + count) ≡ 0 = omega (arith, all) in
      let short : length part ≤ 49_152 = omega (arith, long, less) in
      let front : take 49_152 part ≡ take count (drop at cells) = take_all 49_152 part short ∙ ap (λ (n : ℕ). take n (drop at cells)) (sym all) in
      let behind : writes_from (length (drop 49_152 part)) path (at + 49_152) (drop 49_152 part) ≡ stretch_of path (at + count) to cells =
      ap (λ (l : List ℕ). writes_from (length l) path (at + 49_152) l) (drop_all 49_152 part short) ∙ sym (ap (λ (n : ℕ). stretch_commands path (record { at = at + count; bytes = take n (drop (at + count) cells) })) ends) in
      first_write path at part (omega (arith, some, long)) ∙ (λ i. Write path at (front i) ∷ behind i)
]
  where
    part : List ℕ
    part = take (to - at) (drop at cells)

    long : length part ≡ to - at
    long = let cut : length (drop at cells) ≡ length cells - at = length-drop at cells in let own = length-take (to - at) (drop at cells) in omega (arith, own, cut, within, some)

-- None is left at its end.
pub no_piece : (path cells : List ℕ) (at to : ℕ) → to ≤ at → stretch_of path at to cells ≡ []
no_piece path cells at to ends = let none : to - at ≡ 0 = omega (arith, ends) in ap (λ (n : ℕ). stretch_commands path (record { at = at; bytes = take n (drop at cells) })) none
