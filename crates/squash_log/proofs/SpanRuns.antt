-- The stretches of what lives, gone through from the front.
use Rattle.std.specs.Prelude.{◌≡◌, ◌≢◌, ℕ, zero, suc, ◌+◌, ◌<◌, ◌≤◌, ◌==◌, Bool, true, false, List, [], ◌∷◌, ◌++◌, Option, None, Some, if◌then◌else◌}
use Rattle.std.specs.Option.{option_to_list}
use Rattle.std.proofs.Common.{refl, sym, ap, ap₂, ◌∙◌, arith, eqb-true}
use Rattle.std.proofs.lemmas.List.{append-nil}
use Rattle.squash_log.specs.declared.fate.Span.{Span}
use Rattle.squash_log.specs.Fates.{span_before, spans}
use Rattle.squash_log.specs.Stacks.{grown}
use Rattle.squash_log.proofs.LivingMaps.{eq_yes, eq_no}

abbrev span : ℕ → ℕ → Span
span at len = record { at = at; len = len }

-- What is left where a stretch may have begun that goes on up to a place.
abbrev pub left_spans : (ℕ → Bool) → Option Span → (at len : ℕ) → List Span
left_spans lives begun at zero = option_to_list begun
left_spans lives begun at (suc len) =
    if lives at then left_spans lives (Some (grown begun at 1)) (at + 1) len
    else option_to_list begun ++ left_spans lives None (at + 1) len

-- A stretch in front of others, with which it is one if they go on where it ends.
abbrev joined : Span → List Span → List Span
joined s [] = s ∷ []
joined s (first ∷ rest) = if first.at == s.at + s.len then span s.at (s.len + first.len) ∷ rest else s ∷ first ∷ rest

-- The first stretch begins behind a place.
abbrev FirstFrom : ℕ → List Span → Type 0
FirstFrom at [] = Unit {0}
FirstFrom at (first ∷ rest) = at ≤ first.at

module _ (lives : ℕ → Bool) where
  first_from : (at len : ℕ) → FirstFrom at (spans lives at len)
  first_from at zero = tt
  first_from at (suc len) = one (lives at) (spans lives (at + 1) len) (first_from (at + 1) len)
    where
      both : (b : Bool) (first : Span) (rest : List Span) → at + 1 ≤ first.at → FirstFrom at (if b then span at (first.len + 1) ∷ rest else span at 1 ∷ first ∷ rest)
      both true first rest h = omega arith
      both false first rest h = omega arith

      one : (b : Bool) (rest : List Span) → FirstFrom (at + 1) rest → FirstFrom at (if b then span_before at rest else rest)
      one true [] h = omega arith
      one true (first ∷ rest) h = both (first.at == at + 1) first rest h
      one false [] h = tt
      one false (first ∷ rest) h = omega (arith, h)

  -- A byte more in front of what is joined.
  joined_more : (s : Span) (at : ℕ) → s.at + s.len ≡ at → (rest : List Span) → joined (span s.at (s.len + 1)) rest ≡ joined s (span_before at rest)
  joined_more s at e [] = sym (ap (λ (b : Bool). if b then span s.at (s.len + 1) ∷ [] else s ∷ span at 1 ∷ []) (eq_yes at (s.at + s.len) (sym e)))
  joined_more s at e (first ∷ rest) = one (first.at == at + 1) refl
    where
      one : (b : Bool) → (first.at == at + 1) ≡ b
          → joined (span s.at (s.len + 1)) (first ∷ rest) ≡ joined s (if first.at == at + 1 then span at (first.len + 1) ∷ rest else span at 1 ∷ first ∷ rest)
      one true q =
          let there : first.at ≡ at + 1 = eqb-true first.at (at + 1) q in
          let sum : s.len + 1 + first.len ≡ s.len + (first.len + 1) = omega arith in
          ap (λ (b : Bool). if b then span s.at (s.len + 1 + first.len) ∷ rest else span s.at (s.len + 1) ∷ first ∷ rest) (eq_yes first.at (s.at + (s.len + 1)) (omega (arith, there, e)))
          ∙ ap (λ (n : ℕ). span s.at n ∷ rest) sum
          ∙ sym (ap (λ (b : Bool). joined s (if b then span at (first.len + 1) ∷ rest else span at 1 ∷ first ∷ rest)) q
          ∙ ap (λ (b : Bool). if b then span s.at (s.len + (first.len + 1)) ∷ rest else s ∷ span at (first.len + 1) ∷ rest) (eq_yes at (s.at + s.len) (sym e)))
      one false q =
          let apart : first.at ≢ s.at + (s.len + 1) = λ h. true_false (sym (eq_yes first.at (at + 1) (omega (arith, h, e))) ∙ q) in
          ap (λ (b : Bool). if b then span s.at (s.len + 1 + first.len) ∷ rest else span s.at (s.len + 1) ∷ first ∷ rest) (eq_no first.at (s.at + (s.len + 1)) apart)
          ∙ sym (ap (λ (b : Bool). joined s (if b then span at (first.len + 1) ∷ rest else span at 1 ∷ first ∷ rest)) q
          ∙ ap (λ (b : Bool). if b then span s.at (s.len + 1) ∷ first ∷ rest else s ∷ span at 1 ∷ first ∷ rest) (eq_yes at (s.at + s.len) (sym e)))
        where
          true_false : true ≡ false → ⊥
          true_false h = cc

  -- A stretch is not one with those that begin further on.
  joined_apart : (s : Span) (at : ℕ) → s.at + s.len ≡ at → (rest : List Span) → FirstFrom (at + 1) rest → joined s rest ≡ s ∷ rest
  joined_apart s at e [] h = refl
  joined_apart s at e (first ∷ rest) h = ap (λ (b : Bool). if b then span s.at (s.len + first.len) ∷ rest else s ∷ first ∷ rest) (eq_no first.at (s.at + s.len) (λ q. omega (arith, q, e, h)))

  abbrev Both : ℕ → Type 0
  Both len =
      ((at : ℕ) → left_spans lives None at len ≡ spans lives at len)
      × ((s : Span) (at : ℕ) → s.at + s.len ≡ at → left_spans lives (Some s) at len ≡ joined s (spans lives at len))

  first_is : (at : ℕ) (rest : List Span) → joined (span at 1) rest ≡ span_before at rest
  first_is at [] = refl
  first_is at (x ∷ rest) = ap (λ (n : ℕ). if x.at == at + 1 then span at n ∷ rest else span at 1 ∷ x ∷ rest) (let e : 1 + x.len ≡ x.len + 1 = omega arith in e)

  none_next : (len at : ℕ) (b : Bool) → Both len → (if b then left_spans lives (Some (span at 1)) (at + 1) len else left_spans lives None (at + 1) len)
      ≡ (if b then span_before at (spans lives (at + 1) len) else spans lives (at + 1) len)
  none_next len at true more = more.1 (span at 1) (at + 1) refl ∙ first_is at (spans lives (at + 1) len)
  none_next len at false more = more.0 (at + 1)

  begun_next : (len : ℕ) (s : Span) (at : ℕ) → s.at + s.len ≡ at → (b : Bool) → Both len
      → (if b then left_spans lives (Some (span s.at (s.len + 1))) (at + 1) len else s ∷ left_spans lives None (at + 1) len)
      ≡ joined s (if b then span_before at (spans lives (at + 1) len) else spans lives (at + 1) len)
  begun_next len s at e true more = more.1 (span s.at (s.len + 1)) (at + 1) (omega (arith, e)) ∙ joined_more s at e (spans lives (at + 1) len)
  begun_next len s at e false more = ap (λ (l : List Span). s ∷ l) (more.0 (at + 1)) ∙ sym (joined_apart s at e (spans lives (at + 1) len) (first_from (at + 1) len))

  both : (len : ℕ) → Both len
  both zero = (λ at. refl, λ s at e. refl)
  both (suc len) = (λ at. none_next len at (lives at) (both len), λ s at e. begun_next len s at e (lives at) (both len))

  -- From the start nothing has begun.
  pub spans_from_start : (len : ℕ) → left_spans lives None 0 len ≡ spans lives 0 len
  spans_from_start len = (both len).0 0

  -- ---- pieces

  step_run : (n : ℕ) (begun : Option Span) (at : ℕ) → lives at ≡ true → left_spans lives begun at (suc n) ≡ left_spans lives (Some (grown begun at 1)) (at + 1) n
  step_run n begun at alive = ap (λ (b : Bool). if b then left_spans lives (Some (grown begun at 1)) (at + 1) n else option_to_list begun ++ left_spans lives None (at + 1) n) alive

  step_hole : (n : ℕ) (begun : Option Span) (at : ℕ) → lives at ≡ false → left_spans lives begun at (suc n) ≡ option_to_list begun ++ left_spans lives None (at + 1) n
  step_hole n begun at dead = ap (λ (b : Bool). if b then left_spans lives (Some (grown begun at 1)) (at + 1) n else option_to_list begun ++ left_spans lives None (at + 1) n) dead

  grown_more : (m at : ℕ) (o : Option Span) → grown (Some (grown o at 1)) (at + 1) (suc m) ≡ grown o at (suc (suc m))
  grown_more m at None = ap (λ (k : ℕ). span at k) (let e : 1 + suc m ≡ suc (suc m) = omega arith in e)
  grown_more m at (Some s) = ap (λ (k : ℕ). span s.at k) (let e : s.len + 1 + suc m ≡ s.len + suc (suc m) = omega arith in e)

  run_more : (m : ℕ) (begun : Option Span) (at len : ℕ) → ((k : ℕ) → at ≤ k → k < at + suc m → lives k ≡ true)
      → left_spans lives begun at (suc m + len) ≡ left_spans lives (Some (grown begun at (suc m))) (at + suc m) len
  run_more zero begun at len all =
      let e : suc zero + len ≡ suc len = omega arith in
      let b : at + 1 ≡ at + suc zero = omega arith in
      ap (λ (k : ℕ). left_spans lives begun at k) e ∙ step_run len begun at (all at (omega arith) (omega arith))
      ∙ ap (λ (p : ℕ). left_spans lives (Some (grown begun at 1)) p len) b
  run_more (suc m) begun at len all =
      let e : suc (suc m) + len ≡ suc (suc m + len) = omega arith in
      let b : at + 1 + suc m ≡ at + suc (suc m) = omega arith in
      ap (λ (k : ℕ). left_spans lives begun at k) e ∙ step_run (suc m + len) begun at (all at (omega arith) (omega arith))
      ∙ run_more m (Some (grown begun at 1)) (at + 1) len (λ k low high. all k (omega (arith, low)) (omega (arith, high)))
      ∙ ap₂ (λ (s : Span) (p : ℕ). left_spans lives (Some s) p len) (grown_more m at begun) b

  hole_more : (m at len : ℕ) → ((k : ℕ) → at ≤ k → k < at + suc m → lives k ≡ false) → left_spans lives None at (suc m + len) ≡ left_spans lives None (at + suc m) len
  hole_more zero at len all =
      let e : suc zero + len ≡ suc len = omega arith in
      let b : at + 1 ≡ at + suc zero = omega arith in
      ap (λ (k : ℕ). left_spans lives None at k) e ∙ step_hole len None at (all at (omega arith) (omega arith)) ∙ ap (λ (p : ℕ). left_spans lives None p len) b
  hole_more (suc m) at len all =
      let e : suc (suc m) + len ≡ suc (suc m + len) = omega arith in
      let b : at + 1 + suc m ≡ at + suc (suc m) = omega arith in
      ap (λ (k : ℕ). left_spans lives None at k) e ∙ step_hole (suc m + len) None at (all at (omega arith) (omega arith))
      ∙ hole_more m (at + 1) len (λ k low high. all k (omega (arith, low)) (omega (arith, high)))
      ∙ ap (λ (p : ℕ). left_spans lives None p len) b

  hole_begun : (m : ℕ) (begun : Option Span) (at len : ℕ) → ((k : ℕ) → at ≤ k → k < at + suc m → lives k ≡ false)
      → left_spans lives begun at (suc m + len) ≡ option_to_list begun ++ left_spans lives None (at + suc m) len
  hole_begun m begun at len all =
      let e : suc m + len ≡ suc (m + len) = omega arith in
      ap (λ (k : ℕ). left_spans lives begun at k) e ∙ step_hole (m + len) begun at (all at (omega arith) (omega arith))
      ∙ ap (λ (l : List Span). option_to_list begun ++ l) (sym (step_hole (m + len) None at (all at (omega arith) (omega arith))) ∙ ap (λ (k : ℕ). left_spans lives None at k) (sym e) ∙ hole_more m at len all)

  -- So many bytes that live.
  pub left_run : (n : ℕ) (begun : Option Span) (at len : ℕ) → ((k : ℕ) → at ≤ k → k < at + n → lives k ≡ true) → 0 < n
      → left_spans lives begun at (n + len) ≡ left_spans lives (Some (grown begun at n)) (at + n) len
  left_run zero begun at len all some = absurd (omega (arith, some))
  left_run (suc n) begun at len all some = run_more n begun at len all

  -- So many bytes that do not.
  pub left_hole : (n : ℕ) (begun : Option Span) (at len : ℕ) → ((k : ℕ) → at ≤ k → k < at + n → lives k ≡ false) → 0 < n
      → left_spans lives begun at (n + len) ≡ option_to_list begun ++ left_spans lives None (at + n) len
  left_hole zero begun at len all some = absurd (omega (arith, some))
  left_hole (suc n) begun at len all some = hole_begun n begun at len all

  -- Behind a place nothing lives.
  pub left_dead : (len : ℕ) (begun : Option Span) (at : ℕ) → ((k : ℕ) → at ≤ k → lives k ≡ false) → left_spans lives begun at len ≡ option_to_list begun
  left_dead zero begun at none = refl
  left_dead (suc len) begun at none =
      ap (λ (b : Bool). if b then left_spans lives (Some (grown begun at 1)) (at + 1) len else option_to_list begun ++ left_spans lives None (at + 1) len) (none at (omega arith))
      ∙ ap (λ (l : List Span). option_to_list begun ++ l) (left_dead len None (at + 1) (λ k low. none k (omega (arith, low)))) ∙ append-nil (option_to_list begun)
