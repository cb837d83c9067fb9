-- How an image is made that a crash may leave.
use Rattle.std.proofs.Common.{◌≡◌, ℕ, zero, suc, ◌+◌, ◌-◌, ◌<◌, ◌≤◌, Bool, true, false, Option, Some, None, List, [], ◌∷◌, ◌++◌, length, get_or, take, replicate, refl, sym, ◌∙◌, ap, subst, arith, append_assoc}
use Rattle.sx_base.specs.Disk.{Agrees}
use Rattle.disk_model.specs.Stretch.{known_of}
use Rattle.disk_model.specs.Torn.{with_zeros, IsLeft}

-- what is known of one place
abbrev place_of : Bool → ℕ → Option ℕ
place_of true byte = None
place_of false byte = Some byte

known_more : (i : ℕ) (touched : List Bool) (bytes : List ℕ) → i < length touched → length touched ≤ length bytes
    → known_of (take (suc i) touched) bytes ≡ known_of (take i touched) bytes ++ place_of (get_or touched i false) (get_or bytes i 0) ∷ []
known_more i [] bytes within covers = absurd (omega (arith, within))
known_more i (t ∷ touched) [] within covers = absurd (omega (arith, covers))
known_more zero (true ∷ touched) (b ∷ bytes) within covers = refl
known_more zero (false ∷ touched) (b ∷ bytes) within covers = refl
known_more (suc i) (true ∷ touched) (b ∷ bytes) within covers = ap (λ (l : List (Option ℕ)). None ∷ l) (known_more i touched bytes (omega (arith, within)) (omega (arith, covers)))
known_more (suc i) (false ∷ touched) (b ∷ bytes) within covers = ap (λ (l : List (Option ℕ)). Some b ∷ l) (known_more i touched bytes (omega (arith, within)) (omega (arith, covers)))

agrees_push : (known : List (Option ℕ)) (image : List ℕ) (is_touched : Bool) (choice byte left : ℕ) → Agrees known image → length known ≡ length image → IsLeft is_touched choice byte left → Agrees (known ++ place_of is_touched byte ∷ []) (image ++ left ∷ [])
agrees_push [] [] true choice byte left agrees same is = tt
agrees_push [] [] false choice byte left agrees same is = (is, tt)
agrees_push [] (b ∷ image) t choice byte left agrees same is = absurd (omega (arith, same))
agrees_push (k ∷ known) [] t choice byte left agrees same is = absurd agrees
agrees_push (None ∷ known) (b ∷ image) t choice byte left agrees same is = agrees_push known image t choice byte left agrees (omega (arith, same)) is
agrees_push (Some s ∷ known) (b ∷ image) t choice byte left agrees same is = (agrees.0, agrees_push known image t choice byte left agrees.1 (omega (arith, same)) is)

zeros_push : (known : List (Option ℕ)) (is_touched : Bool) (choice byte left : ℕ) → choice ≡ 1 → IsLeft is_touched choice byte left → with_zeros (known ++ place_of is_touched byte ∷ []) ≡ with_zeros known ++ left ∷ []
zeros_push [] true choice byte left one is = ap (λ (n : ℕ). n ∷ []) (sym (is one))
zeros_push [] false choice byte left one is = ap (λ (n : ℕ). n ∷ []) (sym is)
zeros_push (None ∷ known) t choice byte left one is = ap (λ (l : List ℕ). 0 ∷ l) (zeros_push known t choice byte left one is)
zeros_push (Some s ∷ known) t choice byte left one is = ap (λ (l : List ℕ). s ∷ l) (zeros_push known t choice byte left one is)

pub length_known : (touched : List Bool) (bytes : List ℕ) → length touched ≤ length bytes → length (known_of touched bytes) ≡ length touched
length_known [] bytes covers = refl
length_known (t ∷ touched) [] covers = absurd (omega (arith, covers))
length_known (true ∷ touched) (b ∷ bytes) covers = omega (arith, length_known touched bytes (omega (arith, covers)))
length_known (false ∷ touched) (b ∷ bytes) covers = omega (arith, length_known touched bytes (omega (arith, covers)))

length_known_take : (i : ℕ) (touched : List Bool) (bytes : List ℕ) → i ≤ length touched → length touched ≤ length bytes → length (known_of (take i touched) bytes) ≡ i
length_known_take zero touched bytes within covers = refl
length_known_take (suc i) [] bytes within covers = absurd (omega (arith, within))
length_known_take (suc i) (t ∷ touched) [] within covers = absurd (omega (arith, covers))
length_known_take (suc i) (true ∷ touched) (b ∷ bytes) within covers = omega (arith, length_known_take i touched bytes (omega (arith, within)) (omega (arith, covers)))
length_known_take (suc i) (false ∷ touched) (b ∷ bytes) within covers = omega (arith, length_known_take i touched bytes (omega (arith, within)) (omega (arith, covers)))

module _ (i : ℕ) (touched : List Bool) (bytes image next : List ℕ) (choice left : ℕ) (within : i < length touched) (covers : length touched ≤ length bytes) (is : next ≡ image ++ left ∷ []) (is_left : IsLeft (get_or touched i false) choice (get_or bytes i 0) left) where
  known_is : known_of (take (i + 1) touched) bytes ≡ known_of (take i touched) bytes ++ place_of (get_or touched i false) (get_or bytes i 0) ∷ []
  known_is = ap (λ (n : ℕ). known_of (take n touched) bytes) (let e : i + 1 ≡ suc i = omega arith in e) ∙ known_more i touched bytes within covers

  pub step_agrees : Agrees (known_of (take i touched) bytes) image → length image ≡ i → Agrees (known_of (take (i + 1) touched) bytes) next
  step_agrees agrees long =
      let more = agrees_push (known_of (take i touched) bytes) image (get_or touched i false) choice (get_or bytes i 0) left agrees (length_known_take i touched bytes (omega (arith, within)) covers ∙ sym long) is_left in
      subst (λ (l : List ℕ). Agrees (known_of (take (i + 1) touched) bytes) l) (sym is) (subst (λ (known : List (Option ℕ)). Agrees known (image ++ left ∷ [])) (sym known_is) more)

  pub step_stable : choice ≡ 1 → image ≡ with_zeros (known_of (take i touched) bytes) → next ≡ with_zeros (known_of (take (i + 1) touched) bytes)
  step_stable one so_far =
      is ∙ ap (λ (l : List ℕ). l ++ left ∷ []) so_far
      ∙ sym (zeros_push (known_of (take i touched) bytes) (get_or touched i false) choice (get_or bytes i 0) left one is_left)
      ∙ ap with_zeros (sym known_is)

-- behind the known bytes there may be any
pub agrees_more : (known : List (Option ℕ)) (image more : List ℕ) → Agrees known image → Agrees known (image ++ more)
agrees_more [] image more agrees = tt
agrees_more (k ∷ known) [] more agrees = absurd agrees
agrees_more (None ∷ known) (b ∷ image) more agrees = agrees_more known image more agrees
agrees_more (Some s ∷ known) (b ∷ image) more agrees = (agrees.0, agrees_more known image more agrees.1)

replicate_push : (n : ℕ) → replicate {A = ℕ} (suc n) 0 ≡ replicate n 0 ++ 0 ∷ []
replicate_push zero = refl
replicate_push (suc n) = ap (λ (l : List ℕ). 0 ∷ l) (replicate_push n)

pub more_zeros : (front image next : List ℕ) (place size left : ℕ) → size ≤ place → next ≡ image ++ left ∷ [] → left ≡ 0 → image ≡ front ++ replicate (place - size) 0 → next ≡ front ++ replicate (place + 1 - size) 0
more_zeros front image next place size left beyond is zero_is so_far =
    is ∙ ap (λ (n : ℕ). image ++ n ∷ []) zero_is
    ∙ ap (λ (l : List ℕ). l ++ 0 ∷ []) so_far
    ∙ append_assoc front (replicate (place - size) 0) (0 ∷ [])
    ∙ ap (λ (l : List ℕ). front ++ l) (sym (replicate_push (place - size)))
    ∙ ap (λ (n : ℕ). front ++ replicate n 0) (let e : suc (place - size) ≡ place + 1 - size = omega (arith, beyond) in e)

pub stable_whole : (known : List (Option ℕ)) (size greatest length_known : ℕ) (image : List ℕ) → length known ≡ length_known → image ≡ with_zeros known ++ replicate (size - length_known) 0 → size ≡ greatest → image ≡ with_zeros known ++ replicate (greatest - length known) 0
stable_whole known size greatest length_known image same is all =
    is ∙ ap (λ (n : ℕ). with_zeros known ++ replicate (n - length_known) 0) all ∙ ap (λ (n : ℕ). with_zeros known ++ replicate (greatest - n) 0) (sym same)
