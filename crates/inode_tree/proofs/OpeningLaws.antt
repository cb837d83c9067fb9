-- The first bytes of two lists as numbers compare as the lists do.
use Rattle.std.specs.Prelude.{◌≡◌, ℕ, zero, suc, ◌+◌, ◌*◌, ◌<◌, ◌≤◌, ◌-◌, List, [], ◌∷◌, ◌++◌, length, take, drop, replicate, ◌⊎◌}
use Rattle.std.specs.Int.{w64, from_be_bytes}
use Rattle.std.specs.declared.cmp.Ordering.{Ordering}
use Rattle.std.specs.declared.cmp.Ordering.TheVariants.{Less, Equal, Greater}
use Rattle.std.specs.Ordering.{nat_cmp, ordering_then, ordering_reverse}
use Rattle.std.specs.Cmp.{ranked, nat_cmp_is}
use Rattle.std.proofs.Common.{refl, sym, ap, subst, ◌∙◌, arith, inl, inr}
use Rattle.std.proofs.lemmas.Bool.{cases_lt}
use Rattle.std.proofs.lemmas.Cmp.{nat_list_cmp_total}
use Rattle.std.proofs.lemmas.List.{get_or_past, get_or_append_left, get_or-append_right, get_or-drop, get_or-replicate, get_or-take, length-replicate}
use Rattle.std.proofs.Math.Seq.{take-append_seam}
use Rattle.send_model.specs.Map.{bytes_cmp}
use Rattle.inode_tree.specs.Openings.{byte_at, two_at, four_at, eight_at, IsOpened, IsOpening}

-- Two lists have the same bytes from a place on, for so many places.
abbrev pub Agree : List ℕ → List ℕ → ℕ → ℕ → Type 0
Agree a b from count = (place : ℕ) → from ≤ place → place < from + count → byte_at a place ≡ byte_at b place

-- Within so many places from one on, the first bytes that differ are less in the one list than in
-- the other.
pub record Below (a b : List ℕ) (from count : ℕ) : Type 0 where
  pub at : ℕ
  pub after : from ≤ at
  pub before : at < from + count
  pub same : (place : ℕ) → from ≤ place → place < at → byte_at a place ≡ byte_at b place
  pub less : byte_at a at < byte_at b at

-- ---- all eight bytes, or none

-- Eight bytes that are there, read at once.
pub eight_read : (bytes : List ℕ) (place n : ℕ)
    → n ≡ from_be_bytes w64 (byte_at bytes place ∷ byte_at bytes (place + 1) ∷ byte_at bytes (place + 2) ∷ byte_at bytes (place + 3) ∷ byte_at bytes (place + 4) ∷ byte_at bytes (place + 5) ∷ byte_at bytes (place + 6) ∷ byte_at bytes (place + 7) ∷ [])
    → n ≡ eight_at bytes place
unfolding two_at four_at eight_at
eight_read bytes place n e =
    let third : byte_at bytes (place + 2 + 1) ≡ byte_at bytes (place + 3) = ap (byte_at bytes) (omega arith) in
    let fifth : byte_at bytes (place + 4 + 1) ≡ byte_at bytes (place + 5) = ap (byte_at bytes) (omega arith) in
    let sixth : byte_at bytes (place + 4 + 2) ≡ byte_at bytes (place + 6) = ap (byte_at bytes) (omega arith) in
    let seventh : byte_at bytes (place + 4 + 2 + 1) ≡ byte_at bytes (place + 7) = ap (byte_at bytes) (omega arith) in
    omega arith

-- Behind the end there are none.
pub eight_past : (bytes : List ℕ) (place : ℕ) → length bytes ≤ place → 0 ≡ eight_at bytes place
unfolding two_at four_at eight_at
eight_past bytes place le =
    let past : (p : ℕ) → place ≤ p → byte_at bytes p ≡ 0 = λ p le2. get_or_past bytes p 0 (omega arith) in
    let a = past place (omega arith) in
    let b = past (place + 1) (omega arith) in
    let c = past (place + 2) (omega arith) in
    let d = past (place + 2 + 1) (omega arith) in
    let e = past (place + 4) (omega arith) in
    let f = past (place + 4 + 1) (omega arith) in
    let g = past (place + 4 + 2) (omega arith) in
    let h = past (place + 4 + 2 + 1) (omega arith) in
    omega arith

-- ---- sixteen bytes that stand for a list

module _ (bytes opening : List ℕ) (len : ℕ) (is : IsOpening bytes opening len) where
  opening_at : (place : ℕ) → place ≤ 8 → eight_at opening place ≡ eight_at bytes place
  unfolding two_at four_at eight_at
  opening_at place low =
      let a = is.same place (omega arith) in
      let b = is.same (place + 1) (omega arith) in
      let c = is.same (place + 2) (omega arith) in
      let d = is.same (place + 2 + 1) (omega arith) in
      let e = is.same (place + 4) (omega arith) in
      let f = is.same (place + 4 + 1) (omega arith) in
      let g = is.same (place + 4 + 2) (omega arith) in
      let h = is.same (place + 4 + 2 + 1) (omega arith) in
      omega arith

  pub opened_first : (first : ℕ) → first ≡ eight_at opening 0 → IsOpened bytes first (eight_at bytes 8)
  opened_first first e = record { first_is = e ∙ opening_at 0 (omega arith); next_is = refl; small = is.small }

  pub opened_both : (first next : ℕ) → first ≡ eight_at opening 0 → next ≡ eight_at opening 8 → IsOpened bytes first next
  opened_both first next e f = record { first_is = e ∙ opening_at 0 (omega arith); next_is = f ∙ opening_at 8 (omega arith); small = is.small }

-- Of a long list the first sixteen.
pub long_opening : (bytes opening : List ℕ) → ((place : ℕ) → byte_at bytes place < 256) → opening ≡ take 16 bytes → IsOpening bytes opening 0
long_opening bytes opening small e = record {
  same = λ place low. ap (λ (o : List ℕ). byte_at o place) e ∙ get_or-take 16 bytes place 0 low;
  small = small;
  fits = omega arith;
}

abbrev zeros : ℕ → List ℕ
zeros count = replicate count 0

zero_at : (count place : ℕ) → byte_at (zeros count) place ≡ 0
zero_at count place = elim (cases_lt place count) [
  | inl inside ↦ get_or-replicate count place 0 0 inside
  | inr outside ↦ get_or_past (zeros count) place 0 (let l = length-replicate {A = ℕ} count 0 in omega arith)
]

-- Of a short one all of it, and then zero bytes.
pub short_opening : (bytes opening : List ℕ) (len : ℕ) → ((place : ℕ) → byte_at bytes place < 256) → len ≡ length bytes → length bytes ≤ 16 → opening ≡ bytes ++ drop (length bytes) (zeros 16) → IsOpening bytes opening len
short_opening bytes opening len small is le e = record {
  same = λ place low. ap (λ (o : List ℕ). byte_at o place) e ∙ elim (cases_lt place (length bytes)) [
    | inl inside ↦ get_or_append_left bytes (drop (length bytes) (zeros 16)) 0 place inside
    | inr outside ↦
        get_or-append_right bytes (drop (length bytes) (zeros 16)) (length bytes) place 0 refl outside
        ∙ get_or-drop (length bytes) (zeros 16) (place - length bytes) 0 ∙ zero_at 16 (length bytes + (place - length bytes)) ∙ sym (get_or_past bytes place 0 outside)
  ];
  small = small;
  fits = omega arith;
}

pub short_taken : (bytes opening : List ℕ) (len : ℕ) → len ≡ length bytes → opening ≡ bytes ++ drop (length bytes) (zeros 16) → take len opening ≡ bytes
short_taken bytes opening len is e = ap (λ (n : ℕ). take n opening) is ∙ ap (take (length bytes)) e ∙ take-append_seam bytes (drop (length bytes) (zeros 16))

-- ---- parts

here_below : (a b : List ℕ) (from : ℕ) → byte_at a from < byte_at b from → Below a b from 1
here_below a b from less = record { at = from; after = omega arith; before = omega arith; same = λ place low high. absurd (omega arith); less = less }

here_agree : (a b : List ℕ) (from : ℕ) → byte_at a from ≡ byte_at b from → Agree a b from 1
here_agree a b from same place low high =
    let is : from ≡ place = omega arith in subst (λ (n : ℕ). byte_at a n ≡ byte_at b n) is same

both_agree : (a b : List ℕ) (from m n : ℕ) → Agree a b from m → Agree a b (from + m) n → Agree a b from (m + n)
both_agree a b from m n left right place low high = elim (cases_lt place (from + m)) [
  | inl inside ↦ left place low inside
  | inr outside ↦ right place outside (omega arith)
]

left_below : (a b : List ℕ) (from m n : ℕ) → Below a b from m → Below a b from (m + n)
left_below a b from m n left = let before = left.before in record { at = left.at; after = left.after; before = omega arith; same = left.same; less = left.less }

right_below : (a b : List ℕ) (from m n : ℕ) → Agree a b from m → Below a b (from + m) n → Below a b from (m + n)
right_below a b from m n left right = let after = right.after in let before = right.before in record {
  at = right.at;
  after = omega arith;
  before = omega arith;
  same = λ place low high. elim (cases_lt place (from + m)) [
    | inl inside ↦ left place low inside
    | inr outside ↦ right.same place outside high
  ];
  less = right.less;
}

-- A number of two parts tells what its parts tell.
either : (a b : List ℕ) (from m n x y u v : ℕ) → (x < y → Below a b from m) → (x ≡ y → Agree a b from m) → (u < v → Below a b (from + m) n) → (x < y) ⊎ ((x ≡ y) × (u < v)) → Below a b from (m + n)
either a b from m n x y u v less same later (inl high) = left_below a b from m n (less high)
either a b from m n x y u v less same later (inr low) = right_below a b from m n (same low.0) (later low.1)

module _ (a b : List ℕ) (small_a : (place : ℕ) → byte_at a place < 256) (small_b : (place : ℕ) → byte_at b place < 256) where
  two_small : (bytes : List ℕ) → ((place : ℕ) → byte_at bytes place < 256) → (place : ℕ) → two_at bytes place < 65_536
  unfolding two_at
  two_small bytes small place = let high = small place in let low = small (place + 1) in omega arith

  four_small : (bytes : List ℕ) → ((place : ℕ) → byte_at bytes place < 256) → (place : ℕ) → four_at bytes place < 4_294_967_296
  unfolding four_at
  four_small bytes small place = let high = two_small bytes small place in let low = two_small bytes small (place + 2) in omega arith

  by_byte : (x y u v : ℕ) → u < 256 → v < 256 → x * 256 + u < y * 256 + v → (x < y) ⊎ ((x ≡ y) × (u < v))
  by_byte x y u v p q less = elim (cases_lt x y) [
    | inl high ↦ inl high
    | inr low ↦ inr (omega arith, omega arith)
  ]

  by_two : (x y u v : ℕ) → u < 65_536 → v < 65_536 → x * 65_536 + u < y * 65_536 + v → (x < y) ⊎ ((x ≡ y) × (u < v))
  by_two x y u v p q less = elim (cases_lt x y) [
    | inl high ↦ inl high
    | inr low ↦ inr (omega arith, omega arith)
  ]

  by_four : (x y u v : ℕ) → u < 4_294_967_296 → v < 4_294_967_296 → x * 4_294_967_296 + u < y * 4_294_967_296 + v → (x < y) ⊎ ((x ≡ y) × (u < v))
  by_four x y u v p q less = elim (cases_lt x y) [
    | inl high ↦ inl high
    | inr low ↦ inr (omega arith, omega arith)
  ]

  two_less : (from : ℕ) → two_at a from < two_at b from → Below a b from 2
  unfolding two_at
  two_less from less = either a b from 1 1 (byte_at a from) (byte_at b from) (byte_at a (from + 1)) (byte_at b (from + 1))
      (here_below a b from) (here_agree a b from) (here_below a b (from + 1))
      (by_byte (byte_at a from) (byte_at b from) (byte_at a (from + 1)) (byte_at b (from + 1)) (small_a (from + 1)) (small_b (from + 1)) less)

  two_same : (from : ℕ) → two_at a from ≡ two_at b from → Agree a b from 2
  unfolding two_at
  two_same from same =
      let p = small_a (from + 1) in let q = small_b (from + 1) in
      both_agree a b from 1 1 (here_agree a b from (omega arith)) (here_agree a b (from + 1) (omega arith))

  four_less : (from : ℕ) → four_at a from < four_at b from → Below a b from 4
  unfolding four_at
  four_less from less = either a b from 2 2 (two_at a from) (two_at b from) (two_at a (from + 2)) (two_at b (from + 2))
      (two_less from) (two_same from) (two_less (from + 2))
      (by_two (two_at a from) (two_at b from) (two_at a (from + 2)) (two_at b (from + 2)) (two_small a small_a (from + 2)) (two_small b small_b (from + 2)) less)

  four_same : (from : ℕ) → four_at a from ≡ four_at b from → Agree a b from 4
  unfolding four_at
  four_same from same =
      let p = two_small a small_a (from + 2) in let q = two_small b small_b (from + 2) in
      both_agree a b from 2 2 (two_same from (omega arith)) (two_same (from + 2) (omega arith))

  pub eight_less : (from : ℕ) → eight_at a from < eight_at b from → Below a b from 8
  unfolding eight_at
  eight_less from less = either a b from 4 4 (four_at a from) (four_at b from) (four_at a (from + 4)) (four_at b (from + 4))
      (four_less from) (four_same from) (four_less (from + 4))
      (by_four (four_at a from) (four_at b from) (four_at a (from + 4)) (four_at b (from + 4)) (four_small a small_a (from + 4)) (four_small b small_b (from + 4)) less)

  pub eight_same : (from : ℕ) → eight_at a from ≡ eight_at b from → Agree a b from 8
  unfolding eight_at
  eight_same from same =
      let p = four_small a small_a (from + 4) in let q = four_small b small_b (from + 4) in
      both_agree a b from 4 4 (four_same from (omega arith)) (four_same (from + 4) (omega arith))

-- ---- lists by their first bytes that differ

then_less : (x y : ℕ) (o : Ordering) → x < y → ordering_then (nat_cmp x y) o ≡ Less
then_less x y o less = ap (λ (b : Ordering). ordering_then b o) (sym (nat_cmp_is x y Less less))

then_same : (x y : ℕ) (o : Ordering) → x ≡ y → ordering_then (nat_cmp x y) o ≡ o
then_same x y o same = ap (λ (b : Ordering). ordering_then b o) (sym (nat_cmp_is x y Equal same))

nothing_at : (place : ℕ) → byte_at [] place ≡ 0
nothing_at zero = refl
nothing_at (suc place) = refl

below_less : (place : ℕ) (a b : List ℕ) → ((other : ℕ) → other < place → byte_at a other ≡ byte_at b other) → byte_at a place < byte_at b place → bytes_cmp a b ≡ Less
below_less place [] [] same less = absurd (omega (arith, nothing_at place))
below_less place (x ∷ a) [] same less = absurd (omega (arith, nothing_at place))
below_less place [] (y ∷ b) same less = refl
below_less zero (x ∷ a) (y ∷ b) same less = then_less x y (bytes_cmp a b) less
below_less (suc place) (x ∷ a) (y ∷ b) same less =
    then_same x y (bytes_cmp a b) (same 0 (omega arith)) ∙ below_less place a b (λ other before. same (suc other) (omega arith)) less

pub below_is_less : (a b : List ℕ) (count : ℕ) → Below a b 0 count → bytes_cmp a b ≡ Less
below_is_less a b count below = below_less below.at a b (λ other before. below.same other (omega arith) before) below.less

-- ---- as the code compares

module _ (a b : List ℕ) (first_a next_a first_b next_b : ℕ) (opened_a : IsOpened a first_a next_a) (opened_b : IsOpened b first_b next_b) where
  first_less : first_a < first_b → bytes_cmp a b ≡ Less
  first_less less = below_is_less a b 8 (eight_less a b opened_a.small opened_b.small 0 (let p = opened_a.first_is in let q = opened_b.first_is in omega arith))

  next_less : first_a ≡ first_b → next_a < next_b → bytes_cmp a b ≡ Less
  next_less same less =
      let agree = eight_same a b opened_a.small opened_b.small 0 (sym opened_a.first_is ∙ same ∙ opened_b.first_is) in
      below_is_less a b 16 (right_below a b 0 8 8 agree (eight_less a b opened_a.small opened_b.small 8 (let p = opened_a.next_is in let q = opened_b.next_is in omega arith)))

module _ (a b : List ℕ) (first_a next_a first_b next_b : ℕ) (opened_a : IsOpened a first_a next_a) (opened_b : IsOpened b first_b next_b) where
  -- What the two numbers of two lists tell, is so of the lists.
  pub first_tells : (o : Ordering) → o ≡ nat_cmp first_a first_b → (o ≡ Equal → ⊥) → bytes_cmp a b ≡ o
  first_tells Less e differ = first_less a b first_a next_a first_b next_b opened_a opened_b (ranked first_a first_b Less e)
  first_tells Equal e differ = absurd (differ refl)
  first_tells Greater e differ = nat_list_cmp_total.antisymm a b ∙ ap ordering_reverse (first_less b a first_b next_b first_a next_a opened_b opened_a (ranked first_a first_b Greater e))

  pub next_tells : Equal ≡ nat_cmp first_a first_b → (o : Ordering) → o ≡ nat_cmp next_a next_b → (o ≡ Equal → ⊥) → bytes_cmp a b ≡ o
  next_tells same Less e differ = next_less a b first_a next_a first_b next_b opened_a opened_b (ranked first_a first_b Equal same) (ranked next_a next_b Less e)
  next_tells same Equal e differ = absurd (differ refl)
  next_tells same Greater e differ = nat_list_cmp_total.antisymm a b ∙ ap ordering_reverse (next_less b a first_b next_b first_a next_a opened_b opened_a (sym (ranked first_a first_b Equal same)) (ranked next_a next_b Greater e))
