-- The checksum of a frame that goes on from another, by the checksum that the frame has.
use Rattle.std.proofs.Common.{◌≡◌, ℕ, ◌+◌, ◌*◌, ◌^◌, ◌<◌, List, [], ◌∷◌, ◌++◌, length, take, drop, get_or, bit_xor, refl, sym, ap, subst, ◌∙◌, arith}
use Rattle.std.specs.Int.{w16, w32, to_le_bytes}
use Rattle.std.proofs.lemmas.Nat.{xor_comm}
use Rattle.std.specs.Int.Bits.{xor_assoc, xor_self, xor_zero_l}
use Rattle.send_model.specs.Attribute.{IsBytes}
use Rattle.send_model.specs.Checksum.{shifts, crc_of}
use Rattle.send_model.specs.Spelling.{frame_checksum, frame_of}
use Rattle.send_model.proofs.ElementLaws.{all_drop}
use Rattle.group_replay.specs.Sums.{IsSummed}
use Rattle.send_model.proofs.ChecksumLaws.{shifts-xor, crc_of-append, crc_of-split}
use Rattle.send_model.proofs.Canonical.{checksum_small}

-- what is taken twice falls out
twice_out : (a b z : ℕ) → bit_xor (bit_xor b z) (bit_xor a b) ≡ bit_xor a z
twice_out a b z =
    ap (λ (n : ℕ). bit_xor n (bit_xor a b)) (xor_comm b z)
    ∙ xor_assoc z b (bit_xor a b)
    ∙ ap (λ (n : ℕ). bit_xor z (bit_xor b n)) (xor_comm a b)
    ∙ ap (bit_xor z) (sym (xor_assoc b b a) ∙ ap (λ (n : ℕ). bit_xor n a) (xor_self b) ∙ xor_zero_l a)
    ∙ xor_comm z a

module _ (sum number : ℕ) (body : List ℕ) where
  abbrev frame : List ℕ
  frame = frame_of number body

  abbrev own : ℕ
  own = frame_checksum (length body) number body

  abbrev first : ℕ
  first = crc_of (crc_of 0 (take 6 (take 10 frame))) (0 ∷ 0 ∷ 0 ∷ 0 ∷ [])

  parted : crc_of sum frame ≡ crc_of (crc_of sum (take 10 frame)) body
  unfolding frame_of
  parted = crc_of-append sum (take 10 frame) body

  own_is : own ≡ crc_of first body
  unfolding frame_of frame_checksum
  own_is = crc_of-append 0 (to_le_bytes w32 (length body) ++ to_le_bytes w16 number ++ to_le_bytes w32 0) body ∙ ap (λ (n : ℕ). crc_of n body) (crc_of-append 0 (take 6 (take 10 frame)) (0 ∷ 0 ∷ 0 ∷ 0 ∷ []))

  pub past_frame : bit_xor own (shifts (8 * length body) (bit_xor (crc_of sum (take 10 frame)) first)) ≡ crc_of sum frame
  past_frame =
      let a : ℕ = shifts (8 * length body) (crc_of sum (take 10 frame)) in
      let b : ℕ = shifts (8 * length body) first in
      let z : ℕ = crc_of 0 body in
      (λ i. bit_xor ((own_is ∙ crc_of-split first body) i) (shifts-xor (8 * length body) (crc_of sum (take 10 frame)) first i))
      ∙ twice_out a b z
      ∙ sym (parted ∙ crc_of-split (crc_of sum (take 10 frame)) body)

  pub body_there : drop 10 frame ≡ body
  unfolding frame_of
  body_there = refl

  pub own_there : own < 2 ^ 32 → get_or (take 10 frame) 6 0 + get_or (take 10 frame) 7 0 * 256 + get_or (take 10 frame) 8 0 * 65_536 + get_or (take 10 frame) 9 0 * 16_777_216 ≡ own
  unfolding frame_of
  own_there small = omega (arith, small)

-- The same as the code has it: a frame in two parts, and the numbers that it takes of them.
module _ (sum : ℕ) (bytes front back : List ℕ) (whole : IsSummed bytes) (front_is : front ≡ take 10 bytes) (back_is : back ≡ drop 10 bytes) where
  head_is : front ≡ take 10 (frame_of whole.number whole.body)
  head_is = front_is ∙ ap (take 10) whole.spelled

  body_is : back ≡ whole.body
  body_is = back_is ∙ ap (drop 10) whole.spelled ∙ body_there sum whole.number whole.body

  pub short_body : length back < 2 ^ 19
  short_body = let short = whole.short in omega (arith, short, ap length body_is)

  pub past_whole : (stored start bare past : ℕ) → IsBytes bytes
      → stored ≡ get_or front 6 0 + get_or front 7 0 * 256 + get_or front 8 0 * 65_536 + get_or front 9 0 * 16_777_216
      → start ≡ crc_of 0 (take 6 front) → bare ≡ crc_of start (0 ∷ 0 ∷ 0 ∷ 0 ∷ []) → past ≡ crc_of sum front
      → bit_xor stored (shifts (8 * length back) (bit_xor past bare)) ≡ crc_of sum bytes
  past_whole stored start bare past are_bytes stored_is start_is bare_is past_is =
      let small : frame_checksum (length whole.body) whole.number whole.body < 2 ^ 32 =
      checksum_small whole.number whole.body (subst IsBytes (sym back_is ∙ body_is) (all_drop _ 10 bytes are_bytes)) in
      (λ i. bit_xor
      ((stored_is ∙ ap (λ (h : List ℕ). get_or h 6 0 + get_or h 7 0 * 256 + get_or h 8 0 * 65_536 + get_or h 9 0 * 16_777_216) head_is ∙ own_there sum whole.number whole.body small) i)
      (shifts (8 * length (body_is i)) (bit_xor
      ((past_is ∙ ap (crc_of sum) head_is) i)
      ((bare_is ∙ ap (λ (n : ℕ). crc_of n (0 ∷ 0 ∷ 0 ∷ 0 ∷ [])) (start_is ∙ ap (λ (h : List ℕ). crc_of 0 (take 6 h)) head_is)) i))))
      ∙ past_frame sum whole.number whole.body
      ∙ ap (crc_of sum) (sym whole.spelled)
