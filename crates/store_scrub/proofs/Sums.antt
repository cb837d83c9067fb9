-- Checksums of bytes that stand at a place.
use Rattle.std.specs.Prelude.{◌≡◌, ℕ, ◌+◌, ◌-◌, ◌<◌, ◌≤◌, List, [], ◌∷◌, ◌++◌, length, take, drop, get_or}
use Rattle.std.proofs.Common.{refl, sym, ap, ◌∙◌, arith, length-drop}
use Rattle.std.proofs.lemmas.List.{drop-drop, drop-take, get_or-take, length-take-le, take-take}
use Rattle.std.proofs.Math.Seq.{take-add}
use Rattle.send_model.specs.Checksum.{crc_of}
use Rattle.send_model.proofs.ChecksumLaws.{crc_of-append}

-- what was summed from a place on, and the next bytes
pub sum_join : (from at : ℕ) (seen : List ℕ) → from ≤ at → (start sum used : ℕ) → sum ≡ crc_of start (take (at - from) (drop from seen)) → crc_of sum (take used (drop at seen)) ≡ crc_of start (take (at + used - from) (drop from seen))
sum_join from at seen begun start sum used is =
    let here : drop (at - from) (drop from seen) ≡ drop at seen = drop-drop (at - from) from seen ∙ ap (λ (n : ℕ). drop n seen) (omega (arith, begun)) in
    let all : take (at + used - from) (drop from seen) ≡ take (at - from) (drop from seen) ++ take used (drop at seen) =
    ap (λ (n : ℕ). take n (drop from seen)) (let e : at + used - from ≡ (at - from) + used = omega (arith, begun) in e)
    ∙ take-add (at - from) used (drop from seen) ∙ ap (λ (l : List ℕ). take (at - from) (drop from seen) ++ take used l) here in
    ap (λ (n : ℕ). crc_of n (take used (drop at seen))) is ∙ sym (crc_of-append start (take (at - from) (drop from seen)) (take used (drop at seen))) ∙ ap (crc_of start) (sym all)

module _ (seen : List ℕ) (at len : ℕ) (within : at + len ≤ length seen) where
  abbrev pub body : List ℕ
  body = take len (drop at seen)

  pub body_size : length body ≡ len
  body_size = length-take-le len (drop at seen) (omega (arith, within, length-drop at seen))

  -- the last four bytes of a body
  pub seal_is : (end : ℕ) → end ≡ at + len - 4 → 4 < len → take 4 (drop end seen) ≡ drop (len - 4) body
  seal_is end is long =
      ap (λ (n : ℕ). take 4 (drop n seen)) (let e : end ≡ at + (len - 4) = omega (arith, is, long) in e)
      ∙ ap (λ (l : List ℕ). take 4 l) (sym (drop-drop (len - 4) at seen))
      ∙ sym (drop-take (len - 4) 4 (drop at seen))
      ∙ ap (λ (n : ℕ). drop (len - 4) (take n (drop at seen))) (let e : (len - 4) + 4 ≡ len = omega (arith, long) in e)

  -- the first byte of what was read, and of the body
  pub first_is : (buffer other : List ℕ) → buffer ≡ take (length buffer) (drop at seen) → 1 ≤ length buffer → 0 < len → get_or (buffer ++ other) 0 0 ≡ get_or body 0 0
  first_is buffer other is some long =
      front buffer other some
      ∙ ap (λ (l : List ℕ). get_or l 0 0) is
      ∙ get_or-take (length buffer) (drop at seen) 0 0 (omega (arith, some))
      ∙ sym (get_or-take len (drop at seen) 0 0 long)
    where
      front : (buffer other : List ℕ) → 1 ≤ length buffer → get_or (buffer ++ other) 0 0 ≡ get_or buffer 0 0
      front [] other some = absurd (omega (arith, some))
      front (b ∷ buffer) other some = refl

  -- the checksum of a body without its last four bytes, begun with what was read of it
  pub body_sum : (buffer : List ℕ) (sum begun end : ℕ) → buffer ≡ take (length buffer) (drop at seen) → begun ≡ at + length buffer → end ≡ at + len - 4 → begun ≤ end → 4 < len → sum ≡ crc_of 0 buffer → crc_of sum (take (end - begun) (drop begun seen)) ≡ crc_of 0 (take (len - 4) body)
  body_sum buffer sum begun end read begun_is end_is fits long sum_is =
      sum_join at begun seen (omega (arith, begun_is)) 0 sum (end - begun)
      (sum_is ∙ ap (crc_of 0) (read ∙ ap (λ (n : ℕ). take n (drop at seen)) (let e : length buffer ≡ begun - at = omega (arith, begun_is) in e)))
      ∙ ap (λ (n : ℕ). crc_of 0 (take n (drop at seen))) (let e : begun + (end - begun) - at ≡ len - 4 = omega (arith, end_is, fits, long) in e)
      ∙ ap (crc_of 0) (sym (take-take (len - 4) len (drop at seen) (omega arith)))
