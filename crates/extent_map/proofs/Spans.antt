-- Lists of parts, and the cells of all parts.
use Rattle.std.proofs.Common.{◌≡◌, ℕ, ◌+◌, ◌-◌, ◌<◌, ◌≤◌, List, [], ◌∷◌, ◌++◌, length, take, drop, get_or, length-append, refl, sym, ap, ◌∙◌, arith}
use Rattle.std.proofs.lemmas.List.{append_assoc, take_at, drop_at, take-append-le, drop-append-le, get_or_at}
use Rattle.std.proofs.Math.Seq.{take-append-add, drop-append-add}
use Rattle.std.specs.List.{flat_map, sum_by}
use Rattle.extent_map.specs.Parts.{IsFound}
use Rattle.std.proofs.lemmas.List.Concat.{flat_map-append}
use Rattle.std.proofs.lemmas.List.Sums.{sum_by-append, sum_by-cons}

-- the parts before one, and those after it
module _ {A : Type 0} (parts before : List A) (part : A) (after : List A) (index : ℕ) (all : parts ≡ before ++ part ∷ after) (count : length before ≡ index) where
  pub before_is : take index parts ≡ before
  before_is = ap (take index) all ∙ take_at before (part ∷ after) index count

  pub from_is : drop index parts ≡ part ∷ after
  from_is = ap (drop index) all ∙ drop_at before (part ∷ after) index count

  pub after_is : drop (index + 1) parts ≡ after
  after_is =
      ap (drop (index + 1)) (all ∙ sym (append_assoc before (part ∷ []) after))
      ∙ drop_at (before ++ part ∷ []) after (index + 1) (omega (arith, length-append before (part ∷ []), count))

  pub below : index < length parts
  below = omega (arith, ap length all, length-append before (part ∷ after), count)

-- the cells up to a place in a part, and those from there on
module _ {A C : Type 0} (cells : A → List C) (before : List A) (part : A) (after : List A) (k : ℕ) (h : k ≤ length (cells part)) where
  pub take_within : take (length (flat_map cells before) + k) (flat_map cells (before ++ part ∷ after)) ≡ flat_map cells before ++ take k (cells part)
  take_within =
      ap (take (length (flat_map cells before) + k)) (flat_map-append cells before (part ∷ after))
      ∙ take-append-add (flat_map cells before) (cells part ++ flat_map cells after) k
      ∙ ap (λ l. flat_map cells before ++ l) (take-append-le k (cells part) (flat_map cells after) h)

  pub drop_within : drop (length (flat_map cells before) + k) (flat_map cells (before ++ part ∷ after)) ≡ drop k (cells part) ++ flat_map cells after
  drop_within =
      ap (drop (length (flat_map cells before) + k)) (flat_map-append cells before (part ∷ after))
      ∙ drop-append-add (flat_map cells before) (cells part ++ flat_map cells after) k
      ∙ drop-append-le k (cells part) (flat_map cells after) h

-- the same where a part was found
module _ {A C : Type 0} (cells : A → List C) (span : A → ℕ) (spanned : (x : A) → length (cells x) ≡ span x) where
  pub length-all : (xs : List A) → length (flat_map cells xs) ≡ sum_by span xs
  length-all [] = refl
  length-all (x ∷ xs) = omega (arith, length-append (cells x) (flat_map cells xs), length-all xs, spanned x, sum_by-cons span x xs)

  module _ (parts before : List A) (part : A) (after : List A) (at start : ℕ) (all : parts ≡ before ++ part ∷ after) (begins : sum_by span before ≡ start) (from : start ≤ at) (to : at ≤ start + span part) where
    pub take_found : take at (flat_map cells parts) ≡ flat_map cells before ++ take (at - start) (cells part)
    take_found =
        let e : at ≡ length (flat_map cells before) + (at - start) = omega (arith, length-all before, begins, from) in
        ap (λ n. take n (flat_map cells parts)) e
        ∙ ap (λ l. take (length (flat_map cells before) + (at - start)) (flat_map cells l)) all
        ∙ take_within cells before part after (at - start) (omega (arith, spanned part, from, to))

    pub drop_found : drop at (flat_map cells parts) ≡ drop (at - start) (cells part) ++ flat_map cells after
    drop_found =
        let e : at ≡ length (flat_map cells before) + (at - start) = omega (arith, length-all before, begins, from) in
        ap (λ n. drop n (flat_map cells parts)) e
        ∙ ap (λ l. drop (length (flat_map cells before) + (at - start)) (flat_map cells l)) all
        ∙ drop_within cells before part after (at - start) (omega (arith, spanned part, from, to))

-- a part that was found
module _ {A : Type 0} (span : A → ℕ) (parts : List A) (at index start : ℕ) (f : IsFound span parts at index start) where
  pub found_sum : start + span f.part + sum_by span f.after ≡ sum_by span parts
  found_sum =
      omega (arith, f.begins, ap (sum_by span) f.all, sum_by-append span f.before (f.part ∷ f.after), sum_by-cons span f.part f.after)

  pub found_part : (x : A) → x ≡ get_or parts index x → x ≡ f.part
  found_part x is = is ∙ ap (λ l. get_or l index x) f.all ∙ get_or_at f.before f.part f.after x index f.count

  pub found_before : take index parts ≡ f.before
  found_before = before_is parts f.before f.part f.after index f.all f.count

  pub found_from : drop index parts ≡ f.part ∷ f.after
  found_from = from_is parts f.before f.part f.after index f.all f.count

  pub found_after : drop (index + 1) parts ≡ f.after
  found_after = after_is parts f.before f.part f.after index f.all f.count

  pub found_below : index < length parts
  found_below = below parts f.before f.part f.after index f.all f.count
