-- The name that a detour takes, as a loop looks for it.
use Rattle.std.specs.Prelude.{◌≡◌, ℕ, suc, ◌+◌, ◌-◌, ◌<◌, ◌≤◌, length, Option, None, Some, is_some, if◌then◌else◌}
use Rattle.std.proofs.Common.{ap, ◌∙◌, arith}
use Rattle.send_model.specs.Subvolume.{Subvolume, root, named}
use Rattle.send_model.specs.Separated.{own_name, free_from, free_name}

module _ {C : Type 0} (s : Subvolume C) where
  pub from_first : (most : ℕ) → most ≡ length s.names → free_name s ≡ free_from (most - 0) 0 s
  unfolding free_name
  from_first most e = let left : length s.names ≡ most - 0 = omega (arith, e) in ap (λ (k : ℕ). free_from k 0 s) left

  next_one : (k number : ℕ) (o : Option ℕ) → named s root (own_name number) ≡ o → free_from (suc k) number s ≡ (if is_some o then free_from k (number + 1) s else own_name number)
  unfolding free_from
  next_one k number o e = ap (λ (x : Option ℕ). if is_some x then free_from k (number + 1) s else own_name number) e

  -- The name of this number is taken.
  pub goes_on : (most number ino : ℕ) → number < most → named s root (own_name number) ≡ Some ino → free_from (most - number) number s ≡ free_from (most - (number + 1)) (number + 1) s
  goes_on most number ino less there =
      let left : most - number ≡ suc (most - (number + 1)) = omega (arith, less) in
      ap (λ (k : ℕ). free_from k number s) left ∙ next_one (most - (number + 1)) number (Some ino) there

  -- It is free.
  pub is_free : (most number : ℕ) → number < most → named s root (own_name number) ≡ None → free_from (most - number) number s ≡ own_name number
  is_free most number less free =
      let left : most - number ≡ suc (most - (number + 1)) = omega (arith, less) in
      ap (λ (k : ℕ). free_from k number s) left ∙ next_one (most - (number + 1)) number None free

  -- It is the last one.
  pub is_last : (most number : ℕ) → most ≤ number → free_from (most - number) number s ≡ own_name number
  unfolding free_from
  is_last most number over = let left : most - number ≡ 0 = omega (arith, over) in ap (λ (k : ℕ). free_from k number s) left
