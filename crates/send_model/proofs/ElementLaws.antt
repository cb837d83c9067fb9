-- What holds of all elements of lists holds of the joined list, and of its parts.
use Rattle.std.specs.Prelude.{ℕ, zero, suc, List, [], ◌∷◌, ◌++◌, take, drop}
use Rattle.std.specs.List.{AllByRecursion}

module _ {A : Type 0} (P : A → Type 0) where
  pub all_both : (xs ys : List A) → AllByRecursion P xs → AllByRecursion P ys → AllByRecursion P (xs ++ ys)
  all_both [] ys a b = b
  all_both (x ∷ xs) ys a b = (a.0, all_both xs ys a.1 b)

  pub all_first : (xs ys : List A) → AllByRecursion P (xs ++ ys) → AllByRecursion P xs
  all_first [] ys a = tt
  all_first (x ∷ xs) ys a = (a.0, all_first xs ys a.1)

  pub all_rest : (xs ys : List A) → AllByRecursion P (xs ++ ys) → AllByRecursion P ys
  all_rest [] ys a = a
  all_rest (x ∷ xs) ys a = all_rest xs ys a.1

  pub all_take : (n : ℕ) (xs : List A) → AllByRecursion P xs → AllByRecursion P (take n xs)
  all_take zero xs a = tt
  all_take (suc n) [] a = tt
  all_take (suc n) (x ∷ xs) a = (a.0, all_take n xs a.1)

  pub all_drop : (n : ℕ) (xs : List A) → AllByRecursion P xs → AllByRecursion P (drop n xs)
  all_drop zero xs a = a
  all_drop (suc n) [] a = tt
  all_drop (suc n) (x ∷ xs) a = all_drop n xs a.1
