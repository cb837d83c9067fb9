-- Chains of tests, test by test, from what each test gives.
use Rattle.std.specs.Prelude.{◌≡◌, Bool, true, false, Option, None, Some, Result, Ok, Err}
use Rattle.std.proofs.Common.{ap}
use Rattle.send_model.specs.Refusal.{Refusal}
use Rattle.send_model.specs.Chain.{◌>>=◌, ◌>>◌, require, refuse_if, found}

module _ {A B : Type 0} where
  pub goes_on : (x : Result A Refusal) (f : A → Result B Refusal) (a : A) → x ≡ Ok a → (x >>= f) ≡ f a
  goes_on x f a e = ap (λ (y : Result A Refusal). y >>= f) e

  pub stops : (x : Result A Refusal) (f : A → Result B Refusal) (refusal : Refusal) → x ≡ Err refusal → (x >>= f) ≡ Err refusal
  stops x f refusal e = ap (λ (y : Result A Refusal). y >>= f) e

  pub finds : (o : Option A) (refusal : Refusal) (f : A → Result B Refusal) (a : A) → o ≡ Some a → (found o refusal >>= f) ≡ f a
  finds o refusal f a e = ap (λ (y : Option A). found y refusal >>= f) e

  pub misses : (o : Option A) (refusal : Refusal) (f : A → Result B Refusal) → o ≡ None → (found o refusal >>= f) ≡ Err refusal
  misses o refusal f e = ap (λ (y : Option A). found y refusal >>= f) e

module _ {B : Type 0} where
  pub passes : (b : Bool) (refusal : Refusal) (x : Result B Refusal) → b ≡ true → (require b refusal >> x) ≡ x
  passes b refusal x e = ap (λ (y : Bool). require y refusal >> x) e

  pub fails : (b : Bool) (refusal : Refusal) (x : Result B Refusal) → b ≡ false → (require b refusal >> x) ≡ Err refusal
  fails b refusal x e = ap (λ (y : Bool). require y refusal >> x) e

  pub spares : (b : Bool) (refusal : Refusal) (x : Result B Refusal) → b ≡ false → (refuse_if b refusal >> x) ≡ x
  spares b refusal x e = ap (λ (y : Bool). refuse_if y refusal >> x) e

  pub refuses : (b : Bool) (refusal : Refusal) (x : Result B Refusal) → b ≡ true → (refuse_if b refusal >> x) ≡ Err refusal
  refuses b refusal x e = ap (λ (y : Bool). refuse_if y refusal >> x) e
