-- A chain of tests, each of which may refuse: the first refusal is the answer. This program's own.
use Rattle.std.specs.Prelude.{Bool, true, false, Result, Ok, Err, Option, None, Some}
use Rattle.send_model.specs.Refusal.{Refusal}

-- x ← test; what follows
infixl 10 ◌>>=◌
abbrev pub ◌>>=◌ : {A B : Type 0} → Result A Refusal → (A → Result B Refusal) → Result B Refusal
(Ok x) >>= f = f x
(Err e) >>= f = Err e

-- test; what follows
infixl 10 ◌>>◌
abbrev pub ◌>>◌ : {B : Type 0} → Result (Unit {0}) Refusal → Result B Refusal → Result B Refusal
(Ok x) >> rest = rest
(Err e) >> rest = Err e

-- the refusal, unless the test passes
abbrev pub require : Bool → Refusal → Result (Unit {0}) Refusal
require true refusal = Ok tt
require false refusal = Err refusal

-- the refusal, if the test passes
abbrev pub refuse_if : Bool → Refusal → Result (Unit {0}) Refusal
refuse_if true refusal = Err refusal
refuse_if false refusal = Ok tt

-- the value, or the refusal where there is none
abbrev pub found : {A : Type 0} → Option A → Refusal → Result A Refusal
found None refusal = Err refusal
found (Some x) refusal = Ok x
