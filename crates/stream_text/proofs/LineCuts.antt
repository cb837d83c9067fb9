-- Where bytes are cut into lines.
use Rattle.std.specs.Prelude.{◌≡◌, ◌≢◌, ℕ, ◌≤◌, ◌==◌, Bool, true, false, List, [], ◌∷◌, ◌++◌, length, if◌then◌else◌}
use Rattle.std.specs.List.{concat}
use Rattle.std.proofs.Common.{refl, sym, ap, ◌∙◌, arith, eqb-true}
use Rattle.text_model.specs.Packing.{lines_of, onto_first}
use Rattle.stream_text.specs.Lines.{HasNoLine}

other_is : (b : ℕ) → b ≢ 0x0a → (b == 0x0a) ≡ false
other_is b other = one (b == 0x0a) refl
  where
    one : (t : Bool) → (b == 0x0a) ≡ t → t ≡ false
    one true e = absurd (other (eqb-true b 0x0a e))
    one false e = refl

one_more : (b : ℕ) (bytes : List ℕ) → b ≢ 0x0a → lines_of (b ∷ bytes) ≡ onto_first b (lines_of bytes)
unfolding lines_of
one_more b bytes other = ap (λ (t : Bool). if t then (0x0a ∷ []) ∷ lines_of bytes else onto_first b (lines_of bytes)) (other_is b other)

-- A line that ends.
pub cut_here : (body rest : List ℕ) → HasNoLine body → lines_of (body ++ 0x0a ∷ rest) ≡ (body ++ 0x0a ∷ []) ∷ lines_of rest
unfolding lines_of
cut_here [] rest none = refl
cut_here (b ∷ body) rest none = one_more b (body ++ 0x0a ∷ rest) none.0 ∙ ap (onto_first b) (cut_here body rest none.1)

-- The first line of bytes, and how long it is at the least.
pub record HasFirst (bytes : List ℕ) (least : ℕ) : Type 0 where
  pub line : List ℕ
  pub more : List (List ℕ)
  pub cut : lines_of bytes ≡ line ∷ more
  pub long : least ≤ length line

onto_some : (b : ℕ) (bytes : List ℕ) (lines : List (List ℕ)) → b ≢ 0x0a → lines_of bytes ≡ lines → HasFirst (b ∷ bytes) 1
onto_some b bytes [] other e = record { line = b ∷ []; more = []; cut = one_more b bytes other ∙ ap (onto_first b) e; long = omega arith }
onto_some b bytes (l ∷ ls) other e = record { line = b ∷ l; more = ls; cut = one_more b bytes other ∙ ap (onto_first b) e; long = omega arith }

-- A line that is no shorter than what was looked at.
pub long_cut : (b : ℕ) (body rest : List ℕ) → HasNoLine (b ∷ body) → HasFirst (b ∷ (body ++ rest)) (length (b ∷ body))
long_cut b [] rest none = onto_some b rest (lines_of rest) none.0 refl
long_cut b (c ∷ body) rest none =
    let f = long_cut c body rest none.1 in
    record { line = b ∷ f.line; more = f.more; cut = one_more b (c ∷ (body ++ rest)) none.0 ∙ ap (onto_first b) f.cut; long = omega (arith, f.long) }

-- A line without an end.
pub last_cut : (b : ℕ) (body : List ℕ) → HasNoLine (b ∷ body) → lines_of (b ∷ body) ≡ (b ∷ body) ∷ []
unfolding lines_of
last_cut b [] none = one_more b [] none.0
last_cut b (c ∷ body) none = one_more b (c ∷ body) none.0 ∙ ap (onto_first b) (last_cut c body none.1)

-- All lines are all bytes.
onto_joined : (b : ℕ) (lines : List (List ℕ)) → concat (onto_first b lines) ≡ b ∷ concat lines
onto_joined b [] = refl
onto_joined b (l ∷ ls) = refl

pub lines_joined : (bytes : List ℕ) → concat (lines_of bytes) ≡ bytes
unfolding lines_of
lines_joined [] = refl
lines_joined (b ∷ bytes) = one (b == 0x0a) refl (lines_joined bytes)
  where
    one : (t : Bool) → (b == 0x0a) ≡ t → concat (lines_of bytes) ≡ bytes → concat (if t then (0x0a ∷ []) ∷ lines_of bytes else onto_first b (lines_of bytes)) ≡ b ∷ bytes
    one true e rest = λ i. sym (eqb-true b 0x0a e) i ∷ rest i
    one false e rest = onto_joined b (lines_of bytes) ∙ ap (λ (l : List ℕ). b ∷ l) rest
