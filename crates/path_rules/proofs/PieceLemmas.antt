-- The first piece of some bytes, by the place of their first slash.
use Rattle.std.proofs.Common.{◌≡◌, ◌==◌, ℕ, ◌+◌, ◌-◌, ◌<◌, ◌≤◌, Bool, cond, nat_lt, List, [], ◌∷◌, length, take, drop, Some, None, inl, inr, refl, sym, ap, ◌∙◌, arith, position, length-drop}
use Rattle.std.proofs.lemmas.Bool.{cases_lt, lt-ltb, le-ltb, cases_Bool}
use Rattle.std.proofs.lemmas.List.{take_all}
use Rattle.std.proofs.lemmas.List.Splits.{slice_split_first}
use Rattle.std.specs.List.{slice_split, onto_first, position_or_len}
use Rattle.send_model.specs.Path.{between_slashes}
use Rattle.send_model.proofs.PathLaws.{between_slashes-split}

found_below : (n m place : ℕ) → n < m → cond (nat_lt n m) (Some n) None ≡ Some place → (n < m) × (n ≡ place)
found_below n m place below found =
    let same : n ≡ place = cc (ap (λ (t : Bool). cond t (Some n) None) (lt-ltb n m below), found) in (below, same)

none_above : (n m place : ℕ) → m ≤ n → cond (nat_lt n m) (Some n) None ≡ Some place → ⊥
none_above n m place above found = cc (ap (λ (t : Bool). cond t (Some n) None) (le-ltb n m above), found)

found_at : (n m place : ℕ) → cond (nat_lt n m) (Some n) None ≡ Some place → (n < m) × (n ≡ place)
found_at n m place found =
    elim (cases_lt n m) [
      | inl below ↦ found_below n m place below found
      | inr above ↦ absurd (none_above n m place above found)
    ]

pub slash_at : (bytes : List ℕ) (place : ℕ) → position (λ b. b == 47) bytes ≡ Some place →
    between_slashes bytes ≡ take place bytes ∷ between_slashes (take (length bytes - (place + 1)) (drop (place + 1) bytes))
slash_at bytes place found =
    let first : (position_or_len (λ b. b == 47) bytes < length bytes) × (position_or_len (λ b. b == 47) bytes ≡ place) =
    found_at (position_or_len (λ b. b == 47) bytes) (length bytes) place found
    in
    between_slashes-split bytes
    ∙ slice_split_first (λ b. b == 47) bytes 0 first.0
    ∙ ap (λ (n : ℕ). take n bytes ∷ slice_split (λ b. b == 47) (drop (n + 1) bytes)) first.1
    ∙ ap (λ (rest : List (List ℕ)). take place bytes ∷ rest) (sym (between_slashes-split (drop (place + 1) bytes)))
    ∙ ap (λ (rest : List ℕ). take place bytes ∷ between_slashes rest)
    (sym (take_all (length bytes - (place + 1)) (drop (place + 1) bytes) (omega (arith, length-drop (place + 1) bytes))))

one_part : (p : ℕ → Bool) (bytes : List ℕ) → length bytes ≤ position_or_len p bytes → slice_split p bytes ≡ bytes ∷ []
one_part p [] past = refl
one_part p (b ∷ bytes) past =
    elim (cases_Bool (p b)) [
      | inl cut ↦ absurd (let none : length (b ∷ bytes) ≤ 0 = rw cut at past in omega arith)
      | inr uncut ↦ let others : length (b ∷ bytes) ≤ 1 + position_or_len p bytes = rw uncut at past in
          rw uncut (ap (onto_first b) (one_part p bytes (omega arith)))
    ]

pub no_slash : (bytes : List ℕ) → position (λ b. b == 47) bytes ≡ None → between_slashes bytes ≡ bytes ∷ []
no_slash bytes none =
    elim (cases_lt (position_or_len (λ b. b == 47) bytes) (length bytes)) [
      | inl below ↦ absurd (let some : Some (position_or_len (λ b. b == 47) bytes) ≡ None =
          rw (lt-ltb (position_or_len (λ b. b == 47) bytes) (length bytes) below) at none in cc)
      | inr past ↦ between_slashes-split bytes ∙ one_part (λ b. b == 47) bytes past
    ]
