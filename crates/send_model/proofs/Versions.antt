-- Which versions there are, and what each of them can say: what version 1 can, version 2 can.
use Rattle.std.specs.Prelude.{◌≡◌, ◌⊎◌, ℕ, ◌==◌, Bool, true, false, ◌&&◌, ◌||◌, not, List, [], ◌∷◌, Option, Some, nat_lt, nat_le, if◌then◌else◌}
use Rattle.std.specs.List.{find, list_all}
use Rattle.std.specs.Option.{unwrap_or}
use Rattle.std.proofs.Common.{refl, sym, ap, subst, ◌∙◌, eqb-true, inl, inr, ⊎_elim}
use Rattle.std.proofs.lemmas.Bool.{and_parts}
use Rattle.send_model.specs.Attribute.{DATA, is_one_of, last_attribute, takes_rest}
use Rattle.send_model.specs.Command.{Kind, first_kinds, all_kinds, row, kind_of_number}
use Rattle.send_model.specs.Spelling.{IsKnown}

-- The versions of the protocol.
abbrev pub IsVersion : ℕ → Type 0
IsVersion version = (version ≡ 1) ⊎ (version ≡ 2)

-- What is found has the property of all.
found_on : (test : Kind → Bool) (k kind : Kind) (b : Bool) (rest : Option Kind) → test k ≡ true → (rest ≡ Some kind → test kind ≡ true) → (if b then Some k else rest) ≡ Some kind → test kind ≡ true
found_on test k kind true rest t more e = ap test (sym (ap (λ (o : Option Kind). unwrap_or o k) e)) ∙ t
found_on test k kind false rest t more e = more e

pub found_has : (test own : Kind → Bool) (kinds : List Kind) (kind : Kind) → list_all test kinds ≡ true → find own kinds ≡ Some kind → test kind ≡ true
found_has test own [] kind all e = cc
found_has test own (k ∷ kinds) kind all e =
    let parts = and_parts (test k) (list_all test kinds) all in
    found_on test k kind (own k) (find own kinds) parts.0 (λ q. found_has test own kinds kind parts.1 q) e

-- A version that has a command is one of the two.
pub known_version : (version number : ℕ) (kind : Kind) → kind_of_number version number ≡ Some kind → IsVersion version
unfolding kind_of_number
known_version version number kind e = one (version == 1) refl (version == 2) refl e
  where
    one : (a : Bool) → (version == 1) ≡ a → (b : Bool) → (version == 2) ≡ b
        → find (λ k. (row k).number == number) (if a then first_kinds else (if b then all_kinds else [])) ≡ Some kind → IsVersion version
    one true p b q f = inl (eqb-true version 1 p)
    one false p true q f = inr (eqb-true version 2 q)
    one false p false q f = cc

-- No attribute but DATA takes the rest.
pub not_rest : (version kind : ℕ) → (kind == DATA) ≡ false → takes_rest version kind ≡ false
not_rest version kind other = ap (λ (b : Bool). (version == 2) && b) other ∙ never (version == 2)
  where
    never : (b : Bool) → b && false ≡ false
    never true = refl
    never false = refl

-- ---- the wanted attributes of each command are lawful ones of its version

-- Each number is one of the version, none stands twice, and only the last may take the rest.
abbrev pub is_no_list : List ℕ → Bool
is_no_list [] = true
is_no_list (kind ∷ kinds) = false

abbrev pub are_kinds : ℕ → List ℕ → Bool
are_kinds version [] = true
are_kinds version (kind ∷ kinds) =
    (nat_lt 0 kind && nat_le kind (last_attribute version)) && (not (is_one_of kind kinds) && ((not (takes_rest version kind) || is_no_list kinds) && are_kinds version kinds))

pub wanted_lawful : (version : ℕ) (kind : Kind) → IsKnown version kind → are_kinds version (row kind).wanted ≡ true
unfolding kind_of_number row
wanted_lawful version kind known = ⊎_elim (λ e. in_first e) (λ e. in_second e) (known_version version (row kind).number kind known)
  where
    Lawful : ℕ → Type 0
    Lawful v = IsKnown v kind → are_kinds v (row kind).wanted ≡ true

    in_first : version ≡ 1 → are_kinds version (row kind).wanted ≡ true
    in_first e = subst Lawful (sym e) (λ k. found_has (λ x. are_kinds 1 (row x).wanted) (λ x. (row x).number == (row kind).number) first_kinds kind refl k) known

    in_second : version ≡ 2 → are_kinds version (row kind).wanted ≡ true
    in_second e = subst Lawful (sym e) (λ k. found_has (λ x. are_kinds 2 (row x).wanted) (λ x. (row x).number == (row kind).number) all_kinds kind refl k) known
