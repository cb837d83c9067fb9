-- Laws of paths: their pieces are std's parts of a list that is cut at each slash, and what their
-- names are in each case.
use Rattle.std.proofs.Common.{◌≡◌, ◌==◌, ℕ, ◌<◌, ◌≤◌, Bool, true, false, cond, ◌&&◌, nat_le, not, List, [], ◌∷◌, length, Some, None, inl, inr, refl, sym, ap, ◌∙◌, arith}
use Rattle.std.proofs.lemmas.Bool.{cases_lt, cases_Bool, le-leb, lt-leb, leb-true, and_parts}
use Rattle.std.specs.Str.{bytes_eq}
use Rattle.std.specs.Prelude.{codes}
use Rattle.std.specs.List.{slice_split, list_all, list_any}
use Rattle.send_model.specs.Path.{is_name, between_slashes, path_names}

-- The pieces are std's parts of a list that is cut at each slash.
pub between_slashes-split : (bytes : List ℕ) → between_slashes bytes ≡ slice_split (λ b. b == 47) bytes
unfolding between_slashes
between_slashes-split [] = refl
between_slashes-split (b ∷ bytes) = rw (between_slashes-split bytes) refl

pub path_empty : (path : List ℕ) → length path ≡ 0 → path_names path ≡ Some []
unfolding path_names
path_empty [] empty = refl
path_empty (b ∷ path) empty = absurd (omega arith)

pub path_too_long : (path : List ℕ) → 4095 < length path → path_names path ≡ None
unfolding path_names
path_too_long [] long = absurd (omega arith)
path_too_long (b ∷ path) long =
    ap (λ (t : Bool). cond (t && list_all is_name (between_slashes (b ∷ path))) (Some (between_slashes (b ∷ path))) None)
    (lt-leb (length (b ∷ path)) 4095 long)

pub path_by_pieces : (path : List ℕ) (all : Bool) → 0 < length path → length path ≤ 4095 →
    list_all is_name (between_slashes path) ≡ all → path_names path ≡ cond all (Some (between_slashes path)) None
unfolding path_names
path_by_pieces [] all some short names = absurd (omega arith)
path_by_pieces (b ∷ path) all some short names =
    ap (λ (t : Bool). cond (t && list_all is_name (between_slashes (b ∷ path))) (Some (between_slashes (b ∷ path))) None)
    (le-leb (length (b ∷ path)) 4095 short)
    ∙ ap (λ (t : Bool). cond t (Some (between_slashes (b ∷ path))) None) names

none_not_some : (names : List (List ℕ)) → None ≡ Some names → ⊥
none_not_some names e = cc e

some_same : (names others : List (List ℕ)) → Some names ≡ Some others → names ≡ others
some_same names others e = cc e

pub none_left : (names : List (List ℕ)) → path_names [] ≡ Some names → names ≡ []
unfolding path_names
none_left names found = some_same names [] (sym found)

-- The names of a path that is not empty are its pieces, and each of them is a name.
pub path_names_pieces : (path : List ℕ) (names : List (List ℕ)) → 0 < length path → path_names path ≡ Some names →
    (names ≡ between_slashes path) × (list_all is_name (between_slashes path) ≡ true)
path_names_pieces path names some found =
    elim (cases_lt 4095 (length path)) [
      | inl long ↦ absurd (none_not_some names (sym (path_too_long path long) ∙ found))
      | inr short ↦ elim (cases_Bool (list_all is_name (between_slashes path))) [
        | inl good ↦
            (some_same names (between_slashes path) (sym found ∙ path_by_pieces path true some short good), good)
        | inr bad ↦ absurd (none_not_some names (sym (path_by_pieces path false some short bad) ∙ found))
      ]
    ]

-- Each name of a path is a name.
pub path_names_all : (path : List ℕ) (names : List (List ℕ)) → path_names path ≡ Some names → list_all is_name names ≡ true
path_names_all [] names found = ap (list_all is_name) (none_left names found)
path_names_all (b ∷ path) names found =
    ap (list_all is_name) (path_names_pieces (b ∷ path) names (omega arith) found).0
    ∙ (path_names_pieces (b ∷ path) names (omega arith) found).1

-- A path that has names, be it none, has at most 4,095 bytes.
pub path_names_short : (path : List ℕ) (names : List (List ℕ)) → path_names path ≡ Some names → length path ≤ 4095
path_names_short path names found =
    elim (cases_lt 4095 (length path)) [
      | inl long ↦ absurd (none_not_some names (sym (path_too_long path long) ∙ found))
      | inr short ↦ short
    ]

length_parts : (name : List ℕ) (p q r s : Bool) →
    (nat_le 1 (length name) && nat_le (length name) 255 && p && q && r && s) ≡ true →
    (1 ≤ length name) × (length name ≤ 255)
length_parts name p q r s good =
    let to_r : (nat_le 1 (length name) && nat_le (length name) 255 && p && q && r) ≡ true = (and_parts _ s good).0 in
    let to_q : (nat_le 1 (length name) && nat_le (length name) 255 && p && q) ≡ true = (and_parts _ r to_r).0 in
    let to_p : (nat_le 1 (length name) && nat_le (length name) 255 && p) ≡ true = (and_parts _ q to_q).0 in
    let both : (nat_le 1 (length name) && nat_le (length name) 255) ≡ true = (and_parts _ p to_p).0 in
    let each : (nat_le 1 (length name) ≡ true) × (nat_le (length name) 255 ≡ true) =
    and_parts (nat_le 1 (length name)) (nat_le (length name) 255) both
    in
    (leb-true 1 (length name) each.0, leb-true (length name) 255 each.1)

-- A name has 1 to 255 bytes.
pub is_name_length : (name : List ℕ) → is_name name ≡ true → (1 ≤ length name) × (length name ≤ 255)
unfolding is_name
is_name_length name good =
    length_parts name (not (list_any (λ b. b == 47) name)) (not (list_any (λ b. b == 0) name))
    (not (bytes_eq name (codes "."))) (not (bytes_eq name (codes ".."))) good
