-- The files of names, as a loop goes over the names.
use Rattle.std.specs.Prelude.{◌≡◌, ℕ, ◌+◌, ◌<◌, List, ◌∷◌, map, length, drop, slice_index_or, String}
use Rattle.std.specs.String.{string_bytes}
use Rattle.std.proofs.Common.{sym, ap, ◌∙◌, add-one, drop-cons}
use Rattle.std.proofs.lemmas.List.{length-map, drop-map}
use Rattle.sx_base.specs.Outside.{file_at}
use Rattle.sx_base.specs.Calls.{contents}

-- The file of the next name is in front of those that are left.
pub file_there : {Z : Type 0} (table : List (List ℕ × List ℕ)) (names : List (String Z)) (n : ℕ) (name : String Z) → n < length names → name ≡ slice_index_or names n name
    → drop n (contents table (map string_bytes names)) ≡ file_at table (string_bytes name) ∷ drop (n + 1) (contents table (map string_bytes names))
file_there {Z} table names n name less is =
    let rest : List (String Z) = drop (n + 1) names in
    let next : drop n names ≡ slice_index_or names n name ∷ rest = rw (add-one, drop-cons names n name) in
    let here : drop n names ≡ name ∷ rest = next ∙ ap (λ (s : String Z). s ∷ rest) (sym is) in
    drop_contents names n ∙ ap (λ (l : List (String Z)). contents table (map string_bytes l)) here
    ∙ ap (λ (l : List (List ℕ)). file_at table (string_bytes name) ∷ l) (sym (drop_contents names (n + 1)))
  where
    drop_contents : (names : List (String Z)) (k : ℕ) → drop k (contents table (map string_bytes names)) ≡ contents table (map string_bytes (drop k names))
    drop_contents names k = drop-map (file_at table) k (map string_bytes names) ∙ ap (contents table) (drop-map string_bytes k names)

-- There are as many files as names.
pub count_of_files : {Z : Type 0} (table : List (List ℕ × List ℕ)) (names : List (String Z)) → length (contents table (map string_bytes names)) ≡ length names
count_of_files table names = length-map (map string_bytes names) (file_at table) ∙ length-map names string_bytes
