-- Facts of named files, where the inputs tell their files.
use Rattle.std.specs.Prelude.{◌≡◌, ℕ, ◌+◌, ◌-◌, ◌<◌, List, [], map, length, get_or, slice_index_or, Option, Some, None, String}
use Rattle.std.specs.String.{string_bytes}
use Rattle.std.proofs.Common.{refl, sym, ap, subst, ◌∙◌, arith}
use Rattle.std.proofs.lemmas.List.{length-map, get_or-map}
use Rattle.sx_base.specs.Again.{EarlyEnd}
use Rattle.sx_base.specs.Outside.{file_at}
use Rattle.sx_base.specs.Calls.{contents, IfAllTold, IsEndOf}

pub all_always : (told : Option (List (List ℕ × List ℕ))) (names : List (List ℕ)) (P : List (List ℕ) → Type 0) → ((files : List (List ℕ)) → P files) → IfAllTold told names P
all_always None names P f = tt
all_always (Some table) names P f = f _

pub all_map : (told : Option (List (List ℕ × List ℕ))) (names : List (List ℕ)) (P Q : List (List ℕ) → Type 0) → ((files : List (List ℕ)) → P files → Q files) → IfAllTold told names P → IfAllTold told names Q
all_map None names P Q f p = tt
all_map (Some table) names P Q f p = f _ p

pub all_two : (told : Option (List (List ℕ × List ℕ))) (names : List (List ℕ)) (P Q R : List (List ℕ) → Type 0) → ((files : List (List ℕ)) → P files → Q files → R files) → IfAllTold told names P → IfAllTold told names Q → IfAllTold told names R
all_two None names P Q R f p q = tt
all_two (Some table) names P Q R f p q = f _ p q

-- What is said where other inputs tell the same.
pub told_moved : (told now : Option (List (List ℕ × List ℕ))) (names : List (List ℕ)) (P : List (List ℕ) → Type 0) → now ≡ told → IfAllTold now names P → IfAllTold told names P
told_moved told now names P same p = subst (λ (t : Option (List (List ℕ × List ℕ))). IfAllTold t names P) same p

-- The name of a place among names.
pub name_at : {Z : Type 0} (names : List (String Z)) (n : ℕ) (name : String Z) (spelled : List ℕ) → n < length names → name ≡ slice_index_or names n name → spelled ≡ string_bytes name → spelled ≡ get_or (map string_bytes names) n []
name_at names n name spelled less is spelling = spelling ∙ ap string_bytes is ∙ sym (get_or-map string_bytes names n name [] less)

-- There are as many names.
pub count_names : {Z : Type 0} (names : List (String Z)) (n : ℕ) → n < length names → n < length (map string_bytes names)
count_names names n less = subst (λ (k : ℕ). n < k) (sym (length-map names string_bytes)) less

-- The bytes of one of the files.
pub told_file : {Z : Type 0} (table : List (List ℕ × List ℕ)) (names : List (String Z)) (file : ℕ) (name : String Z) → file < length names → name ≡ slice_index_or names file name
    → get_or (contents table (map string_bytes names)) file [] ≡ file_at table (string_bytes name)
told_file table names file name lt is =
    get_or-map (file_at table) (map string_bytes names) file [] [] (count_names names file lt)
    ∙ ap (file_at table) (sym (name_at names file name (string_bytes name) lt is refl))

-- The end of the file of one of the names, counted from 0.
pub ended_among : (names : List (List ℕ)) (file place : ℕ) (name : List ℕ) (last : EarlyEnd) → file < length names → name ≡ get_or names file [] → last ≡ record { name = name; place = place } → IsEndOf names last (file + 1) place
ended_among names file place name last less is met =
    let back : file ≡ file + 1 - 1 = omega arith in
    let there : List ℕ → EarlyEnd = λ n. record { name = n; place = place } in
    record { first = omega arith; within = omega (arith, less); met = met ∙ ap there (is ∙ ap (λ (k : ℕ). get_or names k []) back) }
