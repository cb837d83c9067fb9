-- What follows of files that the inputs tell, all at once.
use Rattle.std.specs.Prelude.{◌≡◌, ℕ, ◌<◌, List, [], length, take, get_or, Option, None, Some}
use Rattle.std.proofs.Common.{sym, ap, subst, ◌∙◌}
use Rattle.std.proofs.lemmas.List.{get_or-map}
use Rattle.send_model.specs.Lengths.{limit}
use Rattle.sx_base.specs.Outside.{file_at}
use Rattle.sx_base.specs.Calls.{contents, IfAllTold}
use Rattle.cmd_reader.specs.Places.{IfTold}

-- What is found of the file of one name.
pub told_file : (told now : Option (List (List ℕ × List ℕ))) (names : List (List ℕ)) (n : ℕ) (name : List ℕ) (P : List ℕ → Type 0) → now ≡ told → n < length names → name ≡ get_or names n [] → IfTold now name P → IfAllTold told names (λ files. P (get_or files n []))
told_file told now names n name P same less is p = by_told told (subst (λ (t : Option (List (List ℕ × List ℕ))). IfTold t name P) same p)
  where
    by_told : (t : Option (List (List ℕ × List ℕ))) → IfTold t name P → IfAllTold t names (λ files. P (get_or files n []))
    by_told None q = tt
    by_told (Some table) q = q (get_or (contents table names) n []) (ap (take limit) (get_or-map (file_at table) names n [] [] less ∙ ap (file_at table) (sym is)))
