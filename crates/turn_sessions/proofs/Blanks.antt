-- Places as cells that carry nothing.
use Rattle.std.specs.Prelude.{◌≡◌, ℕ, List, [], ◌∷◌, map, length, Option, None, Some}
use Rattle.std.proofs.Common.{refl, sym, ap, ◌∙◌, arith}
use Rattle.std.proofs.lemmas.List.FromFn.{length-map-range_with_len}
use Rattle.extent_map.specs.Pieces.{run_cells}
use Rattle.send_model.specs.Command.{Command}
use Rattle.send_model.specs.Receive.{bytes_of}
use Rattle.send_model.specs.Store.{Store, Part, edit_part}
use Rattle.send_model.specs.Cells.{recelled_result, recelled_store, recelled_part}
use Rattle.send_model.proofs.CellClones.{edit_part-cells}
use Rattle.clone_resolve.specs.Steps.{data_len, cells_put}
use Rattle.group_replay.specs.declared.place.Place.{Place}
use Rattle.group_replay.specs.Placing.{further}
use Rattle.group_replay.specs.Taking.{as_runs}
use Rattle.turn_sessions.specs.Standing.{Blank, blank_put}

as_many : {A B : Type 0} (xs : List A) (ys : List B) → length xs ≡ length ys → ◌≡◌ {A = List Blank} (map (λ _. tt) xs) (map (λ _. tt) ys)
as_many [] [] e = refl
as_many [] (y ∷ ys) e = cc
as_many (x ∷ xs) [] e = cc
as_many (x ∷ xs) (y ∷ ys) e = ap (λ (l : List Blank). tt ∷ l) (as_many xs ys (omega (arith, e)))

pub runs_blank : (place : ℕ) (bytes : List ℕ) → ◌≡◌ {A = List Blank} (map (λ _. tt) (as_runs place bytes)) (blank_put place bytes)
unfolding run_cells
runs_blank place bytes = as_many (as_runs place bytes) bytes (length-map-range_with_len (λ k. Some (further (record { at = place }) k)) 0 (length bytes))

-- An edit of a part over places is that of the part over cells that carry nothing.
pub edit_blank : (place : Place) (store : Store (Option Place)) (part : Part (Option Place)) (c : Command)
    → edit_part tt (blank_put 0 (bytes_of c)) (recelled_store (λ _. tt) store) (recelled_part (λ _. tt) part) c ≡ recelled_result (λ _. tt) (edit_part None (cells_put further place c) store part c)
unfolding run_cells
edit_blank place store part c =
    let same : ◌≡◌ {A = List Blank} (map (λ _. tt) (cells_put further place c)) (map (λ _. tt) (bytes_of c)) = as_many (cells_put further place c) (bytes_of c) (length-map-range_with_len (λ k. Some (further place k)) 0 (data_len c)) in
    ap (λ (put : List Blank). edit_part tt put (recelled_store (λ _. tt) store) (recelled_part (λ _. tt) part) c) (sym same)
    ∙ edit_part-cells (λ _. tt) None (cells_put further place c) store part c
