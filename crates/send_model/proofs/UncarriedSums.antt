-- The uncarried bytes of items one by one, and that a step over traces is the plain one.
use Rattle.std.specs.Prelude.{◌≡◌, ℕ, ◌+◌, Bool, true, false, List, [], ◌∷◌, map, Option, if◌then◌else◌}
use Rattle.std.specs.List.{sum_by}
use Rattle.std.proofs.Common.{refl, sym, ap, ◌∙◌, arith}
use Rattle.std.proofs.lemmas.List.Sums.{sum_by-cons}
use Rattle.send_model.specs.Reading.{Item}
use Rattle.send_model.specs.Store.{Store, State, step}
use Rattle.send_model.specs.Receive.{bytes_of, byte_cells}
use Rattle.send_model.specs.Provenance.{Traced, fresh, Piece, traced_step, uuid_after, is_redirected, clone_range, ranges_from, pieces_of, literal_len, uncarried_in}
use Rattle.send_model.specs.Cells.{recelled_state, recelled_step}
use Rattle.send_model.specs.Due.{uncarried_of}
use Rattle.send_model.proofs.CellClones.{all_steps-cells}
use Rattle.send_model.proofs.Tracing.{byte_of, bytes_fresh}

-- A traced step is the plain one.
pub plain_is : (state : State Traced) (item : Item) → step 0 (byte_cells item) (recelled_state byte_of state) item.command ≡ recelled_step byte_of (traced_step state item)
plain_is state item =
    ap (λ (put : List ℕ). step 0 put (recelled_state byte_of state) item.command) (sym (bytes_fresh (bytes_of item.command)))
    ∙ all_steps-cells byte_of item.command (fresh 0) (map fresh (bytes_of item.command)) state

abbrev pub literal_in : List Piece → ℕ
literal_in pieces = sum_by literal_len pieces

-- The uncarried bytes of an item and of those after it.
pub uncarried_split : (base : Store ℕ) (parts : List (List ℕ)) (state : State Traced) (current : Option (List ℕ)) (item : Item) (items : List Item)
    → uncarried_in base (ranges_from parts state current (item ∷ items)) ≡ uncarried_of base parts state current item + uncarried_in base (ranges_from parts (traced_step state item).state (uuid_after current item.command) items)
unfolding ranges_from
uncarried_split base parts state current item items = one (is_redirected parts current item.command)
  where
    others : List (List Traced)
    others = ranges_from parts (traced_step state item).state (uuid_after current item.command) items

    one : (b : Bool) → uncarried_in base (if b then clone_range state item.command ∷ others else others) ≡ (if b then uncarried_in base (clone_range state item.command ∷ []) else 0) + uncarried_in base others
    one true =
        let x : List Piece = pieces_of base (clone_range state item.command) in
        let a = sum_by-cons literal_in x (map (pieces_of base) others) in
        let b = sum_by-cons literal_in x [] in
        omega (arith, a, b)
    one false = omega arith

pub nothing_uncarried : (base : Store ℕ) (parts : List (List ℕ)) (state : State Traced) (current : Option (List ℕ)) → uncarried_in base (ranges_from parts state current []) ≡ 0
unfolding ranges_from
nothing_uncarried base parts state current = refl
