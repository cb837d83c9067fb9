-- What holds of each cell: a subvolume whose cells all have a property is one over cells that carry
-- it.
use Rattle.std.specs.Prelude.{◌≡◌, ℕ, Bool, List, [], ◌∷◌, map, Option, None, Some, Result, Ok, Err}
use Rattle.std.specs.Option.{option_map}
use Rattle.std.specs.List.{AllByRecursion}
use Rattle.std.proofs.Common.{refl, sym, ap, ap₂, subst, ◌∙◌}
use Rattle.send_model.specs.Refusal.{Refusal}
use Rattle.send_model.specs.Command.{Command}
use Rattle.send_model.specs.Subvolume.{Subvolume}
use Rattle.send_model.specs.Edit.{edit}
use Rattle.send_model.specs.Clone.{cells_of, Cloned, cloned, clone, clone_values}
use Rattle.send_model.specs.Cells.{recelled, recelled_result, Good, cell_of, Holds}
use Rattle.send_model.proofs.CellEdits.{edit-cells}
use Rattle.send_model.proofs.CellClones.{cells_of-cells, recloned, cloned-cells, clone-cells}
use Rattle.send_model.proofs.Fuel.{ok_same}

module _ {C : Type 0} (P : C → Type 0) where
  result_holds : (r : Result (Subvolume (Good P)) Refusal) (t : Subvolume C) → recelled_result (cell_of P) r ≡ Ok t → Holds P t
  result_holds (Ok s) t e = (s, ok_same e)
  result_holds (Err refusal) t e = cc

  pub goods : (xs : List C) → AllByRecursion P xs → (ys : List (Good P)) × (map (cell_of P) ys ≡ xs)
  goods [] a = ([], refl)
  goods (x ∷ xs) a = let more = goods xs a.1 in ((x, a.0) ∷ more.0, ap (λ (r : List C). x ∷ r) more.1)

  pub cells_hold : (s : Subvolume C) (ino : ℕ) → Holds P s → AllByRecursion P (cells_of s ino)
  cells_hold s ino (t, e) = subst (λ (u : Subvolume C). AllByRecursion P (cells_of u ino)) e (subst (λ (xs : List C). AllByRecursion P xs) (sym (cells_of-cells (cell_of P) t ino)) (all (cells_of t ino)))
    where
      all : (gs : List (Good P)) → AllByRecursion P (map (cell_of P) gs)
      all [] = tt
      all (g ∷ gs) = (g.1, all gs)

  pub edit_holds : (x : C) (put : List C) (c : Command) (s t : Subvolume C) → P x → AllByRecursion P put → Holds P s → edit x put c s ≡ Ok t → Holds P t
  edit_holds x put c s t px pp (s', e) ok =
      let ys = goods put pp in
      let same : edit x put c s ≡ recelled_result (cell_of P) (edit (x, px) ys.0 c s') = ap₂ (λ (p : List C) (u : Subvolume C). edit x p c u) (sym ys.1) (sym e) ∙ edit-cells (cell_of P) (x, px) ys.0 c s' in
      result_holds (edit (x, px) ys.0 c s') t (sym same ∙ ok)

  source_holds : (o : Option (Subvolume C)) → ((u : Subvolume C) → o ≡ Some u → Holds P u) → (o' : Option (Subvolume (Good P))) × (option_map (recelled (cell_of P)) o' ≡ o)
  source_holds None h = (None, refl)
  source_holds (Some u) h = let k = h u refl in (Some k.0, (let some : Subvolume C → Option (Subvolume C) = λ v. Some v in ap some k.1))

  pub clone_holds : (x : C) (s : Subvolume C) (o : Option (Subvolume C)) (own : Bool) (path : List ℕ) (offset : ℕ) (clone_path : List ℕ) (from len : ℕ) (t : Subvolume C)
      → P x → Holds P s → ((u : Subvolume C) → o ≡ Some u → Holds P u) → clone x s o own (clone_values path offset clone_path from len) ≡ Ok t → Holds P t
  clone_holds x s o own path offset clone_path from len t px (s', e) h ok =
      let o' = source_holds o h in
      let same : clone x s o own (clone_values path offset clone_path from len) ≡ recelled_result (cell_of P) (clone (x, px) s' o'.0 own (clone_values path offset clone_path from len)) =
      ap₂ (λ (u : Subvolume C) (p : Option (Subvolume C)). clone x u p own (clone_values path offset clone_path from len)) (sym e) (sym o'.1) ∙ clone-cells (cell_of P) (x, px) s' o'.0 own path offset clone_path from len in
      result_holds (clone (x, px) s' o'.0 own (clone_values path offset clone_path from len)) t (sym same ∙ ok)

  goods_hold : (gs : List (Good P)) → AllByRecursion P (map (cell_of P) gs)
  goods_hold [] = tt
  goods_hold (g ∷ gs) = (g.1, goods_hold gs)

  range_holds : (r : Result (Cloned (Good P)) Refusal) (range : Cloned C) → recloned (cell_of P) r ≡ Ok range → AllByRecursion P range.cells
  range_holds (Ok r) range e = subst (λ (x : Cloned C). AllByRecursion P x.cells) (ok_same e) (goods_hold r.cells)
  range_holds (Err refusal) range e = cc

  pub cloned_holds : (s : Subvolume C) (o : Option (Subvolume C)) (own : Bool) (path : List ℕ) (offset : ℕ) (clone_path : List ℕ) (from len : ℕ) (range : Cloned C)
      → Holds P s → ((u : Subvolume C) → o ≡ Some u → Holds P u) → cloned s o own (clone_values path offset clone_path from len) ≡ Ok range → AllByRecursion P range.cells
  cloned_holds s o own path offset clone_path from len range (s', e) h ok =
      let o' = source_holds o h in
      let same : cloned s o own (clone_values path offset clone_path from len) ≡ recloned (cell_of P) (cloned s' o'.0 own (clone_values path offset clone_path from len)) =
      ap₂ (λ (u : Subvolume C) (p : Option (Subvolume C)). cloned u p own (clone_values path offset clone_path from len)) (sym e) (sym o'.1) ∙ cloned-cells (cell_of P) s' o'.0 own path offset clone_path from len in
      range_holds (cloned s' o'.0 own (clone_values path offset clone_path from len)) range (sym same ∙ ok)
