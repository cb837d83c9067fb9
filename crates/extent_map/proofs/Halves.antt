-- Trees and leaves that are cut at a place.
use Rattle.std.proofs.Common.{◌≡◌, ℕ, ◌+◌, ◌-◌, ◌<◌, ◌≤◌, List, Option, ◌++◌, length, take, drop, length-append, length-take, length-drop, refl, sym, ap, ap₂, ◌∙◌, arith}
use Rattle.std.specs.List.{sum_by}
use Rattle.std.proofs.lemmas.List.{append_assoc}
use Rattle.extent_map.specs.declared.piece.Piece.{Piece}
use Rattle.extent_map.specs.Leaves.{overwritten, HaveCells}
use Rattle.extent_map.specs.Opened.{AreKidsOf}
use Rattle.extent_map.specs.Parts.{IsFound}
use Rattle.extent_map.specs.Seen.{Seen, cells_count, joined, around, IsTaken}
use Rattle.extent_map.specs.Trees.{IsLeaf}
use Rattle.extent_map.proofs.LeafEdits.{length-all_cells}
use Rattle.extent_map.proofs.Makes.{around_near}
use Rattle.extent_map.proofs.Spans.{length-all, found_part, found_before, found_after, found_below, take_found, drop_found}

module _ {O : Type 0} (advanced : O → ℕ → O) (reach : O → ℕ) where
  pub front_leaf : (cells : List (Option O)) (new : List (Piece O)) (at : ℕ) → HaveCells advanced reach (take at cells) new → at ≤ length cells → 0 < at → IsLeaf reach at new
  front_leaf cells new at h within some =
      record { each = h.each; counted = omega (arith, length-all_cells advanced reach new, ap length h.are, length-take at cells, within); some = some }

  pub back_leaf : (cells : List (Option O)) (new : List (Piece O)) (at len : ℕ) → HaveCells advanced reach (drop at cells) new → len ≡ length cells → at < len → IsLeaf reach (len - at) new
  back_leaf cells new at len h count within =
      record { each = h.each; counted = omega (arith, length-all_cells advanced reach new, ap length h.are, length-drop at cells, count); some = omega (arith, within) }

module _ {O : Type 0} (tree : Seen O) (high : ℕ) (kids : List (Seen O)) (ks : AreKidsOf tree high kids) where
  pub kids_sum : sum_by cells_count kids ≡ length tree.cells
  kids_sum = sym (length-all (λ (k : Seen O). k.cells) cells_count (λ k. refl) kids) ∙ ap length ks.are

  module _ (new : List (Seen O)) (index : ℕ) (near : Seen O) (tk : IsTaken kids index near new) (at start : ℕ) (f : IsFound cells_count kids at index start) where
    pub found_within : index < length kids
    found_within = found_below cells_count kids at index start f

    pub near_is : near ≡ f.part
    near_is = found_part cells_count kids at index start f near tk.value

    pub near_holds : at < start + length near.cells
    near_holds = omega (arith, f.to, ap (λ (k : Seen O). length k.cells) near_is)

    pub sides_length : length (joined (take index new)) + length near.cells + length (joined (drop (index + 1) new)) ≡ length tree.cells
    sides_length =
        let a = joined (take index new) in
        let b = joined (drop (index + 1) new) in
        omega (arith, ap length (around_near tree high kids new index near ks tk found_within), length-append (a ++ near.cells) b, length-append a near.cells)

    pub front_half : take at tree.cells ≡ joined (take index new) ++ take (at - start) near.cells
    front_half =
        ap (take at) (sym ks.are)
        ∙ take_found (λ (k : Seen O). k.cells) cells_count (λ k. refl) kids f.before f.part f.after at start f.all f.begins f.from (omega (arith, f.to))
        ∙ ap₂ (λ (a : List (Seen O)) (k : Seen O). joined a ++ take (at - start) k.cells) (sym (tk.before ∙ found_before cells_count kids at index start f)) (sym near_is)

    pub back_half : drop at tree.cells ≡ drop (at - start) near.cells ++ joined (drop (index + 1) new)
    back_half =
        ap (drop at) (sym ks.are)
        ∙ drop_found (λ (k : Seen O). k.cells) cells_count (λ k. refl) kids f.before f.part f.after at start f.all f.begins f.from (omega (arith, f.to))
        ∙ ap₂ (λ (k : Seen O) (b : List (Seen O)). drop (at - start) k.cells ++ joined b) (sym near_is) (sym (tk.after ∙ found_after cells_count kids at index start f))

-- cells that are written over
pub length-overwritten : {C : Type 0} (at : ℕ) (x cells : List C) → at + length x ≤ length cells → length (overwritten at x cells) ≡ length cells
length-overwritten at x cells h =
    omega (arith, h, length-append (take at cells ++ x) (drop (at + length x) cells), length-append (take at cells) x, length-take at cells, length-drop (at + length x) cells)

module _ {O : Type 0} (advanced : O → ℕ → O) (reach : O → ℕ) where
  pub written_leaf : (cells : List (Option O)) (new : List (Piece O)) (len : ℕ) → HaveCells advanced reach cells new → len ≡ length cells → 0 < len → IsLeaf reach len new
  written_leaf cells new len h count some = record { each = h.each; counted = omega (arith, count, length-all_cells advanced reach new, ap length h.are); some = some }

module _ {O : Type 0} (tree : Seen O) (high : ℕ) (kids : List (Seen O)) (ks : AreKidsOf tree high kids) (new : List (Seen O)) (index : ℕ) (near : Seen O) (tk : IsTaken kids index near new) (at start : ℕ) (f : IsFound cells_count kids at index start) where
  back_at : (to : ℕ) → start ≤ to → to ≤ start + length near.cells → drop to tree.cells ≡ drop (to - start) near.cells ++ joined (drop (index + 1) new)
  back_at to from end =
      let n = near_is tree high kids ks new index near tk at start f in
      ap (drop to) (sym ks.are)
      ∙ drop_found (λ (k : Seen O). k.cells) cells_count (λ k. refl) kids f.before f.part f.after to start f.all f.begins from (omega (arith, end, ap (λ (k : Seen O). length k.cells) n))
      ∙ ap₂ (λ (k : Seen O) (b : List (Seen O)). drop (to - start) k.cells ++ joined b) (sym n) (sym (tk.after ∙ found_after cells_count kids at index start f))

  pub overwritten_within : (x : List (Option O)) → at + length x ≤ start + length near.cells → around index new (overwritten (at - start) x near.cells) ≡ overwritten at x tree.cells
  overwritten_within x h =
      let a = joined (take index new) in
      let b = joined (drop (index + 1) new) in
      let t = take (at - start) near.cells in
      let e : at + length x - start ≡ at - start + length x = omega (arith, f.from) in
      ap (λ (l : List (Option O)). l ++ b)
      (sym (append_assoc a (t ++ x) (drop (at - start + length x) near.cells))
      ∙ ap (λ (l : List (Option O)). l ++ drop (at - start + length x) near.cells) (sym (append_assoc a t x)))
      ∙ append_assoc ((a ++ t) ++ x) (drop (at - start + length x) near.cells) b
      ∙ ap₂ (λ (l m : List (Option O)). (l ++ x) ++ m)
      (sym (front_half tree high kids ks new index near tk at start f))
      (sym (back_at (at + length x) (omega (arith, f.from)) h ∙ ap (λ n. drop n near.cells ++ b) e))
