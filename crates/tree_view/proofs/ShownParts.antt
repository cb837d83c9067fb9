-- What is shown of a subvolume, part by part.
use Rattle.std.specs.Prelude.{◌≡◌, ℕ, List, [], ◌∷◌, ◌++◌}
use Rattle.std.specs.List.{flat_map}
use Rattle.std.specs.Ordering.{nat_cmp}
use Rattle.std.proofs.Common.{refl, sym, ap, ◌∙◌, append_assoc}
use Rattle.send_model.specs.Map.{Map, IsMap}
use Rattle.send_model.specs.Store.{Key}
use Rattle.send_model.specs.Subvolume.{Inode, Subvolume}
use Rattle.shared_map.specs.Sought.{entries_above}
use Rattle.store_model.specs.StoreLines.{shown, inode_lines, name_line}
use Rattle.tree_view.specs.Printing.{subvol_line, at_zero}
use Rattle.tree_view.proofs.Entries.{zero_first}

joined : {A : Type 0} (text : A → List ℕ) (xs ys : List A) → flat_map text (xs ++ ys) ≡ flat_map text xs ++ flat_map text ys
joined text [] ys = refl
joined text (x ∷ xs) ys = ap (λ (l : List ℕ). text x ++ l) (joined text xs ys) ∙ sym (append_assoc (text x) (flat_map text xs) (flat_map text ys))

-- The line of the subvolume, those of inode 0, those of the other inodes, and those of the names.
pub shown_is : {C : Type 0} (name : List ℕ) (key : Key) (s : Subvolume C) → IsMap nat_cmp s.inodes
    → ((subvol_line name key s.next ++ flat_map inode_lines (at_zero s.inodes)) ++ flat_map inode_lines (entries_above nat_cmp 0 s.inodes)) ++ flat_map name_line s.names ≡ shown name key s
unfolding subvol_line shown
shown_is {C = C} name key s ordered =
    let first : List ℕ = subvol_line name key s.next in
    let zero : List ℕ = flat_map inode_lines (at_zero s.inodes) in
    let others : List ℕ = flat_map inode_lines (entries_above nat_cmp 0 s.inodes) in
    let names : List ℕ = flat_map name_line s.names in
    ap (λ (l : List ℕ). l ++ names) (append_assoc first zero others) ∙ append_assoc first (zero ++ others) names
    ∙ ap (λ (l : List ℕ). first ++ (l ++ names)) (sym (joined inode_lines (at_zero s.inodes) (entries_above nat_cmp 0 s.inodes)) ∙ ap (λ (m : Map ℕ (Inode C)). flat_map inode_lines m) (zero_first s.inodes ordered))
