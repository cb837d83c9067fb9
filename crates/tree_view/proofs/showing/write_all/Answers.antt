use Rattle.std.proofs.Common.{◌≡◌, ◌++◌, ℕ, List, refl, ap, subst, ◌∙◌}
use Rattle.std.specs.List.{flat_map}
use Rattle.std.specs.Ordering.{nat_cmp}
use Rattle.shared_map.specs.Sought.{entries_above}
use Rattle.store_model.specs.StoreLines.{shown, inode_lines, name_line}
use Rattle.subvol_catalog.specs.Entries.{key_of}
use Rattle.tree_view.specs.Printing.{subvol_line, at_zero}
use Rattle.tree_view.proofs.Unpacked.{AddsText}
use Rattle.tree_view.proofs.ShownParts.{shown_is}
use Rattle.tree_view.proofs.Texts.{handed_on, added_then, then_adds, then_stops, stops_whole}
use Rattle.tree_view.proofs.showing.write_all.Goals as goal

pub returns-in_err-write_subvol-clause-added : goal.returns-in_err-write_subvol-clause-added
returns-in_err-write_subvol-clause-added g c = λ lawful.
    let t = c.args.tree.now in
    let next : ℕ → List ℕ = λ n. subvol_line c.args.name.now (key_of c.args.key) n in
    let a : List ℕ = next c.next_number.result in
    let b : List ℕ = flat_map inode_lines (at_zero t.inodes) in
    let d : List ℕ = flat_map inode_lines (entries_above nat_cmp 0 t.inodes) in
    let e : List ℕ = flat_map name_line t.names in
    let whole : ((a ++ b) ++ d) ++ e ≡ shown c.args.name.now (key_of c.args.key) t =
    ap (λ (n : ℕ). ((next n ++ b) ++ d) ++ e) c.next_number.ensures ∙ shown_is c.args.name.now (key_of c.args.key) t lawful.sound.inodes_in_order in
    let new = c.write_subvol.new.text.bytes in
    handed_on _ _ new _ _ _ _ c.from_residual.result _ c.from_residual.ensures.1
    (stops_whole _ ((a ++ b) ++ d) e _ new _ _ _ _ _ whole (stops_whole _ (a ++ b) d _ new _ _ _ _ _ refl (stops_whole _ a b _ new _ _ _ _ _ refl c.in_err-write_subvol.ensures.added)))

pub returns-in_err-write_zero-clause-added : goal.returns-in_err-write_zero-clause-added
returns-in_err-write_zero-clause-added g c = λ lawful.
    let t = c.args.tree.now in
    let next : ℕ → List ℕ = λ n. subvol_line c.args.name.now (key_of c.args.key) n in
    let a : List ℕ = next c.next_number.result in
    let b : List ℕ = flat_map inode_lines (at_zero t.inodes) in
    let d : List ℕ = flat_map inode_lines (entries_above nat_cmp 0 t.inodes) in
    let e : List ℕ = flat_map name_line t.names in
    let whole : ((a ++ b) ++ d) ++ e ≡ shown c.args.name.now (key_of c.args.key) t =
    ap (λ (n : ℕ). ((next n ++ b) ++ d) ++ e) c.next_number.ensures ∙ shown_is c.args.name.now (key_of c.args.key) t lawful.sound.inodes_in_order in
    let new = c.write_zero.new.text.bytes in
    handed_on _ _ new _ _ _ _ c.from_residual-in_err-write_zero.result _ c.from_residual-in_err-write_zero.ensures.1
    (stops_whole _ ((a ++ b) ++ d) e _ new _ _ _ _ _ whole (stops_whole _ (a ++ b) d _ new _ _ _ _ _ refl
    (then_stops a b _ c.write_subvol.new.text.bytes new _ _ _ _ (g.O.Sink.faults c.write_subvol.new.out) _ _ c.in_ok-write_subvol.ensures.added c.in_ok-write_subvol.ensures.out.steady c.in_err-write_zero.ensures.added)))

pub returns-in_err-write_inodes-clause-added : goal.returns-in_err-write_inodes-clause-added
returns-in_err-write_inodes-clause-added g c = λ lawful.
    let t = c.args.tree.now in
    let next : ℕ → List ℕ = λ n. subvol_line c.args.name.now (key_of c.args.key) n in
    let a : List ℕ = next c.next_number.result in
    let b : List ℕ = flat_map inode_lines (at_zero t.inodes) in
    let d : List ℕ = flat_map inode_lines (entries_above nat_cmp 0 t.inodes) in
    let e : List ℕ = flat_map name_line t.names in
    let whole : ((a ++ b) ++ d) ++ e ≡ shown c.args.name.now (key_of c.args.key) t =
    ap (λ (n : ℕ). ((next n ++ b) ++ d) ++ e) c.next_number.ensures ∙ shown_is c.args.name.now (key_of c.args.key) t lawful.sound.inodes_in_order in
    let new = c.write_inodes.new.text.bytes in
    handed_on _ _ new _ _ _ _ c.from_residual-in_err-write_inodes.result _ c.from_residual-in_err-write_inodes.ensures.1
    (stops_whole _ ((a ++ b) ++ d) e _ new _ _ _ _ _ whole
    (then_stops (a ++ b) d _ c.write_zero.new.text.bytes new _ _ _ _ (g.O.Sink.faults c.write_zero.new.out) _ _
    (added_then a b _ _ _ _ _ _ c.in_ok-write_subvol.ensures.added c.in_ok-write_zero.ensures.added) (c.in_ok-write_zero.ensures.out.steady ∙ c.in_ok-write_subvol.ensures.out.steady)
    (c.in_err-write_inodes.ensures.added lawful.sound.inodes_in_order)))

pub returns-clause-added : goal.returns-clause-added
returns-clause-added g c = λ lawful.
    let t = c.args.tree.now in
    let next : ℕ → List ℕ = λ n. subvol_line c.args.name.now (key_of c.args.key) n in
    let a : List ℕ = next c.next_number.result in
    let b : List ℕ = flat_map inode_lines (at_zero t.inodes) in
    let d : List ℕ = flat_map inode_lines (entries_above nat_cmp 0 t.inodes) in
    let e : List ℕ = flat_map name_line t.names in
    let whole : ((a ++ b) ++ d) ++ e ≡ shown c.args.name.now (key_of c.args.key) t =
    ap (λ (n : ℕ). ((next n ++ b) ++ d) ++ e) c.next_number.ensures ∙ shown_is c.args.name.now (key_of c.args.key) t lawful.sound.inodes_in_order in
    subst (λ (l : List ℕ). AddsText l c.args.text.now.bytes c.write_names.new.text.bytes (g.O.Sink.taken c.args.out.now) (g.O.Sink.taken c.write_names.new.out) (g.O.Sink.faults c.args.out.now) (g.O.Sink.faults c.write_names.new.out) c.write_names.result) whole
    (then_adds ((a ++ b) ++ d) e _ c.write_inodes.new.text.bytes c.write_names.new.text.bytes _ _ _ _ (g.O.Sink.faults c.write_inodes.new.out) _ c.write_names.result
    (added_then (a ++ b) d _ _ _ _ _ _ (added_then a b _ _ _ _ _ _ c.in_ok-write_subvol.ensures.added c.in_ok-write_zero.ensures.added) (c.in_ok-write_inodes.ensures.added lawful.sound.inodes_in_order))
    (c.in_ok-write_inodes.ensures.out.steady ∙ c.in_ok-write_zero.ensures.out.steady ∙ c.in_ok-write_subvol.ensures.out.steady)
    (c.write_names.ensures.added lawful.sound.names_in_order lawful.lawful_names))
