use Rattle.std.proofs.Common.{◌≡◌, ◌++◌, ◌∷◌, ℕ, List, sym, ap, ◌∙◌}
use Rattle.std.specs.List.{flat_map}
use Rattle.store_model.specs.StoreLines.{xattr_line}
use Rattle.tree_view.proofs.Texts.{handed_on, lines_next, printed_next, printed_stops}
use Rattle.tree_view.proofs.showing.write_xattrs.Goals as goal

-- The line of an attribute in front of those of the others, its name and its value under other
-- names.
next_line : (ino : ℕ) (left rest : List (List ℕ × List ℕ)) (e : List ℕ × List ℕ) (name value : List ℕ) → left ≡ e ∷ rest → name ≡ e.0 → value ≡ e.1
    → flat_map (xattr_line ino) left ≡ xattr_line ino (name, value) ++ flat_map (xattr_line ino) rest
next_line ino left rest e name value steps first second =
    lines_next (xattr_line ino) left rest e steps
    ∙ ap (λ (l : List ℕ). l ++ flat_map (xattr_line ino) rest) (sym (ap (λ (x : List ℕ). xattr_line ino (x, value)) first ∙ ap (λ (x : List ℕ). xattr_line ino (e.0, x)) second))

pub loop-name-preserved : goal.loop-name-preserved
loop-name-preserved g c = record {
  steady = c.in_ok-write_xattr.ensures.out.steady ∙ c.loop-name.invariant.steady;
  printed = printed_next _ _ (xattr_line c.args.ino (c.as_slice.result.now, c.as_slice-in-loop-name.result.now)) _ _ c.loop-name.text.bytes _ _ _ _
      (next_line c.args.ino _ _ c.in-Some.field-0.now _ _ c.in-Some.ensures.steps c.as_slice.ensures c.as_slice-in-loop-name.ensures) c.in_ok-write_xattr.ensures.added c.loop-name.invariant.printed;
}

pub returns-in_err-write_xattr-clause-added : goal.returns-in_err-write_xattr-clause-added
returns-in_err-write_xattr-clause-added g c =
    handed_on _ _ c.write_xattr.new.text.bytes _ _ _ _ c.from_residual.result _ c.from_residual.ensures.1
    (printed_stops _ _ (xattr_line c.args.ino (c.as_slice.result.now, c.as_slice-in-loop-name.result.now)) _ _ c.loop-name.text.bytes c.write_xattr.new.text.bytes _ _ _ _ (g.O.Sink.faults c.loop-name.out) _ _
    (next_line c.args.ino _ _ c.in-Some.field-0.now _ _ c.in-Some.ensures.steps c.as_slice.ensures c.as_slice-in-loop-name.ensures) c.loop-name.invariant.steady c.in_err-write_xattr.ensures.added c.loop-name.invariant.printed)
