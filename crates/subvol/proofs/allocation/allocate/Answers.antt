-- What each mode does.
use Rattle.std.proofs.Common.{◌≡◌, ◌≢◌, ◌⊎◌, inl, inr, ℕ, zero, suc, List, Result, Ok, Err, None, refl, sym, ap, ◌∙◌}
use Rattle.std.specs.Prelude.{OnOk}
use Rattle.send_model.specs.Edit as edit
use Rattle.send_model.specs.Edit.{allocated, fallocated, zeroed}
use Rattle.subvol.specs.declared.allocation.Allocation.{Allocation}
use Rattle.subvol.specs.declared.allocation.Allocation.TheVariants as made
use Rattle.extent_map.specs.Pieces.{zero_cells}
use Rattle.subvol.specs.Allocations.{meant_by}
use Rattle.subvol.proofs.CellLaws.{written_is}
use Rattle.subvol.proofs.allocation.allocate.Goals as goal

module _ {C : Type 0} (z : C) (allocation : edit.Allocation) (at : ℕ) where
  no_range : (len : ℕ) (cells : List C) → len ≡ 0 → cells ≡ fallocated z allocation at len cells
  unfolding fallocated
  no_range len cells e = sym (ap (λ (n : ℕ). fallocated z allocation at n cells) e)

  some_range : (len : ℕ) (cells : List C) → len ≢ 0 → fallocated z allocation at len cells ≡ allocated z allocation at len cells
  unfolding fallocated
  some_range zero cells some = absurd (some refl)
  some_range (suc len) cells some = refl

on_ok : {A E P Q : Type 0} (r : Result A E) → (P → Q) → OnOk r P → OnOk r Q
on_ok (Ok a) f h = f h
on_ok (Err e) f h = tt

pub returns-then-len-eq0 : goal.returns-then-len-eq0
returns-then-len-eq0 g c = no_range None (meant_by c.args.allocation) c.args.at c.args.len c.args.contents.now c.if-len-eq0.true

pub returns-in-Lengthen : goal.returns-in-Lengthen
returns-in-Lengthen g c =
    let some = some_range None (meant_by c.args.allocation) c.args.at c.args.len c.args.contents.now c.if-len-eq0.false in
    on_ok c.lengthen.result (λ e. e ∙ sym (some ∙ ap (λ a. allocated None (meant_by a) c.args.at c.args.len c.args.contents.now) c.in-Lengthen.is)) c.lengthen.ensures

pub returns-in-KeepSize : goal.returns-in-KeepSize
returns-in-KeepSize g c =
    let some = some_range None (meant_by c.args.allocation) c.args.at c.args.len c.args.contents.now c.if-len-eq0.false in
    sym (some ∙ ap (λ a. allocated None (meant_by a) c.args.at c.args.len c.args.contents.now) c.in-KeepSize.is)

within : {C : Type 0} (z : C) (at len : ℕ) (cells : List C) (a : Allocation) → (a ≡ made.PunchHole) ⊎ (a ≡ made.ZeroWithin) → allocated z (meant_by a) at len cells ≡ zeroed z at len cells
within z at len cells a (inl e) = ap (λ (x : Allocation). allocated z (meant_by x) at len cells) e
within z at len cells a (inr e) = ap (λ (x : Allocation). allocated z (meant_by x) at len cells) e

pub returns-in-PunchHole : goal.returns-in-PunchHole
returns-in-PunchHole g c =
    let some = some_range None (meant_by c.args.allocation) c.args.at c.args.len c.args.contents.now c.if-len-eq0.false in
    on_ok c.zero_within.result (λ e. e ∙ sym (some ∙ within None c.args.at c.args.len c.args.contents.now c.args.allocation c.in-PunchHole.is)) c.zero_within.ensures

pub returns-in-ZeroRange : goal.returns-in-ZeroRange
unfolding zero_cells
returns-in-ZeroRange g c =
    let some = some_range None (meant_by c.args.allocation) c.args.at c.args.len c.args.contents.now c.if-len-eq0.false in
    on_ok c.zero_run.result
    (λ e. e ∙ written_is None c.args.at (zero_cells c.args.len) c.args.contents.now ∙ sym (some ∙ ap (λ a. allocated None (meant_by a) c.args.at c.args.len c.args.contents.now) c.in-ZeroRange.is))
    c.zero_run.ensures
