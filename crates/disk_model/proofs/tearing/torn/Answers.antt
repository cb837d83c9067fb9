use Rattle.std.proofs.Common.{◌≡◌, ℕ, ◌<◌, ◌++◌, [], ◌∷◌, List, max, Bool, false, length, get_or, sym, subst, arith, rules}
use Rattle.sx_base.specs.Disk.{Agrees}
use Rattle.disk_model.specs.Stretch.{known_of}
use Rattle.disk_model.specs.Torn.{with_zeros, IsLeft}
use Rattle.disk_model.proofs.LeftBytes.{step_agrees, step_stable, agrees_more, more_zeros, stable_whole, length_known}
use Rattle.disk_model.proofs.tearing.torn.Goals as goal
use Rattle.disk_model.proofs.tearing.torn.Goals.{then-choice-eq1, else-choice-eq1}

pub loop-place-preserved : goal.loop-place-preserved
loop-place-preserved c =
    let i = c.loop-place.place in
    let s = c.args.stretch.now in
    let within : i < length s.touched.items = search rules in
    let is : c.push.new.self.items ≡ c.loop-place.image.items ++ c.left_byte.result ∷ [] = search rules in
    let left : IsLeft (get_or s.touched.items i false) c.args.choice (get_or s.bytes.items i 0) c.left_byte.result =
    subst (λ (l : List ℕ). IsLeft (get_or s.touched.items i false) c.args.choice (get_or l i 0) c.left_byte.result) c.as_slice-bytes.ensures.value
    (subst (λ (l : List Bool). IsLeft (get_or l i false) c.args.choice (get_or c.as_slice-bytes.result.now i 0) c.left_byte.result) c.as_slice-touched.ensures.value c.left_byte.ensures) in
    record {
      agrees = step_agrees i s.touched.items s.bytes.items c.loop-place.image.items c.push.new.self.items c.args.choice c.left_byte.result within s.covers is left c.loop-place.invariant.agrees c.loop-place.invariant.long;
      long = search rules;
      stable = λ one. step_stable i s.touched.items s.bytes.items c.loop-place.image.items c.push.new.self.items c.args.choice c.left_byte.result within s.covers is left one (c.loop-place.invariant.stable one);
    }

pub loop-place-2-preserved : goal.loop-place-2-preserved
loop-place-2-preserved c =
    let s = c.args.stretch.now in
    let known = known_of s.touched.items s.bytes.items in
    let is : c.push-in-loop-place-2.new.self.items ≡ c.loop-place-2.image.items ++ c.drawn_byte.result ∷ [] = search rules in
    record {
      agrees = subst (λ (l : List ℕ). Agrees known l) (sym is) (agrees_more known c.loop-place-2.image.items (c.drawn_byte.result ∷ []) c.loop-place-2.invariant.agrees);
      long = search rules;
      beyond = search rules;
      stable = λ one. more_zeros (with_zeros known) c.loop-place-2.image.items c.push-in-loop-place-2.new.self.items c.loop-place-2.place (length s.touched.items) c.drawn_byte.result c.loop-place-2.invariant.beyond is (c.drawn_byte.ensures one) (c.loop-place-2.invariant.stable one);
    }

pub returns-clause-stable : goal.returns-clause-stable
returns-clause-stable c one =
    let s = c.args.stretch.now in
    let known = known_of s.touched.items s.bytes.items in
    let most : c.max-most.result ≡ max s.greatest (length s.bytes.items) = search rules in
    let size : c.if-choice-eq1.size ≡ c.max-most.result = elim c.if-choice-eq1.branch [ then-choice-eq1 w ↦ w.size-is | else-choice-eq1 w ↦ absurd (w.if-choice-eq1.false one) ] in
    let end : c.loop-place-2.place ≡ max s.greatest (length s.bytes.items) = omega (arith, size, most) in
    stable_whole known c.loop-place-2.place (max s.greatest (length s.bytes.items)) (length s.touched.items) c.loop-place-2.image.items (length_known s.touched.items s.bytes.items s.covers) (c.loop-place-2.invariant.stable one) end
