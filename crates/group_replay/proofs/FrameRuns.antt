-- The frames of a group, one after the other, by the places where they stand.
use Rattle.std.specs.Prelude.{◌≡◌, ℕ, ◌+◌, ◌-◌, ◌≤◌, List, [], ◌++◌, length, take, drop, Option}
use Rattle.std.proofs.Common.{sym, ap, subst, ◌∙◌, arith, length-drop, length-take, drop-drop}
use Rattle.std.proofs.Math.Seq.{take-add}
use Rattle.send_model.specs.Checksum.{crc_of}
use Rattle.send_model.specs.Store.{State}
use Rattle.send_model.proofs.ChecksumLaws.{crc_of-append}
use Rattle.group_replay.specs.declared.place.Place.{Place}
use Rattle.group_replay.specs.Edits.{AreEdits, AreBadEdits}
use Rattle.group_replay.proofs.EditRuns.{no_edits, edits_join, bad_after}

-- The bytes between two places.
abbrev between : ℕ → ℕ → List ℕ → List ℕ
between first at seen = take (at - first) (drop first seen)

pub none_between : (at : ℕ) (seen : List ℕ) → [] ≡ between at at seen
none_between at seen = ap (λ (n : ℕ). take n (drop at seen)) (let e : 0 ≡ at - at = omega arith in e)

pub none_taken : (version at : ℕ) (seen : List ℕ) (s : State (Option Place)) → AreEdits version at (between at at seen) s s
none_taken version at seen s = subst (λ (l : List ℕ). AreEdits version at l s s) (none_between at seen) (no_edits version at s)

pub sum_of_none : (head at : ℕ) (seen : List ℕ) → head ≡ crc_of head (between at at seen)
unfolding crc_of
sum_of_none head at seen = ap (crc_of head) (none_between at seen)

module _ (first at end : ℕ) (seen : List ℕ) (begun : first ≤ at) (goes_on : at ≤ end) where
  -- what stands between two places is what stands up to a third, and from there on
  pub two_parts : between first end seen ≡ between first at seen ++ between at end seen
  two_parts =
      ap (λ (n : ℕ). take n (drop first seen)) (let e : end - first ≡ (at - first) + (end - at) = omega (arith, begun, goes_on) in e)
      ∙ take-add (at - first) (end - at) (drop first seen)
      ∙ ap (λ (l : List ℕ). between first at seen ++ take (end - at) l) (drop-drop (at - first) first seen ∙ ap (λ (n : ℕ). drop n seen) (omega (arith, begun)))

  pub sums_join : (head : ℕ) → crc_of (crc_of head (between first at seen)) (between at end seen) ≡ crc_of head (between first end seen)
  sums_join head = sym (crc_of-append head (between first at seen) (between at end seen)) ∙ ap (crc_of head) (sym two_parts)

  module _ (version : ℕ) (s t : State (Option Place)) (there : at ≤ length seen) (so_far : AreEdits version first (between first at seen) s t) where
    start : first + length (between first at seen) ≡ at
    start = omega (arith, length-take (at - first) (drop first seen), length-drop first seen, there, begun)

    pub frames_join : (u : State (Option Place)) → AreEdits version at (between at end seen) t u → AreEdits version first (between first end seen) s u
    frames_join u e =
        subst (λ (l : List ℕ). AreEdits version first l s u) (sym two_parts)
        (edits_join version first (between first at seen) (between at end seen) s t u so_far (subst (λ (n : ℕ). AreEdits version n (between at end seen) t u) (sym start) e))

    pub frames_bad : AreBadEdits version at (between at end seen) t → AreBadEdits version first (between first end seen) s
    frames_bad bad =
        subst (λ (l : List ℕ). AreBadEdits version first l s) (sym two_parts)
        (bad_after version first (between first at seen) (between at end seen) s t so_far (subst (λ (n : ℕ). AreBadEdits version n (between at end seen) t) (sym start) bad))
