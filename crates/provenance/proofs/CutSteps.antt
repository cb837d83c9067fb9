-- One step over a range: the cells in front come from successive places, or none has a place, as
-- far as they go.
use Rattle.std.specs.Prelude.{◌≡◌, ◌⊎◌, ℕ, ◌+◌, ◌-◌, ◌*◌, ◌/◌, ◌%◌, ◌<◌, ◌≤◌, ◌==◌, Bool, true, false, ◌&&◌, List, ◌∷◌, length, take, drop, get_or, Option, None, Some, if◌then◌else◌}
use Rattle.std.proofs.Common.{refl, sym, ap, ap₂, subst, ◌∙◌, arith, inl, inr, eqb-true, eq-eqb, min}
use Rattle.std.proofs.lemmas.Bool.{and_parts, eqb-false, false≢true}
use Rattle.std.proofs.lemmas.List.{length-take, length-drop, get_or-take, get_or-drop, get_or_past}
use Rattle.send_model.specs.Clone.{block_len}
use Rattle.send_model.specs.Store.{Key}
use Rattle.send_model.specs.Provenance.{Place, place_after}
use Rattle.send_model.proofs.Sorts.{same_inside}
use Rattle.provenance.specs.Cuts.{carrier, Run, Rest, join_cut, cuts_of, Follows, Stops, served, carried_len}
use Rattle.provenance.proofs.CutLaws.{after_twice, succeed_at, IsCarried, carried, serving, none_from, first_is, one_block, Never, passed, ran, whole_run, begun, begun_rest}

module _ (ends : Key → ℕ → Option ℕ) where
  -- A block that begins in a stretch, of whose cells it has fewer than a block's, is not carried:
  -- it goes on after the stretch, or ends where its file does not.
  tail : (p : Place) (k c end : ℕ) (cells : List (Option Place)) → c ≤ k → k < c + 4096 → k ≤ length cells → Stops (Some p) k cells → ends p.key p.ino ≡ Some end
      → (k ≡ length cells → p.offset + k ≡ end → ⊥) → (q : Place) → place_after p c ≡ q → carrier ends (take block_len (drop c cells)) ≡ Some q → ⊥
  tail p k c end cells from below within stops is other q same e = one (serving ends (ends q'.key q'.ino) q' (length block) h.can)
    where
      block : List (Option Place)
      block = take block_len (drop c cells)

      q' : Place
      q' = place_after p c

      h : IsCarried ends q' block
      h = carried ends block q' (e ∙ ap Some (sym same))

      long : length block ≡ min 4096 (length cells - c)
      long = length-take block_len (drop c cells) ∙ ap (min 4096) (length-drop c cells)

      goes_on : k < length cells → ⊥
      goes_on more =
          let back : c + (k - c) ≡ k = omega (arith, from) in
          let here : get_or cells k None ≡ Some (place_after p k) =
          ap (λ (i : ℕ). get_or cells i None) (sym back) ∙ sym (get_or-drop c cells (k - c) None) ∙ sym (get_or-take block_len (drop c cells) (k - c) None (omega (arith, below, from)))
          ∙ succeed_at q' block h.come (k - c) (omega (arith, long, below, from, more)) ∙ ap Some (after_twice p c (k - c) ∙ ap (place_after p) back) in
          stops more here

      last : k ≡ length cells → (length block ≡ 4096) ⊎ (p.offset + c + length block ≡ end) → ⊥
      last all (inl whole) = absurd (omega (arith, long, whole, below, from, all))
      last all (inr there) = other all (omega (arith, long, there, below, from, all))

      one : (end' : ℕ) × (ends p.key p.ino ≡ Some end') × (q'.offset % 4096 ≡ 0) × ((length block ≡ 4096) ⊎ (q'.offset + length block ≡ end')) → ⊥
      one s =
          let same_end : s.0 ≡ end = same_inside (sym s.1 ∙ is) in
          two (k == length cells) refl (subst (λ (x : ℕ). (length block ≡ 4096) ⊎ (q'.offset + length block ≡ x)) same_end s.3)
        where
          two : (b : Bool) → (k == length cells) ≡ b → (length block ≡ 4096) ⊎ (p.offset + c + length block ≡ end) → ⊥
          two true t so = last (eqb-true k (length cells) t) so
          two false t so = let off = eqb-false k (length cells) t in goes_on (three off)
            where
              three : (k ≡ length cells → ⊥) → k < length cells
              three off = omega (arith, within, off)

  -- How many cells of a stretch a file serves: all, where both end together, or else the whole
  -- blocks.
  pub record IsServed (o : Option ℕ) (p : Place) (k n c : ℕ) : Type 0 where
    pub end : ℕ
    pub is : o ≡ Some end
    pub even : p.offset % 4096 ≡ 0
    pub cases : ((k ≡ n) × (p.offset + k ≡ end) × (c ≡ k)) ⊎ ((k ≡ n → p.offset + k ≡ end → ⊥) × (c ≡ k - k % 4096))

  serves : (o : Option ℕ) (p : Place) (k n : ℕ) → 0 < served o p k n → IsServed o p k n (served o p k n)
  serves None p k n some = absurd (omega (arith, some))
  serves (Some end) p k n some = one (p.offset % block_len == 0) refl some
    where
      one : (b : Bool) → (p.offset % block_len == 0) ≡ b → 0 < (if b then (if (k == n) && (p.offset + k == end) then k else k - k % block_len) else 0)
          → IsServed (Some end) p k n (if b then (if (k == n) && (p.offset + k == end) then k else k - k % block_len) else 0)
      one false e s = absurd (omega (arith, s))
      one true e s = record { end = end; is = refl; even = eqb-true (p.offset % block_len) 0 e; cases = two ((k == n) && (p.offset + k == end)) refl }
        where
          two : (b : Bool) → (k == n) && (p.offset + k == end) ≡ b
              → ((k ≡ n) × (p.offset + k ≡ end) × ((if b then k else k - k % block_len) ≡ k)) ⊎ ((k ≡ n → p.offset + k ≡ end → ⊥) × ((if b then k else k - k % block_len) ≡ k - k % 4096))
          two true t = let a = and_parts (k == n) (p.offset + k == end) t in inl (eqb-true k n a.0, eqb-true (p.offset + k) end a.1, refl)
          two false t = inr ((λ same there. absurd (false≢true (sym t ∙ ap₂ (λ (a b : Bool). a && b) (eq-eqb k n same) (eq-eqb (p.offset + k) end there)))), refl)

  pub served_within : (o : Option ℕ) (p : Place) (k n : ℕ) → served o p k n ≤ k
  served_within None p k n = omega arith
  served_within (Some end) p k n = one (p.offset % block_len == 0) ((k == n) && (p.offset + k == end))
    where
      one : (b d : Bool) → (if b then (if d then k else k - k % block_len) else 0) ≤ k
      one false d = omega arith
      one true true = omega arith
      one true false = omega arith

  -- A run of carried blocks in front.
  pub step_carried : (at : ℕ) (p : Place) (k c : ℕ) (cells : List (Option Place)) → k ≤ length cells → Follows (Some p) k cells → Stops (Some p) k cells
      → c ≡ carried_len ends (Some p) k (length cells) → 0 < c → cuts_of ends at cells ≡ Run p c ∷ cuts_of ends (at + c) (drop c cells)
  step_carried at p k c cells within follows stops is some =
      let h : IsServed (ends p.key p.ino) p k (length cells) c = subst (λ (x : ℕ). IsServed (ends p.key p.ino) p k (length cells) x) (sym is) (serves (ends p.key p.ino) p k (length cells) (omega (arith, is, some))) in
      let w = served_within (ends p.key p.ino) p k (length cells) in
      let le : c ≤ k = omega (arith, is, w) in
      ran ends ((c + 4095) / 4096) at p c h.end cells (omega arith) (omega arith) some (omega (arith, le, within)) (λ i lt. follows i (omega (arith, lt, le))) h.is h.even (last h.cases)
      ∙ whole_run ends (at + c) p c (drop c cells) (other h.end h.is h.cases)
    where
      last : {end : ℕ} → ((k ≡ length cells) × (p.offset + k ≡ end) × (c ≡ k)) ⊎ ((k ≡ length cells → p.offset + k ≡ end → ⊥) × (c ≡ k - k % 4096)) → (c % 4096 ≡ 0) ⊎ ((c ≡ length cells) × (p.offset + c ≡ end))
      last (inl all) = inr (all.2 ∙ all.0, omega (arith, all.1, all.2))
      last (inr part) = inl (omega (arith, part.1))

      other : (end : ℕ) → ends p.key p.ino ≡ Some end → ((k ≡ length cells) × (p.offset + k ≡ end) × (c ≡ k)) ⊎ ((k ≡ length cells → p.offset + k ≡ end → ⊥) × (c ≡ k - k % 4096))
          → (q : Place) → carrier ends (take block_len (drop c cells)) ≡ Some q → place_after p c ≡ q → ⊥
      other end is (inl all) q e same =
          let h = carried ends (take block_len (drop c cells)) q e in
          let past : get_or (drop c cells) 0 None ≡ None = get_or_past (drop c cells) 0 None (omega (arith, length-drop c cells, all.0, all.2)) in
          let none : None ≡ Some q = sym past ∙ sym (first_is ends (drop c cells)) ∙ h.first in
          cc
      other end is (inr part) q e same = tail p k c end cells (omega (arith, part.1)) (omega (arith, part.1)) within stops is part.0 q same e

  -- No carried block in front.
  pub step_passed : (at : ℕ) (o : Option Place) (k s : ℕ) (cells : List (Option Place)) → 0 < k → k ≤ length cells → Follows o k cells → Stops o k cells
      → carried_len ends o k (length cells) ≡ 0 → s ≡ min ((k + 4095) / 4096 * 4096) (length cells) → cuts_of ends at cells ≡ join_cut (Rest at s) (cuts_of ends (at + s) (drop s cells))
  step_passed at None k s cells some within follows stops is long = passed ends ((k + 4095) / 4096) at None k s cells (omega arith) (omega arith) some within (omega (arith, long)) follows tt
  step_passed at (Some p) k s cells some within follows stops is long = one (ends p.key p.ino) refl is
    where
      never : Never ends (Some p) → cuts_of ends at cells ≡ join_cut (Rest at s) (cuts_of ends (at + s) (drop s cells))
      never h = passed ends ((k + 4095) / 4096) at (Some p) k s cells (omega arith) (omega arith) some within (omega (arith, long)) follows h

      short : (end : ℕ) → ends p.key p.ino ≡ Some end → k < 4096 → (k ≡ length cells → p.offset + k ≡ end → ⊥) → carrier ends (take block_len cells) ≡ None
      short end there small apart = none_from ends (carrier ends (take block_len cells)) (λ q e.
          let h = carried ends (take block_len cells) q e in
          tail p k 0 end cells (omega arith) (omega (arith, small)) within stops there apart q (same_inside (sym (follows 0 (omega (arith, some))) ∙ sym (first_is ends cells) ∙ h.first)) e)

      one : (o : Option ℕ) → ends p.key p.ino ≡ o → served o p k (length cells) ≡ 0 → cuts_of ends at cells ≡ join_cut (Rest at s) (cuts_of ends (at + s) (drop s cells))
      one None there none = never (λ end is even. let no : None ≡ Some end = sym there ∙ is in cc)
      one (Some end) there none = two (p.offset % block_len == 0) refl none
        where
          two : (b : Bool) → (p.offset % block_len == 0) ≡ b → (if b then (if (k == length cells) && (p.offset + k == end) then k else k - k % block_len) else 0) ≡ 0 → cuts_of ends at cells ≡ join_cut (Rest at s) (cuts_of ends (at + s) (drop s cells))
          two false t z = never (λ end' is even. eqb-false (p.offset % block_len) 0 t even)
          two true t z = three ((k == length cells) && (p.offset + k == end)) refl z
            where
              three : (b : Bool) → (k == length cells) && (p.offset + k == end) ≡ b → (if b then k else k - k % block_len) ≡ 0 → cuts_of ends at cells ≡ join_cut (Rest at s) (cuts_of ends (at + s) (drop s cells))
              three true u z' = absurd (omega (arith, z', some))
              three false u z' =
                  let small : k < 4096 = omega (arith, z', some) in
                  begun_none (one_block ends at cells (omega (arith, some, within)) None
                  (short end there small (λ same last. absurd (false≢true (sym u ∙ ap₂ (λ (a b : Bool). a && b) (eq-eqb k (length cells) same) (eq-eqb (p.offset + k) end last))))) s (omega (arith, long, small, some)))
                where
                  begun_none : cuts_of ends at cells ≡ begun ends at None s (drop s cells) → cuts_of ends at cells ≡ join_cut (Rest at s) (cuts_of ends (at + s) (drop s cells))
                  begun_none h = h ∙ begun_rest ends at s (drop s cells)
