-- The first of enough places at which a block stands is its stand.
use Rattle.std.specs.Prelude.{◌≡◌, ◌⊎◌, ℕ, ◌+◌, ◌%◌, ◌<◌, ◌≤◌, ◌==◌, Bool, true, false, not, ◌&&◌, ◌||◌, List, [], ◌∷◌, length, drop, Option, None, Some, MatchOption, if◌then◌else◌}
use Rattle.std.specs.List.{AllByRecursion}
use Rattle.std.proofs.Common.{refl, sym, ap, subst, ◌∙◌, arith, eqb-true, inl, inr}
use Rattle.std.proofs.lemmas.Bool.{false≢true, true≢false, and_parts}
use Rattle.send_model.specs.Subvolume.{Subvolume, is_file, is_nameable}
use Rattle.send_model.specs.Clone.{block_len, cells_of}
use Rattle.send_model.specs.Store.{Key}
use Rattle.send_model.specs.Provenance.{Place, can_serve}
use Rattle.standing_model.specs.Births.{Tagged}
use Rattle.standing_model.specs.Standing.{tags_alike, begin_with, place_in, first_such, stands_at, stand_of, IsLeastStand}
use Rattle.standing_model.specs.Candidates.{IsBefore, AreRising, IsOneOf, AreEnough, EnoughFindStand}
use Rattle.standing_model.proofs.LeastStands.{stand_is_least}

same_spot : (key : Key) (p : Place) → p.key ≡ key → place_in key p.ino p.offset ≡ p
same_spot key p e = λ i. record { key = sym e i; ino = p.ino; offset = p.offset }

module _ (test : Place → Bool) where
  none_such : (places : List Place) → AllByRecursion (λ p. test p ≡ false) places → first_such test places ≡ None
  none_such [] a = refl
  none_such (p ∷ places) a = ap (λ (b : Bool). if b then Some p else first_such test places) a.0 ∙ none_such places a.1

  -- What is found where one of some rising places passes: it, or one before it.
  record Found (places : List Place) (p : Place) : Type 0 where
    place : Place
    found : first_such test places ≡ Some place
    passes : test place ≡ true
    among : IsOneOf place places
    low : (place ≡ p) ⊎ IsBefore place p

  one_before : (p : Place) (Q : Place → Type 0) (places : List Place) → AllByRecursion Q places → IsOneOf p places → Q p
  one_before p Q [] a m = absurd m
  one_before p Q (q ∷ places) a (inl e) = subst Q e a.0
  one_before p Q (q ∷ places) a (inr m) = one_before p Q places a.1 m

  found_first : (places : List Place) (p : Place) → AreRising places → IsOneOf p places → test p ≡ true → Found places p
  found_first [] p r m t = absurd m
  found_first (q ∷ places) p r m t = one (test q) refl m (found_first places p r.1)
    where
      one : (b : Bool) → test q ≡ b → IsOneOf p (q ∷ places) → (IsOneOf p places → test p ≡ true → Found places p) → Found (q ∷ places) p
      one true e (inl same) more = record { place = q; found = ap (λ (b : Bool). if b then Some q else first_such test places) e; passes = e; among = inl refl; low = inl same }
      one true e (inr later) more = record { place = q; found = ap (λ (b : Bool). if b then Some q else first_such test places) e; passes = e; among = inl refl; low = inr (one_before p (IsBefore q) places r.0 later) }
      one false e (inl same) more = absurd (true≢false (sym t ∙ ap test (sym same) ∙ e))
      one false e (inr later) more =
          let f = more later t in
          record { place = f.place; found = ap (λ (b : Bool). if b then Some q else first_such test places) e ∙ f.found; passes = f.passes; among = inr f.among; low = f.low }

module _ (key : Key) (s : Subvolume Tagged) (target : ℕ) (cell : Tagged) (rest : List Tagged) (places : List Place) (enough : AreEnough key s cell places) where
  abbrev block : List Tagged
  block = cell ∷ rest

  begins : (cells : List Tagged) → begin_with cells block ≡ true → begin_with cells (cell ∷ []) ≡ true
  begins [] e = absurd (false≢true e)
  begins (d ∷ cells) e = let p = and_parts (tags_alike cell.tag d.tag) (begin_with cells rest) e in ap (λ (b : Bool). b && true) p.0

  -- A place at which the block stands is one of them.
  stands_among : (p : Place) → p.key ≡ key → stands_at s target block p ≡ true → IsOneOf p places
  stands_among p own t =
      let a = and_parts (can_serve (Some s) p (length block) && not (p.ino == target)) (begin_with (drop p.offset (cells_of s p.ino)) block) t in
      let b = and_parts (can_serve (Some s) p (length block)) (not (p.ino == target)) a.0 in
      let c = and_parts ((p.offset % block_len == 0) && (is_file s p.ino && is_nameable s p.ino)) ((length block == block_len) || (p.offset + length block == length (cells_of s p.ino))) b.0 in
      let d = and_parts (p.offset % block_len == 0) (is_file s p.ino && is_nameable s p.ino) c.0 in
      subst (λ (x : Place). IsOneOf x places) (same_spot key p own) (enough.complete p.ino p.offset (eqb-true (p.offset % block_len) 0 d.0) (begins (drop p.offset (cells_of s p.ino)) a.1))

  all_false : ((u o : ℕ) → stands_at s target block (place_in key u o) ≡ false) → (ps : List Place) → AllByRecursion (λ p. p.key ≡ key) ps → AllByRecursion (λ p. stands_at s target block p ≡ false) ps
  all_false f [] a = tt
  all_false f (p ∷ ps) a = (subst (λ (x : Place). stands_at s target block x ≡ false) (same_spot key p a.0) (f p.ino p.offset), all_false f ps a.1)

  none_found : ((u o : ℕ) → stands_at s target block (place_in key u o) ≡ false) → first_such (stands_at s target block) places ≡ None
  none_found f = none_such (stands_at s target block) places (all_false f places enough.own)

  some_found : (p : Place) → IsLeastStand key s target block p → first_such (stands_at s target block) places ≡ Some p
  some_found p l =
      let r = found_first (stands_at s target block) places p enough.rising (stands_among p l.own l.stands) l.stands in
      let q_own : r.place.key ≡ key = one_before (stands_at s target block) r.place (λ x. x.key ≡ key) places enough.own r.among in
      let order = l.least r.place.ino r.place.offset (subst (λ (x : Place). stands_at s target block x ≡ true) (sym (same_spot key r.place q_own)) r.passes) in
      r.found ∙ ap (λ (x : Place). Some x) (same r.place r.low order)
    where
      same : (q : Place) → (q ≡ p) ⊎ IsBefore q p → (p.ino < q.ino) ⊎ ((p.ino ≡ q.ino) × (p.offset ≤ q.offset)) → q ≡ p
      same q (inl e) order = e
      same q (inr (inl b)) (inl a) = absurd (omega (arith, a, b))
      same q (inr (inl b)) (inr a) = let e = a.0 in absurd (omega (arith, e, b))
      same q (inr (inr b)) (inl a) = let e = b.0 in absurd (omega (arith, e, a))
      same q (inr (inr b)) (inr a) = let l = b.1 in let m = a.1 in absurd (omega (arith, l, m))

pub enough_find_stand : EnoughFindStand
enough_find_stand key s target cell rest places sorted enough =
    one (stand_of key s target (cell ∷ rest)) (stand_is_least key s target (cell ∷ rest) (omega arith) sorted)
  where
    one : (o : Option Place) → MatchOption o ((u o : ℕ) → stands_at s target (cell ∷ rest) (place_in key u o) ≡ false) (IsLeastStand key s target (cell ∷ rest))
        → first_such (stands_at s target (cell ∷ rest)) places ≡ o
    one None f = none_found key s target cell rest places enough f
    one (Some p) l = some_found key s target cell rest places enough p l
