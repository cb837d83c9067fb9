-- What a range is cut into, where its first cells come from successive places.
use Rattle.std.specs.Prelude.{◌≡◌, ◌⊎◌, ℕ, zero, suc, ◌+◌, ◌-◌, ◌*◌, ◌%◌, ◌<◌, ◌≤◌, ◌==◌, Bool, true, false, ◌&&◌, ◌||◌, List, [], ◌∷◌, length, take, drop, get_or, Option, None, Some, IfSome, if◌then◌else◌}
use Rattle.std.proofs.Common.{refl, sym, ap, ap₂, subst, ◌∙◌, arith, inl, inr, add-zero, eqb-true, eq-eqb, min}
use Rattle.std.proofs.lemmas.Bool.{false≢true, and_parts}
use Rattle.std.proofs.lemmas.List.{length-take, length-drop, get_or-take, get_or-drop, drop_min}
use Rattle.send_model.specs.Clone.{block_len}
use Rattle.send_model.specs.Store.{Key, same_key}
use Rattle.send_model.specs.Provenance.{Place, same_place, is_at, next_place, place_after, blocks_from, blocks}
use Rattle.send_model.proofs.Sorts.{same_inside}
use Rattle.send_model.proofs.Stores.{same_key_same, same_key_true}
use Rattle.send_model.proofs.Overwriting.{drop_twice}
use Rattle.provenance.specs.Cuts.{succeed, may_serve, carrier, Cut, Run, Rest, cut_of, join_cut, cuts_from, cuts_of, later, Follows}

-- ---- places

pub same_place_same : (p : Place) → same_place p p ≡ true
same_place_same p = rw (same_key_same p.key, eq-eqb p.ino p.ino refl, eq-eqb p.offset p.offset refl) refl

same_place_true : (a b : Place) → same_place a b ≡ true → a ≡ b
same_place_true a b e =
    let p = and_parts (same_key a.key b.key && (a.ino == b.ino)) (a.offset == b.offset) e in
    let q = and_parts (same_key a.key b.key) (a.ino == b.ino) p.0 in
    λ i. record { key = same_key_true a.key b.key q.0 i; ino = eqb-true a.ino b.ino q.1 i; offset = eqb-true a.offset b.offset p.1 i }

at_true : (c : Option Place) (p : Place) → is_at c p ≡ true → c ≡ Some p
at_true None p e = absurd (false≢true e)
at_true (Some q) p e = ap Some (same_place_true q p e)

at_some : (c : Option Place) (p : Place) → c ≡ Some p → is_at c p ≡ true
at_some c p e = ap (λ (x : Option Place). is_at x p) e ∙ same_place_same p

moved : Place → ℕ → Place
moved p k = record p { offset = k }

pub after_none : (p : Place) → place_after p 0 ≡ p
unfolding moved
after_none p = ap (moved p) (add-zero p.offset)

pub after_twice : (p : Place) (a b : ℕ) → place_after (place_after p a) b ≡ place_after p (a + b)
unfolding moved
after_twice p a b = let e : p.offset + a + b ≡ p.offset + (a + b) = omega arith in ap (moved p) e

after_next : (p : Place) (i : ℕ) → place_after (next_place p) i ≡ place_after p (suc i)
unfolding moved
after_next p i = let e : p.offset + 1 + i ≡ p.offset + suc i = omega arith in ap (moved p) e

pub later_twice : (o : Option Place) (a b : ℕ) → later (later o a) b ≡ later o (a + b)
later_twice None a b = refl
later_twice (Some p) a b = ap Some (after_twice p a b)

succeed_all : (p : Place) (cells : List (Option Place)) → Follows (Some p) (length cells) cells → succeed p cells ≡ true
succeed_all p [] h = refl
succeed_all p (c ∷ cells) h =
    ap₂ (λ (a b : Bool). a && b) (at_some c p (h 0 (omega arith) ∙ ap Some (after_none p)))
    (succeed_all (next_place p) cells (λ i lt. h (suc i) (omega (arith, lt)) ∙ ap Some (sym (after_next p i))))

pub succeed_at : (p : Place) (cells : List (Option Place)) → succeed p cells ≡ true → Follows (Some p) (length cells) cells
succeed_at p [] e i lt = absurd (omega (arith, lt))
succeed_at p (c ∷ cells) e zero lt = at_true c p (and_parts (is_at c p) (succeed (next_place p) cells) e).0 ∙ ap Some (sym (after_none p))
succeed_at p (c ∷ cells) e (suc i) lt = succeed_at (next_place p) cells (and_parts (is_at c p) (succeed (next_place p) cells) e).1 i (omega (arith, lt)) ∙ ap Some (after_next p i)

-- ---- blocks

fuel : {A : Type 0} (n m : ℕ) (xs : List A) → length xs ≤ n → length xs ≤ m → blocks_from n xs ≡ blocks_from m xs
fuel zero zero xs l r = refl
fuel zero (suc m) [] l r = refl
fuel zero (suc m) (x ∷ xs) l r = absurd (omega (arith, l))
fuel (suc n) zero [] l r = refl
fuel (suc n) zero (x ∷ xs) l r = absurd (omega (arith, r))
fuel (suc n) (suc m) [] l r = refl
fuel {A} (suc n) (suc m) (x ∷ xs) l r =
    let d = length-drop block_len (x ∷ xs) in
    ap (λ (bs : List (List A)). take block_len (x ∷ xs) ∷ bs) (fuel n m (drop block_len (x ∷ xs)) (omega (arith, l, d)) (omega (arith, r, d)))

-- ---- joins

pub join_rests : (at a at' b : ℕ) (cuts : List Cut) → join_cut (Rest at a) (join_cut (Rest at' b) cuts) ≡ join_cut (Rest at (a + b)) cuts
unfolding join_cut
join_rests at a at' b [] = refl
join_rests at a at' b (Run place len ∷ cuts) = refl
join_rests at a at' b (Rest at'' len ∷ cuts) = let e : a + (b + len) ≡ a + b + len = omega arith in ap (λ (k : ℕ). Rest at k ∷ cuts) e

join_runs : (p : Place) (a b : ℕ) (cuts : List Cut) → join_cut (Run p a) (join_cut (Run (place_after p a) b) cuts) ≡ join_cut (Run p (a + b)) cuts
unfolding join_cut
join_runs p a b [] = ap (λ (t : Bool). if t then Run p (a + b) ∷ [] else Run p a ∷ Run (place_after p a) b ∷ []) (same_place_same (place_after p a))
join_runs p a b (Rest at len ∷ cuts) = ap (λ (t : Bool). if t then Run p (a + b) ∷ Rest at len ∷ cuts else Run p a ∷ Run (place_after p a) b ∷ Rest at len ∷ cuts) (same_place_same (place_after p a))
join_runs p a b (Run q len ∷ cuts) = ap (λ (x : Place). one_join (same_place x q)) (after_twice p a b) ∙ one (same_place (place_after p (a + b)) q)
  where
    one_join : Bool → List Cut
    one_join t = join_cut (Run p a) (if t then Run (place_after p a) (b + len) ∷ cuts else Run (place_after p a) b ∷ Run q len ∷ cuts)

    one : (t : Bool) → one_join t ≡ (if t then Run p (a + b + len) ∷ cuts else Run p (a + b) ∷ Run q len ∷ cuts)
    one true =
        let e : a + (b + len) ≡ a + b + len = omega arith in
        ap (λ (t : Bool). if t then Run p (a + (b + len)) ∷ cuts else Run p a ∷ Run (place_after p a) (b + len) ∷ cuts) (same_place_same (place_after p a)) ∙ ap (λ (k : ℕ). Run p k ∷ cuts) e
    one false = ap (λ (t : Bool). if t then Run p (a + b) ∷ Run q len ∷ cuts else Run p a ∷ Run (place_after p a) b ∷ Run q len ∷ cuts) (same_place_same (place_after p a))

run_then_rest : (p : Place) (c at len : ℕ) (cuts : List Cut) → join_cut (Run p c) (join_cut (Rest at len) cuts) ≡ Run p c ∷ join_cut (Rest at len) cuts
unfolding join_cut
run_then_rest p c at len [] = refl
run_then_rest p c at len (Run q n ∷ cuts) = refl
run_then_rest p c at len (Rest at' n ∷ cuts) = refl

no_more : (p : Place) (c : ℕ) → join_cut (Run p c) [] ≡ Run p c ∷ []
unfolding join_cut
no_more p c = refl

apart : (b : Bool) → (b ≡ true → ⊥) → b ≡ false
apart true h = absurd (h refl)
apart false h = refl

run_then_run : (p : Place) (c : ℕ) (q : Place) (n : ℕ) (cuts : List Cut) → (place_after p c ≡ q → ⊥) → join_cut (Run p c) (join_cut (Run q n) cuts) ≡ Run p c ∷ join_cut (Run q n) cuts
unfolding join_cut
run_then_run p c q n cuts other = one cuts
  where
    off : same_place (place_after p c) q ≡ false
    off = apart (same_place (place_after p c) q) (λ t. other (same_place_true (place_after p c) q t))

    first : (m : ℕ) (more : List Cut) → join_cut (Run p c) (Run q m ∷ more) ≡ Run p c ∷ Run q m ∷ more
    first m more = ap (λ (t : Bool). if t then Run p (c + m) ∷ more else Run p c ∷ Run q m ∷ more) off

    two : (t : Bool) (q' : Place) (m : ℕ) (more : List Cut) → join_cut (Run p c) (if t then Run q (n + m) ∷ more else Run q n ∷ Run q' m ∷ more) ≡ Run p c ∷ (if t then Run q (n + m) ∷ more else Run q n ∷ Run q' m ∷ more)
    two true q' m more = first (n + m) more
    two false q' m more = first n (Run q' m ∷ more)

    one : (more : List Cut) → join_cut (Run p c) (join_cut (Run q n) more) ≡ Run p c ∷ join_cut (Run q n) more
    one [] = first n []
    one (Rest at m ∷ more) = first n (Rest at m ∷ more)
    one (Run q' m ∷ more) = two (same_place (place_after q n) q') q' m more

-- ---- one block

module _ (ends : Key → ℕ → Option ℕ) where
  -- What a block that is carried from a place, or is not, begins.
  unfoldable pub begun : ℕ → Option Place → ℕ → List (Option Place) → List Cut
  begun at None n cells = join_cut (Rest at n) (cuts_of ends (at + n) cells)
  begun at (Some place) n cells = join_cut (Run place n) (cuts_of ends (at + n) cells)

  begun_is : (at : ℕ) (o : Option Place) (n : ℕ) (cells : List (Option Place)) → join_cut (elim o as (λ x. Cut) [ None ↦ Rest at n | Some place ↦ Run place n ]) (cuts_of ends (at + n) cells) ≡ begun at o n cells
  unfolding begun
  begun_is at None n cells = refl
  begun_is at (Some place) n cells = refl

  pub begun_rest : (at n : ℕ) (cells : List (Option Place)) → begun at None n cells ≡ join_cut (Rest at n) (cuts_of ends (at + n) cells)
  unfolding begun
  begun_rest at n cells = refl

  pub no_cells : (at : ℕ) → cuts_of ends at [] ≡ []
  unfolding cuts_of blocks
  no_cells at = refl

  unrolled : (at : ℕ) (cells : List (Option Place)) → 0 < length cells
      → cuts_of ends at cells ≡ join_cut (cut_of ends at (take block_len cells)) (cuts_of ends (at + length (take block_len cells)) (drop block_len cells))
  unfolding cuts_of blocks
  unrolled at [] some = absurd (omega (arith, some))
  unrolled at (c ∷ cells) some =
      let block : List (Option Place) = take block_len (c ∷ cells) in
      let d = length-drop block_len (c ∷ cells) in
      ap (λ (bs : List (List (Option Place))). join_cut (cut_of ends at block) (cuts_from ends (at + length block) bs))
      (fuel (length cells) (length (drop block_len (c ∷ cells))) (drop block_len (c ∷ cells)) (omega (arith, d)) (omega arith))

  pub one_block : (at : ℕ) (cells : List (Option Place)) → 0 < length cells → (o : Option Place) → carrier ends (take block_len cells) ≡ o → (n : ℕ) → n ≡ min block_len (length cells)
      → cuts_of ends at cells ≡ begun at o n (drop n cells)
  one_block at cells some o is n long =
      unrolled at cells some
      ∙ begun_is at (carrier ends (take block_len cells)) (length (take block_len cells)) (drop block_len cells)
      ∙ ap (λ (x : Option Place). begun at x (length (take block_len cells)) (drop block_len cells)) is
      ∙ ap (λ (k : ℕ). begun at o k (drop block_len cells)) (length-take block_len cells ∙ sym long)
      ∙ ap (begun at o n) (sym (drop_min block_len cells) ∙ ap (λ (k : ℕ). drop k cells) (sym long))

  -- ---- which blocks are carried

  pub serving : (o : Option ℕ) (q : Place) (len : ℕ) → may_serve o q len ≡ true → (end : ℕ) × (o ≡ Some end) × (q.offset % 4096 ≡ 0) × ((len ≡ 4096) ⊎ (q.offset + len ≡ end))
  serving None q len e = absurd (false≢true e)
  serving (Some end) q len e =
      let a = and_parts (q.offset % block_len == 0) ((len == block_len) || (q.offset + len == end)) e in
      (end, refl, eqb-true (q.offset % block_len) 0 a.0, one (len == block_len) (q.offset + len == end) refl refl a.1)
    where
      one : (x y : Bool) → (len == block_len) ≡ x → (q.offset + len == end) ≡ y → x || y ≡ true → (len ≡ 4096) ⊎ (q.offset + len ≡ end)
      one true y f g t = inl (eqb-true len block_len f)
      one false true f g t = inr (eqb-true (q.offset + len) end g)
      one false false f g t = absurd (false≢true t)

  may : (o : Option ℕ) (end : ℕ) (q : Place) (len : ℕ) → o ≡ Some end → q.offset % 4096 ≡ 0 → (len ≡ 4096) ⊎ (q.offset + len ≡ end) → may_serve o q len ≡ true
  may o end q len is even ends_there =
      ap (λ (x : Option ℕ). may_serve x q len) is
      ∙ ap₂ (λ (a b : Bool). a && b) (eq-eqb (q.offset % block_len) 0 even) (one ends_there)
    where
      or_right : (b : Bool) → b || true ≡ true
      or_right true = refl
      or_right false = refl

      one : (len ≡ 4096) ⊎ (q.offset + len ≡ end) → (len == block_len) || (q.offset + len == end) ≡ true
      one (inl whole) = ap (λ (b : Bool). b || (q.offset + len == end)) (eq-eqb len block_len whole)
      one (inr last) = ap (λ (b : Bool). (len == block_len) || b) (eq-eqb (q.offset + len) end last) ∙ or_right (len == block_len)

  pub record IsCarried (q : Place) (block : List (Option Place)) : Type 0 where
    pub come : succeed q block ≡ true
    pub can : may_serve (ends q.key q.ino) q (length block) ≡ true
    pub first : get_or block 0 None ≡ Some q

  pub carried : (block : List (Option Place)) (q : Place) → carrier ends block ≡ Some q → IsCarried q block
  unfolding carrier
  carried [] q e = cc
  carried (None ∷ cells) q e = cc
  carried (Some p ∷ cells) q e = one (succeed p (Some p ∷ cells) && may_serve (ends p.key p.ino) p (length (Some p ∷ cells))) refl e
    where
      one : (b : Bool) → succeed p (Some p ∷ cells) && may_serve (ends p.key p.ino) p (length (Some p ∷ cells)) ≡ b → (if b then Some p else None) ≡ Some q → IsCarried q (Some p ∷ cells)
      one false t r = cc
      one true t r =
          let two = and_parts (succeed p (Some p ∷ cells)) (may_serve (ends p.key p.ino) p (length (Some p ∷ cells))) t in
          subst (λ (x : Place). IsCarried x (Some p ∷ cells)) (same_inside r) (record { come = two.0; can = two.1; first = refl })

  carries : (block : List (Option Place)) (q : Place) → IsCarried q block → carrier ends block ≡ Some q
  unfolding carrier
  carries [] q h = let e : None ≡ Some q = h.first in cc
  carries (None ∷ cells) q h = let e : None ≡ Some q = h.first in cc
  carries (Some p ∷ cells) q h =
      let e : p ≡ q = same_inside h.first in
      let come : succeed p (Some p ∷ cells) ≡ true = subst (λ (x : Place). succeed x (Some p ∷ cells) ≡ true) (sym e) h.come in
      let can : may_serve (ends p.key p.ino) p (length (Some p ∷ cells)) ≡ true = subst (λ (x : Place). may_serve (ends x.key x.ino) x (length (Some p ∷ cells)) ≡ true) (sym e) h.can in
      ap (λ (b : Bool). if b then Some p else None) (ap₂ (λ (a b : Bool). a && b) come can) ∙ ap Some e

  pub none_from : (o : Option Place) → ((q : Place) → o ≡ Some q → ⊥) → o ≡ None
  none_from None h = refl
  none_from (Some q) h = absurd (h q refl)

  -- ---- a stretch of cells from successive places

  abbrev pub Never : Option Place → Type 0
  Never o = IfSome o (λ p. (end : ℕ) → ends p.key p.ino ≡ Some end → p.offset % 4096 ≡ 0 → ⊥)

  never_later : (o : Option Place) → Never o → Never (later o 4096)
  never_later None h = tt
  never_later (Some p) h = λ end is even. h end is (omega (arith, even))

  never_at : (o : Option Place) (q : Place) → later o 0 ≡ Some q → Never o → (end : ℕ) → ends q.key q.ino ≡ Some end → q.offset % 4096 ≡ 0 → ⊥
  never_at None q e h end is even = cc
  never_at (Some p) q e h end is even =
      let same : p ≡ q = sym (after_none p) ∙ same_inside e in
      h end (ap (λ (x : Place). ends x.key x.ino) same ∙ is) (ap (λ (x : Place). x.offset % 4096) same ∙ even)

  pub first_is : (cells : List (Option Place)) → get_or (take block_len cells) 0 None ≡ get_or cells 0 None
  first_is cells = get_or-take block_len cells 0 None (omega arith)

  never_carried : (o : Option Place) (k : ℕ) (cells : List (Option Place)) → 0 < k → Follows o k cells → Never o → carrier ends (take block_len cells) ≡ None
  never_carried o k cells some follows never = none_from (carrier ends (take block_len cells)) (λ q e.
      let h = carried (take block_len cells) q e in
      let s = serving (ends q.key q.ino) q (length (take block_len cells)) h.can in
      never_at o q (sym (follows 0 (omega (arith, some))) ∙ sym (first_is cells) ∙ h.first) never s.0 s.1 s.2)

  follows_later : (o : Option Place) (n k : ℕ) (cells : List (Option Place)) → Follows o (n + k) cells → Follows (later o n) k (drop n cells)
  follows_later o n k cells h i lt = get_or-drop n cells i None ∙ h (n + i) (omega (arith, lt)) ∙ sym (later_twice o n i)

  -- Blocks that begin in such a stretch are not carried where none can be.
  pub passed : (m at : ℕ) (o : Option Place) (k s : ℕ) (cells : List (Option Place)) → k ≤ 4096 * m → 4096 * m < k + 4096 → 0 < k → k ≤ length cells → s ≡ min (4096 * m) (length cells) → Follows o k cells → Never o
      → cuts_of ends at cells ≡ join_cut (Rest at s) (cuts_of ends (at + s) (drop s cells))
  unfolding begun
  passed zero at o k s cells upper lower some within long follows never = absurd (omega (arith, upper, some))
  passed (suc zero) at o k s cells upper lower some within long follows never =
      one_block at cells (omega (arith, some, within)) None (never_carried o k cells some follows never) s (omega (arith, long))
  passed (suc (suc m)) at o k s cells upper lower some within long follows never =
      let d = length-drop 4096 cells in
      let big : 4096 < k = omega (arith, lower) in
      let rest : ℕ = s - 4096 in
      let whole : s ≡ 4096 + rest = omega (arith, long, big, within) in
      let more = passed (suc m) (at + 4096) (later o 4096) (k - 4096) rest (drop 4096 cells) (omega (arith, upper)) (omega (arith, lower, big)) (omega (arith, big)) (omega (arith, d, within)) (omega (arith, d, long, big, within))
      (follows_later o 4096 (k - 4096) cells (let e : 4096 + (k - 4096) ≡ k = omega (arith, big) in subst (λ (j : ℕ). Follows o j cells) (sym e) follows)) (never_later o never) in
      let there : at + 4096 + rest ≡ at + s = omega (arith, whole) in
      one_block at cells (omega (arith, some, within)) None (never_carried o k cells some follows never) 4096 (omega (arith, big, within))
      ∙ ap (join_cut (Rest at 4096)) more
      ∙ join_rests at 4096 (at + 4096) rest (cuts_of ends (at + 4096 + rest) (drop rest (drop 4096 cells)))
      ∙ ap₂ (λ (j : ℕ) (xs : List (Option Place)). join_cut (Rest at (4096 + rest)) (cuts_of ends j xs)) there (drop_twice 4096 rest cells)
      ∙ ap (λ (j : ℕ). join_cut (Rest at j) (cuts_of ends (at + s) (drop j cells))) (sym whole)

  front_carried : (p : Place) (n : ℕ) (cells : List (Option Place)) (end : ℕ) → n ≡ min block_len (length cells) → 0 < n → Follows (Some p) n cells → ends p.key p.ino ≡ Some end → p.offset % 4096 ≡ 0
      → (n ≡ 4096) ⊎ (p.offset + n ≡ end) → carrier ends (take block_len cells) ≡ Some p
  front_carried p n cells end long some follows is even last =
      let l : length (take block_len cells) ≡ n = length-take block_len cells ∙ sym long in
      carries (take block_len cells) p (record {
        come = succeed_all p (take block_len cells) (λ i lt. get_or-take block_len cells i None (omega (arith, lt, l, long)) ∙ follows i (omega (arith, lt, l)));
        can = ap (may_serve (ends p.key p.ino) p) l ∙ may (ends p.key p.ino) end p n is even last;
        first = first_is cells ∙ follows 0 (omega (arith, some)) ∙ ap Some (after_none p);
      })

  -- Blocks of such a stretch are carried where its file can serve them.
  pub ran : (m at : ℕ) (p : Place) (c end : ℕ) (cells : List (Option Place)) → c ≤ 4096 * m → 4096 * m < c + 4096 → 0 < c → c ≤ length cells → Follows (Some p) c cells → ends p.key p.ino ≡ Some end → p.offset % 4096 ≡ 0
      → (c % 4096 ≡ 0) ⊎ ((c ≡ length cells) × (p.offset + c ≡ end)) → cuts_of ends at cells ≡ join_cut (Run p c) (cuts_of ends (at + c) (drop c cells))
  unfolding begun
  ran zero at p c end cells upper lower some within follows is even last = absurd (omega (arith, upper, some))
  ran (suc zero) at p c end cells upper lower some within follows is even last =
      let two = one last in
      one_block at cells (omega (arith, some, within)) (Some p) (front_carried p c cells end two.0 some follows is even two.1) c two.0
    where
      one : (c % 4096 ≡ 0) ⊎ ((c ≡ length cells) × (p.offset + c ≡ end)) → (c ≡ min block_len (length cells)) × ((c ≡ 4096) ⊎ (p.offset + c ≡ end))
      one (inl whole) = (omega (arith, whole, upper, some, within), inl (omega (arith, whole, upper, some)))
      one (inr short) = (omega (arith, short.0, upper), inr short.1)
  ran (suc (suc m)) at p c end cells upper lower some within follows is even last =
      let d = length-drop 4096 cells in
      let big : 4096 < c = omega (arith, lower) in
      let rest : ℕ = c - 4096 in
      let whole : c ≡ 4096 + rest = omega (arith, big) in
      let more = ran (suc m) (at + 4096) (place_after p 4096) rest end (drop 4096 cells) (omega (arith, upper)) (omega (arith, lower, big)) (omega (arith, big)) (omega (arith, d, within))
      (follows_later (Some p) 4096 rest cells (subst (λ (j : ℕ). Follows (Some p) j cells) whole follows)) is (omega (arith, even)) (one last) in
      let there : at + 4096 + rest ≡ at + c = omega (arith, whole) in
      one_block at cells (omega (arith, some, within)) (Some p) (front_carried p 4096 cells end (omega (arith, big, within)) (omega arith) (λ i lt. follows i (omega (arith, lt, big))) is even (inl refl)) 4096 (omega (arith, big, within))
      ∙ ap (join_cut (Run p 4096)) more
      ∙ join_runs p 4096 rest (cuts_of ends (at + 4096 + rest) (drop rest (drop 4096 cells)))
      ∙ ap₂ (λ (j : ℕ) (xs : List (Option Place)). join_cut (Run p (4096 + rest)) (cuts_of ends j xs)) there (drop_twice 4096 rest cells)
      ∙ ap (λ (j : ℕ). join_cut (Run p j) (cuts_of ends (at + c) (drop j cells))) (sym whole)
    where
      one : (c % 4096 ≡ 0) ⊎ ((c ≡ length cells) × (p.offset + c ≡ end)) → ((c - 4096) % 4096 ≡ 0) ⊎ ((c - 4096 ≡ length (drop 4096 cells)) × (p.offset + 4096 + (c - 4096) ≡ end))
      one (inl whole) = inl (omega (arith, whole, lower))
      one (inr short) = inr (omega (arith, short.0, length-drop 4096 cells), omega (arith, short.1, lower))

  -- A run is whole where the next block does not go on from it.
  pub whole_run : (at : ℕ) (p : Place) (c : ℕ) (cells : List (Option Place)) → ((q : Place) → carrier ends (take block_len cells) ≡ Some q → place_after p c ≡ q → ⊥)
      → join_cut (Run p c) (cuts_of ends at cells) ≡ Run p c ∷ cuts_of ends at cells
  unfolding begun
  whole_run at p c [] other = ap (join_cut (Run p c)) (no_cells at) ∙ none_join ∙ ap (λ (r : List Cut). Run p c ∷ r) (sym (no_cells at))
    where
      none_join : join_cut (Run p c) [] ≡ Run p c ∷ []
      none_join = no_more p c
  whole_run at p c (x ∷ cells) other = one (carrier ends (take block_len (x ∷ cells))) refl
    where
      n : ℕ
      n = min block_len (length (x ∷ cells))

      one : (o : Option Place) → carrier ends (take block_len (x ∷ cells)) ≡ o → join_cut (Run p c) (cuts_of ends at (x ∷ cells)) ≡ Run p c ∷ cuts_of ends at (x ∷ cells)
      one None e =
          let is = one_block at (x ∷ cells) (omega arith) None e n refl in
          ap (join_cut (Run p c)) is ∙ run_then_rest p c at n (cuts_of ends (at + n) (drop n (x ∷ cells))) ∙ ap (λ (r : List Cut). Run p c ∷ r) (sym is)
      one (Some q) e =
          let is = one_block at (x ∷ cells) (omega arith) (Some q) e n refl in
          ap (join_cut (Run p c)) is ∙ run_then_run p c q n (cuts_of ends (at + n) (drop n (x ∷ cells))) (other q e) ∙ ap (λ (r : List Cut). Run p c ∷ r) (sym is)
