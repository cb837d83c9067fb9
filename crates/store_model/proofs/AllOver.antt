-- After the schedule and one turn more for each item and each end, each session is over.
use Rattle.std.specs.Prelude.{◌≡◌, ◌≤◌, ℕ, zero, suc, ◌+◌, Bool, true, false, List, [], ◌∷◌, ◌++◌, length, replicate, Option, None, Some, is_some, if◌then◌else◌}
use Rattle.std.specs.List.{AllByRecursion, slice_get}
use Rattle.std.proofs.Common.{refl, sym, ap, subst, ◌∙◌, inl, inr, arith}
use Rattle.send_model.specs.Refusal.{Refusal}
use Rattle.send_model.specs.Reading.{Item}
use Rattle.send_model.specs.Store.{Store, step}
use Rattle.send_model.specs.Receive.{verdict_of}
use Rattle.send_model.specs.Guards.{guarded, looked}
use Rattle.send_model.proofs.Sorts.{same_inside}
use Rattle.store_model.specs.Turns.{Session, Turn, part_of, turned, next_turn, session_turn, Turns, with_at, after_turn, one_turn, after_turns, at_entry, to_the_end, interleaved}
use Rattle.store_model.specs.TurnLaws.{AllAreOver}
use Rattle.store_model.proofs.Origins.{get_same, which_at}
use Rattle.store_model.proofs.TurnOrder.{turns_joined}

none_still : {A : Type 0} (xs : List A) (n m : ℕ) (y : A) → slice_get xs m ≡ None → slice_get (with_at n y xs) m ≡ None
unfolding with_at
none_still [] n m y e = e
none_still (x ∷ xs) zero zero y e = cc
none_still (x ∷ xs) zero (suc m) y e = e
none_still (x ∷ xs) (suc n) zero y e = cc
none_still (x ∷ xs) (suc n) (suc m) y e = none_still xs n m y e

all_at : {A : Type 0} (P : A → Type 0) (xs : List A) → ((n : ℕ) (x : A) → slice_get xs n ≡ Some x → P x) → AllByRecursion P xs
all_at P [] f = tt
all_at P (x ∷ xs) f = (f zero x refl, all_at P xs (λ n y e. f (suc n) y e))

module _ {C : Type 0} where
  -- The turns that a session still needs.
  abbrev left : Session C → ℕ
  left s = if s.is_over then 0 else suc (length s.items)

  left_over : (s : Session C) (m : ℕ) → s.is_over ≡ true → left s ≤ m
  left_over s m e = let z : 0 ≤ m = omega arith in subst (λ (b : Bool). (if b then 0 else suc (length s.items)) ≤ m) (sym e) z

  over_left : (s : Session C) → left s ≤ 0 → s.is_over ≡ true
  over_left s h = one s.is_over refl h
    where
      one : (b : Bool) → s.is_over ≡ b → (if b then 0 else suc (length s.items)) ≤ 0 → b ≡ true
      one true e q = refl
      one false e q = absurd (omega arith)

module _ {C : Type 0} (zero_cell : C) (cells : Item → List C) where
  next_left : (store : Store C) (s : Session C) (items : List Item) (m : ℕ) → suc (length items) ≤ suc m → left (next_turn zero_cell cells store s items).session ≤ m
  next_left store s [] m h = omega arith
  next_left store s (item ∷ items) m h = one (guarded s.guards item.command) (two (step zero_cell (cells item) (record { store = store; part = part_of s.part }) item.command).refusal)
    where
      two : (o : Option Refusal) → (if is_some o then 0 else suc (length items)) ≤ m
      two None = omega arith
      two (Some refusal) = omega arith

      one : (g : Option Refusal) → left (turned s item items (step zero_cell (cells item) (record { store = store; part = part_of s.part }) item.command)).session ≤ m
          → left (elim g as (λ o. Turn C) [
            | Some refusal ↦ record {
              store = store;
              session = record s { items = items; guards = looked s.guards item.command; is_over = true };
              refused = Some (verdict_of item refusal);
              events = [];
            }
            | None ↦ turned s item items (step zero_cell (cells item) (record { store = store; part = part_of s.part }) item.command)
          ]).session ≤ m
      one None h = h
      one (Some refusal) h = omega arith

  session_left : (store : Store C) (s : Session C) (m : ℕ) → left s ≤ suc m → left (session_turn zero_cell cells store s).session ≤ m
  unfolding session_turn
  session_left store s m h = one s.is_over refl h
    where
      one : (b : Bool) → s.is_over ≡ b → (if b then 0 else suc (length s.items)) ≤ suc m
          → left (if b then record { store = store; session = s; refused = None; events = [] } else next_turn zero_cell cells store s s.items).session ≤ m
      one true e q = left_over s m e
      one false e q = next_left store s s.items m q

  -- The session of a number needs so many turns at the most.
  Within : Turns C → ℕ → ℕ → Type 0
  Within w n m = (s : Session C) → slice_get w.sessions n ≡ Some s → left s ≤ m

  -- a turn of any session keeps what each one needs at the most; its own turn takes one off
  turn_keeps : (w : Turns C) (n k m : ℕ) → Within w n m → Within (one_turn zero_cell cells w k) n m
  unfolding one_turn Within
  turn_keeps w n k m h = one (slice_get w.sessions k) refl
    where
      one : (o : Option (Session C)) → slice_get w.sessions k ≡ o → Within (elim o as (λ o. Turns C) [ None ↦ w | Some s ↦ after_turn w k (session_turn zero_cell cells w.store s) ]) n m
      one None e z at = h z at
      one (Some s) e z at = elim (which_at w.sessions k n s (session_turn zero_cell cells w.store s).session z e at) [
        | inl q ↦
            let was : left s ≤ m = h s (ap (slice_get w.sessions) q.0 ∙ e) in
            let more : left s ≤ suc m = omega arith in
            subst (λ (x : Session C). left x ≤ m) (sym q.1) (session_left w.store s m more)
        | inr q ↦ h z q
      ]

  turn_takes : (w : Turns C) (n m : ℕ) → Within w n (suc m) → Within (one_turn zero_cell cells w n) n m
  unfolding one_turn Within
  turn_takes w n m h = one (slice_get w.sessions n) refl
    where
      one : (o : Option (Session C)) → slice_get w.sessions n ≡ o → Within (elim o as (λ o. Turns C) [ None ↦ w | Some s ↦ after_turn w n (session_turn zero_cell cells w.store s) ]) n m
      one None e z at = cc
      one (Some s) e z at = subst (λ (x : Session C). left x ≤ m) (same_inside (sym (get_same w.sessions n s (session_turn zero_cell cells w.store s).session e) ∙ at)) (session_left w.store s m (h s e))

  turns_keep : (ns : List ℕ) (w : Turns C) (n m : ℕ) → Within w n m → Within (after_turns zero_cell cells w ns) n m
  unfolding after_turns
  turns_keep [] w n m h = h
  turns_keep (k ∷ ns) w n m h = turns_keep ns (one_turn zero_cell cells w k) n m (turn_keeps w n k m h)

  turns_take : (m : ℕ) (w : Turns C) (n : ℕ) → Within w n m → Within (after_turns zero_cell cells w (replicate m n)) n 0
  unfolding after_turns
  turns_take zero w n h = h
  turns_take (suc m) w n h = turns_take m (one_turn zero_cell cells w n) n (turn_takes w n m h)

  -- each session from a number on, to its end
  ends_take : (sessions : List (Session C)) (k : ℕ) (w : Turns C) → ((i : ℕ) (s : Session C) → slice_get sessions i ≡ Some s → Within w (k + i) (suc (length s.items)))
      → (i : ℕ) (s : Session C) → slice_get sessions i ≡ Some s → Within (after_turns zero_cell cells w (to_the_end k sessions)) (k + i) 0
  unfolding to_the_end
  ends_take [] k w f i s e = cc
  ends_take (x ∷ sessions) k w f i s e =
      let own : List ℕ = replicate (suc (length x.items)) k in
      let next : Turns C = after_turns zero_cell cells w own in
      let here : k + 0 ≡ k = omega arith in
      let done : Within next k 0 = turns_take (suc (length x.items)) w k (subst (λ (n : ℕ). Within w n (suc (length x.items))) here (f zero x refl)) in
      let others : (j : ℕ) (z : Session C) → slice_get sessions j ≡ Some z → Within next (k + 1 + j) (suc (length z.items)) = λ j z q.
      let there : k + suc j ≡ k + 1 + j = omega arith in
      turns_keep own w (k + 1 + j) (suc (length z.items)) (subst (λ (n : ℕ). Within w n (suc (length z.items))) there (f (suc j) z q)) in
      subst (λ (v : Turns C). Within v (k + i) 0) (sym (turns_joined zero_cell cells w own (to_the_end (k + 1) sessions)))
      (one next i e (turns_keep (to_the_end (k + 1) sessions) next k 0 done) (λ j q. ends_take sessions (k + 1) next others j s q))
    where
      one : (next : Turns C) (i : ℕ) → slice_get (x ∷ sessions) i ≡ Some s → Within (after_turns zero_cell cells next (to_the_end (k + 1) sessions)) k 0
          → ((j : ℕ) → slice_get sessions j ≡ Some s → Within (after_turns zero_cell cells next (to_the_end (k + 1) sessions)) (k + 1 + j) 0)
          → Within (after_turns zero_cell cells next (to_the_end (k + 1) sessions)) (k + i) 0
      one next zero e first more = let here : k ≡ k + 0 = omega arith in subst (λ (n : ℕ). Within (after_turns zero_cell cells next (to_the_end (k + 1) sessions)) n 0) here first
      one next (suc j) e first more = let here : k + 1 + j ≡ k + suc j = omega arith in subst (λ (n : ℕ). Within (after_turns zero_cell cells next (to_the_end (k + 1) sessions)) n 0) here (more j e)

  none_after : (ns : List ℕ) (w : Turns C) (n : ℕ) → slice_get w.sessions n ≡ None → slice_get (after_turns zero_cell cells w ns).sessions n ≡ None
  unfolding after_turns one_turn
  none_after [] w n e = e
  none_after (k ∷ ns) w n e = none_after ns (one_turn zero_cell cells w k) n (one (slice_get w.sessions k))
    where
      one : (o : Option (Session C)) → slice_get (elim o as (λ o. Turns C) [ None ↦ w | Some s ↦ after_turn w k (session_turn zero_cell cells w.store s) ]).sessions n ≡ None
      one None = e
      one (Some s) = none_still w.sessions k n (session_turn zero_cell cells w.store s).session e

module _ {C : Type 0} where
  needs_so_many : (s : Session C) → left s ≤ suc (length s.items)
  needs_so_many s = one s.is_over
    where
      one : (b : Bool) → (if b then 0 else suc (length s.items)) ≤ suc (length s.items)
      one true = omega arith
      one false = omega arith

  pub all_are_over : AllAreOver C
  unfolding interleaved Within
  all_are_over zero_cell cells store schedule sessions =
      let start : Turns C = at_entry store sessions in
      let middle : Turns C = after_turns zero_cell cells start schedule in
      let ns : List ℕ = to_the_end 0 sessions in
      let end : Turns C = after_turns zero_cell cells start (schedule ++ ns) in
      let at_first : (i : ℕ) (s : Session C) → slice_get sessions i ≡ Some s → Within zero_cell cells start i (suc (length s.items)) =
      λ i s e z at. subst (λ (x : Session C). left x ≤ suc (length s.items)) (same_inside (sym e ∙ at)) (needs_so_many s) in
      let at_middle : (i : ℕ) (s : Session C) → slice_get sessions i ≡ Some s → Within zero_cell cells middle (0 + i) (suc (length s.items)) =
      λ i s e. let here : i ≡ 0 + i = omega arith in subst (λ (n : ℕ). Within zero_cell cells middle n (suc (length s.items))) here (turns_keep zero_cell cells schedule start i (suc (length s.items)) (at_first i s e)) in
      let at_end : (i : ℕ) (s : Session C) → slice_get sessions i ≡ Some s → Within zero_cell cells end i 0 =
      λ i s e. let here : 0 + i ≡ i = omega arith in subst (λ (n : ℕ). Within zero_cell cells end n 0) here
      (subst (λ (v : Turns C). Within zero_cell cells v (0 + i) 0) (sym (turns_joined zero_cell cells start schedule ns)) (ends_take zero_cell cells sessions 0 middle at_middle i s e)) in
      all_at (λ s. s.is_over ≡ true) end.sessions (λ n s e. one n s (slice_get sessions n) end.sessions e (none_after zero_cell cells (schedule ++ ns) start n) (λ z at. at_end n z at s e) refl)
    where
      one : (n : ℕ) (s : Session C) (o : Option (Session C)) (last : List (Session C)) → slice_get last n ≡ Some s → (slice_get sessions n ≡ None → slice_get last n ≡ None)
          → ((z : Session C) → slice_get sessions n ≡ Some z → left s ≤ 0) → slice_get sessions n ≡ o → s.is_over ≡ true
      one n s None last e none some at = absurd (nothing (sym (none at) ∙ e))
        where
          nothing : ◌≡◌ {A = Option (Session C)} None (Some s) → ⊥
          nothing q = cc
      one n s (Some z) last e none some at = over_left s (some z at)
