-- What the first groups of turns make is a store after some first turns, or one between a
-- completion and the head behind it.
use Rattle.std.specs.Prelude.{◌≡◌, ◌≤◌, ◌⊎◌, ℕ, List, [], ◌∷◌, ◌++◌, length, map, Option, Some}
use Rattle.std.proofs.Common.{refl, sym, ap, subst, ◌∙◌, inl, inr, arith, append_assoc, append-nil}
use Rattle.send_model.specs.Reading.{Item}
use Rattle.send_model.specs.Store.{Store}
use Rattle.store_model.specs.Stored.{Group, made_all}
use Rattle.store_model.specs.Turns.{Event, Turns, one_turn, after_turns, at_entry, completed_parts, halfway, group_of_event, turn_groups}
use Rattle.store_model.specs.TurnLaws.{AreOneByOne, IsTurnState, FrontGroupsAreStates, LinesAreComplete}
use Rattle.store_model.proofs.TurnOrder.{Kept, turn_kept, turns_behind, AtMostOne, before_is, halfway_done, entry_kept}

module _ {A : Type 0} where
  cancel : (xs ys zs : List A) → xs ++ ys ≡ xs ++ zs → ys ≡ zs
  cancel [] ys zs e = e
  cancel (x ∷ xs) ys zs e = cancel xs ys zs cc

  no_rest : (ys zs : List A) → ◌≡◌ {A = List A} [] (ys ++ zs) → ys ≡ []
  no_rest [] zs e = refl
  no_rest (y ∷ ys) zs e = cc

  -- what stands in front of a list of two parts of one element at most, and others: nothing, the
  -- first part, or both and more
  in_front : (extra more a b rest : List A) → AtMostOne a → AtMostOne b → extra ++ more ≡ a ++ (b ++ rest) → (extra ≡ []) ⊎ ((extra ≡ a) ⊎ ((x : List A) × (extra ≡ (a ++ b) ++ x)))
  in_front [] more a b rest one two e = inl refl
  in_front (y ∷ extra) more [] [] rest one two e = inr (inr (y ∷ extra, refl))
  in_front (y ∷ extra) more [] (q ∷ []) rest one two e = inr (inr (extra, cc))
  in_front (y ∷ extra) more [] (q ∷ r ∷ b) rest one two e = absurd two
  in_front (y ∷ extra) more (p ∷ []) [] rest one two e = inr (inr (extra, cc))
  in_front (y ∷ []) more (p ∷ []) (q ∷ []) rest one two e = inr (inl cc)
  in_front (y ∷ z ∷ extra) more (p ∷ []) (q ∷ []) rest one two e = inr (inr (extra, cc))
  in_front (y ∷ extra) more (p ∷ []) (q ∷ r ∷ b) rest one two e = absurd two
  in_front (y ∷ extra) more (p ∷ q ∷ a) b rest one two e = absurd one

heads : {A : Type 0} {x y : A} {xs ys : List A} → x ∷ xs ≡ y ∷ ys → x ≡ y
heads e = cc

tails : {A : Type 0} {x y : A} {xs ys : List A} → x ∷ xs ≡ y ∷ ys → xs ≡ ys
tails e = cc

split_map : {A B : Type 0} (f : A → B) (xs : List A) (ys zs : List B) → map f xs ≡ ys ++ zs → (us vs : List A) × (xs ≡ us ++ vs) × (map f us ≡ ys)
split_map f xs [] zs e = ([], xs, refl, refl)
split_map f [] (y ∷ ys) zs e = cc
split_map f (x ∷ xs) (y ∷ ys) zs e = let r = split_map f xs ys zs (tails e) in (x ∷ r.0, r.1, ap (λ (l : List _). x ∷ l) r.2, (λ i. heads e i ∷ r.3 i))

module _ {C : Type 0} (zero_cell : C) (cells : Item → List C) (base : Store C) where
  -- A store that some first of the events made, which is a state of the turns.
  Stood : Turns C → List ℕ → List Event → Type 0
  Stood w turns events = (now : Store C) × AreOneByOne zero_cell cells base events now × IsTurnState zero_cell cells w turns now

  stood_before : (w : Turns C) (turns : List ℕ) (extra : List Event) → Kept zero_cell cells base w → extra ≡ [] → Stood w turns (w.events ++ extra)
  unfolding after_turns Stood
  stood_before w turns extra k e = (
    w.store,
    subst (λ (l : List Event). AreOneByOne zero_cell cells base l w.store) (sym (append-nil w.events) ∙ ap (λ (l : List Event). w.events ++ l) (sym e)) (before_is zero_cell cells base w 0 k),
    record { first = []; rest = turns; turns_are = refl; is = inl refl },
  )

  fronts_stand : (turns : List ℕ) (w : Turns C) (extra more : List Event) → Kept zero_cell cells base w
      → (after_turns zero_cell cells w turns).events ≡ (w.events ++ extra) ++ more → Stood w turns (w.events ++ extra)
  unfolding after_turns Stood
  fronts_stand [] w extra more k e =
      stood_before w [] extra k (no_rest extra more (cancel w.events [] (extra ++ more) (append-nil w.events ∙ e ∙ append_assoc w.events extra more)))
  fronts_stand (n ∷ turns) w extra more k e =
      let v : Turns C = one_turn zero_cell cells w n in
      let half = halfway_done zero_cell cells base w n k in
      let rest = turns_behind zero_cell cells v turns in
      let joined : extra ++ more ≡ half.0 ++ (half.1 ++ rest.0) =
      cancel w.events (extra ++ more) (half.0 ++ (half.1 ++ rest.0))
      (sym (append_assoc w.events extra more) ∙ sym e ∙ rest.1 ∙ ap (λ (l : List Event). l ++ rest.0) half.2 ∙ append_assoc (w.events ++ half.0) half.1 rest.0 ∙ append_assoc w.events half.0 (half.1 ++ rest.0)) in
      elim (in_front extra more half.0 half.1 rest.0 half.3 half.4 joined) [
        | inl q ↦ stood_before w (n ∷ turns) extra k q
        | inr (inl q) ↦ (
          halfway w n,
          subst (λ (l : List Event). AreOneByOne zero_cell cells base (w.events ++ l) (halfway w n)) (sym q) half.5,
          record { first = []; rest = n ∷ turns; turns_are = refl; is = inr refl },
        )
        | inr (inr q) ↦
            let same : w.events ++ extra ≡ v.events ++ q.0 =
            ap (λ (l : List Event). w.events ++ l) q.1 ∙ sym (append_assoc w.events (half.0 ++ half.1) q.0) ∙ ap (λ (l : List Event). l ++ q.0) (sym (append_assoc w.events half.0 half.1) ∙ sym half.2) in
            let later = fronts_stand turns v q.0 more (turn_kept zero_cell cells base w n k) (e ∙ ap (λ (l : List Event). l ++ more) same) in (
              later.0,
              subst (λ (l : List Event). AreOneByOne zero_cell cells base l later.0) (sym same) later.1,
              record { first = n ∷ later.2.first; rest = later.2.rest; turns_are = ap (λ (l : List ℕ). n ∷ l) later.2.turns_are; is = later.2.is },
            )
      ]

pub front_groups_are_states : {C : Type 0} → FrontGroupsAreStates C
unfolding turn_groups Stood
front_groups_are_states {C} zero_cell cells put gate store sessions turns groups more now puts d a is makes =
    let start : Turns C = at_entry store sessions in
    let front = split_map group_of_event (after_turns zero_cell cells start turns).events groups more is in
    let stood = fronts_stand zero_cell cells store turns start front.0 front.1 (store, entry_kept zero_cell cells store sessions d a) front.2 in
    subst (λ (s : Store C). IsTurnState zero_cell cells start turns s) (same (sym (stood.1.groups put puts gate) ∙ ap (λ (l : List Group). made_all zero_cell put gate store l) front.3 ∙ makes)) stood.2
  where
    same : {s t : Store C} → ◌≡◌ {A = Option (Store C)} (Some s) (Some t) → s ≡ t
    same e = cc

pub lines_are_complete : {C : Type 0} → LinesAreComplete C
unfolding Stood
lines_are_complete {C} zero_cell cells store sessions turns events more d a is =
    let start : Turns C = at_entry store sessions in
    let stood = fronts_stand zero_cell cells store turns start events more (store, entry_kept zero_cell cells store sessions d a) is in
    let fits : length (completed_parts events) ≤ length (completed_parts events) = omega arith in
    (stood.0, record { state = stood.2; events = events; more = more; all = is; made = stood.1; enough = fits }, refl)
