-- Runs, verdicts and composed commands over a store and over the same with fewer contents.
use Rattle.std.specs.Prelude.{◌≡◌, Bool, true, false, List, [], ◌∷◌, Option, None, Some}
use Rattle.std.proofs.Common.{refl, sym, ap, ap₂, ◌∙◌}
use Rattle.send_model.specs.Refusal.{Refusal}
use Rattle.send_model.specs.Reading.{Item, Verdict}
use Rattle.send_model.specs.Store.{Key, head_of, State, Stepped, step}
use Rattle.send_model.specs.Receive.{Run, run_by, run_items, then_run}
use Rattle.send_model.specs.Order.{commands_of, breaks_order, part_after, then_judge, judge_items, then_lawful, lawful_items}
use Rattle.send_model.specs.Outside.{keys_named, all_keys_named}
use Rattle.send_model.proofs.ElementLaws.{all_both, all_first, all_rest}
use Rattle.send_model.specs.Thinned.{KeepsNamed}
use Rattle.send_model.proofs.Thinning.{thinned_state, thinned_step, Keeps, steps_alike}

module _ (keep : Key → Bool) where
  pub keeps_first : (item : Item) (items : List Item) → KeepsNamed keep (item ∷ items) → Keeps keep item.command
  keeps_first item items kept = all_first (λ key. keep key ≡ true) (keys_named item.command) (all_keys_named (commands_of items)) kept

  pub keeps_later : (item : Item) (items : List Item) → KeepsNamed keep (item ∷ items) → KeepsNamed keep items
  keeps_later item items kept = all_rest (λ key. keep key ≡ true) (keys_named item.command) (all_keys_named (commands_of items)) kept

  module _ {C : Type 0} (x : C) (cells : Item → List C) where
    pub judge-thinned : (items : List Item) (a b : State C) (previous : Option Key) → KeepsNamed keep items → thinned_state keep a ≡ thinned_state keep b
        → judge_items x cells a previous items ≡ judge_items x cells b previous items
    unfolding judge_items
    judge-thinned [] a b previous kept same = refl
    judge-thinned (item ∷ items) a b previous kept same =
        let s : Stepped C = step x (cells item) a item.command in
        let t : Stepped C = step x (cells item) b item.command in
        let alike : thinned_step keep s ≡ thinned_step keep t = steps_alike keep item.command (keeps_first item items kept) x (cells item) a b same in
        let next : Option Key = part_after previous (head_of item.command) in
        let breaks : Bool = breaks_order previous (head_of item.command) in
        ap₂ (λ (o : Option Refusal) (rest : Option Verdict). then_judge item (record { state = s.state; refusal = o }) breaks rest)
        (ap (λ (y : Stepped C). y.refusal) alike)
        (judge-thinned items s.state t.state next (keeps_later item items kept) (ap (λ (y : Stepped C). y.state) alike))

    pub lawful-thinned : (items : List Item) (a b : State C) (previous : Option Key) → KeepsNamed keep items → thinned_state keep a ≡ thinned_state keep b
        → lawful_items x cells a previous items ≡ lawful_items x cells b previous items
    unfolding lawful_items
    lawful-thinned [] a b previous kept same = refl
    lawful-thinned (item ∷ items) a b previous kept same =
        let s : Stepped C = step x (cells item) a item.command in
        let t : Stepped C = step x (cells item) b item.command in
        let alike : thinned_step keep s ≡ thinned_step keep t = steps_alike keep item.command (keeps_first item items kept) x (cells item) a b same in
        let next : Option Key = part_after previous (head_of item.command) in
        let breaks : Bool = breaks_order previous (head_of item.command) in
        ap₂ (λ (o : Option Refusal) (rest : List Item). then_lawful item (record { state = s.state; refusal = o }) breaks rest)
        (ap (λ (y : Stepped C). y.refusal) alike)
        (lawful-thinned items s.state t.state next (keeps_later item items kept) (ap (λ (y : Stepped C). y.state) alike))

    -- The lawful items name no other keys.
    pub lawful_keeps : (items : List Item) (a : State C) (previous : Option Key) → KeepsNamed keep items → KeepsNamed keep (lawful_items x cells a previous items)
    unfolding lawful_items
    lawful_keeps [] a previous kept = tt
    lawful_keeps (item ∷ items) a previous kept =
        let s : Stepped C = step x (cells item) a item.command in
        let rest : List Item = lawful_items x cells s.state (part_after previous (head_of item.command)) items in
        one s.refusal (breaks_order previous (head_of item.command)) s rest (lawful_keeps items s.state (part_after previous (head_of item.command)) (keeps_later item items kept))
      where
        one : (o : Option Refusal) (breaks : Bool) (s : Stepped C) (rest : List Item) → KeepsNamed keep rest → KeepsNamed keep (then_lawful item (record { state = s.state; refusal = o }) breaks rest)
        one (Some refusal) breaks s rest more = tt
        one None true s rest more = tt
        one None false s rest more = all_both (λ key. keep key ≡ true) (keys_named item.command) (all_keys_named (commands_of rest)) (keeps_first item items kept) more

    -- The same run, but for what the test does not keep.
    abbrev pub thinned_run : Run C → Run C
    thinned_run r = record { state = thinned_state keep r.state; refused = r.refused }

    abbrev does : State C → Item → Stepped C
    does s item = step x (cells item) s item.command

    by_thinned : (items : List Item) (a b : State C) → KeepsNamed keep items → thinned_state keep a ≡ thinned_state keep b
        → thinned_run (run_by does a items) ≡ thinned_run (run_by does b items)
    unfolding run_by
    by_thinned [] a b kept same = let at : State C → Run C = λ s. record { state = s; refused = None } in ap at same
    by_thinned (item ∷ items) a b kept same =
        let s : Stepped C = does a item in
        let t : Stepped C = does b item in
        let alike : thinned_step keep s ≡ thinned_step keep t = steps_alike keep item.command (keeps_first item items kept) x (cells item) a b same in
        pushed s (run_by does s.state items)
        ∙ ap₂ (λ (y : Stepped C) (r : Run C). then_run item y r) alike (by_thinned items s.state t.state (keeps_later item items kept) (ap (λ (y : Stepped C). y.state) alike))
        ∙ sym (pushed t (run_by does t.state items))
      where
        pushed : (y : Stepped C) (r : Run C) → thinned_run (then_run item y r) ≡ then_run item (thinned_step keep y) (thinned_run r)
        pushed y r = one y.refusal
          where
            one : (o : Option Refusal) → thinned_run (then_run item (record { state = y.state; refusal = o }) r) ≡ then_run item (thinned_step keep (record { state = y.state; refusal = o })) (thinned_run r)
            one (Some refusal) = refl
            one None = refl

    pub run-thinned : (items : List Item) (a b : State C) → KeepsNamed keep items → thinned_state keep a ≡ thinned_state keep b
        → thinned_run (run_items x cells a items) ≡ thinned_run (run_items x cells b items)
    unfolding run_items
    run-thinned items a b kept same = by_thinned items a b kept same
