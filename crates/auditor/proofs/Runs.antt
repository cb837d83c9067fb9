-- Items that are followed one after the other: those that are accepted, and those that are read
-- after a refusal.
use Rattle.std.specs.Prelude.{◌≡◌, List, [], ◌∷◌, ◌++◌, Option, None, Some}
use Rattle.std.proofs.Common.{refl, ap, ◌∙◌}
use Rattle.send_model.specs.Refusal.{Refusal}
use Rattle.send_model.specs.Reading.{Item, Verdict}
use Rattle.send_model.specs.Store.{After}
use Rattle.send_model.specs.Receive.{Ran, run_by, then_run}

module _ {S : Type 0} (does : S → Item → After S) where
  abbrev Runs : S → List Item → Ran S
  Runs state items = run_by does state items

  abbrev All : S → List Item → S → Type 0
  All old items new = Runs old items ≡ record { state = new; refused = None }

  -- ---- an item and those after it

  goes_on : (item : Item) (rest : Ran S) (state : S) (o : Option Refusal) → (then_run item (record { state = state; refusal = o }) (record { state = state; refused = None })).refused ≡ None
      → then_run item (record { state = state; refusal = o }) rest ≡ rest
  goes_on item rest state None e = refl
  goes_on item rest state (Some refusal) e = cc

  stays : (item : Item) (first rest : Ran S) (state : S) (o : Option Refusal) (verdict : Verdict) → (first.refused ≡ Some verdict → rest.refused ≡ Some verdict)
      → (then_run item (record { state = state; refusal = o }) first).refused ≡ Some verdict → (then_run item (record { state = state; refusal = o }) rest).refused ≡ Some verdict
  stays item first rest state None verdict more e = more e
  stays item first rest state (Some refusal) verdict more e = e

  -- A refusal is the same whatever is read after it.
  pub refused_still : (items more : List Item) (state : S) (verdict : Verdict) → (Runs state items).refused ≡ Some verdict → (Runs state (items ++ more)).refused ≡ Some verdict
  unfolding run_by
  refused_still [] more state verdict e = cc
  refused_still (item ∷ items) more state verdict e =
      let after = does state item in
      stays item (Runs after.state items) (Runs after.state (items ++ more)) after.state after.refusal verdict (refused_still items more after.state verdict) e

  no_refusal : {state new : S} {verdict : Verdict} → ◌≡◌ {A = Ran S} (record { state = state; refused = Some verdict }) (record { state = new; refused = None }) → ⊥
  no_refusal {verdict = verdict} e = apart (ap (λ (r : Ran S). r.refused) e)
    where
      apart : ◌≡◌ {A = Option Verdict} (Some verdict) None → ⊥
      apart p = cc

  taken : (item : Item) (first : Ran S) (state new : S) (o : Option Refusal) → then_run item (record { state = state; refusal = o }) first ≡ record { state = new; refused = None } → (o ≡ None) × (first ≡ record { state = new; refused = None })
  taken item first state new None e = (refl, e)
  taken item first state new (Some refusal) e = absurd (no_refusal e)

  passes : (item : Item) (rest : Ran S) (state : S) (o : Option Refusal) → o ≡ None → then_run item (record { state = state; refusal = o }) rest ≡ rest
  passes item rest state None e = refl
  passes item rest state (Some refusal) e = cc

  -- After items that are accepted the others are followed from where those lead.
  pub run_on : (items more : List Item) (old new : S) → All old items new → Runs old (items ++ more) ≡ Runs new more
  unfolding run_by
  run_on [] more old new e = ap (λ (r : Ran S). Runs r.state more) e
  run_on (item ∷ items) more old new e =
      let after = does old item in
      let t = taken item (Runs after.state items) after.state new after.refusal e in
      passes item (Runs after.state (items ++ more)) after.state after.refusal t.0 ∙ run_on items more after.state new t.1

  -- No items lead nowhere.
  pub none : (state : S) → All state [] state
  unfolding run_by
  none state = refl

  -- One item that is accepted.
  pub one : (item : Item) (old new : S) → does old item ≡ record { state = new; refusal = None } → All old (item ∷ []) new
  unfolding run_by
  one item old new e = ap (λ (after : After S). then_run item after (record { state = after.state; refused = None })) e
