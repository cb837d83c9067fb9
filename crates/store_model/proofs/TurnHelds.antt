-- The part that a session receives can be completed over the store as it is.
use Rattle.std.specs.Prelude.{◌≡◌, ℕ, List, Some}
use Rattle.send_model.specs.Reading.{Item}
use Rattle.send_model.specs.Store.{Store, IsStore, unfinished}
use Rattle.store_model.specs.Turns.{Receiving, Event}
use Rattle.store_model.specs.TurnLaws.{IsIn}
use Rattle.store_model.proofs.Entries.{finds_more}
use Rattle.store_model.proofs.Replay.{Built, built_again}
use Rattle.store_model.proofs.Moves.{Stands}

-- Its items make it over the store, where its entry stands unfinished.
pub record IsHeld {C : Type 0} (zero_cell : C) (cells : Item → List C) (store : Store C) (r : Receiving C) : Type 0 where
  pub distinct : IsStore store
  pub built : Built zero_cell cells store r.taken r.part
  pub stands : IsIn (unfinished built.head) store

pub held_of_stands : {C : Type 0} (zero_cell : C) (cells : Item → List C) (base store alone : Store C) (events : List Event) (held : ℕ → _) (n : ℕ) (r : Receiving C)
    → Stands zero_cell cells base store alone events held → held n ≡ Some r → IsHeld zero_cell cells store r
held_of_stands zero_cell cells base store alone events held n r w at =
    let o = w.parts n r at in
    let b = built_again zero_cell cells alone store r.taken r.part (finds_more alone store w.distinct (λ e c h. w.inside e h)) o.built in
    record { distinct = w.distinct; built = b; stands = o.stands }
