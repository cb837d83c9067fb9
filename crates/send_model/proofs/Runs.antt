-- Runs of commands that are all taken, without the items that they stand in.
use Rattle.std.specs.Prelude.{◌≡◌, ℕ, List, [], ◌∷◌, ◌++◌, Option, None, Some}
use Rattle.std.proofs.Common.{refl, sym, ap, subst, ◌∙◌}
use Rattle.send_model.specs.Refusal.{Refusal}
use Rattle.send_model.specs.Command.{Command}
use Rattle.send_model.specs.Reading.{Item}
use Rattle.send_model.specs.Store.{State, Stepped, step}
use Rattle.send_model.specs.Receive.{Run, run_by, run_items, then_run, byte_cells, bytes_of, IsAccepted}
use Rattle.send_model.specs.Order.{commands_of}

abbrev pub step_of : State ℕ → Command → Stepped ℕ
step_of state command = step 0 (bytes_of command) state command

-- Commands are all taken, and lead from one state to another.
abbrev pub Takes : State ℕ → List Command → State ℕ → Type 0
Takes state [] end = state ≡ end
Takes state (c ∷ cs) end = ((step_of state c).refusal ≡ None) × Takes (step_of state c).state cs end

pub Takes-append : (cs ds : List Command) (state middle end : State ℕ) → Takes state cs middle → Takes middle ds end → Takes state (cs ++ ds) end
Takes-append [] ds state middle end e t = let P : State ℕ → Type 0 = λ s. Takes s ds end in subst P (sym e) t
Takes-append (c ∷ cs) ds state middle end (h, t) u = (h, Takes-append cs ds _ middle end t u)

pub Takes-parts : (cs ds : List Command) (state end : State ℕ) → Takes state (cs ++ ds) end → (middle : State ℕ) × Takes state cs middle × Takes middle ds end
Takes-parts [] ds state end t = (state, refl, t)
Takes-parts (c ∷ cs) ds state end (h, t) = let r = Takes-parts cs ds _ end t in (r.0, (h, r.1), r.2)

-- A run over items that refuses none of them takes their commands, and the other way round.
taken_on : (item : Item) (rest : Run ℕ) (state : State ℕ) (o : Option Refusal) → (then_run item (record { state = state; refusal = o }) rest).refused ≡ None → (o ≡ None) × (then_run item (record { state = state; refusal = o }) rest ≡ rest)
taken_on item rest state None h = (refl, refl)
taken_on item rest state (Some r) h = cc

pub takes_run : (items : List Item) (state : State ℕ) → IsAccepted (run_items 0 byte_cells state items) → Takes state (commands_of items) (run_items 0 byte_cells state items).state
unfolding run_items run_by
takes_run [] state h = refl
takes_run (item ∷ items) state h =
    let s = step_of state item.command in
    let rest = run_items 0 byte_cells s.state items in
    let t = taken_on item rest s.state s.refusal h in
    let P : Run ℕ → Type 0 = λ r. Takes s.state (commands_of items) r.state in
    (t.0, subst P (sym t.1) (takes_run items s.state (let Q : Run ℕ → Type 0 = λ r. IsAccepted r in subst Q t.1 h)))

runs_on : (item : Item) (rest : Run ℕ) (state : State ℕ) (o : Option Refusal) → o ≡ None → then_run item (record { state = state; refusal = o }) rest ≡ rest
runs_on item rest state None h = refl
runs_on item rest state (Some r) h = cc

pub runs_taken : (items : List Item) (state end : State ℕ) → Takes state (commands_of items) end → run_items 0 byte_cells state items ≡ record { state = end; refused = None }
unfolding run_items run_by
runs_taken [] state end e = let f : State ℕ → Run ℕ = λ s. record { state = s; refused = None } in ap f e
runs_taken (item ∷ items) state end (h, t) =
    let s = step_of state item.command in
    runs_on item (run_items 0 byte_cells s.state items) s.state s.refusal h ∙ runs_taken items s.state end t
