-- Squashed commands lead where the commands lead, over the store that they were squashed for.
use Rattle.std.specs.Prelude.{◌≡◌, ℕ, List}
use Rattle.std.proofs.Common.{sym, ap, subst, ◌∙◌}
use Rattle.send_model.specs.Command.{Command}
use Rattle.send_model.specs.Store.{Store, State}
use Rattle.send_model.specs.Receive.{start_of}
use Rattle.send_model.specs.Cells.{recelled_state}
use Rattle.send_model.specs.Separated.{LeadTo}
use Rattle.squash_model.specs.Squashed.{Birth, unborn, born_by, births_left, stands, squashed_from, squashed}
use Rattle.squash_model.proofs.SquashedRuns.{birth_of, squashed_of, KeepsOrder, followed}
use Rattle.squash_model.proofs.StandingCells.{has, AllStand, start_both, plain_start, squashed_start, birth_start, state_alike}

pub leads_same : (store : Store ℕ) (cs : List Command) (end : State ℕ) → KeepsOrder (start_of store) cs → LeadTo (start_of store) cs end
    → LeadTo (start_of store) (squashed store cs) end
unfolding stands
leads_same store cs end k t =
    let standing = stands store cs in
    let f = followed standing 0 cs (start_both standing store) end
    (subst (λ (s : State ℕ). KeepsOrder s cs) (sym (plain_start standing store)) k)
    (subst (λ (s : State ℕ). LeadTo s cs end) (sym (plain_start standing store)) t) in
    let born : recelled_state (birth_of standing) f.last ≡ born_by 0 (unborn store) cs = sym f.born ∙ ap (λ (s : State Birth). born_by 0 s cs) (birth_start standing store) in
    let all : AllStand standing (births_left (recelled_state (birth_of standing) f.last)) = λ b h. ap (λ (s : State Birth). has (births_left s) b) (sym born) ∙ h in
    let same : recelled_state (squashed_of standing) f.last ≡ end = state_alike standing f.last all ∙ f.plain in
    subst (λ (x : State ℕ). LeadTo (start_of store) (squashed store cs) x) same
    (subst (λ (s : State Birth). LeadTo (start_of store) (squashed_from standing 0 s cs) (recelled_state (squashed_of standing) f.last)) (birth_start standing store)
    (subst (λ (s : State ℕ). LeadTo s (squashed_from standing 0 (recelled_state (birth_of standing) (start_both standing store)) cs) (recelled_state (squashed_of standing) f.last)) (squashed_start standing store) f.squashed))
