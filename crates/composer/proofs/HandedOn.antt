-- Why a command did not go out, handed on as the outcome of a run.
use Rattle.std.specs.Prelude.{◌≡◌, ℕ, ◌≤◌, true, List, [], Option, None, Some, Result, Ok, Err, MatchResult, IsErrAnd, IfErr, OnOk, is_some}
use Rattle.std.proofs.Common.{refl, sym, ap, subst, ◌∙◌, arith}
use Rattle.std.proofs.lemmas.Result.{err_from_is_err_and}
use Rattle.send_model.specs.Store.{Head}
use Rattle.sx_base.specs.Again.{EarlyEnd}
use Rattle.sx_base.specs.Calls.{ErrFoundChanged, IsStop}
use Rattle.sx_base.specs.Causes.{Steady}
use Rattle.sx_base.specs.declared.outcome.Outcome.{Outcome}
use Rattle.clone_pieces.specs.Stopping.{outcome_with}
use Rattle.clone_pieces.specs.Redirecting.{RedirectChanged}
use Rattle.clone_pieces.specs.declared.stops.SendStop.{SendStop}
use Rattle.clone_pieces.specs.declared.stops.SendStop.TheVariants as stopped
use Rattle.sx_base.specs.declared.outcome.Outcome.TheVariants as over
use Rattle.composer.specs.Kept.{Kept}
use Rattle.composer.specs.Taking.{EndEnd, is_at_last}
use Rattle.composer.proofs.Unpacked.{PutEnd, RedirectCaused, ErrCausedAgain}

abbrev pub answer_with : Result (Unit {0}) SendStop → Result (Unit {0}) Outcome
answer_with (Ok done) = Ok done
answer_with (Err why) = Err (outcome_with why)

-- What is handed on with its error made an outcome.
pub answer_is : (result : Result (Unit {0}) SendStop) (answer : Result (Unit {0}) Outcome) → MatchResult result (λ x. answer ≡ Ok x) (λ why. IsErrAnd answer (λ outcome. outcome ≡ outcome_with why)) → answer ≡ answer_with result
answer_is (Ok done) answer is = is
answer_is (Err why) answer is = let e = err_from_is_err_and answer is in e.1 ∙ ap (λ (o : Outcome). Err o) e.2

-- A count that stays where all went out.
pub handed_steady : (before now : ℕ) (result : Result (Unit {0}) SendStop) (answer : Result (Unit {0}) Outcome) → answer ≡ answer_with result → Steady before now result → Steady before now answer
handed_steady before now (Ok done) answer answered steady = subst (λ (r : Result (Unit {0}) Outcome). Steady before now r) (sym answered) steady
handed_steady before now (Err why) answer answered steady = subst (λ (r : Result (Unit {0}) Outcome). Steady before now r) (sym answered) tt

-- A count that nothing touched.
pub untouched : (count : ℕ) (answer : Result (Unit {0}) Outcome) → Steady count count answer
untouched count (Ok done) = refl
untouched count (Err outcome) = tt

-- What is handed on as an outcome is a stop.
pub handed_stops : (result : Result (Unit {0}) SendStop) (answer : Result (Unit {0}) Outcome) → answer ≡ answer_with result → IfErr answer IsStop
handed_stops result answer answered = subst (λ (r : Result (Unit {0}) Outcome). IfErr r IsStop) (sym answered) (by_result result)
  where
    by_result : (r : Result (Unit {0}) SendStop) → IfErr (answer_with r) IsStop
    by_result (Ok done) = tt
    by_result (Err stopped.OutputFault) = tt
    by_result (Err stopped.NoMemory) = tt
    by_result (Err stopped.InputFault) = tt
    by_result (Err (stopped.InputChanged file place)) = tt

-- Only the output fails where bytes go out, or there is no memory.
pub put_caused : (e0 e1 i0 i1 before now : ℕ) (out_old out_new : Option (List ℕ)) (old new bytes : List ℕ) (result : Result (Unit {0}) SendStop) (answer : Result (Unit {0}) Outcome) → answer ≡ answer_with result
    → PutEnd out_old out_new old new bytes before now result → ErrCausedAgain e0 e1 i0 i1 before now answer
put_caused e0 e1 i0 i1 before now out_old out_new old new bytes result answer answered put = subst (λ (r : Result (Unit {0}) Outcome). ErrCausedAgain e0 e1 i0 i1 before now r) (sym answered) (by_result result put)
  where
    by_result : (r : Result (Unit {0}) SendStop) → PutEnd out_old out_new old new bytes before now r → ErrCausedAgain e0 e1 i0 i1 before now (answer_with r)
    by_result (Ok done) p = tt
    by_result (Err stopped.OutputFault) p = p.0
    by_result (Err stopped.NoMemory) p = tt
    by_result (Err stopped.InputFault) p = elim p [ ]
    by_result (Err (stopped.InputChanged file place)) p = elim p [ ]

pub put_unchanged : (names : List (List ℕ)) (last : EarlyEnd) (before now : ℕ) (out_old out_new : Option (List ℕ)) (old new bytes : List ℕ) (result : Result (Unit {0}) SendStop) (answer : Result (Unit {0}) Outcome) → answer ≡ answer_with result
    → PutEnd out_old out_new old new bytes before now result → ErrFoundChanged names last answer
put_unchanged names last before now out_old out_new old new bytes result answer answered put = subst (λ (r : Result (Unit {0}) Outcome). ErrFoundChanged names last r) (sym answered) (by_result result put)
  where
    by_result : (r : Result (Unit {0}) SendStop) → PutEnd out_old out_new old new bytes before now r → ErrFoundChanged names last (answer_with r)
    by_result (Ok done) p = tt
    by_result (Err stopped.OutputFault) p = tt
    by_result (Err stopped.NoMemory) p = tt
    by_result (Err stopped.InputFault) p = elim p [ ]
    by_result (Err (stopped.InputChanged file place)) p = elim p [ ]

-- What END answers.
pub end_caused : (e0 e1 i0 i1 first before now : ℕ) (bytes : List ℕ) (out_old out_new : Option (List ℕ)) (result : Result (Unit {0}) SendStop) (answer : Result (Unit {0}) Outcome) → answer ≡ answer_with result
    → first ≤ before → EndEnd bytes out_old out_new before now result → ErrCausedAgain e0 e1 i0 i1 first now answer
end_caused e0 e1 i0 i1 first before now bytes out_old out_new result answer answered earlier end = subst (λ (r : Result (Unit {0}) Outcome). ErrCausedAgain e0 e1 i0 i1 first now r) (sym answered) (by_result result end)
  where
    by_result : (r : Result (Unit {0}) SendStop) → EndEnd bytes out_old out_new before now r → ErrCausedAgain e0 e1 i0 i1 first now (answer_with r)
    by_result (Ok done) p = tt
    by_result (Err stopped.OutputFault) p = let rose = p.0 in omega (arith, rose, earlier)
    by_result (Err stopped.NoMemory) p = tt
    by_result (Err stopped.InputFault) p = elim p [ ]
    by_result (Err (stopped.InputChanged file place)) p = elim p [ ]

pub end_unchanged : (names : List (List ℕ)) (last : EarlyEnd) (before now : ℕ) (bytes : List ℕ) (out_old out_new : Option (List ℕ)) (result : Result (Unit {0}) SendStop) (answer : Result (Unit {0}) Outcome) → answer ≡ answer_with result
    → EndEnd bytes out_old out_new before now result → ErrFoundChanged names last answer
end_unchanged names last before now bytes out_old out_new result answer answered end = subst (λ (r : Result (Unit {0}) Outcome). ErrFoundChanged names last r) (sym answered) (by_result result end)
  where
    by_result : (r : Result (Unit {0}) SendStop) → EndEnd bytes out_old out_new before now r → ErrFoundChanged names last (answer_with r)
    by_result (Ok done) p = tt
    by_result (Err stopped.OutputFault) p = tt
    by_result (Err stopped.NoMemory) p = tt
    by_result (Err stopped.InputFault) p = elim p [ ]
    by_result (Err (stopped.InputChanged file place)) p = elim p [ ]

-- Once END went out, the head that came last is still the last of all.
pub end_at_last : (result : Result (Unit {0}) SendStop) (answer : Result (Unit {0}) Outcome) (old new : Kept) (last : Option Head) → answer ≡ answer_with result
    → OnOk result (new ≡ record old { pending = [] }) → is_at_last old.latest last ≡ true → OnOk answer (is_at_last new.latest last ≡ true)
end_at_last (Ok done) answer old new last answered out at_last =
    subst (λ (r : Result (Unit {0}) Outcome). OnOk r (is_at_last new.latest last ≡ true)) (sym answered) (ap (λ (k : Kept). is_at_last k.latest last) out ∙ at_last)
end_at_last (Err why) answer old new last answered out at_last = subst (λ (r : Result (Unit {0}) Outcome). OnOk r (is_at_last new.latest last ≡ true)) (sym answered) tt

-- Where it is, there is a last of all.
pub last_there : (latest last : Option Head) → is_at_last latest last ≡ true → is_some last ≡ true
last_there None last e = cc
last_there (Some head) None e = cc
last_there (Some head) (Some last) e = refl

-- A stop is no run that is done.
pub stop_not_done : (outcome : Outcome) (P : Type 0) → IsStop outcome → outcome ≡ over.Done → P
stop_not_done outcome P stops done = absurd (subst IsStop done stops)

-- What a redirected clone answers.
pub redirect_caused : (e0 e1 i0 i1 before now : ℕ) (result : Result (Unit {0}) SendStop) (answer : Result (Unit {0}) Outcome) → answer ≡ answer_with result → RedirectCaused e0 e1 i0 i1 before now result → ErrCausedAgain e0 e1 i0 i1 before now answer
redirect_caused e0 e1 i0 i1 before now (Ok done) answer answered caused = subst (λ (r : Result (Unit {0}) Outcome). ErrCausedAgain e0 e1 i0 i1 before now r) (sym answered) tt
redirect_caused e0 e1 i0 i1 before now (Err why) answer answered caused = subst (λ (r : Result (Unit {0}) Outcome). ErrCausedAgain e0 e1 i0 i1 before now r) (sym answered) caused

pub redirect_changed : (names : List (List ℕ)) (last : EarlyEnd) (result : Result (Unit {0}) SendStop) (answer : Result (Unit {0}) Outcome) → answer ≡ answer_with result → RedirectChanged names last result → ErrFoundChanged names last answer
redirect_changed names last (Ok done) answer answered changed = subst (λ (r : Result (Unit {0}) Outcome). ErrFoundChanged names last r) (sym answered) tt
redirect_changed names last (Err why) answer answered changed = subst (λ (r : Result (Unit {0}) Outcome). ErrFoundChanged names last r) (sym answered) changed
