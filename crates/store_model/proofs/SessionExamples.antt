-- Worked examples of several sessions: which refusal is the answer, which guards each one has, and
-- which words are a schedule.
use Rattle.std.specs.Prelude.{◌≡◌, [], ◌∷◌, map, None, Some, codes, refl}
use Rattle.std.specs.Fmt.{digits}
use Rattle.send_model.specs.Refusal.{NoParent, Guarded}
use Rattle.send_model.specs.Receive.{run_by, receive_items, run_items}
use Rattle.send_model.specs.Guards.{MostBytes, NoDevices, new_guard, guard_refuses, guard_after, refused_from, looked}
use Rattle.store_model.specs.Turns.{session_turn, with_at, one_turn, after_turns, to_the_end, interleaved, sessions_from, turns_of, schedule_of}
use Rattle.send_model.proofs.ExampleWords.{reading_words, composing_words}
use Rattle.send_model.proofs.ReadingExamples.{first_stream, second_stream}

unfoldable session_words : Unit {0}
unfolding digits reading_words composing_words run_by receive_items run_items guard_refuses guard_after refused_from looked session_turn with_at one_turn after_turns to_the_end interleaved sessions_from turns_of schedule_of
session_words = tt

-- ---- refusals

-- of two sessions that are refused, the one that is refused first
two_refused : (turns_of [] (1 ∷ 0 ∷ []) (second_stream ∷ second_stream ∷ []) [] (0 ∷ 0 ∷ [])).refused ≡ Some (record { file = 2; command = 1; offset = 17; refusal = NoParent })
unfolding session_words second_stream
two_refused = refl

-- ---- guards

-- each session has its own guards
own_guards : map (λ s. s.guards) (sessions_from 1 ([] ∷ [] ∷ []) (new_guard (MostBytes 1) ∷ new_guard (MostBytes 2) ∷ new_guard NoDevices ∷ []) (1 ∷ 2 ∷ []))
    ≡ (new_guard (MostBytes 1) ∷ []) ∷ (new_guard (MostBytes 2) ∷ new_guard NoDevices ∷ []) ∷ []
unfolding session_words
own_guards = refl

-- the guard of the second session refuses there, and the first one goes on
second_guarded : (turns_of [] (1 ∷ 1 ∷ 1 ∷ []) (second_stream ∷ first_stream ∷ []) (new_guard (MostBytes 1) ∷ []) (0 ∷ 1 ∷ [])).refused
    ≡ Some (record { file = 2; command = 3; offset = 79; refusal = Guarded 0 0 })
unfolding session_words first_stream second_stream
second_guarded = refl

-- ---- schedules

-- letters that are no digits, and no letters
no_digits : (schedule_of 2 (codes "/") ≡ None) × (schedule_of 2 (codes ":") ≡ None) × (schedule_of 2 [] ≡ None)
unfolding session_words
no_digits = (refl, refl, refl)
