-- Worked examples of turns.
use Rattle.std.specs.Prelude.{◌≡◌, ℕ, ◌+◌, List, [], ◌∷◌, map, None, Some, codes, refl}
use Rattle.std.specs.Fmt.{digits}
use Rattle.send_model.specs.Refusal.{NoParent, NoSource, Guarded}
use Rattle.send_model.specs.Command.{Subvol, MkFile, Write, Clone}
use Rattle.send_model.specs.Receive.{run_by, run_items, receive_items, byte_cells, receive}
use Rattle.send_model.specs.Guards.{MostBytes, new_guard, guard_refuses, guard_after, refused_from, looked}
use Rattle.send_model.specs.Printed.{escaped, escaped_byte, is_plain, uuid_text, hex_digit}
use Rattle.send_model.specs.Laws.{stream_of}
use Rattle.send_model.proofs.ExampleWords.{uuid, reading_words, composing_words}
use Rattle.send_model.proofs.ReadingExamples.{first_stream, second_stream}
use Rattle.store_model.specs.States.{complete_line}
use Rattle.store_model.specs.Turns.{Turns, session_turn, with_at, one_turn, after_turns, to_the_end, interleaved, sessions_from, turns_of, schedule_of, completed_parts, part_line, lines_of, one_by_one}

unfoldable turn_words : Unit {0}
unfolding digits reading_words composing_words receive_items run_by run_items guard_refuses guard_after refused_from looked session_turn with_at one_turn after_turns to_the_end interleaved sessions_from turns_of schedule_of completed_parts part_line complete_line lines_of one_by_one escaped escaped_byte is_plain uuid_text hex_digit
turn_words = tt

-- One more subvolume with one file.
unfoldable c : List ℕ
c = stream_of 1 (Subvol (uuid 0x33) 3 (codes "c") ∷ MkFile (codes "y") ∷ [])

-- The snapshot comes before the part that it is one of is complete.
abbrev too_early : Turns ℕ
too_early = turns_of [] (0 ∷ 1 ∷ []) (first_stream ∷ second_stream ∷ []) [] (0 ∷ 0 ∷ [])

early_refused : too_early.refused ≡ Some (record { file = 2; command = 1; offset = 17; refusal = NoParent })
unfolding turn_words first_stream second_stream
early_refused = refl

early_lines : lines_of too_early.events ≡ codes "complete a 11111111-1111-1111-1111-111111111111 1\n"
unfolding turn_words first_stream second_stream
early_lines = refl

early_names : map (λ e. e.name) too_early.store ≡ codes "a" ∷ []
unfolding turn_words first_stream second_stream
early_names = refl

-- Here it comes in time.
in_time : (turns_of [] (0 ∷ 0 ∷ 0 ∷ 0 ∷ 1 ∷ []) (first_stream ∷ second_stream ∷ []) [] (0 ∷ 0 ∷ [])).refused ≡ None
unfolding turn_words first_stream second_stream
in_time = refl

-- `c` is complete before the first stream is, and begins after it.
abbrev both : Turns ℕ
both = turns_of [] (0 ∷ 1 ∷ 1 ∷ 1 ∷ 1 ∷ []) (first_stream ∷ c ∷ []) [] (0 ∷ 0 ∷ [])

both_refused : both.refused ≡ None
unfolding turn_words first_stream c
both_refused = refl

both_lines : lines_of both.events ≡ codes "complete c 33333333-3333-3333-3333-333333333333 3\ncomplete a 11111111-1111-1111-1111-111111111111 1\n"
unfolding turn_words first_stream c
both_lines = refl

both_names : map (λ e. e.name) both.store ≡ codes "a" ∷ codes "c" ∷ []
unfolding turn_words first_stream c
both_names = refl

-- one after the other they stand in the order of their completion
both_alone : map (λ e. e.name) (one_by_one {C = ℕ} 0 byte_cells [] both.events).state.store ≡ codes "c" ∷ codes "a" ∷ []
unfolding turn_words first_stream c
both_alone = refl

-- There is no third file.
no_third : schedule_of 2 (codes "2") ≡ None
unfolding turn_words
no_third = refl

words_of : schedule_of 2 (codes "0110") ≡ Some (0 ∷ 1 ∷ 1 ∷ 0 ∷ [])
unfolding turn_words
words_of = refl

-- A guard of the first session, which counts by itself.
abbrev watched : Turns ℕ
watched = turns_of [] (0 ∷ 1 ∷ []) (first_stream ∷ c ∷ []) (new_guard (MostBytes 1) ∷ []) (1 ∷ 0 ∷ [])

watched_refused : watched.refused ≡ Some (record { file = 1; command = 3; offset = 79; refusal = Guarded 0 0 })
unfolding turn_words first_stream c
watched_refused = refl

watched_lines : lines_of watched.events ≡ codes "complete c 33333333-3333-3333-3333-333333333333 3\n"
unfolding turn_words first_stream c
watched_lines = refl

-- ---- why the order is that of completion

-- `p` begins, the first stream comes and its part, `a`, is complete, and then `p` clones from it.
-- One after the other they are taken as `a`, `p`; as `p`, `a`, the order in which they began and
-- that of the words, the clone finds nothing.
unfoldable p : List ℕ
p = stream_of 1 (Subvol (uuid 0x44) 4 (codes "p") ∷ MkFile (codes "z") ∷ Clone (codes "z") 0 (uuid 0x11) 1 (codes "x") 0 2 ∷ [])

abbrev beside : Turns ℕ
beside = turns_of [] (0 ∷ 0 ∷ 1 ∷ 1 ∷ 1 ∷ 1 ∷ []) (p ∷ first_stream ∷ []) [] (0 ∷ 0 ∷ [])

beside_taken : beside.refused ≡ None
unfolding turn_words p first_stream
beside_taken = refl

by_completion : (receive [] (first_stream ∷ p ∷ [])).refused ≡ None
unfolding turn_words p first_stream
by_completion = refl

by_beginning : (receive [] (p ∷ first_stream ∷ [])).refused ≡ Some (record { file = 1; command = 3; offset = 79; refusal = NoSource })
unfolding turn_words p first_stream
by_beginning = refl

-- ---- why it is an order of parts

-- Each of two files has a second part that clones from the other's first. They take turns; in
-- neither order of the files are they taken one after the other.
abbrev two_parts : ℕ → ℕ → List ℕ → List ℕ → List ℕ
two_parts own other first second =
    stream_of 1 (
    Subvol (uuid own) 1 first
    ∷ MkFile (codes "f")
    ∷ Write (codes "f") 0 (codes "x")
    ∷ Subvol (uuid (own + 1)) 2 second
    ∷ MkFile (codes "g")
    ∷ Clone (codes "g") 0 (uuid other) 1 (codes "f") 0 1
    ∷ []
    )

unfoldable left_file : List ℕ
left_file = two_parts 0x51 0x61 (codes "l") (codes "m")

unfoldable right_file : List ℕ
right_file = two_parts 0x61 0x51 (codes "r") (codes "s")

abbrev crossed : Turns ℕ
crossed = turns_of [] (0 ∷ 0 ∷ 0 ∷ 0 ∷ 1 ∷ 1 ∷ 1 ∷ 1 ∷ []) (left_file ∷ right_file ∷ []) [] (0 ∷ 0 ∷ [])

crossed_taken : crossed.refused ≡ None
unfolding turn_words left_file right_file
crossed_taken = refl

crossed_names : map (λ e. e.name) (one_by_one {C = ℕ} 0 byte_cells [] crossed.events).state.store ≡ codes "l" ∷ codes "r" ∷ codes "m" ∷ codes "s" ∷ []
unfolding turn_words left_file right_file
crossed_names = refl

left_first : (receive [] (left_file ∷ right_file ∷ [])).refused ≡ Some (record { file = 1; command = 6; offset = 173; refusal = NoSource })
unfolding turn_words left_file right_file
left_first = refl

right_first : (receive [] (right_file ∷ left_file ∷ [])).refused ≡ Some (record { file = 1; command = 6; offset = 173; refusal = NoSource })
unfolding turn_words left_file right_file
right_first = refl
