-- Worked examples of what is due to turns: room for each piece, what is there where there is none,
-- and where a file is too long.
use Rattle.std.specs.Prelude.{◌≡◌, ℕ, ◌^◌, true, false, List, [], ◌∷◌, None, codes, refl, length}
use Rattle.std.specs.Fmt.{digits}
use Rattle.send_model.specs.Command.{Subvol, MkFile, Write, End}
use Rattle.send_model.specs.Reading.{Whole}
use Rattle.send_model.specs.Receive.{run_by, run_items, receive_items, byte_cells}
use Rattle.send_model.specs.Guards.{guard_refuses, guard_after, refused_from, looked}
use Rattle.send_model.specs.Lengths.{is_too_long}
use Rattle.send_model.specs.Due.{DoneWhole, TooLong}
use Rattle.send_model.specs.Laws.{stream_of}
use Rattle.store_model.specs.Dues.{Ends, LogFull, first_full}
use Rattle.store_model.specs.Turns.{session_turn, with_at, one_turn, after_turns, to_the_end, interleaved, sessions_from, turns_of, at_entry}
use Rattle.store_model.specs.TurnDues.{in_turns, files_read, which_long, fitting, at_limit, room_of, TurnsEnd, turns_end, interleave_end}
use Rattle.send_model.proofs.ExampleWords.{uuid, items, reading_words, composing_words}
use Rattle.send_model.proofs.ReadingExamples.{first_stream}

unfoldable end_words : Unit {0}
unfolding digits reading_words composing_words receive_items run_by run_items guard_refuses guard_after refused_from looked is_too_long first_full session_turn with_at one_turn after_turns to_the_end interleaved sessions_from turns_of files_read which_long fitting turns_end interleave_end
end_words = tt

abbrev alone : ℕ → TurnsEnd
alone most = interleave_end (room_of most 20) [] (in_turns (0 ∷ []) (first_stream ∷ []) [] (0 ∷ []))

-- the image of one part has 161 bytes: with one byte less there is no room for its WRITE, and in 81
-- bytes none for its edits
just_room : (alone 161).due ≡ Ends DoneWhole
unfolding end_words first_stream
just_room = refl

one_less : (alone 160).due ≡ LogFull 123 33 160
unfolding end_words first_stream
one_less = refl

no_mark : (alone 81).due ≡ LogFull 29 48 81
unfolding end_words first_stream
no_mark = refl

-- two parts in one stream: where the second Mark has no room, the first part is complete
unfoldable two : List ℕ
two = stream_of 1 (Subvol (uuid 0x11) 1 (codes "a") ∷ MkFile (codes "x") ∷ Write (codes "x") 0 (codes "hi") ∷ Subvol (uuid 0x22) 2 (codes "b") ∷ [])

second_mark : (interleave_end (room_of 173 20) [] (in_turns (0 ∷ []) (two ∷ []) [] (0 ∷ []))).due ≡ LogFull 160 9 173
unfolding end_words two
second_mark = refl

-- so its Body is there
first_is_there : length (interleave_end (room_of 173 20) [] (in_turns (0 ∷ []) (two ∷ []) [] (0 ∷ []))).events ≡ 2
unfolding end_words two
first_is_there = refl

-- where a file is too long: its number, counted from 1
long_ends : turns_end 0 byte_cells (room_of (2 ^ 40) 20) (false ∷ true ∷ []) (at_entry [] (record { items = []; end = Whole; guards = []; part = None; is_over = false } ∷ record { items = []; end = Whole; guards = []; part = None; is_over = false } ∷ [])) (1 ∷ [])
    ≡ record { due = Ends (TooLong 2); events = [] }
unfolding end_words
long_ends = refl

-- it is not at its limit as long as items stand before that, nor once its session is over
long_goes_on : at_limit {C = ℕ} (true ∷ []) (at_entry [] (record { items = items (End ∷ []); end = Whole; guards = []; part = None; is_over = false } ∷ [])) 0 ≡ false
long_goes_on = refl

long_is_over : at_limit {C = ℕ} (true ∷ []) (at_entry [] (record { items = []; end = Whole; guards = []; part = None; is_over = true } ∷ [])) 0 ≡ false
long_is_over = refl
