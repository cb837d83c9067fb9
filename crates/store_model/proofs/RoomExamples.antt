-- Worked examples of room in a store, of the order of answers, and of what is left: an image that
-- has groups and a small limit, a stream of two parts, a stream of version 2, entries that are
-- unfinished.
use Rattle.std.specs.Prelude.{◌≡◌, ℕ, ◌^◌, ◌-◌, List, [], ◌∷◌, ◌++◌, drop, None, Some, codes, refl}
use Rattle.std.specs.Fmt.{digits}
use Rattle.std.proofs.Common.{inr, arith, lit<}
use Rattle.send_model.specs.Command.{Subvol, MkFile, Write, Unlink, End}
use Rattle.send_model.specs.Refusal.{NoEntry}
use Rattle.send_model.specs.Subvolume.{Subvolume}
use Rattle.send_model.specs.Store.{Entry}
use Rattle.send_model.specs.Receive.{run_by, start_of}
use Rattle.send_model.specs.Guards.{guard_refuses, guard_after, refused_from, looked, receive_watched}
use Rattle.send_model.specs.Lengths.{is_too_long}
use Rattle.send_model.specs.Due.{DoneWhole, RefusedAt, limited_from}
use Rattle.send_model.specs.Laws.{stream_of}
use Rattle.store_model.specs.Image.{limit_of}
use Rattle.store_model.specs.NamedFiles.{unnamed}
use Rattle.store_model.specs.Stored.{StandsFor}
use Rattle.store_model.specs.Dues.{Ends, LogFull, StoreThere, complete_named, file_at, first_full, item_pieces, receive_from, receive_due, left_from, receive_left, drop_due, init_due}
use Rattle.store_model.specs.Requests.{DropEntry, ReceiveFiles, ShowEntry, CatFile, IsDue}
use Rattle.send_model.proofs.ExampleWords.{hexadecimal, uuid, one_file, reading_words, composing_words, items}
use Rattle.send_model.proofs.ReadingExamples.{second_stream}
use Rattle.store_model.proofs.StoredExamples.{stored_words, mark_bytes, body_part, a_with, a_stands, begin_a, edits_of_a, begin_is, edits_are}

unfoldable room_words : Unit {0}
unfolding digits stored_words reading_words composing_words complete_named file_at first_full receive_from receive_due left_from receive_left drop_due run_by guard_refuses guard_after refused_from looked receive_watched is_too_long limited_from
room_words = tt

abbrev a_complete : Entry (Subvolume ℕ)
a_complete = a_with (Some (one_file (codes "hi") (codes "x" ∷ [])))

-- ---- the order of answers

-- an unfinished entry can be dropped
unfinished_dropped : drop_due (2 ^ 40) 77 (codes "a") (a_with None ∷ []) ≡ Ends DoneWhole
unfolding room_words a_with
unfinished_dropped = refl

-- a refusal comes before the want of room
refused_before_room : receive_from 113 20 (record { guards = []; state = start_of [] }) (items (Subvol (uuid 0x11) 1 (codes "a") ∷ Unlink (codes "x") ∷ []))
    ≡ Some (Ends (RefusedAt (record { file = 1; command = 1; offset = 0; refusal = NoEntry })))
unfolding room_words
refused_before_room = refl

-- ---- what a command takes

-- the frame of a WRITE of version 2, behind the head of its part
second_version_room : item_pieces 123 (record { file = 1; number = 3; offset = 79; version = 2; data_at = 0; command = Write (codes "x") 0 (codes "hi") }) ≡ (123, 31) ∷ []
unfolding room_words
second_version_room = refl

-- END takes nothing
end_takes_nothing : item_pieces 160 (record { file = 1; number = 4; offset = 112; version = 1; data_at = 0; command = End }) ≡ []
unfolding room_words
end_takes_nothing = refl

-- ---- an image with groups

-- the image of one part, with another number in its header
small_image : List ℕ → List ℕ
small_image number = hexadecimal (codes "736e6473746f726502000000") ++ number ++ drop 20 (mark_bytes ++ body_part ++ 0 ∷ [])

-- the number 316
unfoldable number_316 : List ℕ
number_316 = 60 ∷ 1 ∷ 0 ∷ 0 ∷ 0 ∷ 0 ∷ 0 ∷ 0 ∷ []

small_stands : StandsFor (small_image number_316) (a_complete ∷ [])
unfolding begin_a edits_of_a mark_bytes body_part stored_words a_with small_image number_316
small_stands = record {
  header = record { format = 2; number = 316 };
  groups = begin_a ∷ edits_of_a ∷ [];
  has = record { gate = 0; rest = []; closed = omega arith; bytes = refl; lawful = record { format = inr refl; number_fits = lit< tt }; lengths_fit = (lit< tt, (lit< tt, tt)) };
  makes = record { lawful = (begin_is 2, (edits_are 2, tt)); made = refl };
}

-- the second part goes behind the first one, where it has no room
second_over_small : IsDue (ReceiveFiles [] 1 2) (codes "receive" ∷ codes "st" ∷ codes "f" ∷ []) (small_image number_316) (unnamed (second_stream ∷ [])) (LogFull 280 32 316)
unfolding room_words small_image number_316 small_stands begin_a edits_of_a mark_bytes body_part a_with second_stream
second_over_small = (a_complete ∷ [], small_stands, (small_stands, refl))

-- the number 175
unfoldable number_175 : List ℕ
number_175 = 175 ∷ 0 ∷ 0 ∷ 0 ∷ 0 ∷ 0 ∷ 0 ∷ 0 ∷ []

smaller_stands : StandsFor (small_image number_175) (a_complete ∷ [])
unfolding begin_a edits_of_a mark_bytes body_part stored_words a_with small_image number_175
smaller_stands = record {
  header = record { format = 2; number = 175 };
  groups = begin_a ∷ edits_of_a ∷ [];
  has = record { gate = 0; rest = []; closed = omega arith; bytes = refl; lawful = record { format = inr refl; number_fits = lit< tt }; lengths_fit = (lit< tt, (lit< tt, tt)) };
  makes = record { lawful = (begin_is 2, (edits_are 2, tt)); made = refl };
}

-- and so does a Drop, of which one byte has no room
drop_over_small : IsDue (DropEntry 1 2) (codes "drop" ∷ codes "st" ∷ codes "a" ∷ []) (small_image number_175) (unnamed []) (LogFull 169 2 175)
unfolding room_words small_image number_175 smaller_stands begin_a edits_of_a mark_bytes body_part a_with
drop_over_small = (a_complete ∷ [], smaller_stands, (smaller_stands, refl))

-- a number that no size reaches limits nothing: the greatest size of a file does
greatest_limit : limit_of (record { format = 2; number = 2 ^ 64 - 1 }) ≡ 2 ^ 63 - 1
greatest_limit = refl

-- ---- what is left

-- two parts in one stream
unfoldable two : List ℕ
two = stream_of 1 (Subvol (uuid 0x11) 1 (codes "a") ∷ MkFile (codes "x") ∷ Write (codes "x") 0 (codes "hi") ∷ Subvol (uuid 0x22) 2 (codes "b") ∷ [])

-- a head completes the part before it, also where its own Mark has no room
head_completes : (receive_due 173 20 [] [] (unnamed (two ∷ [])) ≡ LogFull 160 9 173) × (receive_left 173 20 [] [] (unnamed (two ∷ [])) ≡ a_complete ∷ [])
unfolding room_words two a_with
head_completes = (refl, refl)

-- ---- init

-- over one byte there is no store to be made
init_over_one : init_due (0 ∷ []) ≡ StoreThere 1
unfolding init_due
init_over_one = refl

-- ---- which word names what

image_of_a : List ℕ
image_of_a = mark_bytes ++ body_part ++ 0 ∷ []

words_due : IsDue (CatFile 1 2 3) (codes "cat" ∷ codes "st" ∷ codes "a" ∷ codes "x" ∷ []) image_of_a (unnamed []) (Ends DoneWhole)
    × IsDue (ShowEntry 1 2) (codes "show" ∷ codes "st" ∷ codes "a" ∷ []) image_of_a (unnamed []) (Ends DoneWhole)
    × IsDue (DropEntry 1 2) (codes "drop" ∷ codes "st" ∷ codes "a" ∷ []) image_of_a (unnamed []) (Ends DoneWhole)
unfolding room_words image_of_a a_with mark_bytes body_part a_stands begin_a edits_of_a
words_due = ((a_complete ∷ [], a_stands, refl), (a_complete ∷ [], a_stands, refl), (a_complete ∷ [], a_stands, (a_stands, refl)))
