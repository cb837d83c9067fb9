-- Worked examples of every status and every note, and of what answers say. The lines are those of
-- another program.
use Rattle.std.specs.Prelude.{◌≡◌, ℕ, List, [], ◌∷◌, ◌++◌, map, codes, refl}
use Rattle.std.specs.Fmt.{digits}
use Rattle.send_model.specs.Printed.{is_plain, hex_digit, escaped_byte, escaped}
use Rattle.send_model.specs.Refusal.{NameThere, Guarded, BadChecksum, refusal_number, refusal_name}
use Rattle.send_model.specs.Due as stream_dues
use Rattle.send_model.specs.Due.{DoneWhole, RefusedAt, TooLong}
use Rattle.send_model.specs.Answer as answers
use Rattle.send_model.specs.Answer.{Done, Refused, Usage, InputFault, OutputFault, NoMemory, InputTooLong, TooMuch, InputChanged, kept_values, eight_digits, verdict_text}
use Rattle.send_model.specs.Words.{Audit}
use Rattle.store_model.specs.NamedFiles.{unnamed}
use Rattle.store_model.specs.Image.{header_of, usual_header}
use Rattle.store_model.specs.Dues as dues
use Rattle.store_model.specs.Dues.{Due, Ends, init_due}
use Rattle.store_model.specs.Requests.{OfStreams, InitStore, ReceiveFiles, ListStore, ScrubStore, at_entry}
use Rattle.store_model.specs.Answers.{OfAnyWord, StoreFault, NotStore, Missing, LogFull, StoreThere, Damaged, status_of, note_of, answer_of, Answers}
use Rattle.send_model.proofs.ReadingExamples.{first_stream}
use Rattle.store_model.proofs.StoredExamples.{new_image, empty_fails}

unfoldable answer_words : Unit {0}
unfolding digits kept_values escaped escaped_byte is_plain hex_digit status_of note_of answers.status_of answers.note_of eight_digits verdict_text refusal_number refusal_name
answer_words = tt

-- ---- statuses

statuses : map status_of
    (OfAnyWord Done
    ∷ OfAnyWord (Refused (record { file = 1; command = 2; offset = 64; refusal = NameThere }))
    ∷ OfAnyWord Usage
    ∷ OfAnyWord InputFault
    ∷ OfAnyWord OutputFault
    ∷ StoreFault
    ∷ NotStore 3
    ∷ OfAnyWord NoMemory
    ∷ Missing (codes "zz")
    ∷ OfAnyWord (TooMuch 5)
    ∷ LogFull 119 3977 4096
    ∷ OfAnyWord (InputTooLong 2)
    ∷ StoreThere 21
    ∷ OfAnyWord (InputChanged 2 79)
    ∷ Damaged 1 2 3
    ∷ [])
    ≡ 0 ∷ 1 ∷ 2 ∷ 3 ∷ 4 ∷ 5 ∷ 6 ∷ 7 ∷ 8 ∷ 9 ∷ 10 ∷ 11 ∷ 12 ∷ 13 ∷ 14 ∷ []
unfolding answer_words
statuses = refl

due_statuses : map (λ (due : Due). status_of (answer_of due))
    (Ends DoneWhole
    ∷ Ends (RefusedAt (record { file = 1; command = 2; offset = 64; refusal = NameThere }))
    ∷ dues.NotStore 3
    ∷ dues.Missing (codes "zz")
    ∷ Ends (stream_dues.TooMuch 5)
    ∷ dues.LogFull 119 3977 4096
    ∷ Ends (TooLong 2)
    ∷ dues.StoreThere 21
    ∷ dues.Damaged 1 2 3
    ∷ [])
    ≡ 0 ∷ 1 ∷ 6 ∷ 8 ∷ 9 ∷ 10 ∷ 11 ∷ 12 ∷ 14 ∷ []
unfolding answer_words
due_statuses = refl

-- ---- notes

notes : map note_of
    (OfAnyWord Done
    ∷ OfAnyWord (Refused (record { file = 1; command = 4; offset = 118; refusal = Guarded 0 8 }))
    ∷ OfAnyWord (Refused (record { file = 1; command = 1; offset = 17; refusal = BadChecksum 0 0x9dc96c50 }))
    ∷ OfAnyWord Usage
    ∷ OfAnyWord InputFault
    ∷ OfAnyWord OutputFault
    ∷ StoreFault
    ∷ OfAnyWord NoMemory
    ∷ [])
    ≡ []
    ∷ (codes "refused 1 4 118 33 Guarded 0 8" ++ 10 ∷ [])
    ∷ (codes "refused 1 1 17 5 BadChecksum 00000000 9dc96c50" ++ 10 ∷ [])
    ∷ (codes "usage" ++ 10 ∷ [])
    ∷ (codes "input fault" ++ 10 ∷ [])
    ∷ (codes "output fault" ++ 10 ∷ [])
    ∷ (codes "store fault" ++ 10 ∷ [])
    ∷ (codes "no memory" ++ 10 ∷ [])
    ∷ []
unfolding answer_words
notes = refl

-- with the values that they keep, in their order
kept_notes : map note_of
    (NotStore 0
    ∷ NotStore 3
    ∷ OfAnyWord (TooMuch 2199023255552)
    ∷ LogFull 119 3977 4096
    ∷ OfAnyWord (InputTooLong 2)
    ∷ StoreThere 21
    ∷ OfAnyWord (InputChanged 2 79)
    ∷ Damaged 1 0xa704c7e4 0xb4543410
    ∷ Damaged 12 0xa 0
    ∷ [])
    ≡ (codes "not a store 0" ++ 10 ∷ [])
    ∷ (codes "not a store 3" ++ 10 ∷ [])
    ∷ (codes "too much 2199023255552" ++ 10 ∷ [])
    ∷ (codes "log full 119 3977 4096" ++ 10 ∷ [])
    ∷ (codes "input too long 2" ++ 10 ∷ [])
    ∷ (codes "store there 21" ++ 10 ∷ [])
    ∷ (codes "input changed 2 79" ++ 10 ∷ [])
    ∷ (codes "damaged 1 a704c7e4 b4543410" ++ 10 ∷ [])
    ∷ (codes "damaged 12 0000000a 00000000" ++ 10 ∷ [])
    ∷ []
unfolding answer_words
kept_notes = refl

-- a name that is escaped, and the path of nothing
missing_notes : map note_of (Missing (codes "zz") ∷ Missing (codes "x y") ∷ Missing [] ∷ [])
    ≡ (codes "missing zz" ++ 10 ∷ []) ∷ (codes "missing x" ++ 0x5c ∷ codes "x20y" ++ 10 ∷ []) ∷ (codes "missing " ++ 10 ∷ []) ∷ []
unfolding answer_words
missing_notes = refl

-- what is due says the same
due_notes : map (λ (due : Due). note_of (answer_of due))
    (Ends DoneWhole
    ∷ Ends (RefusedAt (record { file = 3; command = 1; offset = 17; refusal = NameThere }))
    ∷ dues.NotStore 3
    ∷ dues.Missing (codes "zz")
    ∷ Ends (stream_dues.TooMuch 5)
    ∷ dues.LogFull 119 3977 4096
    ∷ Ends (TooLong 2)
    ∷ dues.StoreThere 21
    ∷ dues.Damaged 1 0xa704c7e4 0xb4543410
    ∷ [])
    ≡ []
    ∷ (codes "refused 3 1 17 11 NameThere" ++ 10 ∷ [])
    ∷ (codes "not a store 3" ++ 10 ∷ [])
    ∷ (codes "missing zz" ++ 10 ∷ [])
    ∷ (codes "too much 5" ++ 10 ∷ [])
    ∷ (codes "log full 119 3977 4096" ++ 10 ∷ [])
    ∷ (codes "input too long 2" ++ 10 ∷ [])
    ∷ (codes "store there 21" ++ 10 ∷ [])
    ∷ (codes "damaged 1 a704c7e4 b4543410" ++ 10 ∷ [])
    ∷ []
unfolding answer_words
due_notes = refl

-- ---- what answers say

-- a new store, and one that is there
made_new : Answers (InitStore 1) (at_entry (codes "init" ∷ codes "st" ∷ []) [] (unnamed [])) (OfAnyWord Done) [] (header_of usual_header ++ 0 ∷ [])
unfolding init_due
made_new = (refl, (refl, refl))

made_before : Answers (InitStore 1) (at_entry (codes "init" ∷ codes "st" ∷ []) new_image (unnamed [])) (StoreThere 21) [] new_image
unfolding init_due new_image
made_before = (refl, (refl, refl))

-- making a store takes no memory, and a fault leaves the one that is there
init_takes_none : (image left written : List ℕ) → Answers (InitStore 1) (at_entry (codes "init" ∷ codes "st" ∷ []) image (unnamed [])) (OfAnyWord NoMemory) written left → ⊥
init_takes_none image left written h = h

init_fails : (left : List ℕ) → Answers (InitStore 1) (at_entry (codes "init" ∷ codes "st" ∷ []) new_image (unnamed [])) StoreFault [] left → left ≡ new_image
unfolding new_image
init_fails left h = h.1

-- over an empty file there is no store, and nothing is written that could fail
no_store : Answers (ListStore 1) (at_entry (codes "list" ∷ codes "st" ∷ []) [] (unnamed [])) (NotStore 0) [] []
no_store = (empty_fails, (refl, (λ s stands. refl, λ group none. refl)))

nothing_cut : (left written : List ℕ) → Answers (ListStore 1) (at_entry (codes "list" ∷ codes "st" ∷ []) [] (unnamed [])) (OfAnyWord OutputFault) written left → ⊥
nothing_cut left written h = h.1.1 0 empty_fails

-- an audit over `none` touches no device
no_device : (image left written : List ℕ) → Answers (OfStreams (Audit [] 1 2)) (at_entry (codes "audit" ∷ codes "none" ∷ codes "f" ∷ []) image (unnamed (first_stream ∷ []))) StoreFault written left → ⊥
no_device image left written h = h.1

-- listing reads no files, and receiving reads none again
reads_none : (image left written : List ℕ) → Answers (ListStore 1) (at_entry (codes "list" ∷ codes "st" ∷ []) image (unnamed [])) (OfAnyWord InputFault) written left → ⊥
reads_none image left written h = h.0

reads_once : (image left written : List ℕ) → Answers (ReceiveFiles [] 1 2) (at_entry (codes "receive" ∷ codes "st" ∷ codes "f" ∷ []) image (unnamed (first_stream ∷ []))) (OfAnyWord (InputChanged 1 79)) written left → ⊥
reads_once image left written h = h.0

-- scrub writes its line at its end
scrub_at_end : (image left written : List ℕ) → Answers (ScrubStore 1) (at_entry (codes "scrub" ∷ codes "st" ∷ []) image (unnamed [])) (OfAnyWord NoMemory) written left → written ≡ []
scrub_at_end image left written h = h.1
