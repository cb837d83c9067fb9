-- Worked examples of answers over a store, of what `list` and `show` print, and of what `scrub`
-- finds. The lines and the images are those of another program.
use Rattle.std.specs.Prelude.{replicate, Option, ◌≡◌, ℕ, ◌^◌, List, [], ◌∷◌, ◌++◌, take, drop, None, Some, codes, refl}
use Rattle.std.specs.Fmt.{digits}
use Rattle.std.proofs.Common.{inl, inr, arith, lit<}
use Rattle.send_model.specs.Command.{row, Command, Subvol, MkFile, MkDir, MkNod, MkFifo, MkSock, Symlink, SetXattr, Rename, Write, Chown, Chmod, Utimes, End}
use Rattle.send_model.specs.Printed.{is_plain, hex_digit, escaped_byte, escaped, uuid_text, time_text}
use Rattle.send_model.specs.Refusal.{NameThere, UuidThere}
use Rattle.send_model.specs.Store.{Entry}
use Rattle.send_model.specs.Subvolume.{Subvolume}
use Rattle.send_model.specs.Receive.{byte_cells, run_by, run_items, start_of}
use Rattle.send_model.specs.Guards.{guard_refuses, guard_after, refused_from, looked, receive_watched}
use Rattle.send_model.specs.Lengths.{is_too_long, too_long, too_long_from}
use Rattle.send_model.specs.Due.{DoneWhole, RefusedAt, due_from, limited_from, audit_due, file_due}
use Rattle.send_model.specs.Overridden.{Override, no_override}
use Rattle.store_model.specs.NamedFiles.{unnamed}
use Rattle.store_model.specs.Image.{usual_header}
use Rattle.store_model.specs.States.{complete_line, lines_behind, received_lines, left_by}
use Rattle.store_model.specs.StoreLines.{entry_line, listed, inode_line, xattr_line, name_line, shown}
use Rattle.store_model.specs.Scrub.{IsNoStoreAt, IsScrubbed, IsDamagedAt, scrub_line}
use Rattle.store_model.specs.Dues.{left_from, receive_left, NotStore, Ends, Missing, LogFull, StoreThere, complete_named, file_at, show_due, cat_due, cat_output, show_output, first_full, receive_from, receive_due, drop_due, init_due}
use Rattle.send_model.specs.Spelling.{canonical, frame_of, attributes_of, attribute_bytes, body_of}
use Rattle.send_model.specs.Words as streams
use Rattle.send_model.specs.Words.{Compose, Audit, Dump, Export, guards_and_files}
use Rattle.store_model.specs.Requests.{Request, OfStreams, InitStore, DropEntry, ReceiveFiles, ListStore, ShowEntry, CatFile, ScrubStore, over_store, request_of, IsDue, Says, at_entry}
use Rattle.send_model.specs.Guards.{MostBytes, MostCommands, NoDevices, new_guard, guard_of}
use Rattle.send_model.proofs.ExampleWords.{key, composing_words, hexadecimal, uuid, one_file, items}
use Rattle.send_model.proofs.ReadingExamples.{second_stream, first_stream}
use Rattle.store_model.proofs.StoredExamples.{old_image, stored_words, new_image, mark_bytes, body_part, a_with, a_stands, b_complete, empty_fails, usual}

unfoldable due_words : Unit {0}
unfolding digits stored_words escaped escaped_byte is_plain hex_digit uuid_text time_text complete_line lines_behind entry_line listed inode_line xattr_line name_line shown scrub_line complete_named file_at first_full receive_from receive_due left_from receive_left drop_due init_due run_by guard_refuses guard_after refused_from looked receive_watched is_too_long limited_from
due_words = tt

abbrev a_complete : Entry (Subvolume ℕ)
a_complete = a_with (Some (one_file (codes "hi") (codes "x" ∷ [])))

-- ---- list

-- two subvolumes, the second a snapshot of the first
two_listed : listed (a_complete ∷ b_complete ∷ [])
    ≡ codes "a 11111111-1111-1111-1111-111111111111 1 complete -" ++ 10 ∷ []
    ++ codes "b 22222222-2222-2222-2222-222222222222 2 complete 11111111-1111-1111-1111-111111111111:1" ++ 10 ∷ []
unfolding due_words a_with b_complete
two_listed = refl

-- one that is unfinished
one_listed : listed {S = Subvolume ℕ} (a_with None ∷ []) ≡ codes "a 11111111-1111-1111-1111-111111111111 1 unfinished -" ++ 10 ∷ []
unfolding due_words a_with
one_listed = refl

-- ---- receive

-- what a file leaves, and the line for its part
first_left : left_by [] [] (unnamed (first_stream ∷ [])) ≡ a_complete ∷ []
unfolding due_words first_stream a_with
first_left = refl

-- A name alone in front of a file.
abbrev called : List ℕ → Override
called name = record { name = Some name; parents = [] }

first_lines : received_lines [] [] (unnamed (first_stream ∷ [])) ≡ codes "complete a 11111111-1111-1111-1111-111111111111 1" ++ 10 ∷ []
unfolding due_words first_stream
first_lines = refl

-- and the same under another name
first_renamed : left_by [] [] (record { bytes = first_stream ∷ []; overrides = called (codes "copy") ∷ [] }) ≡ record a_complete { name = codes "copy" } ∷ []
unfolding due_words first_stream a_with
first_renamed = refl

renamed_lines : received_lines [] [] (record { bytes = first_stream ∷ []; overrides = called (codes "copy") ∷ [] }) ≡ codes "complete copy 11111111-1111-1111-1111-111111111111 1" ++ 10 ∷ []
unfolding due_words first_stream
renamed_lines = refl

-- a header with the limit 0 leaves no room for a gate
no_room : receive_due 0 20 [] [] (unnamed (first_stream ∷ [])) ≡ LogFull 20 9 0
unfolding due_words first_stream
no_room = refl

-- the image has 161 bytes: with one byte less there is no room for the WRITE
just_room : receive_due 161 20 [] [] (unnamed (first_stream ∷ [])) ≡ Ends DoneWhole
unfolding due_words first_stream
just_room = refl

one_byte_less : receive_due 160 20 [] [] (unnamed (first_stream ∷ [])) ≡ LogFull 123 33 160
unfolding due_words first_stream
one_byte_less = refl

-- a header with the limit 4096 leaves room for a WRITE of 3937 bytes, and for none of 3938; what
-- stands in a frame as its checksum does not matter
long_write : ℕ → List Command
long_write n = Subvol (uuid 0x11) 1 (codes "a") ∷ MkFile (codes "x") ∷ Write (codes "x") 0 (replicate n 97) ∷ End ∷ []

unfoldable length_words : Unit {0}
unfolding canonical frame_of attributes_of attribute_bytes body_of row composing_words run_by refused_from looked first_full receive_from
length_words = tt

most_room : receive_from 4096 20 (record { guards = []; state = start_of [] }) (items (long_write 3937)) ≡ None
unfolding length_words long_write
most_room = refl

one_more_byte : receive_from 4096 20 (record { guards = []; state = start_of [] }) (items (long_write 3938)) ≡ Some (LogFull 123 3969 4096)
unfolding length_words long_write
one_more_byte = refl

-- a second part: its groups begin behind the checksum of the first one's Body
second_room : receive_due 317 20 [] [] (unnamed (first_stream ∷ second_stream ∷ [])) ≡ Ends DoneWhole
unfolding due_words first_stream second_stream
second_room = refl

second_less : receive_due 316 20 [] [] (unnamed (first_stream ∷ second_stream ∷ [])) ≡ LogFull 280 32 316
unfolding due_words first_stream second_stream
second_less = refl

second_lines : received_lines [] [] (unnamed (first_stream ∷ second_stream ∷ []))
    ≡ codes "complete a 11111111-1111-1111-1111-111111111111 1" ++ 10 ∷ [] ++ codes "complete b 22222222-2222-2222-2222-222222222222 2" ++ 10 ∷ []
unfolding due_words first_stream second_stream
second_lines = refl

-- where there is no room for the second Mark, the first part is complete; where there is none for
-- the start of its Body, the second one has begun
no_second_mark : (receive_due 173 20 [] [] (unnamed (first_stream ∷ second_stream ∷ [])) ≡ LogFull 160 9 173) × (receive_left 173 20 [] [] (unnamed (first_stream ∷ second_stream ∷ [])) ≡ a_complete ∷ [])
unfolding due_words first_stream second_stream a_with
no_second_mark = (refl, refl)

no_second_body : (receive_due 266 20 [] [] (unnamed (first_stream ∷ second_stream ∷ [])) ≡ LogFull 253 9 266)
    × (receive_left 266 20 [] [] (unnamed (first_stream ∷ second_stream ∷ [])) ≡ a_complete ∷ record { name = codes "b"; key = key 0x22 2; parent = Some (key 0x11 1); contents = None } ∷ [])
unfolding due_words first_stream second_stream a_with
no_second_body = (refl, refl)

-- a Drop has room in 176 bytes
drop_room : (drop_due 176 160 (codes "a") (a_complete ∷ []) ≡ Ends DoneWhole) × (drop_due 175 160 (codes "a") (a_complete ∷ []) ≡ LogFull 169 2 175)
unfolding due_words a_with
drop_room = (refl, refl)

-- over a store that has the part, its head is refused
there : (receive_due (2 ^ 40) 160 (a_complete ∷ []) [] (unnamed (first_stream ∷ [])) ≡ Ends (RefusedAt (record { file = 1; command = 1; offset = 17; refusal = NameThere })))
unfolding due_words first_stream a_with
there = refl

-- under another name it is refused for its uuid
there_renamed : (receive_due (2 ^ 40) 160 (a_complete ∷ []) [] (record { bytes = first_stream ∷ []; overrides = called (codes "copy") ∷ [] }) ≡ Ends (RefusedAt (record { file = 1; command = 1; offset = 17; refusal = UuidThere })))
unfolding due_words first_stream a_with
there_renamed = refl

-- ---- names and paths

missing : (show_due (codes "zz") (a_complete ∷ []) ≡ Missing (codes "zz")) × (drop_due (2 ^ 40) 160 (codes "zz") (a_complete ∷ []) ≡ Missing (codes "zz"))
unfolding due_words a_with
missing = (refl, refl)

contents : (cat_due (codes "a") (codes "x") (a_complete ∷ []) ≡ Ends DoneWhole) × (cat_output (codes "a") (codes "x") (a_complete ∷ []) ≡ codes "hi")
unfolding due_words a_with
contents = (refl, refl)

no_file : (cat_due (codes "a") (codes "nope") (a_complete ∷ []) ≡ Missing (codes "nope")) × (cat_due (codes "a") [] (a_complete ∷ []) ≡ Missing [])
unfolding due_words a_with
no_file = (refl, refl)

unfinished_missing : show_due (codes "a") (a_with None ∷ []) ≡ Missing (codes "a")
unfolding due_words a_with
unfinished_missing = refl

-- the second of two entries
second_shown : (cat_output (codes "b") (codes "x") (a_complete ∷ b_complete ∷ []) ≡ codes "hi!") × (show_due (codes "b") (a_complete ∷ b_complete ∷ []) ≡ Ends DoneWhole)
unfolding due_words a_with b_complete
second_shown = (refl, refl)

-- ---- lines

-- a part that is not complete has no line
no_line : received_lines [] (new_guard (MostCommands 3) ∷ []) (unnamed (first_stream ∷ [])) ≡ []
unfolding due_words first_stream
no_line = refl

-- ---- words

words : List (List ℕ) → Option Request
words = request_of

unfoldable word_words : Unit {0}
unfolding words request_of over_store streams.request_of guards_and_files guard_of digits
word_words = tt

asked : (words (codes "init" ∷ codes "st" ∷ []) ≡ Some (InitStore 1))
    × (words (codes "drop" ∷ codes "st" ∷ codes "a" ∷ []) ≡ Some (DropEntry 1 2))
    × (words (codes "list" ∷ codes "st" ∷ []) ≡ Some (ListStore 1))
    × (words (codes "show" ∷ codes "st" ∷ codes "a" ∷ []) ≡ Some (ShowEntry 1 2))
    × (words (codes "cat" ∷ codes "st" ∷ codes "a" ∷ codes "x" ∷ []) ≡ Some (CatFile 1 2 3))
    × (words (codes "scrub" ∷ codes "st" ∷ []) ≡ Some (ScrubStore 1))
    × (words (codes "receive" ∷ codes "guard:bytes=8" ∷ codes "guard:nodev" ∷ codes "st" ∷ codes "f" ∷ []) ≡ Some (ReceiveFiles (MostBytes 8 ∷ NoDevices ∷ []) 3 4))
unfolding word_words
asked = (refl, refl, refl, refl, refl, refl, refl)

not_asked : (words (codes "init" ∷ []) ≡ None)
    × (words (codes "list" ∷ codes "st" ∷ codes "a" ∷ []) ≡ None)
    × (words (codes "cat" ∷ codes "st" ∷ codes "a" ∷ []) ≡ None)
    × (words (codes "receive" ∷ codes "st" ∷ []) ≡ None)
    × (words [] ≡ None)
unfolding word_words
not_asked = (refl, refl, refl, refl, refl)

-- the words on streams are those that they are
on_streams : (words (codes "compose" ∷ codes "st" ∷ codes "f" ∷ codes "g" ∷ []) ≡ Some (OfStreams (Compose 1 2)))
    × (words (codes "audit" ∷ codes "guard:nodev" ∷ codes "none" ∷ codes "f" ∷ []) ≡ Some (OfStreams (Audit (NoDevices ∷ []) 2 3)))
    × (words (codes "export" ∷ codes "st" ∷ codes "f" ∷ []) ≡ Some (OfStreams (Export 1 2)))
    × (words (codes "dump" ∷ codes "f" ∷ []) ≡ Some (OfStreams (Dump 1)))
unfolding word_words
on_streams = (refl, refl, refl, refl)

-- over no store, whatever the image is; over the one that has the part, which is there already; to
-- compose without it; and over none
unfoldable stream_words : Unit {0}
unfolding due_words first_stream a_with streams.due audit_due too_long too_long_from due_from
stream_words = tt

abbrev image_of_a : List ℕ
image_of_a = mark_bytes ++ body_part ++ 0 ∷ []

over_none : (image : List ℕ) → IsDue (OfStreams (Audit [] 1 2)) (codes "audit" ∷ codes "none" ∷ codes "f" ∷ []) image (unnamed (first_stream ∷ [])) (Ends DoneWhole)
unfolding stream_words
over_none image = refl

twice_over_none : (image : List ℕ) → IsDue (OfStreams (Audit [] 1 2)) (codes "audit" ∷ codes "none" ∷ codes "f" ∷ codes "f" ∷ []) image (unnamed (first_stream ∷ first_stream ∷ []))
    (Ends (RefusedAt (record { file = 2; command = 1; offset = 17; refusal = NameThere })))
unfolding stream_words
twice_over_none image = refl

-- under another name the second file begins anew, and its uuid is there already
twice_with_a_name : (image : List ℕ) → IsDue (OfStreams (Audit [] 1 2)) (codes "audit" ∷ codes "none" ∷ codes "f" ∷ codes "f" ∷ []) image
    (record { bytes = first_stream ∷ first_stream ∷ []; overrides = no_override ∷ called (codes "b") ∷ [] })
    (Ends (RefusedAt (record { file = 2; command = 1; offset = 17; refusal = UuidThere })))
unfolding stream_words
twice_with_a_name image = refl

-- a word without a store does not look at one
dumped : (image : List ℕ) → IsDue (OfStreams (Dump 1)) (codes "dump" ∷ codes "f" ∷ []) image (unnamed (first_stream ∷ [])) (Ends DoneWhole)
unfolding stream_words file_due
dumped image = refl

over_a : IsDue (OfStreams (Audit [] 1 2)) (codes "audit" ∷ codes "st" ∷ codes "f" ∷ []) image_of_a (unnamed (first_stream ∷ []))
    (Ends (RefusedAt (record { file = 1; command = 1; offset = 17; refusal = NameThere })))
unfolding stream_words
over_a = (a_complete ∷ [], a_stands, refl)

composed_over_a : IsDue (OfStreams (Compose 1 2)) (codes "compose" ∷ codes "st" ∷ codes "f" ∷ []) image_of_a (unnamed (first_stream ∷ [])) (Ends DoneWhole)
unfolding stream_words
composed_over_a = (a_complete ∷ [], a_stands, refl)

exported_over_a : IsDue (OfStreams (Export 1 2)) (codes "export" ∷ codes "st" ∷ codes "f" ∷ []) image_of_a (unnamed (first_stream ∷ []))
    (Ends (RefusedAt (record { file = 1; command = 1; offset = 17; refusal = NameThere })))
unfolding stream_words
exported_over_a = (a_complete ∷ [], a_stands, refl)

-- and what is written then; nothing where there is no store
accepted_over_none : (image : List ℕ) → Says (OfStreams (Audit [] 1 2)) (at_entry (codes "audit" ∷ codes "none" ∷ codes "f" ∷ []) image (unnamed (first_stream ∷ []))) (Ends DoneWhole)
    (codes "accepted 1 4" ++ 10 ∷ []) image
unfolding stream_words
accepted_over_none image = (refl, refl)

refused_over_a : Says (OfStreams (Audit [] 1 2)) (at_entry (codes "audit" ∷ codes "st" ∷ codes "f" ∷ []) image_of_a (unnamed (first_stream ∷ [])))
    (Ends (RefusedAt (record { file = 1; command = 1; offset = 17; refusal = NameThere }))) [] image_of_a
refused_over_a = (refl, (λ s stands. refl, λ group none. refl))

over_no_image : IsDue (OfStreams (Audit [] 1 2)) (codes "audit" ∷ codes "st" ∷ codes "f" ∷ []) [] (unnamed (first_stream ∷ [])) (NotStore 0)
over_no_image = empty_fails

-- ---- init

there_already : (init_due [] ≡ Ends DoneWhole) × (init_due new_image ≡ StoreThere 21)
unfolding due_words new_image
there_already = (refl, refl)

-- ---- show

-- nodes of many kinds
kinds : List Command
kinds =
    Subvol (uuid 0x11) 1 (codes "a")
    ∷ MkDir (codes "d")
    ∷ Symlink (codes "d/s") (codes "../x y")
    ∷ MkNod 0o020660 1281 (codes "d/n")
    ∷ MkFifo (codes "d/p")
    ∷ MkSock (codes "d/q")
    ∷ SetXattr (codes "user.k") (0 ∷ 0xff ∷ []) (codes "d")
    ∷ End
    ∷ []

kinds_shown : show_output (codes "a") (run_items 0 (λ item. []) (start_of []) (items kinds)).state.store
    ≡ codes "subvol a 11111111-1111-1111-1111-111111111111 1 262" ++ 10 ∷ []
    ++ codes "inode 256 dir 700 0 0 0.000000000 0.000000000 0 -" ++ 10 ∷ []
    ++ codes "inode 257 dir 700 0 0 0.000000000 0.000000000 0 -" ++ 10 ∷ []
    ++ codes "xattr 257 user.k 00ff" ++ 10 ∷ []
    ++ codes "inode 258 symlink 777 0 0 0.000000000 0.000000000 0 ../x" ++ 0x5c ∷ codes "x20y" ++ 10 ∷ []
    ++ codes "inode 259 chr 600 0 0 0.000000000 0.000000000 0 1281" ++ 10 ∷ []
    ++ codes "inode 260 fifo 600 0 0 0.000000000 0.000000000 0 -" ++ 10 ∷ []
    ++ codes "inode 261 socket 600 0 0 0.000000000 0.000000000 0 -" ++ 10 ∷ []
    ++ codes "name 256 d 257" ++ 10 ∷ []
    ++ codes "name 257 n 259" ++ 10 ∷ []
    ++ codes "name 257 p 260" ++ 10 ∷ []
    ++ codes "name 257 q 261" ++ 10 ∷ []
    ++ codes "name 257 s 258" ++ 10 ∷ []
unfolding due_words kinds run_items
kinds_shown = refl

-- a file that was renamed, with its owners, mode and times
home : List Command
home =
    Subvol (uuid 0x11) 9 (codes "home")
    ∷ Chown 0 0 []
    ∷ Chmod 0o755 []
    ∷ Utimes (record { secs = 1700000000; nanos = 0 }) (record { secs = 1700000000; nanos = 0 }) []
    ∷ MkFile (codes "o257-7-0")
    ∷ Rename (codes "o257-7-0") (codes "notes")
    ∷ Utimes (record { secs = 1700000000; nanos = 0 }) (record { secs = 1700000000; nanos = 0 }) []
    ∷ Write (codes "notes") 0 (codes "hello" ++ 10 ∷ [])
    ∷ Chown 1000 1000 (codes "notes")
    ∷ Chmod 0o644 (codes "notes")
    ∷ Utimes (record { secs = 1700000002; nanos = 0 }) (record { secs = 1700000001; nanos = 500 }) (codes "notes")
    ∷ End
    ∷ []

home_shown : show_output (codes "home") (run_items 0 byte_cells (start_of []) (items home)).state.store
    ≡ codes "subvol home 11111111-1111-1111-1111-111111111111 9 258" ++ 10 ∷ []
    ++ codes "inode 256 dir 755 0 0 1700000000.000000000 1700000000.000000000 0 -" ++ 10 ∷ []
    ++ codes "inode 257 file 644 1000 1000 1700000001.000000500 1700000002.000000000 0 6" ++ 10 ∷ []
    ++ codes "name 256 notes 257" ++ 10 ∷ []
unfolding due_words home run_items
home_shown = refl

-- names that are escaped
blank_shown : (name_line ((256, codes "x y"), 257) ≡ codes "name 256 x" ++ 0x5c ∷ codes "x20y 257" ++ 10 ∷ [])
    × (xattr_line 257 (codes "user.k l", []) ≡ codes "xattr 257 user.k" ++ 0x5c ∷ codes "x20l " ++ 10 ∷ [])
unfolding due_words
blank_shown = (refl, refl)

-- a block device
block : List Command
block = Subvol (uuid 0x11) 1 (codes "a") ∷ MkNod 0o060660 259 (codes "n") ∷ End ∷ []

block_shown : show_output (codes "a") (run_items 0 byte_cells (start_of []) (items block)).state.store
    ≡ codes "subvol a 11111111-1111-1111-1111-111111111111 1 258" ++ 10 ∷ []
    ++ codes "inode 256 dir 700 0 0 0.000000000 0.000000000 0 -" ++ 10 ∷ []
    ++ codes "inode 257 blk 600 0 0 0.000000000 0.000000000 0 259" ++ 10 ∷ []
    ++ codes "name 256 n 257" ++ 10 ∷ []
unfolding due_words block run_items
block_shown = refl

-- ---- scrub

whole_image : IsScrubbed (mark_bytes ++ body_part ++ 0 ∷ []) 2 0
unfolding due_words mark_bytes body_part
whole_image = record {
  header = usual_header;
  bodies = drop 29 mark_bytes ∷ drop 9 body_part ∷ [];
  has = record { gate = 0; rest = []; closed = omega arith; bytes = refl; lawful = usual; lengths_fit = (lit< tt, (lit< tt, tt)) };
  whole = (
    (4, take 47 (drop 30 mark_bytes), (lit< tt, lit< tt, λ h. absurd (omega (arith, h))), refl),
    ((5, take 65 (drop 10 body_part), (lit< tt, lit< tt, λ h. absurd (omega (arith, h))), refl), tt),
  );
  count = refl;
  plain_count = refl;
}

whole_line : scrub_line 2 0 ≡ codes "scrub 2 0" ++ 10 ∷ []
unfolding due_words
whole_line = refl

-- a byte of the name in the Mark was changed
damaged_part : List ℕ
damaged_part = hexadecimal (codes "01340000000000000004250000000100333343ee01001000111111111111111111111111111111110200080001000000000000000f00010062e4c704a7")

damaged : IsDamagedAt (take 20 mark_bytes ++ damaged_part ++ body_part ++ 0 ∷ []) 1 0xa704c7e4 0xb4543410
unfolding due_words mark_bytes body_part damaged_part
damaged = record {
  header = usual_header;
  lawful = usual;
  bodies = [];
  are = refl;
  lengths_fit = tt;
  whole = tt;
  rest = damaged_part ++ body_part ++ 0 ∷ [];
  bytes = refl;
  is = record {
    body = drop 9 damaged_part;
    others = body_part ++ 0 ∷ [];
    short = lit< tt;
    bytes = refl;
    is = record {
      kind = 4;
      rest = take 47 (drop 10 damaged_part);
      sum = drop 57 damaged_part;
      new = (lit< tt, lit< tt);
      four = refl;
      bytes = refl;
      stored_is = refl;
      computed_is = refl;
      differs = λ same. absurd (omega (arith, same));
    };
  };
}

-- two groups without a checksum in an image of format 1, and two with one
mixed_image : IsScrubbed old_image 4 2
unfolding due_words old_image
mixed_image = record {
  header = record { format = 1; number = 2 ^ 40 };
  bodies = take 48 (drop 29 old_image) ∷ take 66 (drop 86 old_image) ∷ take 84 (drop 161 old_image) ∷ take 54 (drop 254 old_image) ∷ [];
  has = record { gate = 0; rest = []; closed = omega arith; bytes = refl; lawful = record { format = inl refl; number_fits = lit< tt }; lengths_fit = (lit< tt, (lit< tt, (lit< tt, (lit< tt, tt)))) };
  whole = (
    (1, take 47 (drop 30 old_image), (lit< tt, lit< tt, λ h. refl), refl),
    (
      (2, take 65 (drop 87 old_image), (lit< tt, lit< tt, λ h. refl), refl),
      ((4, take 79 (drop 162 old_image), (lit< tt, lit< tt, λ h. refl), refl), ((5, take 49 (drop 255 old_image), (lit< tt, lit< tt, λ h. refl), refl), tt)),
    ),
  );
  count = refl;
  plain_count = refl;
}

-- a Mark without a checksum in an image of format 2
old_kind_found : IsNoStoreAt (take 20 mark_bytes ++ take 57 (drop 20 old_image) ++ 0 ∷ []) 1
unfolding due_words mark_bytes old_image
old_kind_found = record {
  header = usual_header;
  lawful = usual;
  bodies = [];
  are = refl;
  lengths_fit = tt;
  whole = tt;
  rest = take 57 (drop 20 old_image) ++ 0 ∷ [];
  bytes = refl;
  is = inr (record { body = take 48 (drop 29 old_image); others = 0 ∷ []; short = lit< tt; bytes = refl; is = inl (λ kind. absurd (omega (arith, kind.2 (lit< tt)))) });
}
