-- Worked examples of separators: the smallest merged streams that the real `btrfs receive` gets
-- wrong, what it makes of them, what is exported of them, and what it makes of that. What is
-- expected was written down by hand from cmds/receive.c of btrfs-progs.
use Rattle.std.specs.Prelude.{◌≡◌, ℕ, true, nat_le, List, [], ◌∷◌, ◌++◌, length, None, Some, codes, refl}
use Rattle.std.specs.List.{list_all}
use Rattle.std.specs.Fmt.{digits}
use Rattle.std.proofs.Common.{arith, lit<}
use Rattle.std.proofs.lemmas.Bool.{and_parts, leb-true}
use Rattle.send_model.specs.Attribute.{Time, IsBytes}
use Rattle.send_model.specs.Command.{Command, Subvol, Snapshot, MkFile, MkDir, Rename, Link, Unlink, Write, Clone, Truncate, Utimes, Fallocate, End}
use Rattle.send_model.specs.Spelling.{stream_header, canonical_all}
use Rattle.send_model.specs.Reading.{input}
use Rattle.send_model.specs.Lengths.{is_too_long}
use Rattle.send_model.specs.Subvolume.{Subvolume}
use Rattle.send_model.specs.Store.{Store}
use Rattle.send_model.specs.Receive.{bytes_of, start_of, run_by}
use Rattle.send_model.specs.Order.{commands_of}
use Rattle.send_model.specs.Composed.{composed_of}
use Rattle.send_model.specs.Guards.{refused_from, looked}
use Rattle.send_model.specs.Due.{DoneWhole, limited_from, audit_due}
use Rattle.send_model.specs.Opened.{Receiver, edit_open, receiver_step, is_astray}
use Rattle.send_model.specs.Separated.{separator, separator_in, detour, free_name, free_from}
use Rattle.send_model.specs.Receivable.{receivable_attributes, receivable, exported_from}
use Rattle.send_model.specs.Exported.{separated_by, byte_step, separated_items, exported, IsExported, AreSmallBy}
use Rattle.send_model.proofs.ExportedStreams.{exported_is_same, none_can}
use Rattle.send_model.proofs.ExampleWords.{uuid, key, directory, file, items, reading_words, composing_words}

unfoldable separating_words : Unit {0}
unfolding digits composing_words separated_by separator separator_in detour free_name free_from is_astray edit_open receiver_step
separating_words = tt

-- What is exported of commands over no store.
abbrev exported_of : List Command → List Command
exported_of commands = commands_of (separated_items [] (items commands))

-- What the real receiver makes of commands, into no store.
abbrev after_all : Receiver ℕ → List Command → Receiver ℕ
after_all r [] = r
after_all r (c ∷ cs) = after_all (receiver_step 0 (bytes_of c) r c).state cs

abbrev received : List Command → Store ℕ
received commands = (after_all (record { state = start_of []; opened = None }) commands).state.store

-- A store whose one subvolume has these inodes and names, beside its root.
abbrev merged_store : Subvolume ℕ → Store ℕ
merged_store s = record { name = codes "s2"; key = key 0x22 2; parent = None; contents = Some s } ∷ []

abbrev epoch : Time
epoch = record { secs = 0; nanos = 0 }

-- ---- a file that is written anew under the same path

abbrev first_part : List Command
first_part = Subvol (uuid 0x11) 1 (codes "s1") ∷ MkFile (codes "x") ∷ Write (codes "x") 0 (codes "old") ∷ End ∷ []

abbrev second_part : List Command
second_part =
    Snapshot (uuid 0x22) 2 (codes "s2") (uuid 0x11) 1 ∷ Unlink (codes "x") ∷ MkFile (codes "x") ∷ Write (codes "x") 0 (codes "new") ∷ End ∷ []

abbrev merged : List Command
merged =
    Subvol (uuid 0x22) 2 (codes "s2") ∷ MkFile (codes "x") ∷ Write (codes "x") 0 (codes "old") ∷ Unlink (codes "x") ∷ MkFile (codes "x")
    ∷ Write (codes "x") 0 (codes "new") ∷ End ∷ []

two_parts_merged : composed_of [] (items (first_part ++ second_part)) ≡ merged
unfolding composing_words
two_parts_merged = refl

-- The receiver writes to the file that it has open, which is gone: the new one stays empty.
new_file_is_empty : received merged ≡ merged_store (record { inodes = (256, directory) ∷ (258, file []) ∷ []; names = ((256, codes "x"), 258) ∷ []; next = 259 })
unfolding separating_words
new_file_is_empty = refl

-- No other file was written to, so there is a detour.
abbrev detoured : List Command
detoured =
    Subvol (uuid 0x22) 2 (codes "s2") ∷ MkFile (codes "x") ∷ Write (codes "x") 0 (codes "old") ∷ Unlink (codes "x") ∷ MkFile (codes "x")
    ∷ Link (codes "btrsend.0") (codes "x") ∷ Write (codes "btrsend.0") 0 [] ∷ Unlink (codes "btrsend.0") ∷ Utimes epoch epoch []
    ∷ Write (codes "x") 0 (codes "new") ∷ End ∷ []

merged_exported : exported_of merged ≡ detoured
unfolding separating_words
merged_exported = refl

new_file_is_new : received detoured ≡ merged_store (record { inodes = (256, directory) ∷ (258, file (codes "new")) ∷ []; names = ((256, codes "x"), 258) ∷ []; next = 259 })
unfolding separating_words
new_file_is_new = refl

-- As bytes: the header, and eleven frames.
unfoldable stream : List ℕ
unfolding reading_words
stream = stream_header 1 ++ canonical_all 1 merged

bytes_exported : length (exported [] (stream ∷ [])) ≡ 364
unfolding stream exported exported_from receivable receivable_attributes limited_from is_too_long reading_words separating_words
bytes_exported = refl

by_test : (bytes : List ℕ) → list_all (λ b. nat_le b 255) bytes ≡ true → IsBytes bytes
by_test [] all = tt
by_test (b ∷ bytes) all =
    let parts = and_parts (nat_le b 255) (list_all (λ x. nat_le x 255) bytes) all in
    let low = leb-true b 255 parts.0 in
    (omega (arith, low), by_test bytes parts.1)

-- So the premises of what is promised can be met.
stream_is_bytes : IsBytes stream
unfolding stream reading_words
stream_is_bytes = by_test stream refl

stream_is_taken : audit_due [] [] (stream ∷ []) ≡ DoneWhole
unfolding stream audit_due limited_from is_too_long run_by refused_from looked reading_words separating_words
stream_is_taken = refl

stream_is_small : AreSmallBy byte_step (start_of []) (input (stream ∷ [])).items
unfolding stream AreSmallBy reading_words separating_words
stream_is_small = (tt, (lit< tt, (lit< tt, (lit< tt, (lit< tt, (lit< tt, (lit< tt, tt)))))))

stream_is_exported : IsExported [] (stream ∷ []) (exported [] (stream ∷ []))
stream_is_exported = exported_is_same [] (stream ∷ []) (λ e. cc) none_can (stream_is_bytes, tt) stream_is_taken stream_is_small

-- ---- a file that has moved away, and a new one under its path

abbrev moved : List Command
moved =
    Subvol (uuid 0x22) 2 (codes "s2") ∷ MkFile (codes "x") ∷ Write (codes "x") 0 (codes "old") ∷ Rename (codes "x") (codes "y")
    ∷ MkFile (codes "x") ∷ Write (codes "x") 0 (codes "new") ∷ End ∷ []

-- The receiver writes over the file that has moved.
moved_is_lost : received moved ≡ merged_store (record {
  inodes = (256, directory) ∷ (257, file (codes "new")) ∷ (258, file []) ∷ [];
  names = ((256, codes "x"), 258) ∷ ((256, codes "y"), 257) ∷ [];
  next = 259;
})
unfolding separating_words
moved_is_lost = refl

abbrev moved_detoured : List Command
moved_detoured =
    Subvol (uuid 0x22) 2 (codes "s2") ∷ MkFile (codes "x") ∷ Write (codes "x") 0 (codes "old") ∷ Rename (codes "x") (codes "y")
    ∷ MkFile (codes "x") ∷ Link (codes "btrsend.0") (codes "x") ∷ Write (codes "btrsend.0") 0 [] ∷ Unlink (codes "btrsend.0")
    ∷ Utimes epoch epoch [] ∷ Write (codes "x") 0 (codes "new") ∷ End ∷ []

moved_exported : exported_of moved ≡ moved_detoured
unfolding separating_words
moved_exported = refl

moved_is_kept : received moved_detoured ≡ merged_store (record {
  inodes = (256, directory) ∷ (257, file (codes "old")) ∷ (258, file (codes "new")) ∷ [];
  names = ((256, codes "x"), 258) ∷ ((256, codes "y"), 257) ∷ [];
  next = 259;
})
unfolding separating_words
moved_is_kept = refl

-- ---- which separator

-- In a part that has begun, with its commands.
abbrev in_part : List Command → List Command
in_part commands = Subvol (uuid 0x22) 2 (codes "s2") ∷ commands

-- Another file was written to before: it is opened.
touched : exported_of (in_part (
    MkFile (codes "x") ∷ MkFile (codes "z") ∷ Write (codes "z") 0 (codes "a") ∷ Write (codes "x") 0 (codes "b") ∷ Unlink (codes "x") ∷ MkFile (codes "x")
    ∷ Write (codes "x") 0 (codes "c") ∷ []))
    ≡ in_part (
    MkFile (codes "x") ∷ MkFile (codes "z") ∷ Write (codes "z") 0 (codes "a") ∷ Write (codes "x") 0 (codes "b") ∷ Unlink (codes "x") ∷ MkFile (codes "x")
    ∷ Write (codes "z") 0 [] ∷ Write (codes "x") 0 (codes "c") ∷ [])
unfolding separating_words
touched = refl

-- Its path names no file any more.
not_touched : exported_of (in_part (
    MkFile (codes "x") ∷ MkFile (codes "z") ∷ Write (codes "z") 0 (codes "a") ∷ Write (codes "x") 0 (codes "b") ∷ Unlink (codes "z") ∷ Rename (codes "x") (codes "y")
    ∷ MkFile (codes "x") ∷ Write (codes "x") 0 (codes "c") ∷ []))
    ≡ in_part (
    MkFile (codes "x") ∷ MkFile (codes "z") ∷ Write (codes "z") 0 (codes "a") ∷ Write (codes "x") 0 (codes "b") ∷ Unlink (codes "z") ∷ Rename (codes "x") (codes "y")
    ∷ MkFile (codes "x") ∷ Link (codes "btrsend.0") (codes "x") ∷ Write (codes "btrsend.0") 0 [] ∷ Unlink (codes "btrsend.0") ∷ Utimes epoch epoch []
    ∷ Write (codes "x") 0 (codes "c") ∷ [])
unfolding separating_words
not_touched = refl

-- The first name is taken.
next_name : exported_of (in_part (
    MkFile (codes "btrsend.0") ∷ MkFile (codes "x") ∷ Write (codes "x") 0 (codes "b") ∷ Unlink (codes "x") ∷ MkFile (codes "x") ∷ Write (codes "x") 0 (codes "c") ∷ []))
    ≡ in_part (
    MkFile (codes "btrsend.0") ∷ MkFile (codes "x") ∷ Write (codes "x") 0 (codes "b") ∷ Unlink (codes "x") ∷ MkFile (codes "x")
    ∷ Link (codes "btrsend.1") (codes "x") ∷ Write (codes "btrsend.1") 0 [] ∷ Unlink (codes "btrsend.1") ∷ Utimes epoch epoch []
    ∷ Write (codes "x") 0 (codes "c") ∷ [])
unfolding separating_words
next_name = refl

-- The root gets its times back.
times_back : exported_of (in_part (
    MkFile (codes "x") ∷ Write (codes "x") 0 (codes "b") ∷ Unlink (codes "x") ∷ MkFile (codes "x")
    ∷ Utimes (record { secs = 1; nanos = 2 }) (record { secs = 3; nanos = 4 }) [] ∷ Write (codes "x") 0 (codes "c") ∷ []))
    ≡ in_part (
    MkFile (codes "x") ∷ Write (codes "x") 0 (codes "b") ∷ Unlink (codes "x") ∷ MkFile (codes "x")
    ∷ Utimes (record { secs = 1; nanos = 2 }) (record { secs = 3; nanos = 4 }) []
    ∷ Link (codes "btrsend.0") (codes "x") ∷ Write (codes "btrsend.0") 0 [] ∷ Unlink (codes "btrsend.0")
    ∷ Utimes (record { secs = 1; nanos = 2 }) (record { secs = 3; nanos = 4 }) [] ∷ Write (codes "x") 0 (codes "c") ∷ [])
unfolding separating_words
times_back = refl

-- CLONE and FALLOCATE go to the open file too, and keep it open.
cloned_onto : exported_of (in_part (
    MkFile (codes "z") ∷ MkFile (codes "x") ∷ Write (codes "z") 0 (codes "ab") ∷ Clone (codes "x") 0 (uuid 0x22) 2 (codes "z") 0 2 ∷ Unlink (codes "x")
    ∷ MkFile (codes "x") ∷ Clone (codes "x") 0 (uuid 0x22) 2 (codes "z") 0 2 ∷ []))
    ≡ in_part (
    MkFile (codes "z") ∷ MkFile (codes "x") ∷ Write (codes "z") 0 (codes "ab") ∷ Clone (codes "x") 0 (uuid 0x22) 2 (codes "z") 0 2 ∷ Unlink (codes "x")
    ∷ MkFile (codes "x") ∷ Write (codes "z") 0 [] ∷ Clone (codes "x") 0 (uuid 0x22) 2 (codes "z") 0 2 ∷ [])
unfolding separating_words
cloned_onto = refl

allocated : exported_of (in_part (
    MkFile (codes "x") ∷ Write (codes "x") 0 (codes "b") ∷ Unlink (codes "x") ∷ MkFile (codes "x") ∷ Fallocate 4 (codes "x") 0 0 ∷ []))
    ≡ in_part (
    MkFile (codes "x") ∷ Write (codes "x") 0 (codes "b") ∷ Unlink (codes "x") ∷ MkFile (codes "x") ∷ Link (codes "btrsend.0") (codes "x")
    ∷ Write (codes "btrsend.0") 0 [] ∷ Unlink (codes "btrsend.0") ∷ Utimes epoch epoch [] ∷ Fallocate 4 (codes "x") 0 0 ∷ [])
unfolding separating_words
allocated = refl

-- Another file stands under the path because a directory above it was renamed.
directory_moved : exported_of (in_part (
    MkDir (codes "d") ∷ MkFile (codes "d/x") ∷ Write (codes "d/x") 0 (codes "b") ∷ Rename (codes "d") (codes "e") ∷ MkDir (codes "d") ∷ MkFile (codes "d/x")
    ∷ Write (codes "d/x") 0 (codes "c") ∷ []))
    ≡ in_part (
    MkDir (codes "d") ∷ MkFile (codes "d/x") ∷ Write (codes "d/x") 0 (codes "b") ∷ Rename (codes "d") (codes "e") ∷ MkDir (codes "d") ∷ MkFile (codes "d/x")
    ∷ Link (codes "btrsend.0") (codes "d/x") ∷ Write (codes "btrsend.0") 0 [] ∷ Unlink (codes "btrsend.0") ∷ Utimes epoch epoch []
    ∷ Write (codes "d/x") 0 (codes "c") ∷ [])
unfolding separating_words
directory_moved = refl

-- ---- no separator

-- The path leads to the same file again, by another of its names.
abbrev linked_again : List Command
linked_again = in_part (
    MkFile (codes "x") ∷ Link (codes "y") (codes "x") ∷ Write (codes "x") 0 (codes "b") ∷ Unlink (codes "x") ∷ Link (codes "x") (codes "y")
    ∷ Write (codes "x") 0 (codes "c") ∷ [])

same_file : exported_of linked_again ≡ linked_again
unfolding separating_words
same_file = refl

-- TRUNCATE goes by its path, and a WRITE to another path opens that one.
abbrev opened_between : List Command
opened_between = in_part (
    MkFile (codes "x") ∷ MkFile (codes "z") ∷ Write (codes "x") 0 (codes "b") ∷ Unlink (codes "x") ∷ MkFile (codes "x") ∷ Truncate 1 (codes "x")
    ∷ Write (codes "z") 0 (codes "a") ∷ Write (codes "x") 0 (codes "c") ∷ [])

opened_anew : exported_of opened_between ≡ opened_between
unfolding separating_words
opened_anew = refl

-- Nor is there one between parts that are received one after the other.
apart : exported_of (first_part ++ second_part) ≡ first_part ++ second_part
unfolding separating_words
apart = refl
