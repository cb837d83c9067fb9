-- Worked examples of what is said in front of files. Names: two parts of one name, as snapper calls
-- all of them; what a name changes of commands, and what it does not; and the words that give
-- names. Keys: which CTRANSIDs are others, in which file; and a snapshot of a subvolume that was
-- restored.
use Rattle.std.specs.Prelude.{◌≡◌, ℕ, List, [], ◌∷◌, ◌++◌, Option, None, Some, codes, refl}
use Rattle.std.specs.Fmt.{digits}
use Rattle.send_model.specs.Refusal.{Refusal, BadName, NameThere, NoParent, Guarded}
use Rattle.send_model.specs.Command.{Command, Subvol, Snapshot, MkFile, Rename, Write, Clone, Truncate, End}
use Rattle.send_model.specs.Reading.{Item, Whole, input}
use Rattle.send_model.specs.Store.{Key, head_of, Store}
use Rattle.send_model.specs.Lengths.{is_too_long, too_long, too_long_from}
use Rattle.send_model.specs.Receive.{run_by, run_items, receive_items, receive_of}
use Rattle.send_model.specs.Order.{judge_items, judge_reading, judge_of}
use Rattle.send_model.specs.Guards.{MostCommands, NoDevices, guard_of, guard_refuses, guard_after, refused_from, looked}
use Rattle.send_model.specs.Composed.{version_of, composed_of}
use Rattle.send_model.specs.Due.{Due, DoneWhole, RefusedAt, due_from, compose_due, compose_due_of, limited_from, audit_due_of}
use Rattle.send_model.specs.Words.{Dump, guards_and_files, request_of}
use Rattle.send_model.specs.Overridden.{Override, no_override, Overrides, overridden_item, overridden_items, overridden, overridden_limited}
use Rattle.send_model.specs.NamedWords.{GivenFile, ComposeAs, AuditAs, ExportAs, ReceiveAs, Plain, files_from, guards_and_given, named_request_of, named_due, named_whole}
use Rattle.send_model.proofs.ExampleWords.{hexadecimal, uuid, key, one_file, items, reading_words, composing_words}

-- Two parts of one name, and the stream that stands for both under the name that is given with the
-- last, as an assembler independent of this program makes them.
unfoldable first_snapshot : List ℕ
first_snapshot =
    hexadecimal (codes "62747266732d73747265616d0001000000")
    ++ hexadecimal (codes "2c00000001000e0f6d4e01001000111111111111111111111111111111110200080001000000000000000f000800736e617073686f74")
    ++ hexadecimal (codes "0500000003002f8a36730f00010078")
    ++ hexadecimal (codes "170000000f00437eee5f0f00010078120008000000000000000000130002006869")
    ++ hexadecimal (codes "000000001500506cc99d")

unfoldable second_snapshot : List ℕ
second_snapshot =
    hexadecimal (codes "62747266732d73747265616d0001000000")
    ++ hexadecimal (codes "4c00000002008779ca6b01001000222222222222222222222222222222220200080002000000000000000f000800736e617073686f741400100011111111111111111111111111111111150008000100000000000000")
    ++ hexadecimal (codes "160000000f0095b74b770f000100781200080002000000000000001300010021")
    ++ hexadecimal (codes "000000001500506cc99d")

unfoldable tuesday : List ℕ
tuesday =
    hexadecimal (codes "62747266732d73747265616d0001000000")
    ++ hexadecimal (codes "2700000001006bf50a7801001000222222222222222222222222222222220200080002000000000000000f000300747565")
    ++ hexadecimal (codes "0500000003002f8a36730f00010078")
    ++ hexadecimal (codes "170000000f00437eee5f0f00010078120008000000000000000000130002006869")
    ++ hexadecimal (codes "160000000f0095b74b770f000100781200080002000000000000001300010021")
    ++ hexadecimal (codes "000000001500506cc99d")

unfoldable name_words : Unit {0}
unfolding digits reading_words composing_words run_by guard_refuses guard_after refused_from looked is_too_long too_long too_long_from due_from judge_items judge_reading limited_from version_of request_of guards_and_files guard_of files_from guards_and_given named_request_of named_due named_whole first_snapshot second_snapshot tuesday
name_words = tt

abbrev refused : ℕ → ℕ → ℕ → Refusal → Due
refused number command offset refusal = RefusedAt (record { file = number; command = command; offset = offset; refusal = refusal })

abbrev both : List (List ℕ)
both = first_snapshot ∷ second_snapshot ∷ []

abbrev compose_due_with : Overrides → Store ℕ → List (List ℕ) → Due
compose_due_with overrides base files = compose_due_of (too_long files) base (overridden overrides (input files))

abbrev audit_due_with : Overrides → Store ℕ → List (List ℕ) → Due
audit_due_with overrides store files = audit_due_of store [] (overridden_limited overrides (limited_from 1 files))

-- A name alone, and keys alone, in front of a file.
abbrev called : List ℕ → Override
called name = record { name = Some name; parents = [] }

abbrev meant : List Key → Override
meant keys = record { name = None; parents = keys }

-- ---- what a name changes

-- A file with two parts: both heads get the name, and nothing else does, neither the parent's key
-- nor a path that is the old name.
abbrev two_parts : List ℕ → List ℕ → List Command
two_parts first second =
    Subvol (uuid 0x11) 1 first ∷ MkFile (codes "old") ∷ End
    ∷ Snapshot (uuid 0x22) 2 second (uuid 0x11) 1 ∷ Rename (codes "old") (codes "older") ∷ Clone (codes "older") 0 (uuid 0x11) 1 (codes "old") 0 0 ∷ End ∷ []

both_heads : overridden_items (called (codes "new") ∷ []) (items (two_parts (codes "old") (codes "old"))) ≡ items (two_parts (codes "new") (codes "new"))
both_heads = refl

-- A name is for the file of its own number: these items are of file 1, which has none here.
other_file : overridden_items (no_override ∷ called (codes "new") ∷ []) (items (two_parts (codes "old") (codes "old"))) ≡ items (two_parts (codes "old") (codes "old"))
other_file = refl

-- Only the command of an item changes.
same_place : overridden_item (no_override ∷ called (codes "new") ∷ []) (record { file = 2; number = 3; offset = 5; version = 2; data_at = 7; command = Subvol (uuid 0x11) 1 (codes "old") })
    ≡ record { file = 2; number = 3; offset = 5; version = 2; data_at = 7; command = Subvol (uuid 0x11) 1 (codes "new") }
same_place = refl

-- One name before a file with two parts is there already at the second.
second_part : judge_of [] (overridden (called (codes "new") ∷ []) (record { items = items (two_parts (codes "a") (codes "b")); end = Whole }))
    ≡ Some (record { file = 1; command = 1; offset = 0; refusal = NameThere })
unfolding name_words
second_part = refl

-- ---- what keys change

-- A part with its own key, its parent, and the sources of three clones: of its parent, of another
-- subvolume, and of itself.
abbrev snapshot_of : (parent source other own : ℕ) → List Command
snapshot_of parent source other own =
    Snapshot (uuid 0x22) 2 (codes "b") (uuid 0x11) parent
    ∷ Clone (codes "x") 0 (uuid 0x11) source (codes "x") 0 4096
    ∷ Clone (codes "x") 4096 (uuid 0x33) other (codes "y") 0 4096
    ∷ Clone (codes "x") 8192 (uuid 0x22) own (codes "x") 0 4096
    ∷ End ∷ []

-- The parent and the clone of it have the number that is said; the clone of another subvolume and
-- of the part itself have their own.
one_key : overridden_items (meant (key 0x11 9 ∷ []) ∷ []) (items (snapshot_of 1 1 7 2)) ≡ items (snapshot_of 9 9 7 2)
one_key = refl

-- Two UUIDs in front of one file: each has its own number, in either order.
two_keys : overridden_items (meant (key 0x11 9 ∷ key 0x33 5 ∷ []) ∷ []) (items (snapshot_of 1 1 7 2)) ≡ items (snapshot_of 9 9 5 2)
two_keys = refl

other_way_round : overridden_items (meant (key 0x33 5 ∷ key 0x11 9 ∷ []) ∷ []) (items (snapshot_of 1 1 7 2)) ≡ items (snapshot_of 9 9 5 2)
other_way_round = refl

-- A UUID that nothing names changes nothing.
unnamed_key : overridden_items (meant (key 0x44 9 ∷ []) ∷ []) (items (snapshot_of 1 1 7 2)) ≡ items (snapshot_of 1 1 7 2)
unnamed_key = refl

-- The part's own UUID: its own number stays, and a clone of itself names the one that is said, at
-- which nothing looks.
own_key : overridden_items (meant (key 0x22 6 ∷ []) ∷ []) (items (snapshot_of 1 1 7 2)) ≡ items (snapshot_of 1 1 7 6)
own_key = refl

own_number : head_of (overridden_item (meant (key 0x22 6 ∷ []) ∷ []) (record { file = 1; number = 1; offset = 17; version = 1; data_at = 0; command = Snapshot (uuid 0x22) 2 (codes "b") (uuid 0x11) 1 })).command
    ≡ Some (record { name = codes "b"; key = key 0x22 2; parent = Some (key 0x11 1) })
own_number = refl

abbrev itself : ℕ → List Item
itself own = items (Subvol (uuid 0x22) 2 (codes "b") ∷ MkFile (codes "x") ∷ Truncate 4096 (codes "x") ∷ Clone (codes "x") 4096 (uuid 0x22) own (codes "x") 0 4096 ∷ End ∷ [])

cloned_itself : judge_of [] (overridden (meant (key 0x22 6 ∷ []) ∷ []) (record { items = itself 2; end = Whole })) ≡ None
unfolding name_words
cloned_itself = refl

-- A full stream has no parent, so its key stays as it is.
full_stream : overridden_items (meant (key 0x11 9 ∷ []) ∷ []) (items (two_parts (codes "a") (codes "b")))
    ≡ items (
    Subvol (uuid 0x11) 1 (codes "a") ∷ MkFile (codes "old") ∷ End
    ∷ Snapshot (uuid 0x22) 2 (codes "b") (uuid 0x11) 9 ∷ Rename (codes "old") (codes "older") ∷ Clone (codes "older") 0 (uuid 0x11) 9 (codes "old") 0 0 ∷ End ∷ []
    )
full_stream = refl

-- So a part whose parent is read from the same file no longer follows it.
no_longer_follows : judge_of [] (overridden (meant (key 0x11 9 ∷ []) ∷ []) (record { items = items (two_parts (codes "a") (codes "b")); end = Whole }))
    ≡ Some (record { file = 1; command = 1; offset = 0; refusal = NoParent })
unfolding name_words
no_longer_follows = refl

-- What is said in front of a file is said of no other.
next_file : overridden_item (meant (key 0x11 9 ∷ []) ∷ []) (record { file = 2; number = 1; offset = 17; version = 1; data_at = 0; command = Snapshot (uuid 0x22) 2 (codes "b") (uuid 0x11) 1 })
    ≡ record { file = 2; number = 1; offset = 17; version = 1; data_at = 0; command = Snapshot (uuid 0x22) 2 (codes "b") (uuid 0x11) 1 }
next_file = refl

second_file : overridden_item (meant (key 0x11 9 ∷ []) ∷ meant (key 0x11 5 ∷ []) ∷ []) (record { file = 2; number = 1; offset = 17; version = 1; data_at = 0; command = Snapshot (uuid 0x22) 2 (codes "b") (uuid 0x11) 1 })
    ≡ record { file = 2; number = 1; offset = 17; version = 1; data_at = 0; command = Snapshot (uuid 0x22) 2 (codes "b") (uuid 0x11) 5 }
second_file = refl

-- A name and a key in front of one file.
both_said : overridden_items (record { name = Some (codes "new"); parents = key 0x33 5 ∷ key 0x11 9 ∷ [] } ∷ []) (items (Snapshot (uuid 0x22) 2 (codes "b") (uuid 0x11) 1 ∷ End ∷ []))
    ≡ items (Snapshot (uuid 0x22) 2 (codes "new") (uuid 0x11) 9 ∷ End ∷ [])
both_said = refl

-- ---- a snapshot of a subvolume that was restored

-- The store has the subvolume of the first file as it was restored, with the number of the copy.
abbrev restored : Store ℕ
restored = record { name = codes "restored"; key = key 0x11 9; parent = None; contents = Some (one_file (codes "hi") (codes "x" ∷ [])) } ∷ []

no_parent : audit_due_with [] restored (second_snapshot ∷ []) ≡ refused 1 1 17 NoParent
unfolding name_words
no_parent = refl

parent_said : audit_due_with (meant (key 0x11 9 ∷ []) ∷ []) restored (second_snapshot ∷ []) ≡ DoneWhole
unfolding name_words
parent_said = refl

-- Another number is as bad as none, and so is the number of another UUID.
other_number : audit_due_with (meant (key 0x11 8 ∷ []) ∷ []) restored (second_snapshot ∷ []) ≡ refused 1 1 17 NoParent
unfolding name_words
other_number = refl

other_uuid : audit_due_with (meant (key 0x22 9 ∷ []) ∷ []) restored (second_snapshot ∷ []) ≡ refused 1 1 17 NoParent
unfolding name_words
other_uuid = refl

composed_over : compose_due_with (meant (key 0x11 9 ∷ []) ∷ []) restored (second_snapshot ∷ []) ≡ DoneWhole
unfolding name_words
composed_over = refl

-- What is composed names the parent in the store.
composed_names : composed_of restored (overridden (meant (key 0x11 9 ∷ []) ∷ []) (input (second_snapshot ∷ []))).items
    ≡ Snapshot (uuid 0x22) 2 (codes "snapshot") (uuid 0x11) 9 ∷ Write (codes "x") 2 (codes "!") ∷ End ∷ []
unfolding name_words
composed_names = refl

-- What is received is the same subvolume as over the first one, under its own key.
received_over : (receive_of restored (overridden (meant (key 0x11 9 ∷ []) ∷ []) (input (second_snapshot ∷ [])))).state.store
    ≡ restored ++ record { name = codes "snapshot"; key = key 0x22 2; parent = Some (key 0x11 9); contents = Some (one_file (codes "hi!") (codes "x" ∷ [])) } ∷ []
unfolding name_words run_items receive_items
received_over = refl

-- ---- answers

one_name : compose_due [] both ≡ refused 2 1 17 NameThere
unfolding name_words
one_name = refl

two_names : compose_due_with (called (codes "mon") ∷ called (codes "tue") ∷ []) [] both ≡ DoneWhole
unfolding name_words
two_names = refl

-- One name is enough, and one that is given twice is as bad as none.
first_named : compose_due_with (called (codes "mon") ∷ []) [] both ≡ DoneWhole
unfolding name_words
first_named = refl

last_named : compose_due_with (no_override ∷ called (codes "tue") ∷ []) [] both ≡ DoneWhole
unfolding name_words
last_named = refl

same_name : compose_due_with (called (codes "mon") ∷ called (codes "mon") ∷ []) [] both ≡ refused 2 1 17 NameThere
unfolding name_words
same_name = refl

bad_name : compose_due_with (no_override ∷ called (codes "a/b") ∷ []) [] both ≡ refused 2 1 17 BadName
unfolding name_words
bad_name = refl

no_name : audit_due_with (called [] ∷ []) [] both ≡ refused 1 1 17 BadName
unfolding name_words
no_name = refl

audited : audit_due_with (called (codes "mon") ∷ []) [] both ≡ DoneWhole
unfolding name_words
audited = refl

-- ---- words

abbrev given : ℕ → Option (List ℕ) → GivenFile
given at name = record { at = at; name = name }

compose_words : named_request_of (codes "compose" ∷ codes "none" ∷ codes "name:mon" ∷ codes "a" ∷ codes "b" ∷ codes "name:wed" ∷ codes "c" ∷ [])
    ≡ Some (ComposeAs 1 (given 3 (Some (codes "mon")) ∷ given 4 None ∷ given 6 (Some (codes "wed")) ∷ []))
unfolding name_words
compose_words = refl

-- Such a file, and an empty name, which its head then refuses.
file_so_called : named_request_of (codes "compose" ∷ codes "none" ∷ codes "name:" ∷ codes "./name:a" ∷ []) ≡ Some (ComposeAs 1 (given 3 (Some []) ∷ []))
unfolding name_words
file_so_called = refl

no_file : named_request_of (codes "compose" ∷ codes "none" ∷ codes "a" ∷ codes "name:mon" ∷ []) ≡ None
unfolding name_words
no_file = refl

-- A store alone is not enough, nor is one with a name behind it.
no_words : named_request_of (codes "compose" ∷ codes "none" ∷ []) ≡ None
unfolding name_words
no_words = refl

no_file_named : named_request_of (codes "audit" ∷ codes "none" ∷ codes "name:mon" ∷ []) ≡ None
unfolding name_words
no_file_named = refl

-- A name where the store stands is a store so called.
store_so_called : named_request_of (codes "compose" ∷ codes "name:x" ∷ codes "a" ∷ []) ≡ Some (ComposeAs 1 (given 2 None ∷ []))
unfolding name_words
store_so_called = refl

two_for_one : named_request_of (codes "compose" ∷ codes "none" ∷ codes "name:mon" ∷ codes "name:tue" ∷ codes "a" ∷ []) ≡ None
unfolding name_words
two_for_one = refl

audit_words : named_request_of (codes "audit" ∷ codes "guard:nodev" ∷ codes "st" ∷ codes "name:mon" ∷ codes "a" ∷ []) ≡ Some (AuditAs (NoDevices ∷ []) 2 (given 4 (Some (codes "mon")) ∷ []))
unfolding name_words
audit_words = refl

receive_words : named_request_of (codes "receive" ∷ codes "st" ∷ codes "a" ∷ []) ≡ Some (ReceiveAs [] 1 (given 2 None ∷ []))
unfolding name_words
receive_words = refl

export_words : named_request_of (codes "export" ∷ codes "st" ∷ codes "name:mon" ∷ codes "a" ∷ []) ≡ Some (ExportAs 1 (given 3 (Some (codes "mon")) ∷ []))
unfolding name_words
export_words = refl

-- Where no names are given, such a word is a file.
dump_words : named_request_of (codes "dump" ∷ codes "name:mon" ∷ []) ≡ Some (Plain (Dump 1))
unfolding name_words
dump_words = refl

dump_named : named_request_of (codes "dump" ∷ codes "name:mon" ∷ codes "a" ∷ []) ≡ None
unfolding name_words
dump_named = refl

composed_due : named_due (ComposeAs 1 (given 3 (Some (codes "mon")) ∷ given 5 (Some (codes "tue")) ∷ [])) [] both ≡ DoneWhole
unfolding name_words
composed_due = refl

audited_due : named_due (AuditAs [] 1 (given 2 None ∷ given 4 (Some (codes "tue")) ∷ [])) [] both ≡ DoneWhole
unfolding name_words
audited_due = refl

exported_due : named_due (ExportAs 1 (given 2 None ∷ given 4 (Some (codes "tue")) ∷ [])) [] both ≡ DoneWhole
unfolding name_words
exported_due = refl

received_due : named_due (ReceiveAs (MostCommands 6 ∷ []) 1 (given 2 None ∷ given 4 (Some (codes "tue")) ∷ [])) [] both ≡ refused 2 3 135 (Guarded 0 6)
unfolding name_words
received_due = refl

audited_line : named_whole (AuditAs [] 1 (given 2 None ∷ given 4 (Some (codes "tue")) ∷ [])) [] both ≡ codes "accepted 2 7" ++ 0x0a ∷ []
unfolding name_words
audited_line = refl

-- The last name is the composed subvolume's.
composed_whole : named_whole (ComposeAs 1 (given 3 None ∷ given 5 (Some (codes "tue")) ∷ [])) [] both ≡ tuesday
unfolding name_words
composed_whole = refl
