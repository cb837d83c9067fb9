-- Worked examples of blocks that stand in the part that is being composed: what redirected clones become, and how much is written.
-- What is expected was worked out by hand from the rules in words.
use Rattle.std.specs.Prelude.{◌≡◌, ℕ, ◌+◌, List, [], ◌∷◌, ◌++◌, length, replicate, None, codes, refl}
use Rattle.send_model.specs.Command.{Command, Subvol, Snapshot, MkFile, Rename, Link, Unlink, Write, Clone, Truncate, End}
use Rattle.send_model.specs.Reading.{Item, Whole}
use Rattle.send_model.specs.Store.{Store}
use Rattle.send_model.specs.Receive.{bytes_of}
use Rattle.send_model.specs.Due.{DoneWhole, due_by}
use Rattle.send_model.specs.Composed.{list_by}
use Rattle.send_model.specs.Provenance.{redirected_by}
use Rattle.send_model.proofs.ExampleWords.{uuid, one_file, store_of, composing_words}
use Rattle.standing_model.specs.Standing.{stand_of, standing_pieces, standing_commands, selfed_from, selfed_edits, selfed_with, selfed_of, unstanding_cells, standing_runs}
use Rattle.standing_model.specs.Promises.{self_due_of}

-- Items of commands in one file, each with a place of its own for its data.
abbrev pub born : ℕ → List Command → List Item
born at [] = []
born at (command ∷ commands) =
    record { file = 1; number = 1; offset = 0; version = 1; data_at = at; command = command } ∷ born (at + length (bytes_of command) + 40) commands

-- What an example computes with.
unfoldable pub standing_words : Unit {0}
unfolding composing_words due_by list_by redirected_by stand_of standing_pieces standing_commands selfed_from selfed_edits selfed_with
standing_words = tt

abbrev block : ℕ → List ℕ
block letter = replicate 4_096 letter

-- Two parts: the first one a full stream with the file x, the second one a snapshot of it.
abbrev two_parts : List Command → List Command → List Item
two_parts first second = born 100 (Subvol (uuid 0x11) 1 (codes "a") ∷ MkFile (codes "x") ∷ (first ++ End ∷ Snapshot (uuid 0x22) 2 (codes "b") (uuid 0x11) 1 ∷ (second ++ End ∷ [])))

abbrev one_part : List Command → List Command
one_part commands = Subvol (uuid 0x22) 2 (codes "b") ∷ MkFile (codes "x") ∷ (commands ++ End ∷ [])

-- ---- a hard link whose first block is overwritten

abbrev hard_linked : Store ℕ
hard_linked = store_of (one_file (block 0x61 ++ block 0x62) (codes "x" ∷ codes "y" ∷ []))

abbrev overwritten_block : List Command → List Item
overwritten_block before = born 100 (
    Snapshot (uuid 0x22) 2 (codes "q") (uuid 0x11) 1
    ∷ Write (codes "x") 0 (block 0x63)
    ∷ End
    ∷ Snapshot (uuid 0x33) 3 (codes "r") (uuid 0x22) 2
    ∷ MkFile (codes "z")
    ∷ (before ++ Clone (codes "z") 0 (uuid 0x22) 2 (codes "y") 0 8_192
    ∷ End
    ∷ []))

-- The block that was written still stands in the file of both names; the other one is carried. They are two runs.
overwritten_stands : selfed_of hard_linked (overwritten_block []) ≡
    Snapshot (uuid 0x33) 3 (codes "r") (uuid 0x11) 1
    ∷ Write (codes "x") 0 (block 0x63)
    ∷ MkFile (codes "z")
    ∷ Clone (codes "z") 0 (uuid 0x33) 3 (codes "x") 0 4_096
    ∷ Clone (codes "z") 4_096 (uuid 0x11) 1 (codes "x") 4_096 4_096
    ∷ End
    ∷ []
unfolding standing_words
overwritten_stands = refl

overwritten_counts : (unstanding_cells hard_linked (overwritten_block []) ≡ 0) × (standing_runs hard_linked (overwritten_block []) ≡ 2)
unfolding standing_words
overwritten_counts = (refl, refl)

overwritten_due : self_due_of None hard_linked (record { items = overwritten_block []; end = Whole }) ≡ DoneWhole
unfolding standing_words
overwritten_due = refl

-- Where it is overwritten before it is cloned, it stands nowhere.
written_again : selfed_of hard_linked (overwritten_block (Write (codes "y") 0 (block 0x64) ∷ [])) ≡
    Snapshot (uuid 0x33) 3 (codes "r") (uuid 0x11) 1
    ∷ Write (codes "x") 0 (block 0x63)
    ∷ MkFile (codes "z")
    ∷ Write (codes "y") 0 (block 0x64)
    ∷ Write (codes "z") 0 (block 0x63)
    ∷ Clone (codes "z") 4_096 (uuid 0x11) 1 (codes "x") 4_096 4_096
    ∷ End
    ∷ []
unfolding standing_words
written_again = refl

written_again_counts : (unstanding_cells hard_linked (overwritten_block (Write (codes "y") 0 (block 0x64) ∷ [])) ≡ 4_096)
    × (standing_runs hard_linked (overwritten_block (Write (codes "y") 0 (block 0x64) ∷ [])) ≡ 1)
unfolding standing_words
written_again_counts = (refl, refl)

-- ---- which file

-- A block that stands in the file that is written to, and in no other, is written.
own_file : selfed_of [] (two_parts (Write (codes "x") 0 (block 0x61) ∷ []) (Clone (codes "x") 4_096 (uuid 0x11) 1 (codes "x") 0 4_096 ∷ [])) ≡
    one_part (Write (codes "x") 0 (block 0x61) ∷ Write (codes "x") 4_096 (block 0x61) ∷ [])
unfolding standing_words
own_file = refl

-- The same by another of its names.
own_name : selfed_of [] (two_parts (Write (codes "x") 0 (block 0x61) ∷ Link (codes "y") (codes "x") ∷ []) (Clone (codes "y") 4_096 (uuid 0x11) 1 (codes "x") 0 4_096 ∷ [])) ≡
    one_part (Write (codes "x") 0 (block 0x61) ∷ Link (codes "y") (codes "x") ∷ Write (codes "y") 4_096 (block 0x61) ∷ [])
unfolding standing_words
own_name = refl

-- Of two files the one with the lesser number, though its name is the greater one.
lesser_file : selfed_of [] (two_parts
    (Write (codes "x") 0 (block 0x61) ∷ MkFile (codes "c") ∷ Clone (codes "c") 0 (uuid 0x11) 1 (codes "x") 0 4_096 ∷ [])
    (MkFile (codes "z") ∷ Clone (codes "z") 0 (uuid 0x11) 1 (codes "c") 0 4_096 ∷ [])) ≡
    one_part (Write (codes "x") 0 (block 0x61) ∷ MkFile (codes "c") ∷ Clone (codes "c") 0 (uuid 0x22) 2 (codes "x") 0 4_096 ∷ MkFile (codes "z") ∷ Clone (codes "z") 0 (uuid 0x22) 2 (codes "x") 0 4_096 ∷ [])
unfolding standing_words
lesser_file = refl

-- The other one, where the first is written to.
other_file : selfed_of [] (two_parts
    (Write (codes "x") 0 (block 0x61) ∷ MkFile (codes "c") ∷ Clone (codes "c") 0 (uuid 0x11) 1 (codes "x") 0 4_096 ∷ [])
    (Clone (codes "x") 4_096 (uuid 0x11) 1 (codes "x") 0 4_096 ∷ [])) ≡
    one_part (Write (codes "x") 0 (block 0x61) ∷ MkFile (codes "c") ∷ Clone (codes "c") 0 (uuid 0x22) 2 (codes "x") 0 4_096 ∷ Clone (codes "x") 4_096 (uuid 0x22) 2 (codes "c") 0 4_096 ∷ [])
unfolding standing_words
other_file = refl

-- Of two places in one file the lesser.
lesser_place : selfed_of [] (two_parts
    (Write (codes "x") 0 (block 0x61 ++ block 0x62) ∷ Clone (codes "x") 4_096 (uuid 0x11) 1 (codes "x") 0 4_096 ∷ [])
    (MkFile (codes "z") ∷ Clone (codes "z") 0 (uuid 0x11) 1 (codes "x") 4_096 4_096 ∷ [])) ≡
    one_part (Write (codes "x") 0 (block 0x61 ++ block 0x62) ∷ Clone (codes "x") 4_096 (uuid 0x22) 2 (codes "x") 0 4_096 ∷ MkFile (codes "z") ∷ Clone (codes "z") 0 (uuid 0x22) 2 (codes "x") 0 4_096 ∷ [])
unfolding standing_words
lesser_place = refl

-- A file under another name than when its bytes were written.
renamed_file : selfed_of [] (two_parts (Write (codes "x") 0 (block 0x61) ∷ [])
    (MkFile (codes "z") ∷ Rename (codes "x") (codes "w") ∷ Clone (codes "z") 0 (uuid 0x11) 1 (codes "x") 0 4_096 ∷ [])) ≡
    one_part (Write (codes "x") 0 (block 0x61) ∷ MkFile (codes "z") ∷ Rename (codes "x") (codes "w") ∷ Clone (codes "z") 0 (uuid 0x22) 2 (codes "w") 0 4_096 ∷ [])
unfolding standing_words
renamed_file = refl

-- A file that is gone.
gone_file : selfed_of [] (two_parts (Write (codes "x") 0 (block 0x61) ∷ [])
    (MkFile (codes "z") ∷ Unlink (codes "x") ∷ Clone (codes "z") 0 (uuid 0x11) 1 (codes "x") 0 4_096 ∷ [])) ≡
    one_part (Write (codes "x") 0 (block 0x61) ∷ MkFile (codes "z") ∷ Unlink (codes "x") ∷ Write (codes "z") 0 (block 0x61) ∷ [])
unfolding standing_words
gone_file = refl

-- ---- carried blocks

-- A block that an outside subvolume carries is cloned from there, though it stands in the part too.
carried_first : selfed_of (store_of (one_file (block 0x61) (codes "x" ∷ []))) (born 100 (
    Snapshot (uuid 0x22) 2 (codes "q") (uuid 0x11) 1 ∷ MkFile (codes "y") ∷ Clone (codes "y") 0 (uuid 0x11) 1 (codes "x") 0 4_096 ∷ End
    ∷ Snapshot (uuid 0x33) 3 (codes "r") (uuid 0x22) 2 ∷ MkFile (codes "z") ∷ Clone (codes "z") 0 (uuid 0x22) 2 (codes "y") 0 4_096 ∷ End ∷ [])) ≡
    Snapshot (uuid 0x33) 3 (codes "r") (uuid 0x11) 1 ∷ MkFile (codes "y") ∷ Clone (codes "y") 0 (uuid 0x11) 1 (codes "x") 0 4_096
    ∷ MkFile (codes "z") ∷ Clone (codes "z") 0 (uuid 0x11) 1 (codes "x") 0 4_096 ∷ End ∷ []
unfolding standing_words
carried_first = refl

-- Half of its cells were written and half came from outside: it is not carried, but it stands.
half_written : selfed_of (store_of (one_file (block 0x61) (codes "x" ∷ []))) (born 100 (
    Snapshot (uuid 0x22) 2 (codes "q") (uuid 0x11) 1 ∷ Write (codes "x") 0 (replicate 2_048 0x63) ∷ End
    ∷ Snapshot (uuid 0x33) 3 (codes "r") (uuid 0x22) 2 ∷ MkFile (codes "z") ∷ Clone (codes "z") 0 (uuid 0x22) 2 (codes "x") 0 4_096 ∷ End ∷ [])) ≡
    Snapshot (uuid 0x33) 3 (codes "r") (uuid 0x11) 1 ∷ Write (codes "x") 0 (replicate 2_048 0x63)
    ∷ MkFile (codes "z") ∷ Clone (codes "z") 0 (uuid 0x33) 3 (codes "x") 0 4_096 ∷ End ∷ []
unfolding standing_words
half_written = refl

-- ---- short blocks

-- Five thousand bytes to their end are one run.
abbrev five_thousand : List ℕ
five_thousand = replicate 5_000 0x61

short_block : selfed_of [] (two_parts (Write (codes "x") 0 five_thousand ∷ []) (MkFile (codes "z") ∷ Clone (codes "z") 0 (uuid 0x11) 1 (codes "x") 0 5_000 ∷ [])) ≡
    one_part (Write (codes "x") 0 five_thousand ∷ MkFile (codes "z") ∷ Clone (codes "z") 0 (uuid 0x22) 2 (codes "x") 0 5_000 ∷ [])
unfolding standing_words
short_block = refl

-- Where the file goes on, the short block does not stand.
short_inside : selfed_of [] (two_parts (Write (codes "x") 0 five_thousand ∷ []) (MkFile (codes "z") ∷ Truncate 6_000 (codes "x") ∷ Clone (codes "z") 0 (uuid 0x11) 1 (codes "x") 0 5_000 ∷ [])) ≡
    one_part (Write (codes "x") 0 five_thousand ∷ MkFile (codes "z") ∷ Truncate 6_000 (codes "x") ∷ Clone (codes "z") 0 (uuid 0x22) 2 (codes "x") 0 4_096 ∷ Write (codes "z") 4_096 (replicate 904 0x61) ∷ [])
unfolding standing_words
short_inside = refl

-- A whole block does not stand where only its first bytes are left.
short_left : selfed_of [] (two_parts (Write (codes "x") 0 (block 0x61) ∷ []) (MkFile (codes "z") ∷ Truncate 4_095 (codes "x") ∷ Clone (codes "z") 0 (uuid 0x11) 1 (codes "x") 0 4_096 ∷ [])) ≡
    one_part (Write (codes "x") 0 (block 0x61) ∷ MkFile (codes "z") ∷ Truncate 4_095 (codes "x") ∷ Write (codes "z") 0 (block 0x61) ∷ [])
unfolding standing_words
short_left = refl

-- ---- births

-- Equal bytes that were written twice are not the same block.
written_twice : selfed_of [] (two_parts
    (Write (codes "x") 0 (block 0x61) ∷ MkFile (codes "y") ∷ Write (codes "y") 0 (block 0x61) ∷ [])
    (MkFile (codes "z") ∷ Unlink (codes "x") ∷ Clone (codes "z") 0 (uuid 0x11) 1 (codes "x") 0 4_096 ∷ [])) ≡
    one_part (Write (codes "x") 0 (block 0x61) ∷ MkFile (codes "y") ∷ Write (codes "y") 0 (block 0x61) ∷ MkFile (codes "z") ∷ Unlink (codes "x") ∷ Write (codes "z") 0 (block 0x61) ∷ [])
unfolding standing_words
written_twice = refl

-- A block with one zero byte that a command made does not stand, though the whole of it is there.
one_zero : selfed_of [] (two_parts (Write (codes "x") 1 (replicate 4_095 0x61) ∷ []) (MkFile (codes "z") ∷ Clone (codes "z") 0 (uuid 0x11) 1 (codes "x") 0 4_096 ∷ [])) ≡
    one_part (Write (codes "x") 1 (replicate 4_095 0x61) ∷ MkFile (codes "z") ∷ Write (codes "z") 0 (0 ∷ replicate 4_095 0x61) ∷ [])
unfolding standing_words
one_zero = refl

-- Zero bytes that were written are bytes as any others.
written_zeros : selfed_of [] (two_parts (Write (codes "x") 0 (block 0) ∷ []) (MkFile (codes "z") ∷ Clone (codes "z") 0 (uuid 0x11) 1 (codes "x") 0 4_096 ∷ [])) ≡
    one_part (Write (codes "x") 0 (block 0) ∷ MkFile (codes "z") ∷ Clone (codes "z") 0 (uuid 0x22) 2 (codes "x") 0 4_096 ∷ [])
unfolding standing_words
written_zeros = refl

-- A hole is written.
hole : selfed_of [] (two_parts (Truncate 5_000 (codes "x") ∷ []) (MkFile (codes "z") ∷ Clone (codes "z") 0 (uuid 0x11) 1 (codes "x") 0 5_000 ∷ [])) ≡
    one_part (Truncate 5_000 (codes "x") ∷ MkFile (codes "z") ∷ Write (codes "z") 0 (replicate 5_000 0) ∷ [])
unfolding standing_words
hole = refl

-- Cells that follow each other, but begin inside a block of the file that has them.
inside_block : selfed_of [] (two_parts
    (Write (codes "x") 0 (block 0x61) ∷ MkFile (codes "y") ∷ Write (codes "y") 0 (0x62 ∷ []) ∷ [])
    (MkFile (codes "z") ∷ Write (codes "z") 0 (block 0x63) ∷ Clone (codes "z") 4_096 (uuid 0x11) 1 (codes "y") 0 1 ∷ Unlink (codes "y") ∷ Write (codes "z") 4_097 (block 0x64) ∷ [])) ≡
    one_part (Write (codes "x") 0 (block 0x61) ∷ MkFile (codes "y") ∷ Write (codes "y") 0 (0x62 ∷ []) ∷ MkFile (codes "z") ∷ Write (codes "z") 0 (block 0x63)
    ∷ Clone (codes "z") 4_096 (uuid 0x22) 2 (codes "y") 0 1 ∷ Unlink (codes "y") ∷ Write (codes "z") 4_097 (block 0x64) ∷ [])
unfolding standing_words
inside_block = refl

-- ---- runs

-- Blocks that follow each other in the range and in their stand are one run; turned round they are two.
turned_round : selfed_of [] (two_parts
    (Write (codes "x") 0 (block 0x61 ++ block 0x62) ∷ MkFile (codes "y") ∷ Clone (codes "y") 0 (uuid 0x11) 1 (codes "x") 4_096 4_096 ∷ Clone (codes "y") 4_096 (uuid 0x11) 1 (codes "x") 0 4_096 ∷ [])
    (MkFile (codes "z") ∷ Clone (codes "z") 0 (uuid 0x11) 1 (codes "x") 0 8_192 ∷ Clone (codes "z") 8_192 (uuid 0x11) 1 (codes "y") 0 8_192 ∷ [])) ≡
    one_part (Write (codes "x") 0 (block 0x61 ++ block 0x62) ∷ MkFile (codes "y") ∷ Clone (codes "y") 0 (uuid 0x22) 2 (codes "x") 4_096 4_096 ∷ Clone (codes "y") 4_096 (uuid 0x22) 2 (codes "x") 0 4_096
    ∷ MkFile (codes "z") ∷ Clone (codes "z") 0 (uuid 0x22) 2 (codes "x") 0 8_192 ∷ Clone (codes "z") 8_192 (uuid 0x22) 2 (codes "x") 4_096 4_096 ∷ Clone (codes "z") 12_288 (uuid 0x22) 2 (codes "x") 0 4_096 ∷ [])
unfolding standing_words
turned_round = refl

-- The part is looked at as it is before the clone: the same block twice in one range stands in the other file both times.
twice_in_range : selfed_of [] (two_parts
    (Write (codes "x") 0 (block 0x61) ∷ MkFile (codes "y") ∷ Clone (codes "y") 0 (uuid 0x11) 1 (codes "x") 0 4_096 ∷ Clone (codes "y") 4_096 (uuid 0x11) 1 (codes "x") 0 4_096 ∷ Unlink (codes "x") ∷ [])
    (MkFile (codes "z") ∷ Clone (codes "z") 0 (uuid 0x11) 1 (codes "y") 0 8_192 ∷ [])) ≡
    one_part (Write (codes "x") 0 (block 0x61) ∷ MkFile (codes "y") ∷ Clone (codes "y") 0 (uuid 0x22) 2 (codes "x") 0 4_096 ∷ Clone (codes "y") 4_096 (uuid 0x22) 2 (codes "x") 0 4_096 ∷ Unlink (codes "x") ∷ MkFile (codes "z")
    ∷ Clone (codes "z") 0 (uuid 0x22) 2 (codes "y") 0 4_096 ∷ Clone (codes "z") 4_096 (uuid 0x22) 2 (codes "y") 0 4_096 ∷ [])
unfolding standing_words
twice_in_range = refl

-- What was written for one clone stands for the next one: it is written once.
written_once : selfed_of [] (two_parts (Write (codes "x") 0 (block 0x61) ∷ [])
    (MkFile (codes "y") ∷ MkFile (codes "z") ∷ Unlink (codes "x") ∷ Clone (codes "y") 0 (uuid 0x11) 1 (codes "x") 0 4_096 ∷ Clone (codes "z") 0 (uuid 0x11) 1 (codes "x") 0 4_096 ∷ [])) ≡
    one_part (Write (codes "x") 0 (block 0x61) ∷ MkFile (codes "y") ∷ MkFile (codes "z") ∷ Unlink (codes "x") ∷ Write (codes "y") 0 (block 0x61) ∷ Clone (codes "z") 0 (uuid 0x22) 2 (codes "y") 0 4_096 ∷ [])
unfolding standing_words
written_once = refl

-- A file with two names is cloned by the lesser one.
lesser_name : selfed_of [] (two_parts (Write (codes "x") 0 (block 0x61) ∷ Link (codes "b") (codes "x") ∷ []) (MkFile (codes "z") ∷ Clone (codes "z") 0 (uuid 0x11) 1 (codes "x") 0 4_096 ∷ [])) ≡
    one_part (Write (codes "x") 0 (block 0x61) ∷ Link (codes "b") (codes "x") ∷ MkFile (codes "z") ∷ Clone (codes "z") 0 (uuid 0x22) 2 (codes "b") 0 4_096 ∷ [])
unfolding standing_words
lesser_name = refl
