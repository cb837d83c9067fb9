-- Worked examples of squashed commands.
use Rattle.std.specs.Prelude.{◌≡◌, ℕ, List, [], ◌∷◌, ◌++◌, map, codes, refl, true, false, Bool}
use Rattle.std.specs.List.{range_with_len}
use Rattle.send_model.specs.Command.{Command, Subvol, Snapshot, MkFile, Link, Unlink, Write, Clone, Truncate, Fallocate, End}
use Rattle.send_model.specs.Counts.{literal}
use Rattle.send_model.specs.Spelling.{stream_header, canonical_all}
use Rattle.send_model.specs.Composed.{version_of}
use Rattle.send_model.specs.Reading.{input}
use Rattle.send_model.proofs.ReadingExamples.{merged_stream}
use Rattle.send_model.proofs.ExampleWords.{reading_words, uuid, one_file, store_of, composing_words}
use Rattle.squash_model.specs.SquashJudge.{judge_one, squash_judge, squash_output_for}
use Rattle.squash_model.specs.Liveness.{live_before, live_from, squashed_live}
use Rattle.squash_model.specs.Squashed.{unborn, born_by, births_left, stands, size_at, squashed_from, squashed, all_bytes}

unfoldable squash_words : Unit {0}
unfolding composing_words born_by births_left stands size_at squashed_from
squash_words = tt

unfoldable live_words : Unit {0}
unfolding live_before live_from squashed_live
live_words = tt

abbrev head : Command
head = Subvol (uuid 0x22) 2 (codes "b")

abbrev x : List ℕ
x = codes "x"

-- Which bytes stand, of those that some commands over no store put.
abbrev standing : List Command → List Bool
standing commands = map (stands [] commands) (range_with_len 0 (literal commands))

-- ---- a file that is written anew on each of three days

abbrev three_days : List Command
three_days = head ∷ MkFile x ∷ Write x 0 (codes "mon") ∷ Write x 0 (codes "tues") ∷ Write x 0 (codes "wed") ∷ End ∷ []

-- Of the first day nothing is left but how long the file was; of the second the last byte, which
-- the third did not reach.
three_days_squashed : squashed [] three_days ≡
    head ∷ MkFile x ∷ Truncate 3 x ∷ Write x 3 (codes "s") ∷ Write x 0 (codes "wed") ∷ End ∷ []
unfolding squash_words
three_days_squashed = refl

three_days_stand : standing three_days ≡ false ∷ false ∷ false ∷ false ∷ false ∷ false ∷ true ∷ true ∷ true ∷ true ∷ []
unfolding squash_words literal
three_days_stand = refl

-- Once more, and nothing changes.
three_days_twice : squashed [] (squashed [] three_days) ≡ squashed [] three_days
unfolding squash_words
three_days_twice = refl

-- ---- a WRITE of which half dies

half : squashed [] (head ∷ MkFile x ∷ Write x 0 (codes "abcdef") ∷ Write x 2 (codes "XY") ∷ End ∷ []) ≡
    head ∷ MkFile x ∷ Write x 0 (codes "ab") ∷ Write x 4 (codes "ef") ∷ Write x 2 (codes "XY") ∷ End ∷ []
unfolding squash_words
half = refl

-- By a hole that is punched, as by a WRITE.
punched : squashed [] (head ∷ MkFile x ∷ Write x 0 (codes "abcdef") ∷ Fallocate 2 x 2 3 ∷ End ∷ []) ≡
    head ∷ MkFile x ∷ Write x 0 (codes "ab") ∷ Write x 4 (codes "ef") ∷ Fallocate 2 x 2 3 ∷ End ∷ []
unfolding squash_words
punched = refl

-- ---- a WRITE that makes its file longer, and dies

-- The file is as long in between.
longer : squashed [] (head ∷ MkFile x ∷ Write x 4 (codes "abcd") ∷ Truncate 2 x ∷ End ∷ []) ≡
    head ∷ MkFile x ∷ Truncate 8 x ∷ Truncate 2 x ∷ End ∷ []
unfolding squash_words
longer = refl

-- Only its front stands: the end is put by a TRUNCATE.
longer_front : squashed [] (head ∷ MkFile x ∷ Write x 0 (codes "abcd") ∷ Truncate 2 x ∷ End ∷ []) ≡
    head ∷ MkFile x ∷ Write x 0 (codes "ab") ∷ Truncate 4 x ∷ Truncate 2 x ∷ End ∷ []
unfolding squash_words
longer_front = refl

-- Only its back stands: that puts the end.
longer_back : squashed [] (head ∷ MkFile x ∷ Write x 0 (codes "abcd") ∷ Write x 0 (codes "XY") ∷ End ∷ []) ≡
    head ∷ MkFile x ∷ Write x 2 (codes "cd") ∷ Write x 0 (codes "XY") ∷ End ∷ []
unfolding squash_words
longer_back = refl

-- Over a file that is as long already, nothing stays.
as_long : squashed (store_of (one_file (codes "12345") (x ∷ [])))
    (Snapshot (uuid 0x22) 2 (codes "q") (uuid 0x11) 1 ∷ Write x 1 (codes "ab") ∷ Write x 0 (codes "XYZ") ∷ End ∷ []) ≡
    Snapshot (uuid 0x22) 2 (codes "q") (uuid 0x11) 1 ∷ Write x 0 (codes "XYZ") ∷ End ∷ []
unfolding squash_words
as_long = refl

-- ---- a file that is unlinked

unlinked : squashed [] (head ∷ MkFile x ∷ Write x 0 (codes "abc") ∷ Unlink x ∷ End ∷ []) ≡
    head ∷ MkFile x ∷ Truncate 3 x ∷ Unlink x ∷ End ∷ []
unfolding squash_words
unlinked = refl

-- It has another name, and so its bytes stand.
linked : squashed [] (head ∷ MkFile x ∷ Write x 0 (codes "abc") ∷ Link (codes "y") x ∷ Unlink x ∷ End ∷ []) ≡
    head ∷ MkFile x ∷ Write x 0 (codes "abc") ∷ Link (codes "y") x ∷ Unlink x ∷ End ∷ []
unfolding squash_words
linked = refl

-- ---- a block that stands through a clone alone, short as it is

abbrev cloned_block : List Command
cloned_block =
    head ∷ MkFile x ∷ Write x 0 (codes "abcd") ∷ MkFile (codes "y") ∷ Clone (codes "y") 0 (uuid 0x22) 2 x 0 4 ∷ Write x 0 (codes "XYZU") ∷ []

-- The first bytes of one file are written over, but the other has them.
cloned_stays : squashed [] (cloned_block ++ End ∷ []) ≡ cloned_block ++ End ∷ []
unfolding squash_words
cloned_stays = refl

-- Once that is gone too, they are. The clone still has a block to take.
cloned_dies : squashed [] (cloned_block ++ Unlink (codes "y") ∷ End ∷ []) ≡
    head ∷ MkFile x ∷ Truncate 4 x ∷ MkFile (codes "y") ∷ Clone (codes "y") 0 (uuid 0x22) 2 x 0 4 ∷ Write x 0 (codes "XYZU")
    ∷ Unlink (codes "y") ∷ End ∷ []
unfolding squash_words
cloned_dies = refl

-- ---- a WRITE of no bytes stays

none_stays : squashed [] (head ∷ MkFile x ∷ Write x 7 [] ∷ End ∷ []) ≡ head ∷ MkFile x ∷ Write x 7 [] ∷ End ∷ []
unfolding squash_words
none_stays = refl

-- ---- bytes in the middle of a clone

-- What nothing has in the end reads as zero in between, and through the clone too, until both are
-- written over.
abbrev clone_middle : List Command
clone_middle =
    head ∷ MkFile x ∷ Write x 0 (codes "abcdef") ∷ MkFile (codes "y") ∷ Clone (codes "y") 0 (uuid 0x22) 2 x 0 6
    ∷ Write x 2 (codes "XY") ∷ Write (codes "y") 2 (codes "UV") ∷ End ∷ []

middle : squashed [] clone_middle ≡
    head ∷ MkFile x ∷ Write x 0 (codes "ab") ∷ Write x 4 (codes "ef") ∷ MkFile (codes "y") ∷ Clone (codes "y") 0 (uuid 0x22) 2 x 0 6
    ∷ Write x 2 (codes "XY") ∷ Write (codes "y") 2 (codes "UV") ∷ End ∷ []
unfolding squash_words
middle = refl

-- ---- two parts

-- What the first part has stands, though the second has it no longer.
two_parts : List Command
two_parts =
    head ∷ MkFile x ∷ Write x 0 (codes "ab") ∷ Write x 0 (codes "cd") ∷ End
    ∷ Snapshot (uuid 0x33) 3 (codes "c") (uuid 0x22) 2 ∷ Write x 0 (codes "e") ∷ End ∷ []

two_parts_squashed : squashed [] two_parts ≡
    head ∷ MkFile x ∷ Truncate 2 x ∷ Write x 0 (codes "cd") ∷ End
    ∷ Snapshot (uuid 0x33) 3 (codes "c") (uuid 0x22) 2 ∷ Write x 0 (codes "e") ∷ End ∷ []
unfolding squash_words two_parts
two_parts_squashed = refl

-- ---- the bytes

three_days_bytes : all_bytes (squashed [] three_days) ≡ codes "swed"
unfolding squash_words
three_days_bytes = refl

-- ---- a file

-- Two files composed to one stream, of which all stands, are that stream.
all_of_stream : squash_output_for (squash_judge [] (input (merged_stream ∷ []))) [] (input (merged_stream ∷ [])).items ≡ merged_stream
unfolding squash_words reading_words merged_stream judge_one version_of
all_of_stream = refl

abbrev written : List Command → List ℕ
written commands = stream_header 1 ++ canonical_all 1 commands

abbrev short_days : List Command
short_days = head ∷ MkFile x ∷ Write x 0 (codes "ab") ∷ Write x 0 (codes "c") ∷ End ∷ []

-- It has no verdict, so all that is promised holds of it; and it loses a byte.
file_squashed : squash_output_for (squash_judge [] (input (written short_days ∷ []))) [] (input (written short_days ∷ [])).items
    ≡ written (head ∷ MkFile x ∷ Write x 1 (codes "b") ∷ Write x 0 (codes "c") ∷ End ∷ [])
unfolding squash_words reading_words judge_one version_of
file_squashed = refl

-- The head of a second part is refused, and nothing is written.
abbrev second_part : List Command
second_part = head ∷ Snapshot (uuid 0x33) 3 (codes "c") (uuid 0x22) 2 ∷ End ∷ []

second_refused : squash_output_for (squash_judge [] (input (written second_part ∷ []))) [] (input (written second_part ∷ [])).items ≡ []
unfolding squash_words reading_words judge_one version_of
second_refused = refl

-- ---- by what lives

-- The same, found from the end.
three_days_live : squashed_live 0 (unborn []) three_days ≡ squashed [] three_days
unfolding squash_words live_words
three_days_live = refl

cloned_live : squashed_live 0 (unborn []) (cloned_block ++ End ∷ []) ≡ cloned_block ++ End ∷ []
unfolding squash_words live_words
cloned_live = refl

middle_live : squashed_live 0 (unborn []) clone_middle ≡ squashed [] clone_middle
unfolding squash_words live_words
middle_live = refl
