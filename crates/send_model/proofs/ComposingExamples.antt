-- Worked examples of composing: the commands that stand for consecutive parts, and the blocks of
-- redirected clones that a subvolume outside the parts carries.
use Rattle.std.specs.Prelude.{◌≡◌, ℕ, List, [], ◌∷◌, ◌++◌, map, replicate, None, codes, refl}
use Rattle.std.specs.List.{sum_by, count_by}
use Rattle.send_model.specs.Command.{Command, Subvol, Snapshot, MkFile, Rename, Unlink, Write, Clone, Truncate, End}
use Rattle.send_model.specs.Spelling.{stream_header, canonical_all}
use Rattle.send_model.specs.Reading.{Item, input}
use Rattle.send_model.specs.Store.{Store}
use Rattle.send_model.specs.Receive.{start_of}
use Rattle.send_model.specs.Order.{heads, lawful_items}
use Rattle.send_model.specs.Outside.{part_uuids, base_of}
use Rattle.send_model.specs.Provenance.{Place, Piece, Carried, Literal, traced_store, ranges_from, pieces_of, literal_len, is_run, uncarried, runs}
use Rattle.send_model.specs.Composed.{first_head, last_head, composed_for, composed, composed_before_of}
use Rattle.send_model.proofs.ExampleWords.{hexadecimal, uuid, key, one_file, store_of, items, reading_words, composing_words}
use Rattle.send_model.proofs.ReadingExamples.{first_stream, second_stream, merged_stream}

-- ---- two files

abbrev two_files : List (List ℕ)
two_files = first_stream ∷ second_stream ∷ []

abbrev merged_commands : List Command
merged_commands =
    Subvol (uuid 0x22) 2 (codes "b")
    ∷ MkFile (codes "x")
    ∷ Write (codes "x") 0 (codes "hi")
    ∷ Write (codes "x") 2 (codes "!")
    ∷ End
    ∷ []

-- Over a store with nothing in it, two files become the head of the second without a parent, the
-- edits of both, and one END.
two_files_composed : composed [] two_files ≡ merged_commands
unfolding first_stream second_stream reading_words composing_words
two_files_composed = refl

-- Spelled, these commands are the one stream for both files.
two_files_spelled : stream_header 1 ++ canonical_all 1 (composed [] two_files) ≡ merged_stream
unfolding first_stream second_stream merged_stream reading_words composing_words
two_files_spelled = refl

-- They have no clones, so nothing is carried, and nothing is left uncarried.
two_files_counts : (uncarried [] two_files ≡ 0) × (runs [] two_files ≡ 0)
unfolding first_stream second_stream reading_words composing_words
two_files_counts = (refl, refl)

-- ---- commands in place of files

-- The examples with clones begin at the commands, by a word for each definition that speaks of
-- files.

-- Of items that are received into a store: the composed commands, the pieces of each redirected
-- clone, how many cells of these are not carried, and how many runs are.
abbrev composed_items : Store ℕ → List Item → List Command
composed_items store items = composed_for store (first_head (heads items)) (last_head (heads items)) items

abbrev pieces : Store ℕ → List Item → List (List Piece)
pieces store items = map (pieces_of store) (ranges_from (part_uuids items) (start_of (traced_store store)) None items)

abbrev uncarried_items : Store ℕ → List Item → ℕ
uncarried_items store items = sum_by (λ pieces. sum_by literal_len pieces) (pieces store items)

abbrev runs_items : Store ℕ → List Item → ℕ
runs_items store items = sum_by (λ pieces. count_by is_run pieces) (pieces store items)

-- The composed commands of files are those of their items.
composed_is : (store : Store ℕ) (files : List (List ℕ)) → composed store files ≡ composed_items store (input files).items
composed_is store files = refl

-- So is what is not carried.
uncarried_is : (store : Store ℕ) (files : List (List ℕ)) → uncarried store files ≡ uncarried_items store (input files).items
uncarried_is store files = refl

-- So are the runs.
runs_is : (store : Store ℕ) (files : List (List ℕ)) → runs store files ≡ runs_items store (input files).items
runs_is store files = refl

-- A place in the one file of the subvolume in the store.
abbrev outside_at : ℕ → Place
outside_at offset = record { key = key 0x11 1; ino = 257; offset = offset }

-- ---- a hard link whose first block is overwritten

-- A file of two blocks under two names.
abbrev hard_linked : Store ℕ
hard_linked = store_of (one_file (replicate 4_096 0x61 ++ replicate 4_096 0x62) (codes "x" ∷ codes "y" ∷ []))

-- Its first block is overwritten by one name, and then both are cloned by the other.
abbrev overwritten_block : List Item
overwritten_block = items (
    Snapshot (uuid 0x22) 2 (codes "q") (uuid 0x11) 1
    ∷ Write (codes "x") 0 (replicate 4_096 0x63)
    ∷ End
    ∷ Snapshot (uuid 0x33) 3 (codes "r") (uuid 0x22) 2
    ∷ MkFile (codes "z")
    ∷ Clone (codes "z") 0 (uuid 0x22) 2 (codes "y") 0 8_192
    ∷ End
    ∷ [])

-- The first block is no longer the one outside, and stays as bytes; the second is carried.
overwritten_pieces : pieces hard_linked overwritten_block ≡ (Literal 0 (replicate 4_096 0x63) ∷ Carried 4_096 (outside_at 4_096) 4_096 ∷ []) ∷ []
unfolding composing_words
overwritten_pieces = refl

-- One block of bytes, and one run of carried blocks.
overwritten_counts : (uncarried_items hard_linked overwritten_block ≡ 4_096) × (runs_items hard_linked overwritten_block ≡ 1)
unfolding composing_words
overwritten_counts = (refl, refl)

-- So the clone becomes a write, and a clone from outside by the first of the names.
overwritten_composed : composed_items hard_linked overwritten_block ≡
    Snapshot (uuid 0x33) 3 (codes "r") (uuid 0x11) 1
    ∷ Write (codes "x") 0 (replicate 4_096 0x63)
    ∷ MkFile (codes "z")
    ∷ Write (codes "z") 0 (replicate 4_096 0x63)
    ∷ Clone (codes "z") 4_096 (uuid 0x11) 1 (codes "x") 4_096 4_096
    ∷ End
    ∷ []
unfolding composing_words
overwritten_composed = refl

-- ---- short last blocks

-- A file of so many bytes.
abbrev of_size : ℕ → Store ℕ
of_size size = store_of (one_file (replicate size 0x77) (codes "w" ∷ []))

-- A snapshot, with these edits, and then one that clones 5000 bytes from it.
abbrev short_clone : List Command → List Item
short_clone edits = items (
    Snapshot (uuid 0x22) 2 (codes "q") (uuid 0x11) 1
    ∷ (edits
    ++ End
    ∷ Snapshot (uuid 0x33) 3 (codes "r") (uuid 0x22) 2
    ∷ MkFile (codes "z")
    ∷ Clone (codes "z") 0 (uuid 0x22) 2 (codes "w") 0 5_000
    ∷ End
    ∷ []))

abbrev cut_short : List Item
cut_short = short_clone (Truncate 5_000 (codes "w") ∷ [])

-- A short last block is carried where it ends its file outside too.
short_pieces : pieces (of_size 5_000) (short_clone []) ≡ (Carried 0 (outside_at 0) 5_000 ∷ []) ∷ []
unfolding composing_words
short_pieces = refl

-- No bytes, and one run.
short_counts : (uncarried_items (of_size 5_000) (short_clone []) ≡ 0) × (runs_items (of_size 5_000) (short_clone []) ≡ 1)
unfolding composing_words
short_counts = (refl, refl)

-- So the clone becomes one from outside, whole.
short_composed : composed_items (of_size 5_000) (short_clone []) ≡
    Snapshot (uuid 0x33) 3 (codes "r") (uuid 0x11) 1
    ∷ MkFile (codes "z")
    ∷ Clone (codes "z") 0 (uuid 0x11) 1 (codes "w") 0 5_000
    ∷ End
    ∷ []
unfolding composing_words
short_composed = refl

-- Spelled, frame by frame, as an assembler independent of this program makes them.
short_spelled : canonical_all 1 (composed_items (of_size 5_000) (short_clone [])) ≡
    hexadecimal (codes "4500000002002f1d258901001000333333333333333333333333333333330200080003000000000000000f000100721400100011111111111111111111111111111111150008000100000000000000")
    ++ hexadecimal (codes "050000000300d8fa0d920f0001007a")
    ++ hexadecimal (codes "4e0000001000c61586980f0001007a12000800000000000000000014001000111111111111111111111111111111111500080001000000000000001600010077170008000000000000000000180008008813000000000000")
    ++ hexadecimal (codes "000000001500506cc99d")
unfolding reading_words composing_words
short_spelled = refl

-- Where its file goes on outside, it is not carried, and its bytes are written.
cut_pieces : pieces (of_size 8_192) cut_short ≡ (Carried 0 (outside_at 0) 4_096 ∷ Literal 4_096 (replicate 904 0x77) ∷ []) ∷ []
unfolding composing_words
cut_pieces = refl

-- The bytes of the short block, and one run.
cut_counts : (uncarried_items (of_size 8_192) cut_short ≡ 904) × (runs_items (of_size 8_192) cut_short ≡ 1)
unfolding composing_words
cut_counts = (refl, refl)

-- So the clone becomes one of the whole block, and a write.
cut_composed : composed_items (of_size 8_192) cut_short ≡
    Snapshot (uuid 0x33) 3 (codes "r") (uuid 0x11) 1
    ∷ Truncate 5_000 (codes "w")
    ∷ MkFile (codes "z")
    ∷ Clone (codes "z") 0 (uuid 0x11) 1 (codes "w") 0 4_096
    ∷ Write (codes "z") 4_096 (replicate 904 0x77)
    ∷ End
    ∷ []
unfolding composing_words
cut_composed = refl

-- ---- clones of clones

-- A file of one block.
abbrev one_block : Store ℕ
one_block = store_of (one_file (replicate 4_096 0x73) (codes "src" ∷ []))

-- A snapshot that renames it, one that clones it and removes it, and two that clone the clone
-- before.
abbrev clones_of_clones : List Item
clones_of_clones = items (
    Snapshot (uuid 0x22) 2 (codes "q") (uuid 0x11) 1
    ∷ Rename (codes "src") (codes "moved")
    ∷ End
    ∷ Snapshot (uuid 0x33) 3 (codes "r") (uuid 0x22) 2
    ∷ MkFile (codes "c2")
    ∷ Clone (codes "c2") 0 (uuid 0x22) 2 (codes "moved") 0 4_096
    ∷ Unlink (codes "moved")
    ∷ End
    ∷ Snapshot (uuid 0x44) 4 (codes "t") (uuid 0x33) 3
    ∷ MkFile (codes "c3")
    ∷ Clone (codes "c3") 0 (uuid 0x33) 3 (codes "c2") 0 4_096
    ∷ End
    ∷ Snapshot (uuid 0x55) 5 (codes "v") (uuid 0x44) 4
    ∷ MkFile (codes "c4")
    ∷ Clone (codes "c4") 0 (uuid 0x44) 4 (codes "c3") 0 4_096
    ∷ End
    ∷ [])

-- The block of each clone is the one outside.
clones_pieces : pieces one_block clones_of_clones ≡ (Carried 0 (outside_at 0) 4_096 ∷ []) ∷ (Carried 0 (outside_at 0) 4_096 ∷ []) ∷ (Carried 0 (outside_at 0) 4_096 ∷ []) ∷ []
unfolding composing_words
clones_pieces = refl

-- No bytes, and a run for each clone.
clones_counts : (uncarried_items one_block clones_of_clones ≡ 0) × (runs_items one_block clones_of_clones ≡ 3)
unfolding composing_words
clones_counts = (refl, refl)

-- So each clone becomes the same one from outside.
clones_composed : composed_items one_block clones_of_clones ≡
    Snapshot (uuid 0x55) 5 (codes "v") (uuid 0x11) 1
    ∷ Rename (codes "src") (codes "moved")
    ∷ MkFile (codes "c2")
    ∷ Clone (codes "c2") 0 (uuid 0x11) 1 (codes "src") 0 4_096
    ∷ Unlink (codes "moved")
    ∷ MkFile (codes "c3")
    ∷ Clone (codes "c3") 0 (uuid 0x11) 1 (codes "src") 0 4_096
    ∷ MkFile (codes "c4")
    ∷ Clone (codes "c4") 0 (uuid 0x11) 1 (codes "src") 0 4_096
    ∷ End
    ∷ []
unfolding composing_words
clones_composed = refl

-- ---- a clone inside its part

-- A clone from the part itself names the part that is composed.
inner_composed : composed_items [] (items (
    Subvol (uuid 0x11) 1 (codes "a")
    ∷ MkFile (codes "x")
    ∷ Write (codes "x") 0 (replicate 4_096 0x61)
    ∷ MkFile (codes "y")
    ∷ Clone (codes "y") 0 (uuid 0x11) 1 (codes "x") 0 4_096
    ∷ End
    ∷ Snapshot (uuid 0x22) 2 (codes "b") (uuid 0x11) 1
    ∷ End
    ∷ [])) ≡
    Subvol (uuid 0x22) 2 (codes "b")
    ∷ MkFile (codes "x")
    ∷ Write (codes "x") 0 (replicate 4_096 0x61)
    ∷ MkFile (codes "y")
    ∷ Clone (codes "y") 0 (uuid 0x22) 2 (codes "x") 0 4_096
    ∷ End
    ∷ []
unfolding composing_words
inner_composed = refl

-- ---- what is left of the base, and what stands before a refusal

-- Only a part's own uuid goes from the base, and not the name that it shares with a subvolume
-- there.
same_name_stays : base_of (store_of (one_file [] [])) (items (Subvol (uuid 0x22) 1 (codes "p") ∷ End ∷ [])) ≡ store_of (one_file [] [])
unfolding composing_words
same_name_stays = refl

-- Nothing stands for the refused command, nor for any behind it.
before_refused : composed_before_of [] (items (Subvol (uuid 0x11) 1 (codes "a") ∷ Unlink (codes "q") ∷ MkFile (codes "x") ∷ End ∷ [])) ≡
    Subvol (uuid 0x11) 1 (codes "a") ∷ []
unfolding composing_words lawful_items
before_refused = refl
