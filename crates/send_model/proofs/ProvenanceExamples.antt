-- Worked examples of provenance: which blocks of a range an outside subvolume carries, how they
-- make runs, and how clones are counted. What is expected was worked out by hand from the rules in
-- words.
use Rattle.std.specs.Prelude.{◌≡◌, ℕ, List, [], ◌∷◌, ◌++◌, map, replicate, None, Some, codes, refl}
use Rattle.send_model.specs.Command.{Subvol, Snapshot, MkFile, Write, Clone, Truncate, Fallocate, End}
use Rattle.send_model.specs.Reading.{Item}
use Rattle.send_model.specs.Subvolume.{Subvolume, first_path}
use Rattle.send_model.specs.Store.{Store}
use Rattle.send_model.specs.Provenance.{Place, Traced, fresh, traced_from, Carried, Literal, pieces_of, ranges_of, uncarried_in, runs_in}
use Rattle.send_model.specs.Order.{commands_of}
use Rattle.send_model.specs.Outside.{part_uuids}
use Rattle.send_model.specs.Counts.{clones, literal, kept_from}
use Rattle.send_model.specs.Composed.{piece_commands, composed_of}
use Rattle.send_model.proofs.ExampleWords.{uuid, key, directory, file, one_file, store_of, items, composing_words}

abbrev outside_at : ℕ → Place
outside_at offset = record { key = key 0x11 1; ino = 257; offset = offset }

-- So many cells of the one file outside, from a place on; and cells from nowhere.
abbrev outside_cells : ℕ → ℕ → List Traced
outside_cells offset len = traced_from (key 0x11 1) 257 offset (replicate len 0x61)

abbrev fresh_cells : ℕ → List Traced
fresh_cells len = map fresh (replicate len 0x62)

-- A file of so many bytes outside, under these names.
abbrev outside_file : ℕ → List (List ℕ) → Store ℕ
outside_file size names = store_of (one_file (replicate size 0x61) names)

-- ---- blocks and runs

-- Two blocks, one of other bytes, and a short one that ends where its file does.
abbrev with_gap : List Traced
with_gap = outside_cells 0 8_192 ++ fresh_cells 4_096 ++ outside_cells 8_192 1_000

short_last : pieces_of (outside_file 9_192 (codes "x" ∷ [])) with_gap ≡ Carried 0 (outside_at 0) 8_192 ∷ Literal 8_192 (replicate 4_096 0x62) ∷ Carried 12_288 (outside_at 8_192) 1_000 ∷ []
unfolding composing_words
short_last = refl

-- Where the file goes on, its bytes join those before it.
short_inside : pieces_of (outside_file 9_193 (codes "x" ∷ [])) with_gap ≡ Carried 0 (outside_at 0) 8_192 ∷ Literal 8_192 (replicate 4_096 0x62 ++ replicate 1_000 0x61) ∷ []
unfolding composing_words
short_inside = refl

-- Blocks that do not follow each other are two runs, though both are carried.
turned_round : pieces_of (outside_file 8_192 (codes "x" ∷ [])) (outside_cells 4_096 4_096 ++ outside_cells 0 4_096) ≡ Carried 0 (outside_at 4_096) 4_096 ∷ Carried 4_096 (outside_at 0) 4_096 ∷ []
unfolding composing_words
turned_round = refl

-- The same block twice.
again : pieces_of (outside_file 4_096 (codes "x" ∷ [])) (outside_cells 0 4_096 ++ outside_cells 0 4_096) ≡ Carried 0 (outside_at 0) 4_096 ∷ Carried 4_096 (outside_at 0) 4_096 ∷ []
unfolding composing_words
again = refl

-- Cells that follow each other, but begin inside a block.
inside_block : pieces_of (outside_file 8_192 (codes "x" ∷ [])) (outside_cells 1 4_096) ≡ Literal 0 (replicate 4_096 0x61) ∷ []
unfolding composing_words
inside_block = refl

-- A file that no path reaches carries nothing.
unreached : pieces_of (outside_file 4_096 []) (outside_cells 0 4_096) ≡ Literal 0 (replicate 4_096 0x61) ∷ []
unfolding composing_words
unreached = refl

-- ---- paths

-- A file two directories down, and under a later name in the root.
abbrev deep : Subvolume ℕ
deep = record {
  inodes = (256, directory) ∷ (257, file (replicate 4_096 0x61)) ∷ (258, directory) ∷ (259, directory) ∷ [];
  names = ((256, codes "d"), 258) ∷ ((256, codes "z"), 257) ∷ ((258, codes "e"), 259) ∷ ((259, codes "f"), 257) ∷ [];
  next = 260;
}

deep_path : first_path deep 257 ≡ Some (codes "d/e/f")
unfolding composing_words
deep_path = refl

deep_cloned : piece_commands (store_of deep) (codes "y") 8_192 (Carried 4_096 (outside_at 0) 4_096) ≡ Clone (codes "y") 12_288 (uuid 0x11) 1 (codes "d/e/f") 0 4_096 ∷ []
unfolding composing_words
deep_cloned = refl

-- ---- bytes

-- A WRITE carries at most 49,152 bytes.
two_writes : piece_commands [] (codes "y") 4_096 (Literal 0 (replicate 49_153 0x62)) ≡ Write (codes "y") 4_096 (replicate 49_152 0x62) ∷ Write (codes "y") 53_248 (replicate 1 0x62) ∷ []
unfolding composing_words
two_writes = refl

-- Zero bytes that commands make come from nowhere outside: by a gap, by a size, and by a range that
-- is zeroed.
abbrev zeros : List Item
zeros = items (
    Snapshot (uuid 0x22) 2 (codes "q") (uuid 0x11) 1
    ∷ MkFile (codes "h") ∷ Write (codes "h") 2 (0x63 ∷ []) ∷ Truncate 5 (codes "h") ∷ Fallocate 7 (codes "h") 0 0 ∷ Fallocate 1 (codes "x") 0 3 ∷ End
    ∷ Snapshot (uuid 0x33) 3 (codes "r") (uuid 0x22) 2
    ∷ MkFile (codes "z") ∷ Clone (codes "z") 0 (uuid 0x22) 2 (codes "h") 0 7 ∷ Clone (codes "z") 0 (uuid 0x22) 2 (codes "x") 0 2 ∷ End ∷ [])

zeros_traced : ranges_of (outside_file 2 (codes "x" ∷ [])) zeros ≡ map fresh (0 ∷ 0 ∷ 0x63 ∷ 0 ∷ 0 ∷ 0 ∷ 0 ∷ []) ∷ (fresh 0 ∷ outside_cells 1 1) ∷ []
unfolding composing_words
zeros_traced = refl

-- ---- counts

-- A clone inside its part stays, and one from an earlier part is redirected.
abbrev both_clones : List Item
both_clones = items (
    Subvol (uuid 0x11) 1 (codes "a") ∷ MkFile (codes "x") ∷ Write (codes "x") 0 (replicate 4_096 0x61) ∷ MkFile (codes "y") ∷ Clone (codes "y") 0 (uuid 0x11) 1 (codes "x") 0 4_096 ∷ End
    ∷ Snapshot (uuid 0x22) 2 (codes "b") (uuid 0x11) 1 ∷ MkFile (codes "z") ∷ Clone (codes "z") 0 (uuid 0x11) 1 (codes "x") 0 4_096 ∷ End ∷ [])

one_kept : kept_from (part_uuids both_clones) None (commands_of both_clones) ≡ 1
unfolding composing_words kept_from
one_kept = refl

none_carried : (uncarried_in [] (ranges_of [] both_clones) ≡ 4_096) × (runs_in [] (ranges_of [] both_clones) ≡ 0)
unfolding composing_words
none_carried = (refl, refl)

one_clone : (clones (composed_of [] both_clones) ≡ 1) × (literal (composed_of [] both_clones) ≡ 8_192)
unfolding composing_words clones literal
one_clone = (refl, refl)

-- END ends the part, so that a clone behind it is inside none.
behind_end : kept_from (uuid 0x11 ∷ []) None (Subvol (uuid 0x11) 1 (codes "a") ∷ End ∷ Clone (codes "y") 0 (uuid 0x11) 1 (codes "x") 0 4_096 ∷ []) ≡ 0
unfolding composing_words kept_from
behind_end = refl
