-- A chain of consecutive streams that a number gives, and what a trial of composing prints of it.
-- They are this program's own; the numbers are drawn as Knuth's MMIX draws them.
use Rattle.std.specs.Prelude.{ℕ, zero, suc, ◌+◌, ◌-◌, ◌*◌, ◌/◌, ◌%◌, ◌^◌, List, [], ◌∷◌, ◌++◌, map, length, replicate, codes}
use Rattle.std.specs.List.{flat_map}
use Rattle.std.specs.Int.{w64, to_le_bytes}
use Rattle.std.specs.Fmt.{decimal}
use Rattle.send_model.specs.Command.{Command, Subvol, Snapshot, MkFile, Rename, Write, Clone, End}
use Rattle.send_model.specs.Spelling.{stream_header, canonical_all}
use Rattle.send_model.specs.Reading.{Item}
use Rattle.send_model.specs.Provenance.{ranges_of, uncarried_in}
use Rattle.send_model.specs.Counts.{clones}
use Rattle.send_model.specs.Composed.{composed_of}

-- ---- numbers

-- The next number of 64 bits, and what is drawn from it: its upper 31 bits.
abbrev pub next_number : ℕ → ℕ
next_number x = (x * 6_364_136_223_846_793_005 + 1_442_695_040_888_963_407) % 2 ^ 64

abbrev pub drawn : ℕ → ℕ
drawn x = x / 2 ^ 33

-- That many numbers on.
unfoldable pub number_after : ℕ → ℕ → ℕ
number_after zero x = x
number_after (suc n) x = number_after n (next_number x)

-- What is drawn at a turn, counted from 1, below a number.
abbrev pub draw : ℕ → ℕ → ℕ → ℕ
draw seed turn below = drawn (number_after turn seed) % below

-- ---- parts

abbrev pub part_name : ℕ → List ℕ
part_name part = codes "g" ++ decimal part

abbrev pub part_uuid : ℕ → ℕ → List ℕ
part_uuid seed part = to_le_bytes w64 seed ++ to_le_bytes w64 part

abbrev pub file_name : ℕ → List ℕ
file_name file = codes "f" ++ decimal file

-- The numbers 0 to 7 of the files.
abbrev pub files : List ℕ
files = 0 ∷ 1 ∷ 2 ∷ 3 ∷ 4 ∷ 5 ∷ 6 ∷ 7 ∷ []

-- Part 1 makes eight files, and writes three blocks into each.
unfoldable pub first_part : ℕ → List Command
first_part seed =
    Subvol (part_uuid seed 1) 1 (part_name 1) ∷ (map (λ file. MkFile (file_name file)) files
    ++ map (λ file. Write (file_name file) 0 (replicate 12_288 file)) files ++ End ∷ [])

-- A later part writes one block, clones one from the part before, and renames the file of the write
-- there and back. Seven numbers are drawn for it, after those of all parts before it: file, block
-- and byte of the write, file and block of the source, file and block that it goes to.
unfoldable pub later_part : ℕ → ℕ → List Command
later_part seed part =
    let before : ℕ = 7 * (part - 2) in
    let written : List ℕ = file_name (draw seed (before + 1) 8) in
    Snapshot (part_uuid seed part) part (part_name part) (part_uuid seed (part - 1)) (part - 1)
    ∷ Write written (4_096 * draw seed (before + 2) 3)
    (replicate 4_096 (draw seed (before + 3) 256))
    ∷ Clone (file_name (draw seed (before + 6) 8)) (4_096 * draw seed (before + 7) 3)
    (part_uuid seed (part - 1)) (part - 1)
    (file_name (draw seed (before + 4) 8)) (4_096 * draw seed (before + 5) 3) 4_096
    ∷ Rename written (codes "t") ∷ Rename (codes "t") written ∷ End ∷ []

-- So many parts.
unfoldable pub parts_of : ℕ → ℕ → List (List Command)
parts_of seed zero = []
parts_of seed (suc zero) = first_part seed ∷ []
parts_of seed (suc (suc count)) =
    parts_of seed (suc count) ++ later_part seed (suc (suc count)) ∷ []

-- The chain: each part is a stream of version 1.
unfoldable pub chain_of : ℕ → ℕ → List ℕ
chain_of seed count =
    flat_map (λ part. stream_header 1 ++ canonical_all 1 part) (parts_of seed count)

-- ---- the trial

-- The chain's commands as items of one file. Composing looks at nothing else of an item.
abbrev pub chain_items : ℕ → ℕ → List Item
chain_items seed count =
    map (λ command. record {
      file = 1;
      number = 1;
      offset = 0;
      version = 1;
      data_at = 0;
      command = command;
    })
    (flat_map (λ part. part) (parts_of seed count))

-- What the chain is composed to over the empty store.
unfoldable pub trial_composed : ℕ → ℕ → List Command
trial_composed seed count = composed_of [] (chain_items seed count)

-- The parts, the chain's commands and its bytes, the bytes of the composed stream and its clones,
-- and the bytes of redirected clones that it carries.
unfoldable pub trial_line : ℕ → ℕ → List ℕ
trial_line seed count =
    codes "trial " ++ decimal count ++ 0x20 ∷ decimal (length (chain_items seed count))
    ++ 0x20 ∷ decimal (length (chain_of seed count))
    ++ 0x20 ∷ decimal (length (stream_header 1 ++ canonical_all 1 (trial_composed seed count)))
    ++ 0x20 ∷ decimal (clones (trial_composed seed count))
    ++ 0x20 ∷ decimal (uncarried_in [] (ranges_of [] (chain_items seed count))) ++ 0x0a ∷ []
