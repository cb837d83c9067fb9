-- The parts of a chain by their numbers, and where its numbers stand between them.
use Rattle.std.specs.Prelude.{ℕ, ◌-◌, ◌*◌, ◌%◌, ◌==◌, List, [], ◌∷◌, ◌++◌, codes, map, replicate, if◌then◌else◌}
use Rattle.send_model.specs.Command.{Command, Subvol, Snapshot, MkFile, Rename, Write, Clone, End}
use Rattle.send_model.specs.Spelling.{stream_header, canonical_all}
use Rattle.send_model.specs.Generated.{drawn, number_after, part_name, file_name, files, first_part, later_part}
use Rattle.stream_gen.specs.declared.draws.Drawn.{Drawn}

-- The commands of a part, counted from 1.
abbrev pub part_of : ℕ → ℕ → List Command
part_of seed part = if part == 1 then first_part seed else later_part seed part

-- A part is a stream of version 1.
unfoldable pub part_bytes : ℕ → ℕ → List ℕ
part_bytes seed part = stream_header 1 ++ canonical_all 1 (part_of seed part)

-- A chain of which so many parts are made, and the number from which the next ones are drawn.
pub record Made : Type 0 where
  pub seed : ℕ
  pub parts : ℕ

-- The number that stands after the draws of so many parts.
unfoldable pub number_at : ℕ → ℕ → ℕ
number_at seed parts = number_after (7 * (parts - 1)) seed

-- What is drawn for a part, from the number before it.
abbrev pub nth : ℕ → ℕ → ℕ → ℕ
nth number turn below = drawn (number_after turn number) % below

-- The first part, by its identifier.
abbrev pub first_by : List ℕ → List Command
first_by uuid =
    Subvol uuid 1 (part_name 1) ∷ (map (λ file. MkFile (file_name file)) files
    ++ map (λ file. Write (file_name file) 0 (replicate 12_288 file)) files ++ End ∷ [])

-- A later part, by its identifier, that of the part before, and what is drawn for it.
abbrev pub part_by : (uuid before : List ℕ) (part : ℕ) → Drawn → List Command
part_by uuid before part d =
    Snapshot uuid part (part_name part) before (part - 1)
    ∷ Write (file_name d.file) (4_096 * d.block) (replicate 4_096 d.byte)
    ∷ Clone (file_name d.goal) (4_096 * d.goal_block) before (part - 1) (file_name d.source)
    (4_096 * d.source_block) 4_096
    ∷ Rename (file_name d.file) (codes "t") ∷ Rename (codes "t") (file_name d.file) ∷ End ∷ []

-- The clone in it.
abbrev pub clone_by : (before : List ℕ) (part : ℕ) → Drawn → Command
clone_by before part d =
    Clone (file_name d.goal) (4_096 * d.goal_block) before (part - 1) (file_name d.source)
    (4_096 * d.source_block) 4_096
