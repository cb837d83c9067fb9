-- The commands for what a range is cut into, one cut after the other.
use Rattle.std.specs.Prelude.{⊤, ℕ, ◌+◌, ◌≤◌, List, [], ◌∷◌, ◌++◌, map, is_some, IsTrue, Option}
use Rattle.send_model.specs.Command.{Command, Clone}
use Rattle.send_model.specs.Store as meant
use Rattle.send_model.specs.Store.{Store}
use Rattle.send_model.specs.Composed.{path_of, writes_from}
use Rattle.extent_map.specs.Cells.{cells_between}
use Rattle.provenance.specs.declared.trace.Trace.{Trace}
use Rattle.provenance.specs.Cuts.{Cut, Run, Rest}

-- How many cells stand in a cut, and how many of them in no carried block.
abbrev pub cut_len : Cut → ℕ
cut_len (Run place len) = len
cut_len (Rest at len) = len

abbrev pub rest_len : Cut → ℕ
rest_len (Run place len) = 0
rest_len (Rest at len) = len

-- The cells of a cut of the contents that are written as bytes.
abbrev pub rest_cells : List (Option Trace) → Cut → List (Option Trace)
rest_cells contents (Run place len) = []
rest_cells contents (Rest at len) = cells_between at len contents

-- A cut that stands in contents of so many cells.
abbrev pub StandsIn : ℕ → Cut → Type 0
StandsIn size (Run place len) = ⊤
StandsIn size (Rest at len) = at + len ≤ size

-- A run comes from a file that a path names.
abbrev pub IsNamed : (meant.Key → ℕ → Option ℕ) → Cut → Type 0
IsNamed ends (Run place len) = IsTrue (is_some (ends place.key place.ino))
IsNamed ends (Rest at len) = ⊤

-- The commands of a cut to a path and an offset, where each cell has a byte.
abbrev pub cut_commands : Store ℕ → (Option Trace → ℕ) → List (Option Trace) → List ℕ → ℕ → Cut
    → List Command
cut_commands base byte contents path offset (Run place len) =
    Clone path offset place.key.uuid place.key.ctransid (path_of base place) place.offset len ∷ []
cut_commands base byte contents path offset (Rest at len) =
    writes_from len path offset (map byte (cells_between at len contents))

-- The same of cuts, each behind those before it.
abbrev pub all_commands : Store ℕ → (Option Trace → ℕ) → List (Option Trace) → List ℕ → ℕ → List Cut
    → List Command
all_commands base byte contents path offset [] = []
all_commands base byte contents path offset (cut ∷ cuts) =
    cut_commands base byte contents path offset cut
    ++ all_commands base byte contents path (offset + cut_len cut) cuts
