-- The bytes of cells where they are read: in input files, and in files of complete subvolumes that
-- are held. This program's own.
use Rattle.std.specs.Prelude.{◌≡◌, ⊤, ℕ, ◌+◌, ◌<◌, ◌≤◌, List, [], map, length, get_or, Option, None, Some, Result, Ok, Err}
use Rattle.send_model.specs.Store as meant
use Rattle.sx_base.specs.Again.{FillsFrom}
use Rattle.sx_base.specs.Asks.{IsData}
use Rattle.subvol_catalog.specs.Entries.{key_of}
use Rattle.provenance.specs.declared.trace.Trace.{Trace}
use Rattle.provenance.specs.declared.trace.Trace.TheVariants.{Fresh, Outside}
use Rattle.clone_pieces.specs.declared.stops.SendStop.{SendStop}
use Rattle.clone_pieces.specs.declared.stops.SendStop.TheVariants as stop

-- The byte of a cell. Input files are counted from 0.
abbrev pub byte_in : (meant.Key → ℕ → List ℕ) → List (List ℕ) → Option Trace → ℕ
byte_in held files None = 0
byte_in held files (Some (Fresh file at)) = get_or (get_or files file []) at 0
byte_in held files (Some (Outside key ino at)) = get_or (held (key_of key) ino) at 0

-- A cell that is zero, or comes from one of so many input files, or stands in a file that is held.
abbrev pub IsHadIn : ℕ → (meant.Key → ℕ → List ℕ) → Option Trace → Type 0
IsHadIn count held None = ⊤
IsHadIn count held (Some (Fresh file at)) = file < count
IsHadIn count held (Some (Outside key ino at)) = at < length (held (key_of key) ino)

-- The same of so many cells from successive places.
abbrev pub PieceHad : ℕ → (meant.Key → ℕ → List ℕ) → Option Trace → ℕ → Type 0
PieceHad count held None len = ⊤
PieceHad count held (Some (Fresh file at)) len = file < count
PieceHad count held (Some (Outside key ino at)) len = at + len ≤ length (held (key_of key) ino)

-- So many cells from successive places of an input file stand in it, and are of its data.
abbrev pub PieceThere : Option Trace → ℕ → List (List ℕ) → Type 0
PieceThere None len files = ⊤
PieceThere (Some (Fresh file at)) len files =
    (at + len ≤ length (get_or files file []))
    × ((k : ℕ) → k < len → IsData (file + 1) (get_or files file []) (at + k))
PieceThere (Some (Outside key ino at)) len files = ⊤

-- The buffer has the bytes of the cells, or an object of the outside failed. Inputs that tell are
-- not found changed.
abbrev pub FillEnd : (meant.Key → ℕ → List ℕ) → List (Option Trace) → List ℕ
    → Result (Unit {0}) SendStop → List (List ℕ) → Type 0
FillEnd held cells new (Ok done) files = new ≡ map (byte_in held files) cells
FillEnd held cells new (Err stop.InputFault) files = ⊤
FillEnd held cells new (Err stop.OutputFault) files = ⊥
FillEnd held cells new (Err stop.NoMemory) files = ⊥
FillEnd held cells new (Err (stop.InputChanged file place)) files = ⊥

-- The buffer has bytes of a named file from a place on, or the inputs failed. Inputs that tell are
-- not found changed.
abbrev pub AgainEnd : Option (List (List ℕ × List ℕ)) → List ℕ → ℕ → List ℕ
    → Result (Unit {0}) SendStop → Type 0
AgainEnd told name at new (Ok done) = FillsFrom told name at new
AgainEnd told name at new (Err stop.InputFault) = ⊤
AgainEnd told name at new (Err (stop.InputChanged file place)) = told ≡ None
AgainEnd told name at new (Err stop.OutputFault) = ⊥
AgainEnd told name at new (Err stop.NoMemory) = ⊥
