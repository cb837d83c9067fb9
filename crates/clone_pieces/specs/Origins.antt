-- Which byte a traced cell has, and where it lies: in an input file, or in a file of a complete
-- subvolume of the base. This program's own.
use Rattle.std.specs.Prelude.{◌≡◌, ℕ, ◌+◌, ◌<◌, List, [], length, get_or, Option, None, Some}
use Rattle.send_model.specs.Clone.{cells_of}
use Rattle.send_model.specs.Store as meant
use Rattle.send_model.specs.Store.{Store, find}
use Rattle.sx_base.specs.Asks.{IsData}
use Rattle.subvol_catalog.specs.Entries.{key_of}
use Rattle.provenance.specs.declared.trace.Trace.{Trace}
use Rattle.provenance.specs.declared.trace.Trace.TheVariants.{Fresh, Outside}

-- The bytes of a file of a complete subvolume, none where it is not there.
abbrev pub outside_cells : Store ℕ → meant.Key → ℕ → List ℕ
outside_cells base key ino = elim (find base key) [ None ↦ [] | Some s ↦ cells_of s ino ]

-- The byte of a trace. Input files are counted from 0.
abbrev pub byte_of_trace : List (List ℕ) → Store ℕ → Trace → ℕ
byte_of_trace files base (Fresh file at) = get_or (get_or files file []) at 0
byte_of_trace files base (Outside key ino at) = get_or (outside_cells base (key_of key) ino) at 0

-- A cell that is zero, or comes from one of so many input files, or stands in a file of the base.
abbrev pub IsHad : ℕ → Store ℕ → Option Trace → Type 0
IsHad count base None = Unit {0}
IsHad count base (Some (Fresh file at)) = file < count
IsHad count base (Some (Outside key ino at)) = at < length (outside_cells base (key_of key) ino)

-- A cell of an input file stands in it, and is of its data.
abbrev pub IsInInput : List (List ℕ) → Option Trace → Type 0
IsInInput files None = Unit {0}
IsInInput files (Some (Fresh file at)) =
    (at < length (get_or files file [])) × IsData (file + 1) (get_or files file []) at
IsInInput files (Some (Outside key ino at)) = Unit {0}

-- As many bytes are held of each file as others are of it.
abbrev pub AreAsLong : (held others : meant.Key → ℕ → List ℕ) → Type 0
AreAsLong held others =
    (key : meant.Key) (ino : ℕ) → length (held key ino) ≡ length (others key ino)

-- The bytes that are held of files are those of a base.
abbrev pub AreHeld : (meant.Key → ℕ → List ℕ) → Store ℕ → Type 0
AreHeld held base = (key : meant.Key) (ino : ℕ) → held key ino ≡ outside_cells base key ino
