-- Cells that are a trace or zero, seen as bytes with their tags: a trace to an input file is a
-- birth there, one to a complete subvolume an outside place. Input files are counted from 1. This
-- program's own.
use Rattle.std.specs.Prelude.{ℕ, ◌+◌, Option, None, Some}
use Rattle.std.specs.Option.{option_map}
use Rattle.send_model.specs.Cells.{recelled}
use Rattle.send_model.specs.Provenance.{Place}
use Rattle.send_model.specs.Store as meant
use Rattle.send_model.specs.Subvolume.{Subvolume}
use Rattle.standing_model.specs.Births.{Tag, CameFrom, BornAt, Tagged}
use Rattle.standing_model.specs.Standing.{place_in}
use Rattle.subvol_catalog.specs.Entries.{key_of}
use Rattle.provenance.specs.declared.trace.Trace.{Trace}
use Rattle.provenance.specs.declared.trace.Trace.TheVariants.{Fresh, Outside}

abbrev pub tag_of : Trace → Tag
tag_of (Fresh file at) = BornAt (record { file = file + 1; at = at })
tag_of (Outside key ino at) = CameFrom (record { key = key_of key; ino = ino; offset = at })

-- A cell with its tag, for any bytes of cells.
abbrev pub tagged : (Option Trace → ℕ) → Option Trace → Tagged
tagged byte cell = record { byte = byte cell; tag = option_map tag_of cell }

abbrev pub tagged_part : (Option Trace → ℕ) → Subvolume (Option Trace) → Subvolume Tagged
tagged_part byte s = recelled (tagged byte) s

-- An inode number and a place, as a place of the part that a key names.
abbrev pub place_under : meant.Key → ℕ × ℕ → Place
place_under key place = place_in key place.0 place.1
