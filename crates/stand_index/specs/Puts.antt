-- Which blocks an index has, by the traces of the cells that they begin with. This program's own.
use Rattle.std.specs.Prelude.{◌≡◌, ◌⊎◌, ◌↔◌, ℕ, ◌+◌, ◌*◌, ◌%◌, ◌<◌, List, []}
use Rattle.send_model.specs.Clone.{block_len}
use Rattle.subvol_catalog.specs.declared.key.Key.{Key}
use Rattle.provenance.specs.declared.trace.Trace.{Trace}
use Rattle.provenance.specs.declared.trace.Trace.TheVariants.{Fresh, Outside}
use Rattle.provenance.specs.Traces.{advanced_by}
use Rattle.stand_index.specs.declared.blocks.Blocks.{Blocks}
use Rattle.stand_index.specs.declared.source.OutsideFile.{OutsideFile}
use Rattle.stand_index.specs.Blocks.{IsAmong}

-- Blocks that begin with bytes of input files, and those that begin with bytes of files of complete
-- subvolumes.
pub record Puts : Type 0 where
  pub inputs : List (Blocks ℕ)
  pub outside : List (Blocks OutsideFile)

abbrev pub nothing : Puts
nothing = record { inputs = []; outside = [] }

abbrev pub file_of : Key → ℕ → OutsideFile
file_of key ino = record { uuid = key.uuid; ctransid = key.ctransid; ino = ino }

-- A block that begins with a cell was put at a place of a file.
abbrev pub IsPut : Trace → (ino place : ℕ) → Puts → Type 0
IsPut (Fresh file at) ino place puts = IsAmong file at ino place puts.inputs
IsPut (Outside key from at) ino place puts = IsAmong (file_of key from) at ino place puts.outside

-- It is one of so many blocks that follow each other in a file, the first of which begins with a
-- cell.
pub record IsPutBy (first : Trace) (into at count : ℕ) (tag : Trace) (ino place : ℕ) : Type 0 where
  pub block : ℕ
  pub within : block < count
  pub cell : tag ≡ advanced_by first (block_len * block)
  pub file : ino ≡ into
  pub there : place ≡ at + block_len * block

-- It begins in a run of so many cells that was put at a place of a file.
pub record IsPutIn (first : Trace) (into at len : ℕ) (tag : Trace) (ino place : ℕ) : Type 0 where
  pub far : ℕ
  pub within : far < len
  pub cell : tag ≡ advanced_by first far
  pub file : ino ≡ into
  pub there : place ≡ at + far
  pub begins : place % block_len ≡ 0

-- These were put, and nothing else came or went.
abbrev pub PutsBlocks : (first : Trace) (into at count : ℕ) (old new : Puts) → Type 0
PutsBlocks first into at count old new =
    (tag : Trace) (ino place : ℕ)
    → IsPut tag ino place new
    ↔ (IsPut tag ino place old ⊎ IsPutBy first into at count tag ino place)

abbrev pub PutsRun : (first : Trace) (into at len : ℕ) (old new : Puts) → Type 0
PutsRun first into at len old new =
    (tag : Trace) (ino place : ℕ)
    → IsPut tag ino place new
    ↔ (IsPut tag ino place old ⊎ IsPutIn first into at len tag ino place)
