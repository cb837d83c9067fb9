-- How copying bytes ends. This program's own.
use Rattle.std.specs.Prelude.{◌≡◌, ⊤, ℕ, List, [], Option, Result, Ok, Err}
use Rattle.std.specs.Io.KnownBytes.{Appends}
use Rattle.send_model.specs.Headline.{IsFrontOf, IsProperFrontOf}
use Rattle.sx_base.specs.Calls.{Wrote}
use Rattle.sx_base.specs.Outside.{AppendsPart}
use Rattle.edits_copy.specs.declared.stops.CopyStop.{CopyStop}
use Rattle.edits_copy.specs.declared.stops.CopyStop.TheVariants.{DiskFault, OutputFault, NoMemory}

-- What of some bytes is written where copying stops so: a front part, and not all of them where the
-- output failed.
abbrev pub IsCutAt : CopyStop → List ℕ → List ℕ → Type 0
IsCutAt OutputFault all written = IsProperFrontOf all written
IsCutAt DiskFault all written = IsFrontOf all written
IsCutAt NoMemory all written = written ≡ []

-- All of them are written, or it stops.
abbrev pub CopyEnds : List ℕ → (old new : Option (List ℕ)) → Result (Unit {0}) CopyStop → Type 0
CopyEnds all old new (Ok done) = Appends old new all
CopyEnds all old new (Err stop) = Wrote old new (IsCutAt stop all)

-- One piece is written, or nothing of it since the disk failed, or not all since the output did.
abbrev pub PieceEnds : List ℕ → (old new : Option (List ℕ)) → Result (Unit {0}) CopyStop → Type 0
PieceEnds piece old new (Ok done) = Appends old new piece
PieceEnds piece old new (Err OutputFault) = AppendsPart old new piece
PieceEnds piece old new (Err DiskFault) = Appends old new []
PieceEnds piece old new (Err NoMemory) = ⊥

-- Why it stops: for one of these causes, or for want of memory.
abbrev pub CopyCaused : (disk_rose out_rose : Type 0) → CopyStop → Type 0
CopyCaused disk_rose out_rose DiskFault = disk_rose
CopyCaused disk_rose out_rose OutputFault = out_rose
CopyCaused disk_rose out_rose NoMemory = ⊤
