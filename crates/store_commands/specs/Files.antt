-- The file that a path leads to, and how writing its bytes ends.
use Rattle.std.specs.Prelude.{◌≡◌, ℕ, List, [], Option, None, Some, Result, Ok, Err, if◌then◌else◌}
use Rattle.std.specs.Io.KnownBytes.{Appends}
use Rattle.send_model.specs.Headline.{IsFrontOf, IsProperFrontOf}
use Rattle.send_model.specs.Subvolume.{Subvolume, is_file, walk}
use Rattle.sx_base.specs.Outside.{AppendsPart}
use Rattle.sx_base.specs.declared.outcome.Outcome.TheVariants as ended
use Rattle.store_commands.specs.declared.ends.StoreEnd.{StoreEnd}
use Rattle.store_commands.specs.declared.ends.StoreEnd.TheVariants as made

-- The number of the inode that a path leads to, if it is a file.
unfoldable pub found_file : {C : Type 0} → List ℕ → Subvolume C → Option ℕ
found_file path s =
    elim (walk s path) [ Err refusal ↦ None | Ok ino ↦ if is_file s ino then Some ino else None ]

-- Nothing of a piece is written, since the device failed, or not all of it, since the output did.
abbrev pub PieceStops : List ℕ → (old new : Option (List ℕ)) → StoreEnd → Type 0
PieceStops bytes old new (made.Ends ended.OutputFault) = AppendsPart old new bytes
PieceStops bytes old new (made.Ends ended.Done) = ⊥
PieceStops bytes old new (made.Ends ended.NoMemory) = ⊥
PieceStops bytes old new (made.Ends (ended.Refused verdict)) = ⊥
PieceStops bytes old new (made.Ends ended.InputFault) = ⊥
PieceStops bytes old new (made.Ends (ended.InputTooLong file)) = ⊥
PieceStops bytes old new (made.Ends (ended.TooMuch sum)) = ⊥
PieceStops bytes old new (made.Ends (ended.InputChanged file place)) = ⊥
PieceStops bytes old new made.StoreFault = Appends old new []
PieceStops bytes old new (made.NotStore group) = ⊥
PieceStops bytes old new made.NoName = ⊥
PieceStops bytes old new made.NoFile = ⊥
PieceStops bytes old new (made.LogFull end wanted limit) = ⊥
PieceStops bytes old new (made.StoreThere size) = ⊥
PieceStops bytes old new (made.Damaged group stored computed) = ⊥

-- A piece is written whole, or not.
abbrev pub PieceEnds : List ℕ → (old new : Option (List ℕ)) → Result (Unit {0}) StoreEnd → Type 0
PieceEnds bytes old new (Ok done) = Appends old new bytes
PieceEnds bytes old new (Err end) = PieceStops bytes old new end

-- All bytes are written, or a front part of them, and not all where the output failed.
abbrev pub FileEnds : List ℕ → StoreEnd → List ℕ → Type 0
FileEnds bytes (made.Ends ended.Done) written = written ≡ bytes
FileEnds bytes (made.Ends ended.OutputFault) written = IsProperFrontOf bytes written
FileEnds bytes (made.Ends ended.NoMemory) written = IsFrontOf bytes written
FileEnds bytes (made.Ends (ended.Refused verdict)) written = ⊥
FileEnds bytes (made.Ends ended.InputFault) written = ⊥
FileEnds bytes (made.Ends (ended.InputTooLong file)) written = ⊥
FileEnds bytes (made.Ends (ended.TooMuch sum)) written = ⊥
FileEnds bytes (made.Ends (ended.InputChanged file place)) written = ⊥
FileEnds bytes made.StoreFault written = IsFrontOf bytes written
FileEnds bytes (made.NotStore group) written = ⊥
FileEnds bytes made.NoName written = ⊥
FileEnds bytes made.NoFile written = ⊥
FileEnds bytes (made.LogFull end wanted limit) written = ⊥
FileEnds bytes (made.StoreThere size) written = ⊥
FileEnds bytes (made.Damaged group stored computed) written = ⊥
