-- The own stream of an entry while it is written, and how that ends. This program's own.
use Rattle.std.specs.Prelude.{◌≡◌, ⊤, ℕ, ◌<◌, ◌^◌, List, ◌++◌, length, map, Option, None, Some, Result, Ok, Err}
use Rattle.std.specs.List.{AllByRecursion}
use Rattle.std.specs.Option.{option_map}
use Rattle.std.specs.Io.KnownBytes.{Appends}
use Rattle.send_model.specs.Command.{End}
use Rattle.send_model.specs.Composed.{head_command}
use Rattle.send_model.specs.Headline.{IsFrontOf, IsProperFrontOf}
use Rattle.send_model.specs.Spelling.{stream_header, canonical}
use Rattle.send_model.specs.Store.{Entry}
use Rattle.sx_base.specs.Calls.{Wrote}
use Rattle.sx_base.specs.declared.outcome.Outcome.TheVariants as ended
use Rattle.store_model.specs.Image.{Header, HasGroups}
use Rattle.store_model.specs.Stored.{Group, IsGroup, body_bytes}
use Rattle.stream_model.specs.OwnStream.{Edits, last_edits, own_stream}
use Rattle.subvol_catalog.specs.Entries.{key_of}
use Rattle.edits_copy.specs.Finding.{bytes_at, IsWithin}
use Rattle.edits_copy.specs.declared.place.EditsPlace.{EditsPlace}
use Rattle.edits_copy.specs.declared.stops.CopyStop.{CopyStop}
use Rattle.edits_copy.specs.declared.stops.CopyStop.TheVariants as copied
use Rattle.store_commands.specs.declared.ends.StoreEnd.{StoreEnd}
use Rattle.store_commands.specs.declared.ends.StoreEnd.TheVariants as made
use Rattle.stream_back.specs.declared.heads.EntryHead.{EntryHead}
use Rattle.stream_back.specs.declared.located.Located.{Located}

-- Bytes that an attribute has room for.
abbrev pub HasLength : List ℕ → Type 0
HasLength bytes = length bytes < 2 ^ 16

-- How the command ends where copying stopped.
abbrev pub end_copied : CopyStop → StoreEnd
end_copied copied.DiskFault = made.StoreFault
end_copied copied.OutputFault = made.Ends ended.OutputFault
end_copied copied.NoMemory = made.Ends ended.NoMemory

-- ---- where the edits are

-- The journal has the size of the disk, and the place is before its end.
pub record IsAt (len : ℕ) (at : Located) : Type 0 where
  pub size : len ≡ at.log.size
  pub place : IsWithin at.log.size at.place

-- An image has groups of which one has edits of a uuid.
pub record Has (image uuid : List ℕ) : Type 0 where
  pub header : Header
  pub groups : List Group
  pub has : HasGroups header (map body_bytes groups) image
  pub lawful : AllByRecursion (IsGroup header.format) groups
  pub edits : Edits
  pub last : last_edits uuid groups ≡ Some edits

-- Why they are not found: the disk failed, for which there is this cause, it is no store any more,
-- or it has no such edits.
abbrev pub PlaceCaused : Type 0 → StoreEnd → Type 0
PlaceCaused rose made.StoreFault = rose
PlaceCaused rose (made.NotStore group) = ⊤
PlaceCaused rose made.NoName = ⊤
PlaceCaused rose made.NoFile = ⊥
PlaceCaused rose (made.Ends outcome) = ⊥
PlaceCaused rose (made.LogFull end wanted limit) = ⊥
PlaceCaused rose (made.StoreThere size) = ⊥
PlaceCaused rose (made.Damaged group stored computed) = ⊥

-- ---- the parts

-- An entry with this head.
abbrev pub headed : EntryHead → Entry (Unit {0})
headed head = record {
  name = head.name.now;
  key = key_of head.key;
  parent = option_map key_of head.parent;
  contents = None;
}

-- The header and the head, the edits at a place of an image, and END.
abbrev pub parts_of : EntryHead → EditsPlace → List ℕ → List ℕ
parts_of head place image =
    (stream_header place.version
    ++ canonical place.version
    (head_command head.name.now (key_of head.key) (option_map key_of head.parent)))
    ++ (bytes_at place image ++ canonical place.version End)

-- What is written of some bytes where the command ends so: a front part, and not all where the
-- output failed.
abbrev pub IsCutBy : StoreEnd → List ℕ → List ℕ → Type 0
IsCutBy (made.Ends ended.OutputFault) all written = IsProperFrontOf all written
IsCutBy (made.Ends ended.NoMemory) all written = IsFrontOf all written
IsCutBy (made.Ends ended.Done) all written = ⊥
IsCutBy (made.Ends (ended.Refused verdict)) all written = ⊥
IsCutBy (made.Ends ended.InputFault) all written = ⊥
IsCutBy (made.Ends (ended.InputTooLong file)) all written = ⊥
IsCutBy (made.Ends (ended.TooMuch sum)) all written = ⊥
IsCutBy (made.Ends (ended.InputChanged file place)) all written = ⊥
IsCutBy made.StoreFault all written = IsFrontOf all written
IsCutBy (made.NotStore group) all written = ⊥
IsCutBy made.NoName all written = ⊥
IsCutBy made.NoFile all written = ⊥
IsCutBy (made.LogFull end wanted limit) all written = ⊥
IsCutBy (made.StoreThere size) all written = ⊥
IsCutBy (made.Damaged group stored computed) all written = ⊥

-- A part is written, or the command ends in it.
abbrev pub PartEnds : List ℕ → (old new : Option (List ℕ)) → Result (Unit {0}) StoreEnd → Type 0
PartEnds part old new (Ok done) = Appends old new part
PartEnds part old new (Err end) = Wrote old new (IsCutBy end part)

-- All of a stream is written, or a front part of it that is not all.
abbrev pub StreamEnds : List ℕ → Result (Unit {0}) StoreEnd → List ℕ → Type 0
StreamEnds stream (Ok done) written = written ≡ stream
StreamEnds stream (Err end) written = IsCutBy end stream written × IsProperFrontOf stream written

-- So is the own stream of an entry, where an image has its edits.
abbrev pub IsBack : List ℕ → EntryHead → Result (Unit {0}) StoreEnd → List ℕ → Type 0
IsBack image head result written = (has : Has image head.key.uuid)
    → StreamEnds (own_stream (headed head) has.edits) result written

-- Why writing ends: there is no memory, or the output or the store's device failed, for which there
-- is this cause.
abbrev pub StopCaused : (store_rose out_rose : Type 0) → StoreEnd → Type 0
StopCaused store_rose out_rose (made.Ends ended.OutputFault) = out_rose
StopCaused store_rose out_rose (made.Ends ended.NoMemory) = ⊤
StopCaused store_rose out_rose (made.Ends ended.Done) = ⊥
StopCaused store_rose out_rose (made.Ends (ended.Refused verdict)) = ⊥
StopCaused store_rose out_rose (made.Ends ended.InputFault) = ⊥
StopCaused store_rose out_rose (made.Ends (ended.InputTooLong file)) = ⊥
StopCaused store_rose out_rose (made.Ends (ended.TooMuch sum)) = ⊥
StopCaused store_rose out_rose (made.Ends (ended.InputChanged file place)) = ⊥
StopCaused store_rose out_rose made.StoreFault = store_rose
StopCaused store_rose out_rose (made.NotStore group) = ⊥
StopCaused store_rose out_rose made.NoName = ⊥
StopCaused store_rose out_rose made.NoFile = ⊥
StopCaused store_rose out_rose (made.LogFull end wanted limit) = ⊥
StopCaused store_rose out_rose (made.StoreThere size) = ⊥
StopCaused store_rose out_rose (made.Damaged group stored computed) = ⊥

-- Or the disk has no such edits.
abbrev pub BackCaused : (store_rose out_rose : Type 0) → StoreEnd → Type 0
BackCaused store_rose out_rose (made.Ends ended.OutputFault) = out_rose
BackCaused store_rose out_rose (made.Ends ended.NoMemory) = ⊤
BackCaused store_rose out_rose (made.Ends ended.Done) = ⊥
BackCaused store_rose out_rose (made.Ends (ended.Refused verdict)) = ⊥
BackCaused store_rose out_rose (made.Ends ended.InputFault) = ⊥
BackCaused store_rose out_rose (made.Ends (ended.InputTooLong file)) = ⊥
BackCaused store_rose out_rose (made.Ends (ended.TooMuch sum)) = ⊥
BackCaused store_rose out_rose (made.Ends (ended.InputChanged file place)) = ⊥
BackCaused store_rose out_rose made.StoreFault = store_rose
BackCaused store_rose out_rose (made.NotStore group) = ⊤
BackCaused store_rose out_rose made.NoName = ⊤
BackCaused store_rose out_rose made.NoFile = ⊥
BackCaused store_rose out_rose (made.LogFull end wanted limit) = ⊥
BackCaused store_rose out_rose (made.StoreThere size) = ⊥
BackCaused store_rose out_rose (made.Damaged group stored computed) = ⊥
