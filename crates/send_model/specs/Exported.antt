-- What `export` writes of files over a store, for the real `btrfs receive`: all commands that are
-- taken, in the receivable spelling, each stream with its own version, and separators between them.
-- This program's own.
use Rattle.std.specs.Prelude.{◌≡◌, ◌≢◌, ◌<◌, ◌^◌, ℕ, true, List, [], ◌∷◌, ◌++◌, map, Option, None, Some}
use Rattle.std.specs.List.{AllByRecursion}
use Rattle.send_model.specs.Refusal.{Refusal}
use Rattle.send_model.specs.Attribute.{Time, second, IsBytes}
use Rattle.send_model.specs.Command.{Command}
use Rattle.send_model.specs.Reading.{Item, Whole, reads, input}
use Rattle.send_model.specs.Subvolume.{Subvolume}
use Rattle.send_model.specs.Store.{Key, Store, State, After, IsStore, find, completed, step}
use Rattle.send_model.specs.Receive.{byte_cells, start_of, IsAccepted, receive}
use Rattle.send_model.specs.Order.{commands_of}
use Rattle.send_model.specs.Outside.{outside, SameOn}
use Rattle.send_model.specs.Headline.{commands_in, IsComposed}
use Rattle.send_model.specs.Due.{DoneWhole, limited_from, audit_due}
use Rattle.send_model.specs.Lawful.{IsLawfulStore}
use Rattle.send_model.specs.Opened.{Opened, written_path}
use Rattle.send_model.specs.Separated.{separator, open_anew, other_path, separated, IsSmall, ReceiverTakes}
use Rattle.send_model.specs.Receivable.{said, exported_from}

-- What is known between two commands: the state, the file that the receiver has open, and the path
-- that it had open before.
pub record Exporting (C : Type 0) : Type 0 where
  pub state : State C
  pub opened : Option Opened
  pub other : List ℕ

-- Before the first command: nothing is open.
abbrev pub exporting : {C : Type 0} → Store C → Exporting C
exporting store = record { state = start_of store; opened = None; other = [] }

-- After a command that leads to a state.
abbrev pub exporting_after : {C : Type 0} → Exporting C → Command → State C → Exporting C
exporting_after now command state = record {
  state = state;
  opened = open_anew now.opened now.state command;
  other = other_path now.other now.opened (written_path command);
}

-- The separator that goes before an item, as items of the same stream.
abbrev pub items_before : {C : Type 0} → Exporting C → Item → List Item
items_before now item =
    map (λ command. record item { command = command })
    (separator now.opened now.other now.state item.command)

-- An item with its separator, and then the rest; nothing where it is refused.
abbrev pub then_separated : Option Refusal → List Item → List Item
then_separated (Some refusal) rest = []
then_separated None rest = rest

-- Items with separators, up to the first that is refused, where it is given what an item does to a
-- state.
unfoldable pub separated_by : {C : Type 0} → (State C → Item → After (State C)) → Exporting C
    → List Item → List Item
separated_by does now [] = []
separated_by does now (item ∷ items) = let after = does now.state item in
    then_separated after.refusal
    (items_before now item
    ++ item ∷ separated_by does (exporting_after now item.command after.state) items)

-- What an item does to a store of bytes.
abbrev pub byte_step : State ℕ → Item → After (State ℕ)
byte_step state item = step 0 (byte_cells item) state item.command

-- The items that are written of items over a store.
abbrev pub separated_items : Store ℕ → List Item → List Item
separated_items store items = separated_by byte_step (exporting store) items

-- All that is written of items: what stands before the first command that is refused.
abbrev pub exported_of : Store ℕ → List Item → List ℕ
exported_of store items = exported_from true (separated_items store items)

-- All that is written of files: what stands before the first command that is refused, before a
-- fault of reading, or before the limit of a file that is too long.
unfoldable pub exported : Store ℕ → List (List ℕ) → List ℕ
exported store files = exported_of store (limited_from 1 files).items

-- ---- what it promises

-- What export promises of what it wrote, where all commands of the files are taken.
pub record IsExported (base : Store ℕ) (files : List (List ℕ)) (written : List ℕ) : Type 0 where
  -- it is read to a whole end, as the commands of the files with separators, each stream in the
  -- version that it came in
  pub whole : (reads 1 written).end ≡ Whole
  pub same : map said (reads 1 written).items ≡ map said (separated_items base (input files).items)
  pub commands_are : commands_in written
      ≡ separated (start_of base) (commands_of (input files).items)
  -- every store that finds the same subvolumes outside, and takes the files, takes it and comes to
  -- the same state
  pub taken : (store : Store ℕ) → IsStore store → SameOn base store (outside files)
      → IsAccepted (receive store files)
      → receive store (written ∷ []) ≡ receive store files
  -- and so does the real receiver there, which writes on to the file that it has open
  pub received : (store : Store ℕ) → IsStore store → SameOn base store (outside files)
      → IsAccepted (receive store files)
      → ReceiverTakes (record { state = start_of store; opened = None }) (commands_in written)
      (receive store files).state
  -- all that the headline says of a composed stream, it says of what is exported of it
  pub composed : (other : Store ℕ) (parts : List (List ℕ)) (stream : List ℕ) → files ≡ stream ∷ []
      → IsComposed other parts stream
      → SameOn other base (outside parts) → IsComposed other parts written

-- A moment that the format can say.
abbrev pub IsMoment : Time → Type 0
IsMoment time = (time.secs < 2 ^ 64) × (time.nanos < second)

-- The times of its inodes can be said.
abbrev pub HasTimes : Subvolume ℕ → Type 0
HasTimes s = AllByRecursion (λ e. IsMoment e.1.mtime × IsMoment e.1.atime) s.inodes

-- A store over which files can be exported: a lawful one, in which the times of each inode can be
-- said.
pub record CanExportOver (store : Store ℕ) : Type 0 where
  pub lawful : IsLawfulStore store
  pub times : (key : Key) (s : Subvolume ℕ) → find store key ≡ Some s → HasTimes s

-- Before each item, as long as all are taken, the part has fewer than 2^64 names.
unfoldable pub AreSmallBy : {C : Type 0} → (State C → Item → After (State C)) → State C → List Item
    → Type 0
AreSmallBy does state [] = Unit {0}
AreSmallBy does state (item ∷ items) =
    IsSmall state.part × AreSmallBy does (does state item).state items

-- So it is of one file of bytes or more that are taken over such a store.
abbrev pub ExportedIsSame : Type 0
ExportedIsSame =
    (base : Store ℕ) (files : List (List ℕ)) → files ≢ [] → CanExportOver base
    → AllByRecursion IsBytes files
    → audit_due base [] files ≡ DoneWhole → AreSmallBy byte_step (start_of base) (input files).items
    → IsExported base files (exported base files)

-- Over no store files can be exported, and over whatever is received into a store over which they
-- can.
abbrev pub ReceivedCanExport : Type 0
ReceivedCanExport =
    (store : Store ℕ) (files : List (List ℕ)) → CanExportOver store → AllByRecursion IsBytes files
    → CanExportOver (completed (receive store files).state)
