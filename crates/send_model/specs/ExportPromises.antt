-- What `export` promises of what it wrote of what was read, which is of files with overrides. So it
-- is of the files themselves, where none is given. This program's own.
use Rattle.std.specs.Prelude.{◌≡◌, ◌≢◌, ℕ, ◌↔◌, List, [], ◌∷◌, map, None}
use Rattle.std.specs.List.{AllByRecursion}
use Rattle.send_model.specs.Attribute.{IsBytes}
use Rattle.send_model.specs.Reading.{Reading, Whole, reads, input}
use Rattle.send_model.specs.Store.{Store, IsStore}
use Rattle.send_model.specs.Receive.{start_of, IsAccepted, receive_of, receive}
use Rattle.send_model.specs.Order.{commands_of}
use Rattle.send_model.specs.Outside.{keys_outside, SameOn}
use Rattle.send_model.specs.Headline.{commands_in, IsComposedOf}
use Rattle.send_model.specs.Due.{DoneWhole, limited_from, audit_due_of}
use Rattle.send_model.specs.Separated.{separated, ReceiverTakes}
use Rattle.send_model.specs.Receivable.{said}
use Rattle.send_model.specs.Exported.{separated_items, byte_step, exported_of, CanExportOver, AreSmallBy, IsExported}
use Rattle.send_model.specs.Overridden.{Overrides, overridden, overridden_limited, AreLawfulOverrides}

-- What export promises of what it wrote of what was read, where all its commands are taken over a
-- store.
pub record IsExportedOf (base : Store ℕ) (reading : Reading) (written : List ℕ) : Type 0 where
  -- it is read to a whole end, as the commands with separators, each stream in the version that it
  -- came in
  pub whole : (reads 1 written).end ≡ Whole
  pub same : map said (reads 1 written).items ≡ map said (separated_items base reading.items)
  pub commands_are : commands_in written ≡ separated (start_of base) (commands_of reading.items)
  -- every store that finds the same subvolumes outside, and takes what was read, takes it and comes
  -- to the same state
  pub taken : (store : Store ℕ) → IsStore store → SameOn base store (keys_outside reading.items)
      → IsAccepted (receive_of store reading)
      → receive store (written ∷ []) ≡ receive_of store reading
  -- and so does the real receiver there, which writes on to the file that it has open
  pub received : (store : Store ℕ) → IsStore store → SameOn base store (keys_outside reading.items)
      → IsAccepted (receive_of store reading)
      → ReceiverTakes (record { state = start_of store; opened = None }) (commands_in written)
      (receive_of store reading).state
  -- all that the headline says of a composed stream, it says of what is exported where these are
  -- its commands
  pub composed : (other : Store ℕ) (parts : Reading) (stream : List ℕ) → reading.end ≡ Whole
      → commands_of reading.items ≡ commands_in stream
      → IsComposedOf other parts stream → SameOn other base (keys_outside parts.items)
      → IsComposedOf other parts written

-- ---- laws

-- So it is of one file of bytes or more, with lawful overrides, that are taken over a store over
-- which files can be exported.
abbrev pub NamedExportHolds : Type 0
NamedExportHolds =
    (base : Store ℕ) (overrides : Overrides) (files : List (List ℕ)) → files ≢ []
    → CanExportOver base
    → AllByRecursion IsBytes files → AreLawfulOverrides overrides
    → audit_due_of base [] (overridden_limited overrides (limited_from 1 files)) ≡ DoneWhole
    → AreSmallBy byte_step (start_of base) (overridden overrides (input files)).items
    → IsExportedOf base (overridden overrides (input files))
    (exported_of base (overridden_limited overrides (limited_from 1 files)).items)

-- Of files without overrides it is what export promises of files.
abbrev pub FilesArePromisedTheSame : Type 0
FilesArePromisedTheSame = (base : Store ℕ) (files : List (List ℕ)) (written : List ℕ)
    → IsExportedOf base (input files) written ↔ IsExported base files written
