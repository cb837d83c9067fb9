-- What an answer of `send` and `restore` means to whoever reads it, and what a store has that
-- received what they wrote: laws that begin with such a promise and end in plain words. This
-- program's own.
use Rattle.std.specs.Prelude.{◌≡◌, ◌≢◌, ℕ, List, [], ◌∷◌, ◌++◌, Option, None, Some}
use Rattle.send_model.specs.Attribute.{IsBytes}
use Rattle.send_model.specs.Answer.{Done, OutputFault}
use Rattle.send_model.specs.Headline.{IsFrontOf, IsProperFrontOf}
use Rattle.send_model.specs.Subvolume.{Subvolume}
use Rattle.send_model.specs.Store.{Entry, Store}
use Rattle.send_model.specs.Receive.{start_of, receive}
use Rattle.send_model.specs.Lawful.{IsLawfulStore}
use Rattle.store_model.specs.Stored.{StandsFor, StandsForNone}
use Rattle.store_model.specs.StoreLines.{entry_line, listed, shown}
use Rattle.store_model.specs.Dues.{complete_named, show_output, cat_due, cat_output}
use Rattle.store_model.specs.Answers.{Answer, OfAnyWord, Missing}
use Rattle.snapshot_model.specs.Listing.{listing}
use Rattle.snapshot_model.specs.HeldStores.{StandsHeld, Form, send_output, SendAnswers}
use Rattle.snapshot_model.specs.SentLaws.{IsNew}
use Rattle.snapshot_model.specs.Promises.{IsReceivedAnew, IsUnfinished}

-- ---- answers

-- With status 0 the stream of the complete subvolume of the name was written.
abbrev pub SendIsDone : Form → Type 0
SendIsDone form =
    (image name : List ℕ) (store : Store (Option ℕ)) (written left : List ℕ)
    → StandsHeld image store
    → SendAnswers form image name (OfAnyWord Done) written left
    → ((found : Entry (Subvolume (Option ℕ)) × Subvolume (Option ℕ))
    × (complete_named name store ≡ Some found)
    × (written ≡ form found.0.name found.0.key found.1)) × (left ≡ image)

-- What is missing is not in the store, and then nothing was written.
abbrev pub SendMisses : Form → Type 0
SendMisses form =
    (image name : List ℕ) (store : Store (Option ℕ)) (what written left : List ℕ)
    → StandsHeld image store
    → SendAnswers form image name (Missing what) written left
    → (what ≡ name) × (complete_named name store ≡ None) × (written ≡ []) × (left ≡ image)

-- Whatever the status, a front part of it was written; and where standard output failed, some of it
-- is missing.
abbrev pub SendIsInFront : Form → Type 0
SendIsInFront form =
    (image name : List ℕ) (store : Store (Option ℕ)) (answer : Answer) (written left : List ℕ)
    → StandsHeld image store
    → SendAnswers form image name answer written left
    → IsFrontOf (send_output form name store) written × (left ≡ image)

abbrev pub SendIsCut : Form → Type 0
SendIsCut form =
    (image name : List ℕ) (store : Store (Option ℕ)) (written left : List ℕ)
    → StandsHeld image store
    → SendAnswers form image name (OfAnyWord OutputFault) written left
    → IsProperFrontOf (send_output form name store) written

-- Where the image stands for no store, nothing was written, and so standard output does not fail.
abbrev pub NothingIsSentOverNone : Form → Type 0
NothingIsSentOverNone form =
    (image name : List ℕ) (group : ℕ) (answer : Answer) (written left : List ℕ)
    → StandsForNone image group
    → SendAnswers form image name answer written left
    → (written ≡ []) × (left ≡ image) × (answer ≢ OfAnyWord OutputFault)

-- ---- promises

-- Where a stream is unfinished, it is not what was written, and what is missing is something.
abbrev pub UnfinishedLacksSome : Form → Type 0
UnfinishedLacksSome form =
    (image name : List ℕ) (store : Store (Option ℕ))
    (found : Entry (Subvolume (Option ℕ)) × Subvolume (Option ℕ)) (written : List ℕ)
    → StandsHeld image store → complete_named name store ≡ Some found
    → IsUnfinished form image name written
    → ((rest : List ℕ) × (form found.0.name found.0.key found.1 ≡ written ++ rest) × (rest ≢ []))
    × (written ≢ form found.0.name found.0.key found.1)

-- A store that received what was written has one entry more: that of the subvolume, complete and
-- without a parent, with an equal listing.
pub record HasItAnew (found : Entry (Subvolume ℕ) × Subvolume ℕ)
    (other end : Store ℕ) : Type 0 where
  pub after : Subvolume ℕ
  pub entry : Entry (Subvolume ℕ)
  pub entry_is : entry
      ≡ record { name = found.0.name; key = found.0.key; parent = None; contents = Some after }
  -- `list` prints what it printed, and one line more
  pub list : listed end ≡ listed other ++ entry_line entry
  -- `show` prints its lines
  pub named : complete_named found.0.name end ≡ Some (entry, after)
  pub show : show_output found.0.name end ≡ shown found.0.name found.0.key after
  pub same : listing after ≡ listing found.1

abbrev pub ReceivedAnewIsThere : Type 0
ReceivedAnewIsThere =
    (image name : List ℕ) (store : Store ℕ) (found : Entry (Subvolume ℕ) × Subvolume ℕ)
    (other : Store ℕ) (written : List ℕ)
    → StandsFor image store → complete_named name store ≡ Some found
    → IsReceivedAnew image name written → IsNew found.0.name found.0.key other
    → (end : Store ℕ)
    × (receive other (written ∷ []) ≡ record { state = start_of end; refused = None })
    × HasItAnew found other end

-- And `cat` answers for each path as it does over the store that the subvolume is from, where both
-- stores are lawful.
abbrev pub FilesAreThereAnew : Type 0
FilesAreThereAnew =
    (image name : List ℕ) (store : Store ℕ) (found : Entry (Subvolume ℕ) × Subvolume ℕ)
    (other end : Store ℕ) (written path : List ℕ)
    → StandsFor image store → complete_named name store ≡ Some found
    → IsReceivedAnew image name written → IsNew found.0.name found.0.key other
    → IsLawfulStore other → IsBytes written
    → receive other (written ∷ []) ≡ record { state = start_of end; refused = None }
    → (cat_due found.0.name path end ≡ cat_due name path store)
    × (cat_output found.0.name path end ≡ cat_output name path store)
