-- What stands where receiving ends before its answer: at a fault of a device, for want of memory,
-- or where a crash ends it. This program's own.
use Rattle.std.specs.Prelude.{◌≡◌, ◌≤◌, ℕ, List, [], ◌++◌, map}
use Rattle.send_model.specs.Store.{Store}
use Rattle.send_model.specs.Guards.{Guard}
use Rattle.store_model.specs.Image.{HasGroups}
use Rattle.store_model.specs.Stored.{Group, body_bytes, StandsFor}
use Rattle.store_model.specs.NamedFiles.{NamedFiles, read_of, AreGiven}
use Rattle.store_model.specs.States.{complete_behind, HasNumbers, received_lines, lines_in, IsAcknowledged}
use Rattle.store_model.specs.Written.{groups_of}

-- Behind the groups that were there stand the first of those that receiving writes. The image
-- stands for a store that receiving passes through, in which each part is complete whose line
-- stands whole in what was written; and that is the first of all that is printed.
pub record IsOnTheWay (before : List ℕ) (guards : List Guard) (files : NamedFiles) (store : Store ℕ)
    (written image : List ℕ) : Type 0 where
  pub stands : StandsFor before store
  pub first : List Group
  pub more : List Group
  pub all : groups_of store guards (read_of files).reading.items ≡ first ++ more
  pub groups : HasGroups stands.header (map body_bytes (stands.groups ++ first)) image
  pub now : Store ℕ
  pub is : StandsFor image now
  pub state : IsAcknowledged store guards files written now
  pub unwritten : List ℕ
  pub lines : received_lines store guards files ≡ written ++ unwritten

-- ---- laws

-- So is the image as it was, with nothing written.
abbrev pub NothingIsOnTheWay : Type 0
NothingIsOnTheWay =
    (before : List ℕ) (guards : List Guard) (files : NamedFiles) (store : Store ℕ)
    → StandsFor before store
    → IsOnTheWay before guards files store [] before

-- And so is one with all groups, with all lines written.
abbrev pub AllIsOnTheWay : Type 0
AllIsOnTheWay =
    (before image : List ℕ) (guards : List Guard) (files : NamedFiles) (store : Store ℕ)
    (stands : StandsFor before store)
    → HasNumbers store → AreGiven files
    → HasGroups stands.header
    (map body_bytes
    (stands.groups ++ groups_of store guards (read_of files).reading.items)) image
    → IsOnTheWay before guards files store (received_lines store guards files) image

-- And so is each with the first of the groups, which stands for one of the states, as long as no
-- more lines were written than parts are complete in it.
abbrev pub FirstIsOnTheWay : Type 0
FirstIsOnTheWay =
    (before image : List ℕ) (guards : List Guard) (files : NamedFiles) (store : Store ℕ)
    (stands : StandsFor before store) (first more : List Group)
    → AreGiven files → groups_of store guards (read_of files).reading.items ≡ first ++ more
    → HasGroups stands.header (map body_bytes (stands.groups ++ first)) image
    → (now : Store ℕ) × StandsFor image now
    × ((written unwritten : List ℕ) → received_lines store guards files ≡ written ++ unwritten
    → lines_in written ≤ complete_behind store now
    → IsOnTheWay before guards files store written image)
