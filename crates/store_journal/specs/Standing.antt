-- What it means that a disk has the groups of a store. This program's own.
use Rattle.std.specs.Prelude.{◌≡◌, ◌⊎◌, ℕ, List, [], ◌∷◌, ◌++◌, Option, None}
use Rattle.std.specs.Option.{option_map}
use Rattle.send_model.specs.Command.{Command}
use Rattle.send_model.specs.Store.{Store, Part}
use Rattle.sx_base.specs.Disk.{Pending, IsImage}
use Rattle.send_model.specs.Cells.{recelled_store}
use Rattle.store_model.specs.Image.{Header, header_of, usual_header}
use Rattle.store_model.specs.Stored.{Group, byte_of, Makes, StandsFor}
use Rattle.group_replay.specs.declared.place.Place.{Place}
use Rattle.store_journal.specs.Shown.{StoreState, IsIdle, IsOpen}
use Rattle.store_journal.specs.Reading.{HasSize}
use Rattle.group_replay.specs.Taking.{as_runs}
use Rattle.store_journal.specs.Holding.{HasThese, Holds, Builds, in_progress}

-- The byte of a cell: that at its place in an image, or zero.
abbrev pub place_byte : List ℕ → Option Place → ℕ
place_byte image cell = byte_of image (option_map (λ place. place.at) cell)

-- The subvolumes with the bytes that an image has at their places.
abbrev pub with_bytes : List ℕ → Store (Option Place) → Store ℕ
with_bytes image core =
    recelled_store (byte_of image) (recelled_store (option_map (λ place. place.at)) core)

-- An image that has the groups which make the subvolumes stands for these, with its bytes.
abbrev pub GroupsStand : Type 0
GroupsStand =
    (header : Header) (groups : List Group) (core : Store (Option Place)) (image : List ℕ)
    → HasThese header groups image → Makes None as_runs header.format groups core
    → StandsFor image (with_bytes image core)

-- A new store stands for no entries.
abbrev pub NewStands : Type 0
NewStands = StandsFor (header_of usual_header ++ 0 ∷ []) []

-- Where a store holds groups, each image that a crash may leave stands for its subvolumes; so it is
-- while a part is open, whose entry is among them, unfinished.
abbrev pub HoldsStands : Type 0
HoldsStands =
    (header : Header) (groups : List Group) (store : StoreState) (seen image : List ℕ)
    (pending : Pending)
    → Holds header groups store seen pending → IsImage pending image
    → StandsFor image (with_bytes image store.core)

abbrev pub BuildsStands : Type 0
BuildsStands =
    (header : Header) (groups : List Group) (version : ℕ) (commands : List Command)
    (part : Part (Option Place)) (store : StoreState) (seen image : List ℕ) (pending : Pending)
    → Builds header groups (in_progress version commands part) store seen pending
    → IsImage pending image → StandsFor image (with_bytes image store.core)

-- What a disk gives is held for the subvolumes of one store, so a store that is opened again has
-- those that it had.
abbrev pub HoldsOne : Type 0
HoldsOne =
    (header other : Header) (groups others : List Group) (store again : StoreState) (seen : List ℕ)
    (pending later : Pending)
    → Holds header groups store seen pending → Holds other others again seen later
    → again.core ≡ store.core

-- A store has its size on the disk, whether no part is open or one is.
abbrev pub StoresHaveSize : Type 0
StoresHaveSize =
    (len : ℕ) (part : Part (Option Place)) (store : StoreState)
    → IsIdle len store ⊎ IsOpen len part store → HasSize len store
