-- When a disk fits what a store keeps of it. Of a disk that tells nothing only the size has to fit.
use Rattle.std.specs.Prelude.{◌≡◌, ◌⊎◌, ℕ, true, List, [], ◌∷◌, ◌++◌, map, Option, None, Some}
use Rattle.send_model.specs.Command.{Command}
use Rattle.send_model.specs.Spelling.{canonical_all}
use Rattle.send_model.specs.Store.{Part, State}
use Rattle.store_model.specs.Image.{Header, HasGroups}
use Rattle.sx_base.specs.Disk.{Pending}
use Rattle.group_log.specs.Journal.{Rests, Grows}
use Rattle.group_replay.specs.declared.place.Place.{Place}
use Rattle.group_replay.specs.Taking.{as_runs, open_state}
use Rattle.store_journal.specs.Shown.{StoreState}
use Rattle.store_model.specs.Stored.{Content, Body, Group, body_bytes, IsContent, body_at, frames_at, resumed, edits_made, Makes}

abbrev pub bodies_of : List Group → List (List ℕ)
bodies_of groups = map body_bytes groups

-- A group that is written now has a checksum.
abbrev pub new_group : Content → Group
new_group content = record { content = content; is_sealed = true }

-- What a group of edits has in front of its frames: its number, a uuid and a version.
abbrev pub edits_head : List ℕ → ℕ → List ℕ
edits_head uuid version = 5 ∷ (uuid ++ version ∷ [])

-- The image has these groups.
abbrev pub HasThese : Header → List Group → List ℕ → Type 0
HasThese header groups image = HasGroups header (bodies_of groups) image

-- It has these, or these and one more.
abbrev pub HasOneMore : Header → List Group → Group → List ℕ → Type 0
HasOneMore header groups group image =
    HasThese header groups image ⊎ HasThese header (groups ++ group ∷ []) image

-- The disk has these groups, and so has each image that a crash may leave; and they make the
-- store's subvolumes.
pub record Holds (header : Header) (groups : List Group) (store : StoreState) (seen : List ℕ)
    (pending : Pending) : Type 0 where
  pub rests : Rests header (bodies_of groups) store.log seen pending
  pub makes : Makes None as_runs header.format groups store.core

-- A group of edits that is in progress: the version of its frames, its commands, and the part that
-- they make so far.
pub record InProgress : Type 0 where
  pub version : ℕ
  pub commands : List Command
  pub part : Part (Option Place)

abbrev pub in_progress : (version : ℕ) (commands : List Command) → Part (Option Place) → InProgress
in_progress version commands part = record { version = version; commands = commands; part = part }

-- So too while a group of edits is in progress, which make the open part of the one with which the
-- group began.
pub record Builds (header : Header) (groups : List Group) (now : InProgress) (store : StoreState)
    (seen : List ℕ) (pending : Pending) : Type 0 where
  pub grows : Grows header (bodies_of groups)
      (edits_head now.part.key.uuid now.version ++ canonical_all now.version now.commands) store.log
      seen pending
  pub makes : Makes None as_runs header.format groups store.core
  pub says : IsContent (Body now.part.key.uuid now.version now.commands)
  pub start : State (Option Place)
  pub begins : resumed store.core now.part.key.uuid ≡ Some start
  pub becomes : edits_made None as_runs now.version (frames_at (body_at store.log.gate)) start
      now.commands ≡ Some (open_state store.core now.part)
