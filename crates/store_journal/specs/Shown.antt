-- How a store's fields are seen.
use Rattle.std.specs.Prelude.{◌≡◌, ℕ, Bool, true, Option, None, Some}
use Rattle.std.specs.Option.{option_map}
use Rattle.send_model.specs.Store.{Key, Part, Store}
use Rattle.group_log.specs.State.{LogState}
use Rattle.group_log.specs.Journal.{IsAtRest, IsInProgress}
use Rattle.subvol_catalog.specs.Entries.{key_of}
use Rattle.group_replay.specs.declared.place.Place.{Place}
use Rattle.group_replay.specs.Kept.{IsKept, AreKept}
use Rattle.store_journal.specs.declared.store.Store.TheInside.{Inside}

-- The subvolumes, over cells that are a place or zero; the journal; the key of the open part, if
-- there is one; and whether the store may still be written to.
pub record StoreState : Type 0 where
  pub core : Store (Option Place)
  pub log : LogState
  pub open_part : Option Key
  pub is_live : Bool

abbrev pub shown : Inside → StoreState
shown store = record {
  core = store.core;
  log = store.log;
  open_part = option_map key_of store.open_part;
  is_live = store.is_live;
}

-- The store is live and no part is open, and the disk has the size that the journal keeps.
pub record IsIdle (len : ℕ) (store : StoreState) : Type 0 where
  pub rest : IsAtRest len store.log
  pub live : store.is_live ≡ true
  pub closed : store.open_part ≡ None

-- The store is live and this part is open; its bytes stand before the end of the disk.
pub record IsOpen (len : ℕ) (part : Part (Option Place)) (store : StoreState) : Type 0 where
  pub progress : IsInProgress len store.log
  pub live : store.is_live ≡ true
  pub open_is : store.open_part ≡ Some part.key
  pub kept : IsKept store.log.size part.subvolume

-- The bytes of the complete subvolumes stand in the groups.
abbrev pub IsInGroups : Inside → Type 0
IsInGroups store = AreKept store.log.gate store.core
