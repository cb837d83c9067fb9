-- What is known of a disk, and of what reads a store from it, that is only read. This program's
-- own.
use Rattle.std.specs.Prelude.{◌≡◌, ℕ, zero, suc, ◌≤◌, Option, Some}
use Rattle.send_model.specs.Store.{Store}
use Rattle.sx_base.specs.Causes.{Rose}
use Rattle.sx_base.specs.Crash.{LeavesOnly}
use Rattle.sx_base.specs.Disk.{IsAsBefore, IsImage}
use Rattle.sx_base.specs.declared.disk.Disk as keeping
use Rattle.store_journal.specs.Shown.{StoreState}
use Rattle.store_compose.specs.declared.fetch.Fetch as fetching
use Rattle.store_compose.specs.Standing.{IsPartOf}

-- Since a disk was as at the start, it was only read.
pub record IsRead {D : Type 0} (disk : keeping.Ghosts D) (start now : D) : Type 0 where
  pub sized : disk.len now ≡ disk.len start
  pub same : disk.tells → IsAsBefore disk.seen disk.pending start now
  pub any_moment : disk.tells
      → LeavesOnly disk.moment disk.left_since start now (IsImage (disk.pending start))
  pub later : disk.faults start ≤ disk.faults now

-- A store on a disk, with the name of the reference to the disk.
pub record StoreOn (D : Type 0) : Type 0 where
  pub store : StoreState
  pub name : ℕ
  pub disk : D

-- Since a store on a disk was as at the start, it is the same by the same reference, and the disk
-- was only read.
pub record IsReadOn {D : Type 0} (disk : keeping.Ghosts D) (start now : StoreOn D) : Type 0 where
  pub store_is : now.store ≡ start.store
  pub name_is : now.name ≡ start.name
  pub read : IsRead disk start.disk now.disk

-- A count rose where reads failed, and else it is as it was.
abbrev pub HasCounted : (failures before now : ℕ) → Type 0
HasCounted zero before now = now ≡ before
HasCounted (suc n) before now = Rose before now

-- What was begun with could be read from, and held what a base is a part of; it was only read
-- since, and so many reads failed.
pub record IsHeld {H : Type 0} (fetch : fetching.Ghosts H) (base : Store ℕ) (begun : Option H)
    (failures : ℕ) (now : H) : Type 0 where
  pub start : H
  pub begins : begun ≡ Some start
  pub since : fetch.later start now
  pub counted : HasCounted failures (fetch.faults start) (fetch.faults now)
  pub can_read : fetch.ready start
  pub part : IsPartOf base (fetch.held start)
