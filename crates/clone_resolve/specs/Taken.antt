-- What a clone from a complete subvolume takes.
use Rattle.std.specs.Prelude.{◌≡◌, ℕ, ◌+◌, ◌<◌, ◌≤◌, true, List, length, Some, Ok}
use Rattle.send_model.specs.Subvolume.{Subvolume, is_file, walk}
use Rattle.send_model.specs.Edit.{greatest_end}
use Rattle.send_model.specs.Clone.{cells_of}
use Rattle.send_model.specs.Store.{Key, State, find}

-- A range that a clone takes: the key of the subvolume, the path of the file in it, the place of
-- its first cell, and how many it has.
pub record TakenRange : Type 0 where
  pub key : Key
  pub path : List ℕ
  pub from : ℕ
  pub len : ℕ

abbrev pub taken_range : (key : Key) (path : List ℕ) (from len : ℕ) → TakenRange
taken_range key path from len = record { key = key; path = path; from = from; len = len }

-- Where the cells come from that a clone puts at the place `offset` of a file: a range of a file of
-- a complete subvolume of the store, which stays as it was.
pub record TakenFrom {C : Type 0} (state after : State C) (offset : ℕ)
    (range : TakenRange) : Type 0 where
  pub source : Subvolume C
  pub ino : ℕ
  pub found : find state.store range.key ≡ Some source
  pub walked : walk source range.path ≡ Ok ino
  pub file : is_file source ino ≡ true
  pub some : 0 < range.len
  pub within : range.from + range.len ≤ length (cells_of source ino)
  pub fits : offset + range.len ≤ greatest_end
  pub same_store : after.store ≡ state.store
