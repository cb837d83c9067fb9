-- The edits of a part, sort by sort.
use Rattle.std.proofs.Common.{◌≡◌, ℕ, ◌+◌, Bool, false, List, [], length, Some, None, Option, Result, Err, refl, ap}
use Rattle.std.specs.Str.{bytes_eq}
use Rattle.send_model.specs.Refusal.{Refusal, BadPath, NoSource}
use Rattle.send_model.specs.Path.{path_names}
use Rattle.send_model.specs.Command as meant
use Rattle.send_model.specs.Subvolume.{Subvolume}
use Rattle.send_model.specs.Edit.{edit, change_contents, written_at, resized, fallocate}
use Rattle.send_model.specs.Clone.{clone, cloned, clone_values}
use Rattle.send_model.specs.Store.{Key, Store, Part, clone_source, edit_part, find}
use Rattle.extent_map.specs.Pieces.{run_cells}
use Rattle.extent_map.proofs.Layouts.{length-run_cells}
use Rattle.sx_base.specs.declared.stop.Stop.{Stop}
use Rattle.sx_base.specs.Answers.{MayChange}
use Rattle.send_commands.specs.declared.command.Command as code
use Rattle.send_commands.specs.declared.command.Command.TheVariants as made
use Rattle.send_commands.specs.Meaning.{meaning_of}
use Rattle.clone_resolve.specs.Steps.{cells_put, is_of_contents}

module _ {O : Type 0} (advanced : O → ℕ → O) (origin : O) (store : Store (Option O)) (part : Part (Option O)) where
  pub write_is : (path : List ℕ) (offset : ℕ) (bytes : List ℕ)
      → edit_part None (cells_put advanced origin (meant.Write path offset bytes)) store part (meant.Write path offset bytes)
      ≡ change_contents path (offset + length bytes) (written_at None offset (run_cells advanced origin (length bytes))) part.subvolume
  unfolding edit_part edit
  write_is path offset bytes = ap (λ n. change_contents path (offset + n) (written_at None offset (run_cells advanced origin (length bytes))) part.subvolume) (length-run_cells advanced origin (length bytes))

module _ {C : Type 0} (zero_cell : C) (put : List C) (store : Store C) (part : Part C) where
  pub truncate_is : (size : ℕ) (path : List ℕ) → edit_part zero_cell put store part (meant.Truncate size path) ≡ change_contents path size (resized zero_cell size) part.subvolume
  unfolding edit_part edit
  truncate_is size path = refl

  pub fallocate_is : (size : ℕ) (path : List ℕ) (offset mode : ℕ) → edit_part zero_cell put store part (meant.Fallocate size path offset mode) ≡ fallocate zero_cell path offset size mode part.subvolume
  unfolding edit_part edit
  fallocate_is size path offset mode = refl

  pub clone_is : (path : List ℕ) (offset : ℕ) (clone_uuid : List ℕ) (clone_ctransid : ℕ) (clone_path : List ℕ) (clone_offset clone_len : ℕ)
      → edit_part zero_cell put store part (meant.Clone path offset clone_uuid clone_ctransid clone_path clone_offset clone_len)
      ≡ clone zero_cell part.subvolume (clone_source store part (record { uuid = clone_uuid; ctransid = clone_ctransid })) (bytes_eq clone_uuid part.key.uuid) (clone_values path offset clone_path clone_offset clone_len)
  unfolding edit_part
  clone_is path offset clone_uuid clone_ctransid clone_path clone_offset clone_len = refl

-- What is left where a command is none of four.
pub record IsOfTree {C : Type 0} (zero_cell : C) (put : List C) (store : Store C) (part : Part C) (c : code.Command) : Type 0 where
  pub elsewhere : is_of_contents (meaning_of c) ≡ false
  pub edits : edit_part zero_cell put store part (meaning_of c) ≡ edit zero_cell [] (meaning_of c) part.subvolume

pub of_tree : {C : Type 0} (zero_cell : C) (put : List C) (store : Store C) (part : Part C) (c : code.Command)
    → ((path : _) (offset : ℕ) (bytes : _) → c ≡ made.Write path offset bytes → ⊥)
    → ((size : ℕ) (path : _) → c ≡ made.Truncate size path → ⊥)
    → ((size : ℕ) (path : _) (offset mode : ℕ) → c ≡ made.Fallocate size path offset mode → ⊥)
    → ((path : _) (offset : ℕ) (clone_uuid : List ℕ) (clone_ctransid : ℕ) (clone_path : _) (clone_offset clone_len : ℕ) → c ≡ made.Clone path offset clone_uuid clone_ctransid clone_path clone_offset clone_len → ⊥)
    → IsOfTree zero_cell put store part c
unfolding edit_part edit
of_tree zero_cell put store part (made.Write path offset bytes) w t f l = absurd (w path offset bytes refl)
of_tree zero_cell put store part (made.Truncate size path) w t f l = absurd (t size path refl)
of_tree zero_cell put store part (made.Fallocate size path offset mode) w t f l = absurd (f size path offset mode refl)
of_tree zero_cell put store part (made.Clone path offset clone_uuid clone_ctransid clone_path clone_offset clone_len) w t f l = absurd (l path offset clone_uuid clone_ctransid clone_path clone_offset clone_len refl)
of_tree zero_cell put store part c w t f l = record { elsewhere = refl; edits = refl }

-- The refusals of a clone that come before its walks.
module _ {C : Type 0} (zero_cell : C) (part : Subvolume C) (source : Option (Subvolume C)) (own : Bool) (path : List ℕ) (offset : ℕ) (clone_path : List ℕ) (from len : ℕ) where
  pub clone_bad_path : path_names path ≡ None → clone zero_cell part source own (clone_values path offset clone_path from len) ≡ Err BadPath
  unfolding clone cloned
  clone_bad_path p = rw p refl

  pub clone_bad_source : (names : List (List ℕ)) → path_names path ≡ Some names → path_names clone_path ≡ None → clone zero_cell part source own (clone_values path offset clone_path from len) ≡ Err BadPath
  unfolding clone cloned
  clone_bad_source names p q = rw (p, q) refl

  pub clone_no_source : (names clone_names : List (List ℕ)) → path_names path ≡ Some names → path_names clone_path ≡ Some clone_names → source ≡ None
      → clone zero_cell part source own (clone_values path offset clone_path from len) ≡ Err NoSource
  unfolding clone cloned
  clone_no_source names clone_names p q s = rw (p, q, s) refl

-- A clone from another subvolume reads the complete one of the key, if there is one.
pub other_source : {C : Type 0} (store : Store C) (part : Part C) (key : Key) → bytes_eq key.uuid part.key.uuid ≡ false → find store key ≡ None → clone_source store part key ≡ None
other_source store part key other none = rw (other) none

-- What a call leaves, of equal subvolumes.
pub changes_so : {A S : Type 0} (result : Result A Stop) (old same new : S) (said due : Result S Refusal) → old ≡ same → said ≡ due → MayChange result old new said → MayChange result same new due
changes_so result old same new said due e d m = rw (← e, ← d) m
