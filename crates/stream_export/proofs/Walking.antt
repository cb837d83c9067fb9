-- A command that writes to a file leaves all walks as they are.
use Rattle.std.specs.Prelude.{◌≡◌, ℕ, ◌+◌, List, length, Option, None, Some, Result, Ok, Err, nat_le}
use Rattle.std.proofs.Common.{refl, sym, ap, ◌∙◌}
use Rattle.send_model.specs.Refusal.{Refusal, NoSubvolume, NotFile, FileTooBig, BadFallocate}
use Rattle.send_model.specs.Chain.{◌>>=◌, ◌>>◌, require, found}
use Rattle.send_model.specs.Command.{Command, Write, Clone, Fallocate}
use Rattle.send_model.specs.Subvolume.{Inode, Subvolume, inode_at, is_file, walk}
use Rattle.send_model.specs.Edit.{edit, change_contents, fallocate, greatest_end, Allocation, allocation_of, fallocated, written_at, overwritten, change_inode, set_inode, set_cells}
use Rattle.send_model.specs.Clone.{cloned, clone, clone_values}
use Rattle.send_model.specs.Store.{Store, Part, State, Stepped, step, step_edit, edit_part, edited, clone_source, key_of}
use Rattle.send_model.specs.Opened.{Opened, written_path, opened_at}
use Rattle.send_model.proofs.Fuel.{required, bound, ok_same}
use Rattle.send_model.proofs.Rewriting.{cells_walk}

module _ {C : Type 0} where
  -- The cells of an inode, whether or not there is one.
  same_walk : (ino : ℕ) (change : List C → List C) (s : Subvolume C) (path : List ℕ) → walk (change_inode ino (set_cells change) s) path ≡ walk s path
  unfolding change_inode
  same_walk ino change s path = one (inode_at s ino) refl
    where
      one : (o : Option (Inode C)) → inode_at s ino ≡ o → walk (change_inode ino (set_cells change) s) path ≡ walk s path
      one None e = ap (λ (o : Option (Inode C)). walk (elim o as (λ i. Subvolume C) [ None ↦ s | Some inode ↦ set_inode ino (set_cells change inode) s ]) path) e
      one (Some inode) e = cells_walk ino change s inode e path

  -- What was changed so and is the subvolume after it.
  changed_walk : (ino : ℕ) (change : List C → List C) (s next : Subvolume C) (path : List ℕ) → ◌≡◌ {A = Result (Subvolume C) Refusal} (Ok (change_inode ino (set_cells change) s)) (Ok next) → walk next path ≡ walk s path
  changed_walk ino change s next path e = ap (λ (t : Subvolume C). walk t path) (sym (ok_same e)) ∙ same_walk ino change s path

  module _ (zero : C) (put : List C) (store : Store C) (part : Part C) (next : Subvolume C) where
    edit_walk : (c : Command) (to path : List ℕ) → written_path c ≡ Some to → edit_part zero put store part c ≡ Ok next → walk next path ≡ walk part.subvolume path
    unfolding edit_part edit change_contents fallocate clone
    edit_walk (Write at offset bytes) to path h e =
        let change : List C → List C = written_at zero offset put in
        let end : ℕ → Result (Subvolume C) Refusal = λ ino. require (nat_le (offset + length put) greatest_end) FileTooBig >> Ok (change_inode ino (set_cells change) part.subvolume) in
        let a = bound (walk part.subvolume at) (λ ino. require (is_file part.subvolume ino) NotFile >> end ino) next e in
        let b = required (is_file part.subvolume a.0) NotFile (end a.0) next a.2 in
        let d = required (nat_le (offset + length put) greatest_end) FileTooBig (Ok (change_inode a.0 (set_cells change) part.subvolume)) next b.1 in
        changed_walk a.0 change part.subvolume next path d.1
    edit_walk (Fallocate size at offset mode) to path h e =
        let change : Allocation → List C → List C = λ allocation. fallocated zero allocation offset size in
        let end : ℕ → Allocation → Result (Subvolume C) Refusal = λ ino allocation. require (nat_le (offset + size) greatest_end) FileTooBig >> Ok (change_inode ino (set_cells (change allocation)) part.subvolume) in
        let a = bound (walk part.subvolume at) (λ ino. require (is_file part.subvolume ino) NotFile >> (found (allocation_of mode) (BadFallocate mode) >>= end ino)) next e in
        let b = required (is_file part.subvolume a.0) NotFile (found (allocation_of mode) (BadFallocate mode) >>= end a.0) next a.2 in
        let d = bound (found (allocation_of mode) (BadFallocate mode)) (end a.0) next b.1 in
        let f = required (nat_le (offset + size) greatest_end) FileTooBig (Ok (change_inode a.0 (set_cells (change d.0)) part.subvolume)) next d.2 in
        changed_walk a.0 (change d.0) part.subvolume next path f.1
    edit_walk (Clone at offset clone_uuid clone_ctransid clone_path from len) to path h e =
        let a = bound (cloned part.subvolume (clone_source store part (key_of clone_uuid clone_ctransid)) (Rattle.std.specs.Str.bytes_eq clone_uuid part.key.uuid) (clone_values at offset clone_path from len))
        (λ range. Ok (change_inode range.ino (set_cells (overwritten zero offset range.cells)) part.subvolume)) next e in
        changed_walk a.0.ino (overwritten zero offset a.0.cells) part.subvolume next path a.2
    edit_walk c to path h e = cc

  -- A command that writes is an edit of the part.
  written_step : (zero : C) (put : List C) (state : State C) (c : Command) (to : List ℕ) → written_path c ≡ Some to → step zero put state c ≡ step_edit zero put state c
  unfolding step
  written_step zero put state (Write path offset bytes) to h = refl
  written_step zero put state (Fallocate size path offset mode) to h = refl
  written_step zero put state (Clone path offset clone_uuid clone_ctransid clone_path from len) to h = refl
  written_step zero put state c to h = cc

  -- Once it is taken, a path leads where it led.
  pub opened_still : (zero : C) (put : List C) (old new : State C) (c : Command) (path : List ℕ) → written_path c ≡ Some path → step zero put old c ≡ record { state = new; refusal = None }
      → opened_at new.part path ≡ opened_at old.part path
  unfolding step_edit
  opened_still zero put old new c path h e = one old.part (sym (written_step zero put old c path h) ∙ e)
    where
      found_at : (r : Result ℕ Refusal) → Option Opened
      found_at r = elim r as (λ x. Option Opened) [ Err refusal ↦ None | Ok ino ↦ Some (record { path = path; ino = ino }) ]

      two : (part : Part C) (r : Result (Subvolume C) Refusal) → edit_part zero put old.store part c ≡ r → edited old.store part r ≡ record { state = new; refusal = None } → opened_at new.part path ≡ opened_at (Some part) path
      two part (Err refusal) is e = let refused : ◌≡◌ {A = Option Refusal} (Some refusal) None = ap (λ (x : Stepped C). x.refusal) e in cc
      two part (Ok next) is e =
          ap (λ (x : Stepped C). opened_at x.state.part path) (sym e) ∙ ap found_at (edit_walk zero put old.store part next c path path h is)

      one : (o : Option (Part C)) → (elim o as (λ x. Stepped C) [ None ↦ record { state = old; refusal = Some NoSubvolume } | Some part ↦ edited old.store part (edit_part zero put old.store part c) ]) ≡ record { state = new; refusal = None }
          → opened_at new.part path ≡ opened_at o path
      one None e = let refused : ◌≡◌ {A = Option Refusal} (Some NoSubvolume) None = ap (λ (x : Stepped C). x.refusal) e in cc
      one (Some part) e = two part (edit_part zero put old.store part c) refl e
