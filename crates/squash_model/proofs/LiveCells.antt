-- What lives does not depend on cells.
use Rattle.std.specs.Prelude.{◌≡◌, ℕ, false, ◌&&◌, ◌||◌, List, length, Result, Ok, Err}
use Rattle.std.specs.Str.{bytes_eq}
use Rattle.std.proofs.Common.{refl, ap, ap₂, ◌∙◌}
use Rattle.std.proofs.lemmas.List.{length-map}
use Rattle.send_model.specs.Refusal.{Refusal}
use Rattle.send_model.specs.Command.{Command, Write, Clone, Truncate, Fallocate}
use Rattle.send_model.specs.Edit.{allocation_of}
use Rattle.send_model.specs.Subvolume.{Subvolume}
use Rattle.send_model.specs.Clone.{cells_of}
use Rattle.send_model.specs.Store.{Part}
use Rattle.send_model.specs.Cells.{recelled, recelled_part}
use Rattle.send_model.proofs.CellMaps.{walk-cells}
use Rattle.send_model.proofs.CellClones.{cells_of-cells}
use Rattle.squash_model.specs.Liveness.{Living, live_beside, live_cut, live_copied, live_allocated, at_file, size_of, live_before, LivenessLooksAtNoCells}

module _ {C D : Type 0} (f : C → D) where
  size_same : (s : Subvolume C) (ino : ℕ) → size_of (recelled f s) ino ≡ size_of s ino
  size_same s ino = ap length (cells_of-cells f s ino) ∙ length-map (cells_of s ino) f

  file_same : {A : Type 0} (s : Subvolume C) (path : List ℕ) (g h : ℕ → A) (otherwise : A) → ((ino : ℕ) → g ino ≡ h ino) → at_file (recelled f s) path g otherwise ≡ at_file s path h otherwise
  file_same {A = A} s path g h otherwise same =
      ap₂ (λ (r : Result ℕ Refusal) (k : ℕ → A). elim r as (λ x. A) [ Err refusal ↦ otherwise | Ok ino ↦ k ino ]) (walk-cells f s path) (λ i ino. same ino i)

  pub live_same : (part : Part C) (c : Command) (after : Living) → live_before (recelled_part f part) c after ≡ live_before part c after
  unfolding live_before
  live_same part (Write path offset bytes) after =
      file_same part.subvolume path (λ ino. live_beside ino (size_of (recelled f part.subvolume) ino) offset (length bytes) after) (λ ino. live_beside ino (size_of part.subvolume ino) offset (length bytes) after) after
      (λ ino. ap (λ (n : ℕ). live_beside ino n offset (length bytes) after) (size_same part.subvolume ino))
  live_same part (Truncate size path) after =
      file_same part.subvolume path (λ ino. live_cut ino (size_of (recelled f part.subvolume) ino) size after) (λ ino. live_cut ino (size_of part.subvolume ino) size after) after
      (λ ino. ap (λ (n : ℕ). live_cut ino n size after) (size_same part.subvolume ino))
  live_same part (Fallocate size path offset mode) after =
      file_same part.subvolume path (λ ino. live_allocated (allocation_of mode) ino (size_of (recelled f part.subvolume) ino) offset size after)
      (λ ino. live_allocated (allocation_of mode) ino (size_of part.subvolume ino) offset size after) after
      (λ ino. ap (λ (n : ℕ). live_allocated (allocation_of mode) ino n offset size after) (size_same part.subvolume ino))
  live_same part (Clone path offset uuid ctransid clone_path from len) after =
      let s : Subvolume C = part.subvolume in
      let one : ℕ → Living → Living = λ ino copied i p. live_beside ino (size_of s ino) offset len after i p || (bytes_eq uuid part.key.uuid && copied i p) in
      file_same s path
      (λ ino i p. live_beside ino (size_of (recelled f s) ino) offset len after i p || (bytes_eq uuid part.key.uuid && at_file (recelled f s) clone_path (λ source. live_copied ino offset source from len after i p) false))
      (λ ino i p. live_beside ino (size_of s ino) offset len after i p || (bytes_eq uuid part.key.uuid && at_file s clone_path (λ source. live_copied ino offset source from len after i p) false)) after
      (λ ino. λ k i p. live_beside ino (size_same s ino k) offset len after i p
      || (bytes_eq uuid part.key.uuid && file_same s clone_path (λ source. live_copied ino offset source from len after i p) (λ source. live_copied ino offset source from len after i p) false (λ source. refl) k))
  live_same part c after = refl

pub liveness_looks_at_no_cells : LivenessLooksAtNoCells
liveness_looks_at_no_cells part command after = live_same (λ birth. tt) part command after
