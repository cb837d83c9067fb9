-- A change of a command that is taken ends where files can: what a CLONE takes of the part itself lies
-- in the file that it takes it from.
use Rattle.std.specs.Prelude.{◌≡◌, ℕ, ◌+◌, ◌<◌, ◌≤◌, ◌^◌, Bool, true, false, List, [], ◌∷◌, length, Option, None, Some, Result, Ok, Err, IfSome, if◌then◌else◌}
use Rattle.std.specs.Str.{bytes_eq}
use Rattle.std.proofs.Common.{refl, sym, ap, subst, ◌∙◌, arith}
use Rattle.std.proofs.lemmas.List.{length-map}
use Rattle.send_model.specs.Refusal.{Refusal}
use Rattle.send_model.specs.Command.{Command, Write, Clone, Truncate, Fallocate}
use Rattle.send_model.specs.Subvolume.{Subvolume, walk}
use Rattle.send_model.specs.Edit.{Allocation, Lengthen, KeepSize, PunchHole, ZeroRange, ZeroWithin, allocation_of}
use Rattle.send_model.specs.Clone.{cells_of, clone, cloned, clone_values}
use Rattle.send_model.specs.Store.{Part, State, Stepped, step, find, edit_part, clone_source, key_of}
use Rattle.send_model.specs.Cells.{recelled}
use Rattle.send_model.proofs.CellClones.{cells_of-cells}
use Rattle.send_model.proofs.Fuel.{bound, ok_same}
use Rattle.send_model.proofs.Merging.{edited_taken}
use Rattle.send_model.proofs.Redirected.{cloned_facts}
use Rattle.squash_model.specs.Liveness.{size_of}
use Rattle.squash_model.proofs.SameSquash.{inner_step}
use Rattle.squash_log.specs.declared.change.FileRange.{FileRange}
use Rattle.squash_log.specs.declared.change.Change.{Change}
use Rattle.squash_log.specs.declared.change.Change.TheVariants as made
use Rattle.squash_log.specs.Changes.{Fits}
use Rattle.squash_log.specs.Resolved.{range_of, allocated_changes, changes_for, changes_at, blank_step}
use Rattle.squasher.specs.Judging.{IsSized}
use Rattle.squasher.proofs.Keeping.{Blank}

-- A CLONE of the part itself that is taken.
clone_within : (old : State Blank) (part : Part Blank) (path : List ℕ) (offset : ℕ) (uuid : List ℕ) (ctransid : ℕ) (clone_path : List ℕ) (from len : ℕ) → old.part ≡ Some part
    → (blank_step old (Clone path offset uuid ctransid clone_path from len)).refusal ≡ None → bytes_eq uuid part.key.uuid ≡ true → (source : ℕ) → walk part.subvolume clone_path ≡ Ok source
    → from + len ≤ size_of part.subvolume source
unfolding edit_part clone
clone_within old part path offset uuid ctransid clone_path from len is taken own source w =
    let c : Command = Clone path offset uuid ctransid clone_path from len in
    let s : Subvolume Blank = part.subvolume in
    let at : (step tt [] (record { store = old.store; part = Some part }) c).refusal ≡ None = subst (λ (x : Option (Part Blank)). (step tt [] (record { store = old.store; part = x }) c).refusal ≡ None) is taken in
    let ok = edited_taken old.store part (edit_part tt [] old.store part c) (sym (ap (λ (x : Stepped Blank). x.refusal) (inner_step tt [] old.store part c refl refl)) ∙ at) in
    let itself : clone_source old.store part (key_of uuid ctransid) ≡ Some s = ap (λ (b : Bool). if b then Some s else find old.store (key_of uuid ctransid)) own in
    let q : clone tt s (Some s) (bytes_eq uuid part.key.uuid) (clone_values path offset clone_path from len) ≡ Ok ok.0 =
    ap (λ (x : Option (Subvolume Blank)). clone tt s x (bytes_eq uuid part.key.uuid) (clone_values path offset clone_path from len)) (sym itself) ∙ ok.1 in
    let b = bound (cloned s (Some s) (bytes_eq uuid part.key.uuid) (clone_values path offset clone_path from len)) _ ok.0 q in
    let facts = cloned_facts s s (bytes_eq uuid part.key.uuid) path offset clone_path from len b.0 b.1 in
    let same : source ≡ facts.source_ino = ok_same (sym w ∙ facts.source_walked) in
    subst (λ (i : ℕ). from + len ≤ size_of s i) (sym same) facts.within

module _ (old : State Blank) (part : Part Blank) (is : old.part ≡ Some part) (to : FileRange) (source from : ℕ) (sized : size_of part.subvolume source < 2 ^ 63) where
  not_allocated : (a : Option Allocation) (ino at len : ℕ) → allocated_changes part.subvolume a ino at len ≡ made.Cloned to source from ∷ [] → from + to.len < 2 ^ 63
  not_allocated None ino at len e = cc
  not_allocated (Some Lengthen) ino at len e = cc
  not_allocated (Some KeepSize) ino at len e = cc
  not_allocated (Some PunchHole) ino at len e = cc
  not_allocated (Some ZeroRange) ino at len e = cc
  not_allocated (Some ZeroWithin) ino at len e = cc

  not_at : (g : ℕ → List Change) → ((ino : ℕ) → g ino ≡ made.Cloned to source from ∷ [] → from + to.len < 2 ^ 63) → (r : Result ℕ Refusal)
      → (elim r as (λ x. List Change) [ Err refusal ↦ [] | Ok ino ↦ g ino ]) ≡ made.Cloned to source from ∷ [] → from + to.len < 2 ^ 63
  not_at g none (Err refusal) e = cc
  not_at g none (Ok ino) e = none ino e

  of_clone : (path : List ℕ) (offset : ℕ) (uuid : List ℕ) (ctransid : ℕ) (clone_path : List ℕ) (at len ino : ℕ) → (blank_step old (Clone path offset uuid ctransid clone_path at len)).refusal ≡ None
      → (b : Bool) → bytes_eq uuid part.key.uuid ≡ b → (q : Result ℕ Refusal) → walk part.subvolume clone_path ≡ q
      → (if b then (elim q as (λ x. List Change) [
        | Err refusal ↦ made.Replaced (range_of part.subvolume ino offset len) ∷ []
        | Ok source ↦ made.Cloned (range_of part.subvolume ino offset len) source at ∷ []
      ]) else made.Replaced (range_of part.subvolume ino offset len) ∷ []) ≡ made.Cloned to source from ∷ [] → from + to.len < 2 ^ 63
  of_clone path offset uuid ctransid clone_path at len ino taken false own q w e = cc
  of_clone path offset uuid ctransid clone_path at len ino taken true own (Err refusal) w e = cc
  of_clone path offset uuid ctransid clone_path at len ino taken true own (Ok found) w e =
      let source_is : found ≡ source = cc in
      let from_is : at ≡ from = cc in
      let range_is : range_of part.subvolume ino offset len ≡ to = cc in
      let len_is : len ≡ to.len = ap (λ (r : FileRange). r.len) range_is in
      let within = clone_within old part path offset uuid ctransid clone_path at len is taken own found w in
      let size_is : size_of part.subvolume found ≡ size_of part.subvolume source = ap (size_of part.subvolume) source_is in
      omega (arith, within, size_is, from_is, len_is, sized)

  cloned_fits : (c : Command) → (blank_step old c).refusal ≡ None → changes_for part c ≡ made.Cloned to source from ∷ [] → from + to.len < 2 ^ 63
  unfolding changes_for
  cloned_fits (Clone path offset uuid ctransid clone_path at len) taken e =
      not_at
      (λ ino. if bytes_eq uuid part.key.uuid then (elim (walk part.subvolume clone_path) as (λ x. List Change) [
        | Err refusal ↦ made.Replaced (range_of part.subvolume ino offset len) ∷ []
        | Ok source ↦ made.Cloned (range_of part.subvolume ino offset len) source at ∷ []
      ]) else made.Replaced (range_of part.subvolume ino offset len) ∷ [])
      (λ ino f. of_clone path offset uuid ctransid clone_path at len ino taken (bytes_eq uuid part.key.uuid) refl (walk part.subvolume clone_path) refl f) (walk part.subvolume path) e
  cloned_fits (Write path offset bytes) taken e = not_at (λ ino. made.Wrote (range_of part.subvolume ino offset (length bytes)) ∷ []) (λ ino f. cc) (walk part.subvolume path) e
  cloned_fits (Truncate size path) taken e = not_at (λ ino. made.Resized ino (size_of part.subvolume ino) size ∷ []) (λ ino f. cc) (walk part.subvolume path) e
  cloned_fits (Fallocate size path offset mode) taken e =
      not_at (λ ino. allocated_changes part.subvolume (allocation_of mode) ino offset size) (λ ino f. not_allocated (allocation_of mode) ino offset size f) (walk part.subvolume path) e
  cloned_fits c taken e = cc

part_fits : (old : State Blank) (part : Part Blank) (c : Command) (change : Change) → old.part ≡ Some part → (blank_step old c).refusal ≡ None → changes_for part c ≡ change ∷ [] → IsSized part.subvolume change → Fits change
part_fits old part c (made.Wrote r) is taken e sized = sized
part_fits old part c (made.Replaced r) is taken e sized = sized
part_fits old part c (made.Cloned to source from) is taken e sized = (sized.0, cloned_fits old part is to source from sized.1 c taken e)
part_fits old part c (made.Resized ino size new) is taken e sized = sized

pub change_fits : (old new : State Blank) (c : Command) (change : Change) → blank_step old c ≡ record { state = new; refusal = None } → changes_at old.part c ≡ change ∷ [] → IfSome old.part (λ part. IsSized part.subvolume change) → Fits change
change_fits old new c change e is sized = one old.part refl is sized
  where
    one : (o : Option (Part Blank)) → old.part ≡ o → changes_at o c ≡ change ∷ [] → IfSome o (λ part. IsSized part.subvolume change) → Fits change
    one None p f z = cc
    one (Some part) p f z = part_fits old part c change p (ap (λ (x : Stepped Blank). x.refusal) e) f z

-- ---- over other cells

module _ {C D : Type 0} (f : C → D) where
  size_same : (s : Subvolume C) (ino : ℕ) → size_of (recelled f s) ino ≡ size_of s ino
  size_same s ino = ap length (cells_of-cells f s ino) ∙ length-map (cells_of s ino) f

  pub sized_same : (s : Subvolume C) (change : Change) → IsSized s change → IsSized (recelled f s) change
  sized_same s (made.Wrote r) z = z
  sized_same s (made.Replaced r) z = z
  sized_same s (made.Cloned to source from) z = (z.0, subst (λ (n : ℕ). n < 2 ^ 63) (sym (size_same s source)) z.1)
  sized_same s (made.Resized ino size new) z = z
