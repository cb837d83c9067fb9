-- Names, walks and changes of inodes do not look at cells.
use Rattle.std.specs.Prelude.{◌≡◌, ℕ, zero, suc, ◌+◌, ◌-◌, Bool, true, false, cond, not, List, [], ◌∷◌, ◌++◌, map, length, take, drop, replicate, Option, None, Some, Result, Ok}
use Rattle.std.specs.declared.cmp.Ordering.{Ordering}
use Rattle.std.specs.declared.cmp.Ordering.TheVariants.{Less, Equal, Greater}
use Rattle.std.specs.Ordering.{nat_cmp, eq_by_cmp}
use Rattle.std.specs.Option.{option_map}
use Rattle.std.specs.FinMap.Entries.{by_order}
use Rattle.std.proofs.Common.{refl, sym, ap, ap₂, ◌∙◌}
use Rattle.std.proofs.lemmas.List.{take-map, drop-map, map-append, length-map}
use Rattle.send_model.specs.Refusal.{Refusal, NotDirectory, NoEntry, BadPath, IsRoot}
use Rattle.send_model.specs.Chain.{◌>>=◌, ◌>>◌, require, found}
use Rattle.send_model.specs.Path.{path_names}
use Rattle.send_model.specs.Map.{Map, value_at, with_value, without}
use Rattle.send_model.specs.Subvolume.{Inode, Subvolume, root, inode_at, named, passes_inode, is_directory_kind, is_file_kind, is_directory, is_file, walk_names, walk, spot, last_name, all_but_last, inodes_on_way}
use Rattle.send_model.specs.Edit.{filled, resized, overwritten, written_at, Allocation, Lengthen, KeepSize, PunchHole, ZeroRange, ZeroWithin, zeroed, allocated, fallocated, set_inode, change_inode}
use Rattle.send_model.specs.Provenance.{inode_with}
use Rattle.send_model.specs.Cells.{recelled}

-- ---- maps whose values are changed

module _ {K X Y : Type 0} (order : K → K → Ordering) (g : X → Y) where
  valued : Map K X → Map K Y
  valued m = map (λ e. (e.0, g e.1)) m

  pub value_at-map : (k : K) (m : Map K X) → value_at order k (map (λ e. (e.0, g e.1)) m) ≡ option_map g (value_at order k m)
  value_at-map k [] = refl
  value_at-map k (e ∷ m) = one (eq_by_cmp order k e.0) (value_at-map k m)
    where
      one : (b : Bool) → value_at order k (map (λ x. (x.0, g x.1)) m) ≡ option_map g (value_at order k m) → cond b (Some (g e.1)) (value_at order k (map (λ x. (x.0, g x.1)) m)) ≡ option_map g (cond b (Some e.1) (value_at order k m))
      one true more = refl
      one false more = more

  pub with_value-map : (k : K) (x : X) (m : Map K X) → with_value order k (g x) (map (λ e. (e.0, g e.1)) m) ≡ map (λ e. (e.0, g e.1)) (with_value order k x m)
  with_value-map k x [] = refl
  with_value-map k x (e ∷ m) = one (order k e.0) (with_value-map k x m)
    where
      one : (o : Ordering) → with_value order k (g x) (map (λ y. (y.0, g y.1)) m) ≡ map (λ y. (y.0, g y.1)) (with_value order k x m)
          → by_order o ((k, g x) ∷ (e.0, g e.1) ∷ map (λ y. (y.0, g y.1)) m) ((e.0, g x) ∷ map (λ y. (y.0, g y.1)) m) ((e.0, g e.1) ∷ with_value order k (g x) (map (λ y. (y.0, g y.1)) m))
          ≡ map (λ y. (y.0, g y.1)) (by_order o ((k, x) ∷ e ∷ m) ((e.0, x) ∷ m) (e ∷ with_value order k x m))
      one Less more = refl
      one Equal more = refl
      one Greater more = ap (λ (r : Map K Y). (e.0, g e.1) ∷ r) more

  pub without-map : (k : K) (m : Map K X) → without order k (map (λ e. (e.0, g e.1)) m) ≡ map (λ e. (e.0, g e.1)) (without order k m)
  without-map k [] = refl
  without-map k (e ∷ m) = one (not (eq_by_cmp order k e.0)) (without-map k m)
    where
      one : (b : Bool) → without order k (map (λ y. (y.0, g y.1)) m) ≡ map (λ y. (y.0, g y.1)) (without order k m)
          → cond b ((e.0, g e.1) ∷ without order k (map (λ y. (y.0, g y.1)) m)) (without order k (map (λ y. (y.0, g y.1)) m)) ≡ map (λ y. (y.0, g y.1)) (cond b (e ∷ without order k m) (without order k m))
      one true more = ap (λ (r : Map K Y). (e.0, g e.1) ∷ r) more
      one false more = more

-- ---- walks

module _ {C D : Type 0} (f : C → D) where
  abbrev pub reinode : Inode C → Inode D
  reinode inode = inode_with inode (map f inode.cells)

  pub inode_at-cells : (s : Subvolume C) (ino : ℕ) → inode_at (recelled f s) ino ≡ option_map reinode (inode_at s ino)
  inode_at-cells s ino = value_at-map nat_cmp reinode ino s.inodes

  directory_cells : (o : Option (Inode C)) → passes_inode (λ inode. is_directory_kind inode.kind) (option_map reinode o) ≡ passes_inode (λ inode. is_directory_kind inode.kind) o
  directory_cells None = refl
  directory_cells (Some inode) = refl

  file_cells : (o : Option (Inode C)) → passes_inode (λ inode. is_file_kind inode.kind) (option_map reinode o) ≡ passes_inode (λ inode. is_file_kind inode.kind) o
  file_cells None = refl
  file_cells (Some inode) = refl

  pub is_directory-cells : (s : Subvolume C) (ino : ℕ) → is_directory (recelled f s) ino ≡ is_directory s ino
  unfolding is_directory
  is_directory-cells s ino = ap (passes_inode (λ inode. is_directory_kind inode.kind)) (inode_at-cells s ino) ∙ directory_cells (inode_at s ino)

  pub is_file-cells : (s : Subvolume C) (ino : ℕ) → is_file (recelled f s) ino ≡ is_file s ino
  unfolding is_file
  is_file-cells s ino = ap (passes_inode (λ inode. is_file_kind inode.kind)) (inode_at-cells s ino) ∙ file_cells (inode_at s ino)

  pub walk_names-cells : (s : Subvolume C) (ino : ℕ) (names : List (List ℕ)) → walk_names (recelled f s) ino names ≡ walk_names s ino names
  unfolding walk_names
  walk_names-cells s ino [] = refl
  walk_names-cells s ino (name ∷ rest) =
      ap₂ (λ (b : Bool) (below : ℕ → Result ℕ Refusal). require b NotDirectory >> (found (named s ino name) NoEntry >>= below)) (is_directory-cells s ino) (λ i below. walk_names-cells s below rest i)

  pub walk-cells : (s : Subvolume C) (path : List ℕ) → walk (recelled f s) path ≡ walk s path
  unfolding walk
  walk-cells s path = ap (λ (walked : List (List ℕ) → Result ℕ Refusal). found (path_names path) BadPath >>= walked) (λ i names. walk_names-cells s root names i)

  pub spot-cells : (s : Subvolume C) (path : List ℕ) → spot (recelled f s) path ≡ spot s path
  unfolding spot
  spot-cells s path =
      ap₂ (λ (walked : List (List ℕ) → Result ℕ Refusal) (is_dir : ℕ → Bool). found (path_names path) BadPath >>= λ names. found (last_name names) IsRoot >>= λ name. walked names >>= λ directory. require (is_dir directory) NotDirectory >> Ok (record { directory = directory; name = name }))
      (λ i names. walk_names-cells s root (all_but_last names) i) (λ i directory. is_directory-cells s directory i)

  pub inodes_on_way-cells : (s : Subvolume C) (ino : ℕ) (names : List (List ℕ)) → inodes_on_way (recelled f s) ino names ≡ inodes_on_way s ino names
  unfolding inodes_on_way
  inodes_on_way-cells s ino [] = refl
  inodes_on_way-cells s ino (name ∷ rest) = one (named s ino name) (λ below. inodes_on_way-cells s below rest)
    where
      one : (o : Option ℕ) → ((below : ℕ) → inodes_on_way (recelled f s) below rest ≡ inodes_on_way s below rest)
          → (elim o as (λ x. List ℕ) [ None ↦ ino ∷ [] | Some below ↦ ino ∷ inodes_on_way (recelled f s) below rest ]) ≡ (elim o as (λ x. List ℕ) [ None ↦ ino ∷ [] | Some below ↦ ino ∷ inodes_on_way s below rest ])
      one None more = refl
      one (Some below) more = ap (λ (r : List ℕ). ino ∷ r) (more below)

  -- ---- lists of cells

  map-replicate : (n : ℕ) (x : C) → map f (replicate n x) ≡ replicate n (f x)
  map-replicate zero x = refl
  map-replicate (suc n) x = ap (λ (r : List D). f x ∷ r) (map-replicate n x)

  pub filled-cells : (x : C) (size : ℕ) (cells : List C) → map f (filled x size cells) ≡ filled (f x) size (map f cells)
  filled-cells x size cells = map-append f cells _ ∙ ap (λ (r : List D). map f cells ++ r) (map-replicate (size - length cells) x ∙ ap (λ (n : ℕ). replicate (size - n) (f x)) (sym (length-map cells f)))

  pub resized-cells : (x : C) (size : ℕ) (cells : List C) → map f (resized x size cells) ≡ resized (f x) size (map f cells)
  unfolding resized
  resized-cells x size cells = sym (take-map f size (filled x size cells)) ∙ ap (take size) (filled-cells x size cells)

  pub overwritten-cells : (x : C) (offset : ℕ) (new cells : List C) → map f (overwritten x offset new cells) ≡ overwritten (f x) offset (map f new) (map f cells)
  unfolding overwritten
  overwritten-cells x offset new cells =
      map-append f (take offset (filled x offset cells) ++ new) (drop (offset + length new) cells)
      ∙ ap₂ (λ (a b : List D). a ++ b)
      (map-append f (take offset (filled x offset cells)) new ∙ ap (λ (r : List D). r ++ map f new) (sym (take-map f offset (filled x offset cells)) ∙ ap (take offset) (filled-cells x offset cells)))
      (sym (drop-map f (offset + length new) cells) ∙ ap (λ (n : ℕ). drop (offset + n) (map f cells)) (sym (length-map new f)))

  pub written_at-cells : (x : C) (offset : ℕ) (new cells : List C) → map f (written_at x offset new cells) ≡ written_at (f x) offset (map f new) (map f cells)
  unfolding written_at
  written_at-cells x offset [] cells = refl
  written_at-cells x offset (c ∷ new) cells = overwritten-cells x offset (c ∷ new) cells

  all_same : (x : C) (cells : List C) → map f (map (λ c. x) cells) ≡ map (λ d. f x) (map f cells)
  all_same x [] = refl
  all_same x (c ∷ cells) = ap (λ (r : List D). f x ∷ r) (all_same x cells)

  zeroed-cells : (x : C) (offset size : ℕ) (cells : List C) → map f (zeroed x offset size cells) ≡ zeroed (f x) offset size (map f cells)
  zeroed-cells x offset size cells =
      let range : List C = take size (drop offset cells) in
      let zeros : List C = map (λ c. x) range in
      let range_is : map f range ≡ take size (drop offset (map f cells)) = sym (take-map f size (drop offset cells)) ∙ ap (take size) (sym (drop-map f offset cells)) in
      map-append f (take offset cells ++ zeros) (drop (offset + size) cells)
      ∙ ap₂ (λ (a b : List D). a ++ b)
      (map-append f (take offset cells) zeros ∙ ap₂ (λ (a b : List D). a ++ b) (sym (take-map f offset cells)) (all_same x range ∙ ap (map (λ d. f x)) range_is))
      (sym (drop-map f (offset + size) cells))

  allocated-cells : (x : C) (allocation : Allocation) (offset size : ℕ) (cells : List C) → map f (allocated x allocation offset size cells) ≡ allocated (f x) allocation offset size (map f cells)
  allocated-cells x Lengthen offset size cells = filled-cells x (offset + size) cells
  allocated-cells x KeepSize offset size cells = refl
  allocated-cells x PunchHole offset size cells = zeroed-cells x offset size cells
  allocated-cells x ZeroRange offset size cells = written_at-cells x offset (replicate size x) cells ∙ ap (λ (new : List D). written_at (f x) offset new (map f cells)) (map-replicate size x)
  allocated-cells x ZeroWithin offset size cells = zeroed-cells x offset size cells

  pub fallocated-cells : (x : C) (allocation : Allocation) (offset size : ℕ) (cells : List C) → map f (fallocated x allocation offset size cells) ≡ fallocated (f x) allocation offset size (map f cells)
  unfolding fallocated
  fallocated-cells x allocation offset zero cells = refl
  fallocated-cells x allocation offset (suc size) cells = allocated-cells x allocation offset (suc size) cells

  -- ---- changes

  change_on : (ino : ℕ) (change : Inode C → Inode C) (change' : Inode D → Inode D) (s : Subvolume C) → ((inode : Inode C) → change' (reinode inode) ≡ reinode (change inode)) → (o : Option (Inode C))
      → (elim (option_map reinode o) as (λ x. Subvolume D) [ None ↦ recelled f s | Some inode ↦ set_inode ino (change' inode) (recelled f s) ]) ≡ recelled f (elim o as (λ x. Subvolume C) [ None ↦ s | Some inode ↦ set_inode ino (change inode) s ])
  change_on ino change change' s same None = refl
  change_on ino change change' s same (Some inode) = let at : Map ℕ (Inode D) → Subvolume D = λ m. record { inodes = m; names = s.names; next = s.next } in
      ap at (ap (λ (x : Inode D). with_value nat_cmp ino x (recelled f s).inodes) (same inode) ∙ with_value-map nat_cmp reinode ino (change inode) s.inodes)

  pub change_inode-cells : (ino : ℕ) (change : Inode C → Inode C) (change' : Inode D → Inode D) (s : Subvolume C) → ((inode : Inode C) → change' (reinode inode) ≡ reinode (change inode)) → change_inode ino change' (recelled f s) ≡ recelled f (change_inode ino change s)
  unfolding change_inode
  change_inode-cells ino change change' s same = ap (λ (o : Option (Inode D)). elim o as (λ x. Subvolume D) [ None ↦ recelled f s | Some inode ↦ set_inode ino (change' inode) (recelled f s) ]) (inode_at-cells s ino) ∙ change_on ino change change' s same (inode_at s ino)
