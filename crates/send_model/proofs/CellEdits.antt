-- Edits, clones and steps move cells and never look at them: over other cells they are refused
-- alike, and lead to the same subvolumes with those cells in them.
use Rattle.std.specs.Prelude.{◌≡◌, ℕ, ◌+◌, Bool, true, false, not, ◌&&◌, ◌||◌, List, [], map, length, Option, None, Some, Result, Ok, Err, ◌==◌, nat_le, is_some, if◌then◌else◌}
use Rattle.std.specs.Ordering.{nat_cmp}
use Rattle.std.specs.Option.{option_map}
use Rattle.std.specs.List.{list_any}
use Rattle.std.proofs.Common.{refl, sym, ap, ap₂, ◌∙◌}
use Rattle.std.proofs.lemmas.List.{length-map}
use Rattle.send_model.specs.Refusal.{Refusal, NotDirectory, NoEntry, BadDevice, IsDirectory, NotEmpty, IntoItself, NoXattr, NotFile, BadFallocate}
use Rattle.send_model.specs.Chain.{◌>>=◌, ◌>>◌, require, refuse_if, found}
use Rattle.send_model.specs.Command.{Command, MkFile, MkDir, MkNod, MkFifo, MkSock, Symlink, Rename, Link, Unlink, Rmdir, SetXattr, RemoveXattr, Write, Truncate, Chmod, Chown, Utimes, Fallocate, FileAttr}
use Rattle.send_model.specs.Path.{path_names}
use Rattle.send_model.specs.Map.{Map, named_cmp, bytes_cmp, with_value, without, value_at}
use Rattle.send_model.specs.Subvolume.{File, SymbolicLink, Fifo, Socket, Inode, Subvolume, Spot, new_inode, new_directory, root, inode_at, is_directory, walk, spot, inodes_on_way, all_but_last, name_count, is_empty_directory}
use Rattle.send_model.specs.Edit.{make, make_device, device_kind, add_inode, take_name, remove_inode, remove_name, link, unlink, rmdir, rename, rename_onto, can_replace, move_name, lies_below, change_at, set_xattr, remove_xattr, has_xattr, change_contents, set_cells, written_at, resized, allocation_of, fallocated, fallocate, at_spot, edit}
use Rattle.send_model.specs.Provenance.{inode_with}
use Rattle.send_model.specs.Cells.{recelled, recelled_result}
use Rattle.send_model.proofs.CellMaps.{reinode, with_value-map, without-map, inode_at-cells, is_directory-cells, is_file-cells, walk-cells, spot-cells, inodes_on_way-cells, resized-cells, written_at-cells, fallocated-cells, change_inode-cells}

module _ {C D : Type 0} (f : C → D) where
  -- ---- chains

  pub bind_cells : {A : Type 0} (r r' : Result A Refusal) (k : A → Result (Subvolume D) Refusal) (h : A → Result (Subvolume C) Refusal) → r' ≡ r → ((a : A) → k a ≡ recelled_result f (h a)) → (r' >>= k) ≡ recelled_result f (r >>= h)
  bind_cells r r' k h e same = ap (λ (x : Result _ Refusal). x >>= k) e ∙ one r
    where
      one : (x : Result _ Refusal) → (x >>= k) ≡ recelled_result f (x >>= h)
      one (Ok a) = same a
      one (Err refusal) = refl

  pub then_cells : (r r' : Result (Unit {0}) Refusal) (k : Result (Subvolume D) Refusal) (h : Result (Subvolume C) Refusal) → r' ≡ r → k ≡ recelled_result f h → (r' >> k) ≡ recelled_result f (r >> h)
  then_cells r r' k h e same = ap (λ (x : Result (Unit {0}) Refusal). x >> k) e ∙ one r
    where
      one : (x : Result (Unit {0}) Refusal) → (x >> k) ≡ recelled_result f (x >> h)
      one (Ok a) = same
      one (Err refusal) = refl

  ok_cells : (s' : Subvolume D) (s : Subvolume C) → s' ≡ recelled f s → Ok s' ≡ recelled_result f (Ok s)
  ok_cells s' s e = let ok : Subvolume D → Result (Subvolume D) Refusal = λ x. Ok x in ap ok e

  -- ---- changes of names and inodes

  add_inode-cells : (place : Spot) (inode : Inode C) (s : Subvolume C) → add_inode place (reinode f inode) (recelled f s) ≡ recelled f (add_inode place inode s)
  unfolding add_inode
  add_inode-cells place inode s = let at : Map ℕ (Inode D) → Subvolume D = λ m. record { inodes = m; names = with_value named_cmp (place.directory, place.name) s.next s.names; next = s.next + 1 } in
      ap at (with_value-map nat_cmp (reinode f) s.next inode s.inodes)

  take_name-cells : (place : Spot) (ino : ℕ) (s : Subvolume C) → take_name place ino (recelled f s) ≡ recelled f (take_name place ino s)
  unfolding take_name name_count
  take_name-cells place ino s = one (nat_le (name_count s ino) 1)
    where
      one : (b : Bool) → (if b then remove_inode ino (remove_name place (recelled f s)) else remove_name place (recelled f s)) ≡ recelled f (if b then remove_inode ino (remove_name place s) else remove_name place s)
      one true = let at : Map ℕ (Inode D) → Subvolume D = λ m. record { inodes = m; names = without named_cmp (place.directory, place.name) s.names; next = s.next } in ap at (without-map nat_cmp (reinode f) ino s.inodes)
      one false = refl

  -- ---- the edits

  make-cells : (inode : Inode C) (path : List ℕ) (s : Subvolume C) → make (reinode f inode) path (recelled f s) ≡ recelled_result f (make inode path s)
  unfolding make
  make-cells inode path s = bind_cells (spot s path) _ _ _ (spot-cells f s path) (λ place. then_cells _ _ _ _ refl (then_cells _ _ _ _ refl (ok_cells _ _ (add_inode-cells place inode s))))

  make_device-cells : (mode rdev : ℕ) (path : List ℕ) (s : Subvolume C) → make_device mode rdev path (recelled f s) ≡ recelled_result f (make_device mode rdev path s)
  unfolding make_device
  make_device-cells mode rdev path s = bind_cells (found (device_kind mode) BadDevice) _ _ _ refl (λ kind. make-cells (new_inode kind 0o600 rdev []) path s)

  link-cells : (path existing : List ℕ) (s : Subvolume C) → link path existing (recelled f s) ≡ recelled_result f (link path existing s)
  unfolding link
  link-cells path existing s =
      then_cells _ _ _ _ refl (bind_cells (walk s existing) _ _ _ (walk-cells f s existing) (λ ino.
      then_cells _ _ _ _ (ap (λ (b : Bool). refuse_if b IsDirectory) (is_directory-cells f s ino)) (bind_cells (spot s path) _ _ _ (spot-cells f s path) (λ place.
      then_cells _ _ _ _ refl (ok_cells _ _ refl)))))

  unlink-cells : (path : List ℕ) (s : Subvolume C) → unlink path (recelled f s) ≡ recelled_result f (unlink path s)
  unfolding unlink
  unlink-cells path s = bind_cells (spot s path) _ _ _ (spot-cells f s path) (λ place. bind_cells (found (at_spot s place) NoEntry) _ _ _ refl (λ ino.
      then_cells _ _ _ _ (ap (λ (b : Bool). refuse_if b IsDirectory) (is_directory-cells f s ino)) (ok_cells _ _ (take_name-cells place ino s))))

  rmdir-cells : (path : List ℕ) (s : Subvolume C) → rmdir path (recelled f s) ≡ recelled_result f (rmdir path s)
  unfolding rmdir is_empty_directory
  rmdir-cells path s = bind_cells (spot s path) _ _ _ (spot-cells f s path) (λ place. bind_cells (found (at_spot s place) NoEntry) _ _ _ refl (λ ino.
      then_cells _ _ _ _ (ap (λ (b : Bool). require b NotDirectory) (is_directory-cells f s ino)) (then_cells _ _ _ _ refl (ok_cells _ _ (take_name-cells place ino s)))))

  lies_below-cells : (s : Subvolume C) (ino : ℕ) (path : List ℕ) → lies_below (recelled f s) ino path ≡ lies_below s ino path
  unfolding lies_below
  lies_below-cells s ino path = one (path_names path)
    where
      one : (o : Option (List (List ℕ))) → (elim o as (λ x. Bool) [ None ↦ false | Some names ↦ list_any (λ i. i == ino) (inodes_on_way (recelled f s) root (all_but_last names)) ])
          ≡ (elim o as (λ x. Bool) [ None ↦ false | Some names ↦ list_any (λ i. i == ino) (inodes_on_way s root (all_but_last names)) ])
      one None = refl
      one (Some names) = ap (list_any (λ i. i == ino)) (inodes_on_way-cells f s root (all_but_last names))

  can_replace-cells : (s : Subvolume C) (moved there : ℕ) → can_replace (recelled f s) moved there ≡ can_replace s moved there
  unfolding is_empty_directory
  can_replace-cells s moved there = ap₂ (λ (a b : Bool). refuse_if (a && not b) NotDirectory >> (refuse_if (not a && b) IsDirectory >> require (not b || is_empty_directory s there) NotEmpty)) (is_directory-cells f s moved) (is_directory-cells f s there)

  into_itself-cells : (s : Subvolume C) (moved : ℕ) (path : List ℕ) → refuse_if (is_directory (recelled f s) moved && lies_below (recelled f s) moved path) IntoItself ≡ refuse_if (is_directory s moved && lies_below s moved path) IntoItself
  into_itself-cells s moved path = ap₂ (λ (a b : Bool). refuse_if (a && b) IntoItself) (is_directory-cells f s moved) (lies_below-cells s moved path)

  move_name-cells : (from to : Spot) (ino : ℕ) (s' : Subvolume D) (s : Subvolume C) → s' ≡ recelled f s → move_name from to ino s' ≡ recelled f (move_name from to ino s)
  unfolding move_name
  move_name-cells from to ino s' s e = ap (move_name from to ino) e

  rename_onto-cells : (from to : Spot) (path : List ℕ) (moved : ℕ) (there : Option ℕ) (s : Subvolume C) → rename_onto from to path moved there (recelled f s) ≡ recelled_result f (rename_onto from to path moved there s)
  unfolding rename_onto
  rename_onto-cells from to path moved None s = then_cells _ _ _ _ (into_itself-cells s moved path) (ok_cells _ _ (move_name-cells from to moved _ s refl))
  rename_onto-cells from to path moved (Some there) s = one (there == moved)
    where
      one : (b : Bool) → (if b then Ok (recelled f s) else (refuse_if (is_directory (recelled f s) moved && lies_below (recelled f s) moved path) IntoItself >> (can_replace (recelled f s) moved there >> Ok (move_name from to moved (take_name to there (recelled f s))))))
          ≡ recelled_result f (if b then Ok s else (refuse_if (is_directory s moved && lies_below s moved path) IntoItself >> (can_replace s moved there >> Ok (move_name from to moved (take_name to there s)))))
      one true = refl
      one false = then_cells _ _ _ _ (into_itself-cells s moved path) (then_cells _ _ _ _ (can_replace-cells s moved there) (ok_cells _ _ (move_name-cells from to moved _ (take_name to there s) (take_name-cells to there s))))

  rename-cells : (path path_to : List ℕ) (s : Subvolume C) → rename path path_to (recelled f s) ≡ recelled_result f (rename path path_to s)
  unfolding rename
  rename-cells path path_to s = bind_cells (spot s path) _ _ _ (spot-cells f s path) (λ from. bind_cells (found (at_spot s from) NoEntry) _ _ _ refl (λ moved. bind_cells (spot s path_to) _ _ _ (spot-cells f s path_to) (λ to.
      rename_onto-cells from to path_to moved (at_spot s to) s)))

  change_at-cells : (path : List ℕ) (change : Inode C → Inode C) (change' : Inode D → Inode D) (s : Subvolume C) → ((inode : Inode C) → change' (reinode f inode) ≡ reinode f (change inode)) → change_at path change' (recelled f s) ≡ recelled_result f (change_at path change s)
  unfolding change_at
  change_at-cells path change change' s same = bind_cells (walk s path) _ _ _ (walk-cells f s path) (λ ino. ok_cells _ _ (change_inode-cells f ino change change' s same))

  set_xattr-cells : (path name value : List ℕ) (s : Subvolume C) → set_xattr path name value (recelled f s) ≡ recelled_result f (set_xattr path name value s)
  unfolding set_xattr
  set_xattr-cells path name value s = bind_cells (walk s path) _ _ _ (walk-cells f s path) (λ ino. then_cells _ _ _ _ refl (ok_cells _ _ (change_inode-cells f ino _ _ s (λ inode. refl))))

  has_xattr-cells : (s : Subvolume C) (ino : ℕ) (name : List ℕ) → has_xattr (recelled f s) ino name ≡ has_xattr s ino name
  has_xattr-cells s ino name = ap (λ (o : Option (Inode D)). elim o as (λ x. Bool) [ None ↦ false | Some inode ↦ is_some (value_at bytes_cmp name inode.xattrs) ]) (inode_at-cells f s ino) ∙ one (inode_at s ino)
    where
      one : (o : Option (Inode C)) → (elim (option_map (reinode f) o) as (λ x. Bool) [ None ↦ false | Some inode ↦ is_some (value_at bytes_cmp name inode.xattrs) ]) ≡ (elim o as (λ x. Bool) [ None ↦ false | Some inode ↦ is_some (value_at bytes_cmp name inode.xattrs) ])
      one None = refl
      one (Some inode) = refl

  remove_xattr-cells : (path name : List ℕ) (s : Subvolume C) → remove_xattr path name (recelled f s) ≡ recelled_result f (remove_xattr path name s)
  unfolding remove_xattr
  remove_xattr-cells path name s = bind_cells (walk s path) _ _ _ (walk-cells f s path) (λ ino. then_cells _ _ _ _ refl (then_cells _ _ _ _ (ap (λ (b : Bool). require b NoXattr) (has_xattr-cells s ino name)) (ok_cells _ _ (change_inode-cells f ino _ _ s (λ inode. refl)))))

  set_cells-cells : (change : List C → List C) (change' : List D → List D) → ((cells : List C) → change' (map f cells) ≡ map f (change cells)) → (inode : Inode C) → set_cells change' (reinode f inode) ≡ reinode f (set_cells change inode)
  set_cells-cells change change' same inode = let at : List D → Inode D = λ cells. inode_with inode cells in ap at (same inode.cells)

  change_contents-cells : (path : List ℕ) (end : ℕ) (change : List C → List C) (change' : List D → List D) (s : Subvolume C) → ((cells : List C) → change' (map f cells) ≡ map f (change cells)) → change_contents path end change' (recelled f s) ≡ recelled_result f (change_contents path end change s)
  unfolding change_contents
  change_contents-cells path end change change' s same = bind_cells (walk s path) _ _ _ (walk-cells f s path) (λ ino. then_cells _ _ _ _ (ap (λ (b : Bool). require b NotFile) (is_file-cells f s ino)) (then_cells _ _ _ _ refl (ok_cells _ _ (change_inode-cells f ino _ _ s (set_cells-cells change change' same)))))

  fallocate-cells : (x : C) (path : List ℕ) (offset size mode : ℕ) (s : Subvolume C) → fallocate (f x) path offset size mode (recelled f s) ≡ recelled_result f (fallocate x path offset size mode s)
  unfolding fallocate
  fallocate-cells x path offset size mode s =
      bind_cells (walk s path) _ _ _ (walk-cells f s path) (λ ino. then_cells _ _ _ _ (ap (λ (b : Bool). require b NotFile) (is_file-cells f s ino)) (
      bind_cells (found (allocation_of mode) (BadFallocate mode)) _ _ _ refl (λ allocation. then_cells _ _ _ _ refl (
      ok_cells _ _ (change_inode-cells f ino _ _ s (set_cells-cells (fallocated x allocation offset size) (fallocated (f x) allocation offset size) (λ cells. sym (fallocated-cells f x allocation offset size cells))))))))

  pub edit-cells : (x : C) (put : List C) (c : Command) (s : Subvolume C) → edit (f x) (map f put) c (recelled f s) ≡ recelled_result f (edit x put c s)
  unfolding edit
  edit-cells x put (MkFile path) s = make-cells (new_inode File 0o600 0 []) path s
  edit-cells x put (MkDir path) s = make-cells new_directory path s
  edit-cells x put (MkNod mode rdev path) s = make_device-cells mode rdev path s
  edit-cells x put (MkFifo path) s = make-cells (new_inode Fifo 0o600 0 []) path s
  edit-cells x put (MkSock path) s = make-cells (new_inode Socket 0o600 0 []) path s
  edit-cells x put (Symlink path path_link) s = make-cells (new_inode SymbolicLink 0o777 0 path_link) path s
  edit-cells x put (Rename path path_to) s = rename-cells path path_to s
  edit-cells x put (Link path path_link) s = link-cells path path_link s
  edit-cells x put (Unlink path) s = unlink-cells path s
  edit-cells x put (Rmdir path) s = rmdir-cells path s
  edit-cells x put (SetXattr name value path) s = set_xattr-cells path name value s
  edit-cells x put (RemoveXattr name path) s = remove_xattr-cells path name s
  edit-cells x put (Write path offset bytes) s =
      ap (λ (n : ℕ). change_contents path (offset + n) (written_at (f x) offset (map f put)) (recelled f s)) (length-map put f)
      ∙ change_contents-cells path (offset + length put) (written_at x offset put) (written_at (f x) offset (map f put)) s (λ cells. sym (written_at-cells f x offset put cells))
  edit-cells x put (Truncate size path) s = change_contents-cells path size (resized x size) (resized (f x) size) s (λ cells. sym (resized-cells f x size cells))
  edit-cells x put (Chmod mode path) s = change_at-cells path _ _ s (λ inode. refl)
  edit-cells x put (Chown uid gid path) s = change_at-cells path _ _ s (λ inode. refl)
  edit-cells x put (Utimes mtime atime path) s = change_at-cells path _ _ s (λ inode. refl)
  edit-cells x put (Fallocate size path offset mode) s = fallocate-cells x path offset size mode s
  edit-cells x put (FileAttr path flags) s = change_at-cells path _ _ s (λ inode. refl)
  edit-cells x put c s = refl
