-- What holds of each name and of each inode of a subvolume still holds after an edit or a clone,
-- where it holds of new ones and each change of an inode keeps it.
use Rattle.std.specs.Prelude.{◌≡◌, ℕ, ◌+◌, ◌%◌, ◌==◌, Bool, true, false, cond, ◌&&◌, List, [], ◌∷◌, length, filter, Option, None, Some, Ok, nat_le, is_some, is_none, if◌then◌else◌}
use Rattle.std.specs.declared.cmp.Ordering.{Ordering}
use Rattle.std.specs.declared.cmp.Ordering.TheVariants.{Less, Equal, Greater}
use Rattle.std.specs.Ordering.{nat_cmp, eq_by_cmp}
use Rattle.std.specs.List.{AllByRecursion}
use Rattle.std.specs.FinMap.Entries.{by_order}
use Rattle.std.proofs.Common.{refl, ap, subst}
use Rattle.send_model.specs.Refusal.{BadPath, NoEntry, IsRoot, NotDirectory, NotFile, BadXattr, NoXattr, BadDevice, FileTooBig, BadFallocate, EntryThere, IsDirectory, NotEmpty, IntoItself, NoNumber}
use Rattle.send_model.specs.Chain.{◌>>◌, refuse_if, found}
use Rattle.send_model.specs.Attribute.{Time}
use Rattle.send_model.specs.Command.{Command, MkFile, MkDir, MkNod, MkFifo, MkSock, Symlink, Rename, Link, Unlink, Rmdir, SetXattr, RemoveXattr, Write, Truncate, Chmod, Chown, Utimes, Fallocate, FileAttr}
use Rattle.send_model.specs.Path.{path_names}
use Rattle.send_model.specs.Map.{Map, bytes_cmp, named_cmp, value_at, with_value, without}
use Rattle.send_model.specs.Subvolume.{NodeKind, Inode, Subvolume, Spot, new_inode, root, inode_at, is_directory, is_file, walk_names, walk, spot, last_name, all_but_last, name_count, is_empty_directory}
use Rattle.send_model.specs.Edit.{greatest_end, written_at, resized, overwritten, Allocation, allocation_of, fallocated, set_cells, change_inode, set_inode, add_name, add_inode, remove_name, remove_inode, take_name, move_name, at_spot, greatest_number, device_kind, make, make_device, link, unlink, rmdir, lies_below, can_replace, rename_onto, rename, change_at, is_xattr_name, set_xattr, has_xattr, remove_xattr, change_contents, fallocate, edit}
use Rattle.send_model.specs.Clone.{Cloned, cloned, clone, clone_values}
use Rattle.send_model.proofs.Fuel.{required, not_refused, tested, bound, ok_same}
use Rattle.send_model.proofs.Sorts.{same_inside}
use Rattle.send_model.proofs.Sound.{found_is}

-- ---- entries

pub all_filtered : {A : Type 0} (P : A → Type 0) (test : A → Bool) (xs : List A) → AllByRecursion P xs → AllByRecursion P (filter test xs)
all_filtered P test [] all = tt
all_filtered P test (x ∷ xs) all = one (test x) (all_filtered P test xs all.1)
  where
    one : (b : Bool) → AllByRecursion P (filter test xs) → AllByRecursion P (cond b (x ∷ filter test xs) (filter test xs))
    one true more = (all.0, more)
    one false more = more

module _ {K X : Type 0} (order : K → K → Ordering) where
  pub all_keys_with : (P : K → Type 0) (k : K) (x : X) (m : Map K X) → P k → AllByRecursion (λ e. P e.0) m → AllByRecursion (λ e. P e.0) (with_value order k x m)
  all_keys_with P k x [] own all = (own, tt)
  all_keys_with P k x (e ∷ m) own all = one (order k e.0) (all_keys_with P k x m own all.1)
    where
      one : (o : Ordering) → AllByRecursion (λ e. P e.0) (with_value order k x m) → AllByRecursion (λ e. P e.0) (by_order o ((k, x) ∷ e ∷ m) ((e.0, x) ∷ m) (e ∷ with_value order k x m))
      one Less more = (own, (all.0, all.1))
      one Equal more = (all.0, all.1)
      one Greater more = (all.0, more)

  pub all_values_with : (P : X → Type 0) (k : K) (x : X) (m : Map K X) → P x → AllByRecursion (λ e. P e.1) m → AllByRecursion (λ e. P e.1) (with_value order k x m)
  all_values_with P k x [] own all = (own, tt)
  all_values_with P k x (e ∷ m) own all = one (order k e.0) (all_values_with P k x m own all.1)
    where
      one : (o : Ordering) → AllByRecursion (λ e. P e.1) (with_value order k x m) → AllByRecursion (λ e. P e.1) (by_order o ((k, x) ∷ e ∷ m) ((e.0, x) ∷ m) (e ∷ with_value order k x m))
      one Less more = (own, (all.0, all.1))
      one Equal more = (own, all.1)
      one Greater more = (all.0, more)

  pub all_found : (P : X → Type 0) (k : K) (x : X) (m : Map K X) → AllByRecursion (λ e. P e.1) m → value_at order k m ≡ Some x → P x
  all_found P k x [] all e = cc
  all_found P k x (f ∷ m) all e = one (eq_by_cmp order k f.0) (λ q. all_found P k x m all.1 q) e
    where
      one : (b : Bool) → (value_at order k m ≡ Some x → P x) → cond b (Some f.1) (value_at order k m) ≡ Some x → P x
      one true more q = subst P (same_inside q) all.0
      one false more q = more q

-- ---- subvolumes

-- The path under which a command makes a name; none, as that of the root, where it makes none.
abbrev pub new_path : Command → List ℕ
new_path (MkFile path) = path
new_path (MkDir path) = path
new_path (MkNod mode rdev path) = path
new_path (MkFifo path) = path
new_path (MkSock path) = path
new_path (Symlink path path_link) = path
new_path (Link path path_link) = path
new_path (Rename path path_to) = path_to
new_path c = []

-- The names of a path.
abbrev pub NamesAre : (List ℕ → Type 0) → List ℕ → Type 0
NamesAre N path = (names : List (List ℕ)) → path_names path ≡ Some names → AllByRecursion N names

module _ {C : Type 0} (N : List ℕ → Type 0) (X : Inode C → Type 0) where
  pub record Has (s : Subvolume C) : Type 0 where
    pub names : AllByRecursion (λ e. N e.0.1) s.names
    pub inodes : AllByRecursion (λ e. X e.1) s.inodes

  -- What is kept by each new inode and each change that an edit makes, where a WRITE puts the given
  -- cells and UTIMES sets its times.
  pub record KeepsInodes (zero_cell : C) (put : List C) (c : Command) : Type 0 where
    pub made : (kind : NodeKind) (mode rdev : ℕ) (target : List ℕ) → X (new_inode kind mode rdev target)
    pub xattr_set : (name value : List ℕ) (inode : Inode C) → X inode → X (record inode { xattrs = with_value bytes_cmp name value inode.xattrs })
    pub xattr_removed : (name : List ℕ) (inode : Inode C) → X inode → X (record inode { xattrs = without bytes_cmp name inode.xattrs })
    pub written : (offset : ℕ) (inode : Inode C) → nat_le (offset + length put) greatest_end ≡ true → X inode → X (set_cells (written_at zero_cell offset put) inode)
    pub cut : (size : ℕ) (inode : Inode C) → nat_le size greatest_end ≡ true → X inode → X (set_cells (resized zero_cell size) inode)
    pub allocated : (allocation : Allocation) (offset size : ℕ) (inode : Inode C) → nat_le (offset + size) greatest_end ≡ true → X inode → X (set_cells (fallocated zero_cell allocation offset size) inode)
    pub mode_set : (mode : ℕ) (inode : Inode C) → X inode → X (record inode { mode = mode % 0o10_000 })
    pub owner_set : (uid gid : ℕ) (inode : Inode C) → X inode → X (record inode { uid = uid; gid = gid })
    pub times_set : (mtime atime : Time) (path : List ℕ) → c ≡ Utimes mtime atime path → (inode : Inode C) → X inode → X (record inode { atime = atime; mtime = mtime })
    pub flags_set : (flags : ℕ) (inode : Inode C) → X inode → X (record inode { flags = flags })

  -- ---- changes

  pub changed : (ino : ℕ) (change : Inode C → Inode C) (s : Subvolume C) → ((inode : Inode C) → X inode → X (change inode)) → Has s → Has (change_inode ino change s)
  unfolding change_inode
  changed ino change s keeps h = one (inode_at s ino) refl
    where
      one : (o : Option (Inode C)) → inode_at s ino ≡ o → Has (elim o as (λ x. Subvolume C) [ None ↦ s | Some inode ↦ set_inode ino (change inode) s ])
      one None e = h
      one (Some inode) e = record { names = h.names; inodes = all_values_with nat_cmp X ino (change inode) s.inodes (keeps inode (all_found nat_cmp X ino inode s.inodes h.inodes e)) h.inodes }

  named : (place : Spot) (ino : ℕ) (s : Subvolume C) → N place.name → Has s → Has (add_name place ino s)
  named place ino s own h = record { names = all_keys_with named_cmp (λ k. N k.1) (place.directory, place.name) ino s.names own h.names; inodes = h.inodes }

  taken : (place : Spot) (ino : ℕ) (s : Subvolume C) → Has s → Has (take_name place ino s)
  unfolding take_name
  taken place ino s h = one (nat_le (name_count s ino) 1)
    where
      fewer : AllByRecursion (λ e. N e.0.1) (without named_cmp (place.directory, place.name) s.names)
      fewer = all_filtered (λ e. N e.0.1) _ s.names h.names

      one : (b : Bool) → Has (if b then remove_inode ino (remove_name place s) else remove_name place s)
      one true = record { names = fewer; inodes = all_filtered (λ e. X e.1) _ s.inodes h.inodes }
      one false = record { names = fewer; inodes = h.inodes }

  moved : (from to : Spot) (ino : ℕ) (s : Subvolume C) → N to.name → Has s → Has (move_name from to ino s)
  unfolding move_name
  moved from to ino s own h = named to ino (remove_name from s) own (record { names = all_filtered (λ e. N e.0.1) _ s.names h.names; inodes = h.inodes })

  -- ---- places

  last_of : (names : List (List ℕ)) (name : List ℕ) → AllByRecursion N names → last_name names ≡ Some name → N name
  last_of [] name all e = cc
  last_of (n ∷ []) name all e = subst N (same_inside e) all.0
  last_of (n ∷ m ∷ names) name all e = last_of (m ∷ names) name all.1 e

  spot_name : (s : Subvolume C) (path : List ℕ) (place : Spot) → NamesAre N path → spot s path ≡ Ok place → N place.name
  unfolding spot
  spot_name s path place are e =
      let a = bound (found (path_names path) BadPath) _ place e in
      let b = bound (found (last_name a.0) IsRoot) _ place a.2 in
      let c = bound (walk_names s root (all_but_last a.0)) _ place b.2 in
      let d = required (is_directory s c.0) NotDirectory _ place c.2 in
      subst N (ap (λ (p : Spot). p.name) (ok_same d.1)) (last_of a.0 b.0 (are a.0 (found_is (path_names path) BadPath a.0 a.1)) (found_is (last_name a.0) IsRoot b.0 b.1))

  -- ---- edits

  pub made_keeps : (inode : Inode C) (path : List ℕ) (s t : Subvolume C) → NamesAre N path → X inode → Has s → make inode path s ≡ Ok t → Has t
  unfolding make add_inode
  made_keeps inode path s t are new h e =
      let a = bound (spot s path) _ t e in
      let b = required (is_none (at_spot s a.0)) EntryThere _ t a.2 in
      let c = not_refused (s.next == greatest_number) NoNumber _ t b.1 in
      subst (λ (u : Subvolume C). Has u) (ok_same c.1) (record {
        names = all_keys_with named_cmp (λ k. N k.1) (a.0.directory, a.0.name) s.next s.names (spot_name s path a.0 are a.1) h.names;
        inodes = all_values_with nat_cmp X s.next inode s.inodes new h.inodes;
      })

  pub device_keeps : (mode rdev : ℕ) (path : List ℕ) (s t : Subvolume C) → NamesAre N path → ((kind : NodeKind) → X (new_inode kind 0o600 rdev [])) → Has s → make_device mode rdev path s ≡ Ok t → Has t
  unfolding make_device
  device_keeps mode rdev path s t are new h e =
      let a = bound (found (device_kind mode) BadDevice) _ t e in
      made_keeps (new_inode a.0 0o600 rdev []) path s t are (new a.0) h a.2

  pub link_keeps : (path existing : List ℕ) (s t : Subvolume C) → NamesAre N path → Has s → link path existing s ≡ Ok t → Has t
  unfolding link
  link_keeps path existing s t are h e =
      let a = required (is_some (path_names path)) BadPath _ t e in
      let b = bound (walk s existing) _ t a.1 in
      let c = not_refused (is_directory s b.0) IsDirectory _ t b.2 in
      let d = bound (spot s path) _ t c.1 in
      let f = required (is_none (at_spot s d.0)) EntryThere _ t d.2 in
      subst (λ (u : Subvolume C). Has u) (ok_same f.1) (named d.0 b.0 s (spot_name s path d.0 are d.1) h)

  pub unlink_keeps : (path : List ℕ) (s t : Subvolume C) → Has s → unlink path s ≡ Ok t → Has t
  unfolding unlink
  unlink_keeps path s t h e =
      let a = bound (spot s path) _ t e in
      let b = bound (found (at_spot s a.0) NoEntry) _ t a.2 in
      let c = not_refused (is_directory s b.0) IsDirectory _ t b.2 in
      subst (λ (u : Subvolume C). Has u) (ok_same c.1) (taken a.0 b.0 s h)

  pub rmdir_keeps : (path : List ℕ) (s t : Subvolume C) → Has s → rmdir path s ≡ Ok t → Has t
  unfolding rmdir
  rmdir_keeps path s t h e =
      let a = bound (spot s path) _ t e in
      let b = bound (found (at_spot s a.0) NoEntry) _ t a.2 in
      let c = required (is_directory s b.0) NotDirectory _ t b.2 in
      let d = required (is_empty_directory s b.0) NotEmpty _ t c.1 in
      subst (λ (u : Subvolume C). Has u) (ok_same d.1) (taken a.0 b.0 s h)

  renamed_onto : (from to : Spot) (path_to : List ℕ) (ino : ℕ) (there : Option ℕ) (s t : Subvolume C) → N to.name → Has s → rename_onto from to path_to ino there s ≡ Ok t → Has t
  unfolding rename_onto
  renamed_onto from to path_to ino None s t own h e =
      let a = not_refused (is_directory s ino && lies_below s ino path_to) IntoItself _ t e in
      subst (λ (u : Subvolume C). Has u) (ok_same a.1) (moved from to ino s own h)
  renamed_onto from to path_to ino (Some there) s t own h e = one (there == ino) e
    where
      one : (b : Bool) → (if b then Ok s else (refuse_if (is_directory s ino && lies_below s ino path_to) IntoItself >> (can_replace s ino there >> Ok (move_name from to ino (take_name to there s))))) ≡ Ok t → Has t
      one true q = subst (λ (u : Subvolume C). Has u) (ok_same q) h
      one false q =
          let a = not_refused (is_directory s ino && lies_below s ino path_to) IntoItself _ t q in
          let b = tested (can_replace s ino there) _ t a.1 in
          subst (λ (u : Subvolume C). Has u) (ok_same b.1) (moved from to ino (take_name to there s) own (taken to there s h))

  pub rename_keeps : (path path_to : List ℕ) (s t : Subvolume C) → NamesAre N path_to → Has s → rename path path_to s ≡ Ok t → Has t
  unfolding rename
  rename_keeps path path_to s t are h e =
      let a = bound (spot s path) _ t e in
      let b = bound (found (at_spot s a.0) NoEntry) _ t a.2 in
      let c = bound (spot s path_to) _ t b.2 in
      renamed_onto a.0 c.0 path_to b.0 (at_spot s c.0) s t (spot_name s path_to c.0 are c.1) h c.2

  pub changed_at : (path : List ℕ) (change : Inode C → Inode C) (s t : Subvolume C) → ((inode : Inode C) → X inode → X (change inode)) → Has s → change_at path change s ≡ Ok t → Has t
  unfolding change_at
  changed_at path change s t keeps h e =
      let a = bound (walk s path) _ t e in
      subst (λ (u : Subvolume C). Has u) (ok_same a.2) (changed a.0 change s keeps h)

  pub xattr_set_keeps : (path name value : List ℕ) (s t : Subvolume C) → ((inode : Inode C) → X inode → X (record inode { xattrs = with_value bytes_cmp name value inode.xattrs })) → Has s → set_xattr path name value s ≡ Ok t → Has t
  unfolding set_xattr
  xattr_set_keeps path name value s t keeps h e =
      let a = bound (walk s path) _ t e in
      let b = required (is_xattr_name name) BadXattr _ t a.2 in
      subst (λ (u : Subvolume C). Has u) (ok_same b.1) (changed a.0 _ s keeps h)

  pub xattr_removed_keeps : (path name : List ℕ) (s t : Subvolume C) → ((inode : Inode C) → X inode → X (record inode { xattrs = without bytes_cmp name inode.xattrs })) → Has s → remove_xattr path name s ≡ Ok t → Has t
  unfolding remove_xattr
  xattr_removed_keeps path name s t keeps h e =
      let a = bound (walk s path) _ t e in
      let b = required (is_xattr_name name) BadXattr _ t a.2 in
      let c = required (has_xattr s a.0 name) NoXattr _ t b.1 in
      subst (λ (u : Subvolume C). Has u) (ok_same c.1) (changed a.0 _ s keeps h)

  pub contents_keep : (path : List ℕ) (end : ℕ) (change : List C → List C) (s t : Subvolume C) → (nat_le end greatest_end ≡ true → (inode : Inode C) → X inode → X (set_cells change inode)) → Has s → change_contents path end change s ≡ Ok t → Has t
  unfolding change_contents
  contents_keep path end change s t keeps h e =
      let a = bound (walk s path) _ t e in
      let b = required (is_file s a.0) NotFile _ t a.2 in
      let c = required (nat_le end greatest_end) FileTooBig _ t b.1 in
      subst (λ (u : Subvolume C). Has u) (ok_same c.1) (changed a.0 (set_cells change) s (keeps c.0) h)

  pub fallocate_keeps : (zero_cell : C) (path : List ℕ) (offset size mode : ℕ) (s t : Subvolume C)
      → ((allocation : Allocation) → nat_le (offset + size) greatest_end ≡ true → (inode : Inode C) → X inode → X (set_cells (fallocated zero_cell allocation offset size) inode)) → Has s → fallocate zero_cell path offset size mode s ≡ Ok t → Has t
  unfolding fallocate
  fallocate_keeps zero_cell path offset size mode s t keeps h e =
      let a = bound (walk s path) _ t e in
      let b = required (is_file s a.0) NotFile _ t a.2 in
      let c = bound (found (allocation_of mode) (BadFallocate mode)) _ t b.1 in
      let d = required (nat_le (offset + size) greatest_end) FileTooBig _ t c.2 in
      subst (λ (u : Subvolume C). Has u) (ok_same d.1) (changed a.0 (set_cells (fallocated zero_cell c.0 offset size)) s (keeps c.0 d.0) h)

  -- What an edit makes of a subvolume has what the subvolume has.
  pub edit_keeps : (zero_cell : C) (put : List C) (c : Command) (s t : Subvolume C) → KeepsInodes zero_cell put c → NamesAre N (new_path c) → Has s → edit zero_cell put c s ≡ Ok t → Has t
  unfolding edit
  edit_keeps zero_cell put (MkFile path) s t k are h e = made_keeps _ path s t are (k.made _ _ _ _) h e
  edit_keeps zero_cell put (MkDir path) s t k are h e = made_keeps _ path s t are (k.made _ _ _ _) h e
  edit_keeps zero_cell put (MkNod mode rdev path) s t k are h e = device_keeps mode rdev path s t are (λ kind. k.made kind _ _ _) h e
  edit_keeps zero_cell put (MkFifo path) s t k are h e = made_keeps _ path s t are (k.made _ _ _ _) h e
  edit_keeps zero_cell put (MkSock path) s t k are h e = made_keeps _ path s t are (k.made _ _ _ _) h e
  edit_keeps zero_cell put (Symlink path path_link) s t k are h e = made_keeps _ path s t are (k.made _ _ _ _) h e
  edit_keeps zero_cell put (Rename path path_to) s t k are h e = rename_keeps path path_to s t are h e
  edit_keeps zero_cell put (Link path path_link) s t k are h e = link_keeps path path_link s t are h e
  edit_keeps zero_cell put (Unlink path) s t k are h e = unlink_keeps path s t h e
  edit_keeps zero_cell put (Rmdir path) s t k are h e = rmdir_keeps path s t h e
  edit_keeps zero_cell put (SetXattr name value path) s t k are h e = xattr_set_keeps path name value s t (k.xattr_set name value) h e
  edit_keeps zero_cell put (RemoveXattr name path) s t k are h e = xattr_removed_keeps path name s t (k.xattr_removed name) h e
  edit_keeps zero_cell put (Write path offset bytes) s t k are h e = contents_keep path _ _ s t (λ fits inode. k.written offset inode fits) h e
  edit_keeps zero_cell put (Truncate size path) s t k are h e = contents_keep path _ _ s t (λ fits inode. k.cut size inode fits) h e
  edit_keeps zero_cell put (Chmod mode path) s t k are h e = changed_at path _ s t (k.mode_set mode) h e
  edit_keeps zero_cell put (Chown uid gid path) s t k are h e = changed_at path _ s t (k.owner_set uid gid) h e
  edit_keeps zero_cell put (Utimes mtime atime path) s t k are h e = changed_at path _ s t (k.times_set mtime atime path refl) h e
  edit_keeps zero_cell put (Fallocate size path offset mode) s t k are h e = fallocate_keeps zero_cell path offset size mode s t (λ allocation fits inode. k.allocated allocation offset size inode fits) h e
  edit_keeps zero_cell put (FileAttr path flags) s t k are h e = changed_at path _ s t (k.flags_set flags) h e
  edit_keeps zero_cell put c s t k are h e = subst (λ (u : Subvolume C). Has u) (ok_same e) h

  -- So has what a clone makes of it, where the cells that it puts keep each inode.
  pub clone_keeps : (zero_cell : C) (part : Subvolume C) (source : Option (Subvolume C)) (is_own : Bool) (path : List ℕ) (offset : ℕ) (clone_path : List ℕ) (from len : ℕ) (t : Subvolume C)
      → ((range : Cloned C) → cloned part source is_own (clone_values path offset clone_path from len) ≡ Ok range → (inode : Inode C) → X inode → X (set_cells (overwritten zero_cell offset range.cells) inode)) → Has part
      → clone zero_cell part source is_own (clone_values path offset clone_path from len) ≡ Ok t → Has t
  unfolding clone
  clone_keeps zero_cell part source is_own path offset clone_path from len t keeps h e =
      let a = bound (cloned part source is_own (clone_values path offset clone_path from len)) _ t e in
      subst (λ (u : Subvolume C). Has u) (ok_same a.2) (changed a.0.ino _ part (keeps a.0 a.1) h)
