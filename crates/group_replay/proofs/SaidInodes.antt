-- Inodes whose values a command can say stay such under edits that can be said, and under clones.
use Rattle.std.specs.Prelude.{◌≡◌, ℕ, ◌+◌, ◌<◌, ◌==◌, ◌^◌, Bool, true, false, ◌&&◌, List, [], ◌∷◌, length, Option, None, Some, Ok, nat_le, is_some, is_none, if◌then◌else◌}
use Rattle.std.specs.declared.cmp.Ordering.{Ordering}
use Rattle.std.specs.declared.cmp.Ordering.TheVariants.{Less, Equal, Greater}
use Rattle.std.specs.Ordering.{nat_cmp}
use Rattle.std.specs.List.{AllByRecursion}
use Rattle.std.specs.FinMap.Entries.{by_order}
use Rattle.std.proofs.Common.{refl, subst, lit<}
use Rattle.send_model.specs.Refusal.{BadPath, NoEntry, NotDirectory, NotFile, BadXattr, NoXattr, BadDevice, FileTooBig, BadFallocate, EntryThere, IsDirectory, NotEmpty, IntoItself, NoNumber}
use Rattle.send_model.specs.Chain.{◌>>◌, refuse_if, found}
use Rattle.send_model.specs.Command.{Command, MkFile, MkDir, MkNod, MkFifo, MkSock, Symlink, Rename, Link, Unlink, Rmdir, SetXattr, RemoveXattr, Write, Truncate, Chmod, Chown, Utimes, Fallocate, FileAttr, row}
use Rattle.send_model.specs.Spelling.{IsSpellable}
use Rattle.send_model.specs.Path.{path_names}
use Rattle.send_model.specs.Map.{Map, bytes_cmp, with_value}
use Rattle.send_model.specs.Subvolume.{NodeKind, Inode, Subvolume, Spot, epoch, new_inode, inode_at, is_directory, is_file, walk, spot, name_count, is_empty_directory, root_alone}
use Rattle.send_model.specs.Edit.{greatest_end, allocation_of, fallocated, set_cells, change_inode, set_inode, add_inode, remove_name, remove_inode, take_name, move_name, at_spot, greatest_number, device_kind, make, make_device, link, unlink, rmdir, lies_below, can_replace, rename_onto, rename, change_at, is_xattr_name, set_xattr, has_xattr, remove_xattr, change_contents, fallocate, edit}
use Rattle.send_model.specs.Exported.{IsMoment}
use Rattle.send_model.specs.Clone.{cloned, clone, clone_values}
use Rattle.send_model.proofs.Fuel.{required, not_refused, tested, bound, ok_same}
use Rattle.send_model.proofs.Keeping.{all_filtered, all_values_with, all_found}
use Rattle.group_replay.specs.Said.{HasLength, IsSaid, AllSaid}

-- ---- values

epoch_said : IsMoment epoch
epoch_said = (lit< tt, lit< tt)

-- The attributes of names, values and targets have a length in either version.
has_room : (b : Bool) (n : ℕ) → ((b && false) ≡ false → n < 2 ^ 16) → n < 2 ^ 16
has_room true n h = h refl
has_room false n h = h refl

abbrev AreSaid : Map (List ℕ) (List ℕ) → Type 0
AreSaid m = AllByRecursion (λ x. HasLength x.0 × HasLength x.1) m

put_said : (name value : List ℕ) (m : Map (List ℕ) (List ℕ)) → HasLength name → HasLength value → AreSaid m → AreSaid (with_value bytes_cmp name value m)
put_said name value [] n v all = ((n, v), tt)
put_said name value (e ∷ m) n v all = one (bytes_cmp name e.0) (put_said name value m n v all.1)
  where
    one : (o : Ordering) → AreSaid (with_value bytes_cmp name value m) → AreSaid (by_order o ((name, value) ∷ e ∷ m) ((e.0, value) ∷ m) (e ∷ with_value bytes_cmp name value m))
    one Less more = ((n, v), (all.0, all.1))
    one Equal more = ((all.0.0, v), all.1)
    one Greater more = (all.0, more)

-- ---- inodes

pub alone_said : (C : Type 0) → AllSaid {C = C} root_alone
unfolding root_alone
alone_said C = (record { mtime = epoch_said; atime = epoch_said; target = lit< tt; xattrs = tt }, tt)

module _ {C : Type 0} where
  made_said : (kind : NodeKind) (mode rdev : ℕ) (target : List ℕ) → HasLength target → IsSaid (new_inode {C = C} kind mode rdev target)
  made_said kind mode rdev target short = record { mtime = epoch_said; atime = epoch_said; target = short; xattrs = tt }

  cells_said : (change : List C → List C) (inode : Inode C) → IsSaid inode → IsSaid (set_cells change inode)
  cells_said change inode h = record { mtime = h.mtime; atime = h.atime; target = h.target; xattrs = h.xattrs }

  -- ---- changes

  changed : (ino : ℕ) (change : Inode C → Inode C) (s : Subvolume C) → ((inode : Inode C) → IsSaid inode → IsSaid (change inode)) → AllSaid s → AllSaid (change_inode ino change s)
  unfolding change_inode
  changed ino change s keeps h = one (inode_at s ino) refl
    where
      one : (o : Option (Inode C)) → inode_at s ino ≡ o → AllSaid (elim o as (λ x. Subvolume C) [ None ↦ s | Some inode ↦ set_inode ino (change inode) s ])
      one None e = h
      one (Some inode) e = all_values_with nat_cmp IsSaid ino (change inode) s.inodes (keeps inode (all_found nat_cmp IsSaid ino inode s.inodes h e)) h

  taken : (place : Spot) (ino : ℕ) (s : Subvolume C) → AllSaid s → AllSaid (take_name place ino s)
  unfolding take_name
  taken place ino s h = one (nat_le (name_count s ino) 1)
    where
      one : (b : Bool) → AllSaid (if b then remove_inode ino (remove_name place s) else remove_name place s)
      one true = all_filtered (λ e. IsSaid e.1) _ s.inodes h
      one false = h

  moved : (from to : Spot) (ino : ℕ) (s : Subvolume C) → AllSaid s → AllSaid (move_name from to ino s)
  unfolding move_name
  moved from to ino s h = h

  -- ---- edits

  made_keeps : (inode : Inode C) (path : List ℕ) (s t : Subvolume C) → IsSaid inode → AllSaid s → make inode path s ≡ Ok t → AllSaid t
  unfolding make add_inode
  made_keeps inode path s t new h e =
      let a = bound (spot s path) _ t e in
      let b = required (is_none (at_spot s a.0)) EntryThere _ t a.2 in
      let c = not_refused (s.next == greatest_number) NoNumber _ t b.1 in
      subst (λ (u : Subvolume C). AllSaid u) (ok_same c.1) (all_values_with nat_cmp IsSaid s.next inode s.inodes new h)

  device_keeps : (mode rdev : ℕ) (path : List ℕ) (s t : Subvolume C) → AllSaid s → make_device mode rdev path s ≡ Ok t → AllSaid t
  unfolding make_device
  device_keeps mode rdev path s t h e =
      let a = bound (found (device_kind mode) BadDevice) _ t e in
      made_keeps (new_inode a.0 0o600 rdev []) path s t (made_said a.0 0o600 rdev [] (lit< tt)) h a.2

  link_keeps : (path existing : List ℕ) (s t : Subvolume C) → AllSaid s → link path existing s ≡ Ok t → AllSaid t
  unfolding link
  link_keeps path existing s t h e =
      let a = required (is_some (path_names path)) BadPath _ t e in
      let b = bound (walk s existing) _ t a.1 in
      let c = not_refused (is_directory s b.0) IsDirectory _ t b.2 in
      let d = bound (spot s path) _ t c.1 in
      let f = required (is_none (at_spot s d.0)) EntryThere _ t d.2 in
      subst (λ (u : Subvolume C). AllSaid u) (ok_same f.1) h

  unlink_keeps : (path : List ℕ) (s t : Subvolume C) → AllSaid s → unlink path s ≡ Ok t → AllSaid t
  unfolding unlink
  unlink_keeps path s t h e =
      let a = bound (spot s path) _ t e in
      let b = bound (found (at_spot s a.0) NoEntry) _ t a.2 in
      let c = not_refused (is_directory s b.0) IsDirectory _ t b.2 in
      subst (λ (u : Subvolume C). AllSaid u) (ok_same c.1) (taken a.0 b.0 s h)

  rmdir_keeps : (path : List ℕ) (s t : Subvolume C) → AllSaid s → rmdir path s ≡ Ok t → AllSaid t
  unfolding rmdir
  rmdir_keeps path s t h e =
      let a = bound (spot s path) _ t e in
      let b = bound (found (at_spot s a.0) NoEntry) _ t a.2 in
      let c = required (is_directory s b.0) NotDirectory _ t b.2 in
      let d = required (is_empty_directory s b.0) NotEmpty _ t c.1 in
      subst (λ (u : Subvolume C). AllSaid u) (ok_same d.1) (taken a.0 b.0 s h)

  renamed_onto : (from to : Spot) (path_to : List ℕ) (ino : ℕ) (there : Option ℕ) (s t : Subvolume C) → AllSaid s → rename_onto from to path_to ino there s ≡ Ok t → AllSaid t
  unfolding rename_onto
  renamed_onto from to path_to ino None s t h e =
      let a = not_refused (is_directory s ino && lies_below s ino path_to) IntoItself _ t e in
      subst (λ (u : Subvolume C). AllSaid u) (ok_same a.1) (moved from to ino s h)
  renamed_onto from to path_to ino (Some there) s t h e = one (there == ino) e
    where
      one : (b : Bool) → (if b then Ok s else (refuse_if (is_directory s ino && lies_below s ino path_to) IntoItself >> (can_replace s ino there >> Ok (move_name from to ino (take_name to there s))))) ≡ Ok t → AllSaid t
      one true q = subst (λ (u : Subvolume C). AllSaid u) (ok_same q) h
      one false q =
          let a = not_refused (is_directory s ino && lies_below s ino path_to) IntoItself _ t q in
          let b = tested (can_replace s ino there) _ t a.1 in
          subst (λ (u : Subvolume C). AllSaid u) (ok_same b.1) (moved from to ino (take_name to there s) (taken to there s h))

  rename_keeps : (path path_to : List ℕ) (s t : Subvolume C) → AllSaid s → rename path path_to s ≡ Ok t → AllSaid t
  unfolding rename
  rename_keeps path path_to s t h e =
      let a = bound (spot s path) _ t e in
      let b = bound (found (at_spot s a.0) NoEntry) _ t a.2 in
      let c = bound (spot s path_to) _ t b.2 in
      renamed_onto a.0 c.0 path_to b.0 (at_spot s c.0) s t h c.2

  changed_at : (path : List ℕ) (change : Inode C → Inode C) (s t : Subvolume C) → ((inode : Inode C) → IsSaid inode → IsSaid (change inode)) → AllSaid s → change_at path change s ≡ Ok t → AllSaid t
  unfolding change_at
  changed_at path change s t keeps h e =
      let a = bound (walk s path) _ t e in
      subst (λ (u : Subvolume C). AllSaid u) (ok_same a.2) (changed a.0 change s keeps h)

  xattr_set_keeps : (path name value : List ℕ) (s t : Subvolume C) → HasLength name → HasLength value → AllSaid s → set_xattr path name value s ≡ Ok t → AllSaid t
  unfolding set_xattr
  xattr_set_keeps path name value s t n v h e =
      let a = bound (walk s path) _ t e in
      let b = required (is_xattr_name name) BadXattr _ t a.2 in
      subst (λ (u : Subvolume C). AllSaid u) (ok_same b.1)
      (changed a.0 _ s (λ inode i. record { mtime = i.mtime; atime = i.atime; target = i.target; xattrs = put_said name value inode.xattrs n v i.xattrs }) h)

  xattr_removed_keeps : (path name : List ℕ) (s t : Subvolume C) → AllSaid s → remove_xattr path name s ≡ Ok t → AllSaid t
  unfolding remove_xattr
  xattr_removed_keeps path name s t h e =
      let a = bound (walk s path) _ t e in
      let b = required (is_xattr_name name) BadXattr _ t a.2 in
      let c = required (has_xattr s a.0 name) NoXattr _ t b.1 in
      subst (λ (u : Subvolume C). AllSaid u) (ok_same c.1)
      (changed a.0 _ s (λ inode i. record { mtime = i.mtime; atime = i.atime; target = i.target; xattrs = all_filtered (λ x. HasLength x.0 × HasLength x.1) _ inode.xattrs i.xattrs }) h)

  contents_keep : (path : List ℕ) (end : ℕ) (change : List C → List C) (s t : Subvolume C) → AllSaid s → change_contents path end change s ≡ Ok t → AllSaid t
  unfolding change_contents
  contents_keep path end change s t h e =
      let a = bound (walk s path) _ t e in
      let b = required (is_file s a.0) NotFile _ t a.2 in
      let c = required (nat_le end greatest_end) FileTooBig _ t b.1 in
      subst (λ (u : Subvolume C). AllSaid u) (ok_same c.1) (changed a.0 (set_cells change) s (cells_said change) h)

  fallocate_keeps : (zero_cell : C) (path : List ℕ) (offset size mode : ℕ) (s t : Subvolume C) → AllSaid s → fallocate zero_cell path offset size mode s ≡ Ok t → AllSaid t
  unfolding fallocate
  fallocate_keeps zero_cell path offset size mode s t h e =
      let a = bound (walk s path) _ t e in
      let b = required (is_file s a.0) NotFile _ t a.2 in
      let c = bound (found (allocation_of mode) (BadFallocate mode)) _ t b.1 in
      let d = required (nat_le (offset + size) greatest_end) FileTooBig _ t c.2 in
      subst (λ (u : Subvolume C). AllSaid u) (ok_same d.1) (changed a.0 (set_cells (fallocated zero_cell c.0 offset size)) s (cells_said _) h)

  -- What an edit makes that can be said.
  pub edit_said : (version : ℕ) (zero_cell : C) (put : List C) (c : Command) (s t : Subvolume C) → IsSpellable version c → AllSaid s → edit zero_cell put c s ≡ Ok t → AllSaid t
  unfolding edit row
  edit_said version zero_cell put (MkFile path) s t k h e = made_keeps _ path s t (made_said _ _ _ _ (lit< tt)) h e
  edit_said version zero_cell put (MkDir path) s t k h e = made_keeps _ path s t (made_said _ _ _ _ (lit< tt)) h e
  edit_said version zero_cell put (MkNod mode rdev path) s t k h e = device_keeps mode rdev path s t h e
  edit_said version zero_cell put (MkFifo path) s t k h e = made_keeps _ path s t (made_said _ _ _ _ (lit< tt)) h e
  edit_said version zero_cell put (MkSock path) s t k h e = made_keeps _ path s t (made_said _ _ _ _ (lit< tt)) h e
  edit_said version zero_cell put (Symlink path path_link) s t k h e = let v = k.values in made_keeps _ path s t (made_said _ _ _ path_link (has_room (version == 2) (length path_link) v.1.0.0)) h e
  edit_said version zero_cell put (Rename path path_to) s t k h e = rename_keeps path path_to s t h e
  edit_said version zero_cell put (Link path path_link) s t k h e = link_keeps path path_link s t h e
  edit_said version zero_cell put (Unlink path) s t k h e = unlink_keeps path s t h e
  edit_said version zero_cell put (Rmdir path) s t k h e = rmdir_keeps path s t h e
  edit_said version zero_cell put (SetXattr name value path) s t k h e =
      let v = k.values in
      xattr_set_keeps path name value s t (has_room (version == 2) (length name) v.0.0) (has_room (version == 2) (length value) v.1.0.0) h e
  edit_said version zero_cell put (RemoveXattr name path) s t k h e = xattr_removed_keeps path name s t h e
  edit_said version zero_cell put (Write path offset bytes) s t k h e = contents_keep path _ _ s t h e
  edit_said version zero_cell put (Truncate size path) s t k h e = contents_keep path _ _ s t h e
  edit_said version zero_cell put (Chmod mode path) s t k h e = changed_at path _ s t (λ inode i. record { mtime = i.mtime; atime = i.atime; target = i.target; xattrs = i.xattrs }) h e
  edit_said version zero_cell put (Chown uid gid path) s t k h e = changed_at path _ s t (λ inode i. record { mtime = i.mtime; atime = i.atime; target = i.target; xattrs = i.xattrs }) h e
  edit_said version zero_cell put (Utimes mtime atime path) s t k h e =
      let v = k.values in
      changed_at path _ s t (λ inode i. record { mtime = v.0; atime = v.1.0; target = i.target; xattrs = i.xattrs }) h e
  edit_said version zero_cell put (Fallocate size path offset mode) s t k h e = fallocate_keeps zero_cell path offset size mode s t h e
  edit_said version zero_cell put (FileAttr path flags) s t k h e = changed_at path _ s t (λ inode i. record { mtime = i.mtime; atime = i.atime; target = i.target; xattrs = i.xattrs }) h e
  edit_said version zero_cell put c s t k h e = subst (λ (u : Subvolume C). AllSaid u) (ok_same e) h

  -- And what a clone makes.
  pub clone_said : (zero_cell : C) (part : Subvolume C) (source : Option (Subvolume C)) (is_own : Bool) (path : List ℕ) (offset : ℕ) (clone_path : List ℕ) (from len : ℕ) (t : Subvolume C)
      → AllSaid part → clone zero_cell part source is_own (clone_values path offset clone_path from len) ≡ Ok t → AllSaid t
  unfolding clone
  clone_said zero_cell part source is_own path offset clone_path from len t h e =
      let a = bound (cloned part source is_own (clone_values path offset clone_path from len)) _ t e in
      subst (λ (u : Subvolume C). AllSaid u) (ok_same a.2) (changed a.0.ino _ part (cells_said _) h)
