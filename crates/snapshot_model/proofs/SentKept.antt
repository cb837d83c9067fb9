-- What sending asks of each inode, all inodes have that edits and clones made.
use Rattle.std.specs.Prelude.{◌≡◌, ℕ, ◌+◌, ◌≤◌, ◌%◌, ◌==◌, Bool, true, false, List, [], ◌∷◌, length, Option, None, Some, Ok, nat_le, if◌then◌else◌}
use Rattle.std.specs.Ordering.{nat_cmp}
use Rattle.std.specs.List.{AllByRecursion}
use Rattle.std.proofs.Common.{refl, sym, ap, subst, ◌∙◌, arith, zero-le}
use Rattle.std.proofs.lemmas.Bool.{leb-true, true≢false}
use Rattle.std.proofs.Math.Nat.{mod-eq_of_lt, mod-lt}
use Rattle.send_model.specs.Refusal.{NotFile, FileTooBig, BadXattr, BadDevice, BadFallocate}
use Rattle.send_model.specs.Chain.{found}
use Rattle.send_model.specs.Command.{Command, MkFile, MkDir, MkNod, MkFifo, MkSock, Symlink, Rename, Link, Unlink, Rmdir, SetXattr, RemoveXattr, Write, Truncate, Chmod, Chown, Utimes, Fallocate, FileAttr}
use Rattle.send_model.specs.Path.{path_names}
use Rattle.send_model.specs.Map.{Map, bytes_cmp, with_value}
use Rattle.send_model.specs.Subvolume.{NodeKind, File, Directory, SymbolicLink, CharacterDevice, BlockDevice, Fifo, Socket, is_file_kind, passes_inode, Inode, Subvolume, new_inode, root_alone, inode_at, is_file, walk}
use Rattle.send_model.specs.Edit.{greatest_end, written_at, overwritten, resized, fallocated, set_inode, change_inode, set_cells, change_contents, set_xattr, is_xattr_name, format_bits, device_kind, make_device, allocation_of, fallocate, edit}
use Rattle.send_model.specs.Clone.{cloned, clone, clone_values}
use Rattle.snapshot_model.specs.SentLaws.{made, IsMade}
use Rattle.send_model.proofs.Fuel.{bound, required, ok_same}
use Rattle.send_model.proofs.Keeping.{all_filtered, all_keys_with, all_values_with, all_found, Has, changed, made_keeps, link_keeps, unlink_keeps, rmdir_keeps, rename_keeps, changed_at, xattr_removed_keeps}
use Rattle.send_model.proofs.LawfulEdits.{written_len, resized_len, overwritten_len, fallocated_len}
use Rattle.send_model.proofs.Redirected.{cloned_facts}

mode_fits : (mode : ℕ) → (mode % 0o10_000) % 0o10_000 ≡ mode % 0o10_000
mode_fits mode = mod-eq_of_lt (mod-lt mode (omega arith))

abbrev pub AnyName : List ℕ → Type 0
AnyName n = Unit {0}

all_any : (names : List (List ℕ)) → AllByRecursion AnyName names
all_any [] = tt
all_any (n ∷ names) = (tt, all_any names)

any_path : (path : List ℕ) (names : List (List ℕ)) → path_names path ≡ Some names → AllByRecursion AnyName names
any_path path names e = all_any names

module _ {C : Type 0} where
  made_same : (k : NodeKind) (a b : Inode C) → b.rdev ≡ a.rdev → b.target ≡ a.target → made k b ≡ made k a
  made_same File a b r t = refl
  made_same Directory a b r t = refl
  made_same SymbolicLink a b r t = ap (λ (n : List ℕ). new_inode SymbolicLink 0o777 0 n) t
  made_same CharacterDevice a b r t = ap (λ (n : ℕ). new_inode CharacterDevice 0o600 n []) r
  made_same BlockDevice a b r t = ap (λ (n : ℕ). new_inode BlockDevice 0o600 n []) r
  made_same Fifo a b r t = refl
  made_same Socket a b r t = refl

  -- A change that leaves kind, device number and target.
  kept : (a b : Inode C) → IsMade a → b.kind ≡ a.kind → b.rdev ≡ a.rdev → b.target ≡ a.target
      → (is_file_kind a.kind ≡ false → b.cells ≡ []) → b.mode % 0o10_000 ≡ b.mode → AllByRecursion (λ e. is_xattr_name e.0 ≡ true) b.xattrs → length b.cells ≤ greatest_end → IsMade b
  kept a b h k r t cells mode attributes size = record {
    rdev = ap (λ (n : NodeKind). (made n b).rdev) k ∙ ap (λ (i : Inode C). i.rdev) (made_same a.kind a b r t) ∙ h.rdev ∙ sym r;
    target = ap (λ (n : NodeKind). (made n b).target) k ∙ ap (λ (i : Inode C). i.target) (made_same a.kind a b r t) ∙ h.target ∙ sym t;
    contents = λ e. cells (sym (ap is_file_kind k) ∙ e);
    mode = mode;
    attributes = attributes;
    size = size;
  }

  -- Other fields change.
  others : (a b : Inode C) → IsMade a → b.kind ≡ a.kind → b.rdev ≡ a.rdev → b.target ≡ a.target → b.cells ≡ a.cells → b.mode % 0o10_000 ≡ b.mode → AllByRecursion (λ e. is_xattr_name e.0 ≡ true) b.xattrs → IsMade b
  others a b h k r t c mode attributes = kept a b h k r t (λ e. c ∙ h.contents e) mode attributes (subst (λ (n : List C). length n ≤ greatest_end) (sym c) h.size)

  -- A file's cells change.
  cells_kept : (a : Inode C) (change : List C → List C) → is_file_kind a.kind ≡ true → length (change a.cells) ≤ greatest_end → IsMade a → IsMade (set_cells change a)
  cells_kept a change file fits h = kept a (set_cells change a) h refl refl refl (λ e. absurd (true≢false (sym file ∙ e))) h.mode h.attributes fits

  new_made : (kind : NodeKind) (inode : Inode C) → IsMade (made kind inode)
  new_made File inode = record { rdev = refl; target = refl; contents = λ e. refl; mode = refl; attributes = tt; size = zero-le }
  new_made Directory inode = record { rdev = refl; target = refl; contents = λ e. refl; mode = refl; attributes = tt; size = zero-le }
  new_made SymbolicLink inode = record { rdev = refl; target = refl; contents = λ e. refl; mode = refl; attributes = tt; size = zero-le }
  new_made CharacterDevice inode = record { rdev = refl; target = refl; contents = λ e. refl; mode = refl; attributes = tt; size = zero-le }
  new_made BlockDevice inode = record { rdev = refl; target = refl; contents = λ e. refl; mode = refl; attributes = tt; size = zero-le }
  new_made Fifo inode = record { rdev = refl; target = refl; contents = λ e. refl; mode = refl; attributes = tt; size = zero-le }
  new_made Socket inode = record { rdev = refl; target = refl; contents = λ e. refl; mode = refl; attributes = tt; size = zero-le }

  abbrev pub AreMade : Subvolume C → Type 0
  AreMade s = Has AnyName IsMade s

  file_changed : (ino : ℕ) (change : Inode C → Inode C) (s : Subvolume C) → is_file s ino ≡ true → ((inode : Inode C) → is_file_kind inode.kind ≡ true → IsMade inode → IsMade (change inode)) → AreMade s → AreMade (change_inode ino change s)
  unfolding change_inode is_file
  file_changed ino change s file keeps h = one (inode_at s ino) refl
    where
      one : (o : Option (Inode C)) → inode_at s ino ≡ o → AreMade (elim o as (λ x. Subvolume C) [ None ↦ s | Some inode ↦ set_inode ino (change inode) s ])
      one None e = h
      one (Some inode) e =
          let is : is_file_kind inode.kind ≡ true = sym (ap (passes_inode (λ (i : Inode C). is_file_kind i.kind)) e) ∙ file in
          record { names = h.names; inodes = all_values_with nat_cmp IsMade ino (change inode) s.inodes (keeps inode is (all_found nat_cmp IsMade ino inode s.inodes h.inodes e)) h.inodes }

  contents_made : (path : List ℕ) (end : ℕ) (change : List C → List C) (s t : Subvolume C) → (nat_le end greatest_end ≡ true → (cells : List C) → length cells ≤ greatest_end → length (change cells) ≤ greatest_end)
      → AreMade s → change_contents path end change s ≡ Ok t → AreMade t
  unfolding change_contents
  contents_made path end change s t fits h e =
      let a = bound (walk s path) _ t e in
      let b = required (is_file s a.0) NotFile _ t a.2 in
      let c = required (nat_le end greatest_end) FileTooBig _ t b.1 in
      subst (λ (u : Subvolume C). AreMade u) (ok_same c.1) (file_changed a.0 (set_cells change) s b.0 (λ inode file is. cells_kept inode change file (fits c.0 inode.cells is.size) is) h)

  fallocate_made : (zero_cell : C) (path : List ℕ) (offset size mode : ℕ) (s t : Subvolume C) → AreMade s → fallocate zero_cell path offset size mode s ≡ Ok t → AreMade t
  unfolding fallocate
  fallocate_made zero_cell path offset size mode s t h e =
      let a = bound (walk s path) _ t e in
      let b = required (is_file s a.0) NotFile _ t a.2 in
      let c = bound (found (allocation_of mode) (BadFallocate mode)) _ t b.1 in
      let d = required (nat_le (offset + size) greatest_end) FileTooBig _ t c.2 in
      subst (λ (u : Subvolume C). AreMade u) (ok_same d.1) (file_changed a.0 (set_cells (fallocated zero_cell c.0 offset size)) s b.0
      (λ inode file is. cells_kept inode (fallocated zero_cell c.0 offset size) file (fallocated_len zero_cell greatest_end c.0 offset size inode.cells (leb-true (offset + size) greatest_end d.0) is.size) is) h)

  xattr_made : (path name value : List ℕ) (s t : Subvolume C) → AreMade s → set_xattr path name value s ≡ Ok t → AreMade t
  unfolding set_xattr
  xattr_made path name value s t h e =
      let a = bound (walk s path) _ t e in
      let b = required (is_xattr_name name) BadXattr _ t a.2 in
      subst (λ (u : Subvolume C). AreMade u) (ok_same b.1) (changed AnyName IsMade a.0 _ s
      (λ inode is. others inode (record inode { xattrs = with_value bytes_cmp name value inode.xattrs }) is refl refl refl refl is.mode (all_keys_with bytes_cmp (λ k. is_xattr_name k ≡ true) name value inode.xattrs b.0 is.attributes)) h)

  device_is : (mode : ℕ) (kind : NodeKind) (rdev : ℕ) → found (device_kind mode) BadDevice ≡ Ok kind → IsMade (new_inode {C = C} kind 0o600 rdev [])
  device_is mode kind rdev e = one (format_bits mode == 0o020_000) (format_bits mode == 0o060_000) e
    where
      one : (b c : Bool) → found (if b then Some CharacterDevice else (if c then Some BlockDevice else None)) BadDevice ≡ Ok kind → IsMade (new_inode {C = C} kind 0o600 rdev [])
      one true c e = subst (λ (k : NodeKind). IsMade (new_inode {C = C} k 0o600 rdev [])) (ok_same e) (new_made CharacterDevice (new_inode CharacterDevice 0o600 rdev []))
      one false true e = subst (λ (k : NodeKind). IsMade (new_inode {C = C} k 0o600 rdev [])) (ok_same e) (new_made BlockDevice (new_inode BlockDevice 0o600 rdev []))
      one false false e = cc

  device_made : (mode rdev : ℕ) (path : List ℕ) (s t : Subvolume C) → AreMade s → make_device mode rdev path s ≡ Ok t → AreMade t
  unfolding make_device
  device_made mode rdev path s t h e =
      let a = bound (found (device_kind mode) BadDevice) _ t e in
      made_keeps AnyName IsMade (new_inode a.0 0o600 rdev []) path s t (any_path path) (device_is mode a.0 rdev a.1) h a.2

  -- Each edit keeps them so.
  pub edit_keeps_made : (zero_cell : C) (put : List C) (c : Command) (s t : Subvolume C) → AreMade s → edit zero_cell put c s ≡ Ok t → AreMade t
  unfolding edit
  edit_keeps_made zero_cell put (MkFile path) s t h e = made_keeps AnyName IsMade _ path s t (any_path path) (new_made File (new_inode File 0 0 [])) h e
  edit_keeps_made zero_cell put (MkDir path) s t h e = made_keeps AnyName IsMade _ path s t (any_path path) (new_made Directory (new_inode File 0 0 [])) h e
  edit_keeps_made zero_cell put (MkNod mode rdev path) s t h e = device_made mode rdev path s t h e
  edit_keeps_made zero_cell put (MkFifo path) s t h e = made_keeps AnyName IsMade _ path s t (any_path path) (new_made Fifo (new_inode File 0 0 [])) h e
  edit_keeps_made zero_cell put (MkSock path) s t h e = made_keeps AnyName IsMade _ path s t (any_path path) (new_made Socket (new_inode File 0 0 [])) h e
  edit_keeps_made zero_cell put (Symlink path path_link) s t h e = made_keeps AnyName IsMade _ path s t (any_path path) (new_made SymbolicLink (new_inode SymbolicLink 0o777 0 path_link)) h e
  edit_keeps_made zero_cell put (Rename path path_to) s t h e = rename_keeps AnyName IsMade path path_to s t (any_path path_to) h e
  edit_keeps_made zero_cell put (Link path path_link) s t h e = link_keeps AnyName IsMade path path_link s t (any_path path) h e
  edit_keeps_made zero_cell put (Unlink path) s t h e = unlink_keeps AnyName IsMade path s t h e
  edit_keeps_made zero_cell put (Rmdir path) s t h e = rmdir_keeps AnyName IsMade path s t h e
  edit_keeps_made zero_cell put (SetXattr name value path) s t h e = xattr_made path name value s t h e
  edit_keeps_made zero_cell put (RemoveXattr name path) s t h e =
      xattr_removed_keeps AnyName IsMade path name s t (λ inode is. others inode (record inode { xattrs = _ }) is refl refl refl refl is.mode (all_filtered (λ x. is_xattr_name x.0 ≡ true) _ inode.xattrs is.attributes)) h e
  edit_keeps_made zero_cell put (Write path offset bytes) s t h e =
      contents_made path (offset + length put) (written_at zero_cell offset put) s t (λ fits cells size. written_len zero_cell greatest_end offset put cells (leb-true (offset + length put) greatest_end fits) size) h e
  edit_keeps_made zero_cell put (Truncate size path) s t h e =
      contents_made path size (resized zero_cell size) s t (λ fits cells short. resized_len zero_cell greatest_end size cells (leb-true size greatest_end fits)) h e
  edit_keeps_made zero_cell put (Chmod mode path) s t h e = changed_at AnyName IsMade path _ s t (λ inode is. others inode (record inode { mode = mode % 0o10_000 }) is refl refl refl refl (mode_fits mode) is.attributes) h e
  edit_keeps_made zero_cell put (Chown uid gid path) s t h e = changed_at AnyName IsMade path _ s t (λ inode is. others inode (record inode { uid = uid; gid = gid }) is refl refl refl refl is.mode is.attributes) h e
  edit_keeps_made zero_cell put (Utimes mtime atime path) s t h e = changed_at AnyName IsMade path _ s t (λ inode is. others inode (record inode { atime = atime; mtime = mtime }) is refl refl refl refl is.mode is.attributes) h e
  edit_keeps_made zero_cell put (Fallocate size path offset mode) s t h e = fallocate_made zero_cell path offset size mode s t h e
  edit_keeps_made zero_cell put (FileAttr path flags) s t h e = changed_at AnyName IsMade path _ s t (λ inode is. others inode (record inode { flags = flags }) is refl refl refl refl is.mode is.attributes) h e
  edit_keeps_made zero_cell put c s t h e = subst (λ (u : Subvolume C). AreMade u) (ok_same e) h

  -- So does a clone.
  pub clone_keeps_made : (zero_cell : C) (part source : Subvolume C) (is_own : Bool) (path : List ℕ) (offset : ℕ) (clone_path : List ℕ) (from len : ℕ) (t : Subvolume C)
      → AreMade part → clone zero_cell part (Some source) is_own (clone_values path offset clone_path from len) ≡ Ok t → AreMade t
  unfolding clone
  clone_keeps_made zero_cell part source is_own path offset clone_path from len t h e =
      let a = bound (cloned part (Some source) is_own (clone_values path offset clone_path from len)) _ t e in
      let f = cloned_facts part source is_own path offset clone_path from len a.0 a.1 in
      let end = leb-true (offset + len) greatest_end f.fits in
      let long = f.length_is in
      subst (λ (u : Subvolume C). AreMade u) (ok_same a.2) (file_changed a.0.ino (set_cells (overwritten zero_cell offset a.0.cells)) part f.file
      (λ inode file is. cells_kept inode (overwritten zero_cell offset a.0.cells) file (overwritten_len zero_cell greatest_end offset a.0.cells inode.cells (omega (arith, end, long)) is.size) is) h)

  pub root_alone_made : AreMade root_alone
  unfolding root_alone
  root_alone_made = record { names = tt; inodes = (new_made Directory (new_inode File 0 0 []), tt) }

pub all_any_names : (m : Map (ℕ × List ℕ) ℕ) → AllByRecursion (λ e. AnyName e.0.1) m
all_any_names [] = tt
all_any_names (e ∷ m) = (tt, all_any_names m)
