-- Which cells an edit or a clone of a part puts where they did not stand.
use Rattle.std.specs.Prelude.{◌≡◌, ◌⊎◌, ℕ, ◌+◌, ◌-◌, ◌%◌, ◌≤◌, ◌==◌, Bool, true, false, ◌&&◌, List, [], length, Option, None, Some, Ok, nat_le, is_some, is_none, if◌then◌else◌}
use Rattle.std.specs.Ordering.{nat_cmp}
use Rattle.std.specs.Cmp.{nat_cmp_total}
use Rattle.std.proofs.Common.{refl, sym, ap, subst, ◌∙◌, inl, inr}
use Rattle.std.proofs.lemmas.Bool.{cases_eq}
use Rattle.std.proofs.lemmas.Map.Lookups.{exact_unsigned}
use Rattle.send_model.specs.Refusal.{BadPath, NoEntry, NotDirectory, EntryThere, IsDirectory, NotEmpty, IntoItself, NotFile, BadXattr, NoXattr, BadDevice, FileTooBig, BadFallocate, NoNumber}
use Rattle.send_model.specs.Chain.{◌>>◌, refuse_if, found}
use Rattle.send_model.specs.Command.{Subvol, Snapshot, MkFile, MkDir, MkNod, MkFifo, MkSock, Symlink, Rename, Link, Unlink, Rmdir, SetXattr, RemoveXattr, Write, Clone, Truncate, Chmod, Chown, Utimes, End, UpdateExtent, Fallocate, FileAttr}
use Rattle.send_model.specs.Path.{path_names}
use Rattle.send_model.specs.Map.{bytes_cmp, with_value, without}
use Rattle.send_model.specs.Subvolume.{File, SymbolicLink, Fifo, Socket, Inode, Subvolume, Spot, new_inode, new_directory, inode_at, is_directory, is_file, walk, spot, name_count, is_empty_directory}
use Rattle.send_model.specs.Edit.{greatest_end, greatest_number, resized, overwritten, written_at, set_inode, change_inode, add_name, remove_name, remove_inode, add_inode, take_name, at_spot, make, device_kind, make_device, link, unlink, rmdir, lies_below, move_name, can_replace, rename_onto, rename, change_at, is_xattr_name, set_xattr, has_xattr, remove_xattr, set_cells, change_contents, allocation_of, fallocated, fallocate, edit}
use Rattle.send_model.specs.Clone.{cells_of, Cloned, cloned, clone}
use Rattle.send_model.proofs.Fuel.{required, not_refused, tested, bound, ok_same}
use Rattle.send_model.proofs.MapLaws.{with_value-here, with_value-other, without-here, without-other}
use Rattle.send_model.proofs.Rewriting.{changed}
use Rattle.standing_model.specs.Births.{Tagged, untagged}
use Rattle.standing_model.specs.Candidates.{StandsIn, EditsPutTheirs, IsPutByClone, ClonesPutTheirs}
use Rattle.standing_model.proofs.NewCells.{HasAt, at_resized, at_overwritten, at_written, at_fallocated, none_there}

abbrev cells_in : Option (Inode Tagged) → List Tagged
cells_in o = elim o [ None ↦ [] | Some inode ↦ inode.cells ]

cells_are : (s : Subvolume Tagged) (u : ℕ) → cells_of s u ≡ cells_in (inode_at s u)
unfolding cells_of
cells_are s u = refl

none_changed : (x : ℕ) (change : Inode Tagged → Inode Tagged) (s : Subvolume Tagged) → inode_at s x ≡ None → change_inode x change s ≡ s
unfolding change_inode
none_changed x change s e = ap (λ (i : Option (Inode Tagged)). elim i as (λ y. Subvolume Tagged) [ None ↦ s | Some inode ↦ set_inode x (change inode) s ]) e

module _ (cell : Tagged) (u o : ℕ) where
  abbrev Stands : Subvolume Tagged → Type 0
  Stands s = StandsIn cell s u o

  -- By the inode there.
  by_inode : (s : Subvolume Tagged) (i : Option (Inode Tagged)) → inode_at s u ≡ i → Stands s → HasAt cell o (cells_in i)
  by_inode s i e h = subst (λ (xs : List Tagged). HasAt cell o xs) (cells_are s u ∙ ap cells_in e) h

  to_inode : (s : Subvolume Tagged) (i : Option (Inode Tagged)) → inode_at s u ≡ i → HasAt cell o (cells_in i) → Stands s
  to_inode s i e h = subst (λ (xs : List Tagged). HasAt cell o xs) (sym (cells_are s u ∙ ap cells_in e)) h

  -- Where all inodes are the same.
  same_inodes : (s t : Subvolume Tagged) → inode_at t u ≡ inode_at s u → Stands t → Stands s
  same_inodes s t e h = to_inode s (inode_at s u) refl (by_inode t (inode_at s u) e h)

  -- A new value of an inode: its cells, or those of another inode as they were.
  set_there : (x : ℕ) (new : Inode Tagged) (s : Subvolume Tagged) → Stands (set_inode x new s) → ((u ≡ x) × HasAt cell o new.cells) ⊎ Stands s
  set_there x new s h = elim (cases_eq u x) [
    | inl e ↦ inl (e, by_inode (set_inode x new s) (Some new) (ap (inode_at (set_inode x new s)) e ∙ with_value-here nat_cmp nat_cmp_total exact_unsigned x new s.inodes) h)
    | inr n ↦ inr (same_inodes s (set_inode x new s) (with_value-other nat_cmp nat_cmp_total exact_unsigned u x new s.inodes n) h)
  ]

  -- A change of an inode, which leaves its cells or puts others.
  change_there : (R : Type 0) (x : ℕ) (change : Inode Tagged → Inode Tagged) (s : Subvolume Tagged) → ((old : Inode Tagged) → u ≡ x → HasAt cell o (change old).cells → HasAt cell o old.cells ⊎ R)
      → Stands (change_inode x change s) → Stands s ⊎ R
  change_there R x change s keeps h = one (inode_at s x) refl
    where
      one : (i : Option (Inode Tagged)) → inode_at s x ≡ i → Stands s ⊎ R
      one None e = inl (subst Stands (none_changed x change s e) h)
      one (Some old) e = elim (set_there x (change old) s (subst Stands (changed x change s old e) h)) [
        | inl p ↦ elim (keeps old p.0 p.1) [ inl k ↦ inl (to_inode s (Some old) (ap (inode_at s) p.0 ∙ e) k) | inr r ↦ inr r ]
        | inr k ↦ inl k
      ]

  -- ---- changes that put no cells

  keeps_change : (x : ℕ) (change : Inode Tagged → Inode Tagged) (s : Subvolume Tagged) → ((old : Inode Tagged) → (change old).cells ≡ old.cells) → Stands (change_inode x change s) → Stands s
  keeps_change x change s same h = elim (change_there ⊥ x change s (λ old e k. inl (subst (λ (xs : List Tagged). HasAt cell o xs) (same old) k)) h) [ inl k ↦ k | inr none ↦ absurd none ]

  name_added : (place : Spot) (ino : ℕ) (s : Subvolume Tagged) → Stands (add_name place ino s) → Stands s
  name_added place ino s h = same_inodes s (add_name place ino s) refl h

  name_removed : (place : Spot) (s : Subvolume Tagged) → Stands (remove_name place s) → Stands s
  name_removed place s h = same_inodes s (remove_name place s) refl h

  inode_removed : (x : ℕ) (s : Subvolume Tagged) → Stands (remove_inode x s) → Stands s
  inode_removed x s h = elim (cases_eq u x) [
    | inl e ↦ absurd (none_there cell o (by_inode (remove_inode x s) None (ap (inode_at (remove_inode x s)) e ∙ without-here nat_cmp nat_cmp_total exact_unsigned x s.inodes) h))
    | inr n ↦ same_inodes s (remove_inode x s) (without-other nat_cmp nat_cmp_total exact_unsigned u x s.inodes n) h
  ]

  name_taken : (place : Spot) (ino : ℕ) (s : Subvolume Tagged) → Stands (take_name place ino s) → Stands s
  unfolding take_name
  name_taken place ino s h = one (nat_le (name_count s ino) 1) h
    where
      one : (b : Bool) → Stands (if b then remove_inode ino (remove_name place s) else remove_name place s) → Stands s
      one true k = name_removed place s (inode_removed ino (remove_name place s) k)
      one false k = name_removed place s k

  inode_added : (place : Spot) (inode : Inode Tagged) (s : Subvolume Tagged) → inode.cells ≡ [] → Stands (add_inode place inode s) → Stands s
  unfolding add_inode
  inode_added place inode s none h = elim (set_there s.next inode s (same_inodes (set_inode s.next inode s) (add_inode place inode s) refl h)) [
    | inl p ↦ absurd (none_there cell o (subst (λ (xs : List Tagged). HasAt cell o xs) none p.1))
    | inr k ↦ k
  ]

  moved : (from to : Spot) (ino : ℕ) (s : Subvolume Tagged) → Stands (move_name from to ino s) → Stands s
  unfolding move_name
  moved from to ino s h = name_removed from s (name_added to ino (remove_name from s) h)

  -- ---- edits

  module _ (s t : Subvolume Tagged) where
    made : (inode : Inode Tagged) (path : List ℕ) → inode.cells ≡ [] → make inode path s ≡ Ok t → Stands t → Stands s
    unfolding make
    made inode path none e h =
        let a = bound (spot s path) _ t e in
        let b = required (is_none (at_spot s a.0)) EntryThere _ t a.2 in
        let c = not_refused (s.next == greatest_number) NoNumber _ t b.1 in
        inode_added a.0 inode s none (subst Stands (sym (ok_same c.1)) h)

    device_made : (mode rdev : ℕ) (path : List ℕ) → make_device mode rdev path s ≡ Ok t → Stands t → Stands s
    unfolding make_device
    device_made mode rdev path e h = let a = bound (found (device_kind mode) BadDevice) _ t e in made (new_inode a.0 0o600 rdev []) path refl a.2 h

    linked : (path existing : List ℕ) → link path existing s ≡ Ok t → Stands t → Stands s
    unfolding link
    linked path existing e h =
        let a = required (is_some (path_names path)) BadPath _ t e in
        let b = bound (walk s existing) _ t a.1 in
        let c = not_refused (is_directory s b.0) IsDirectory _ t b.2 in
        let d = bound (spot s path) _ t c.1 in
        let f = required (is_none (at_spot s d.0)) EntryThere _ t d.2 in
        name_added d.0 b.0 s (subst Stands (sym (ok_same f.1)) h)

    unlinked : (path : List ℕ) → unlink path s ≡ Ok t → Stands t → Stands s
    unfolding unlink
    unlinked path e h =
        let a = bound (spot s path) _ t e in
        let b = bound (found (at_spot s a.0) NoEntry) _ t a.2 in
        let c = not_refused (is_directory s b.0) IsDirectory _ t b.2 in
        name_taken a.0 b.0 s (subst Stands (sym (ok_same c.1)) h)

    directory_removed : (path : List ℕ) → rmdir path s ≡ Ok t → Stands t → Stands s
    unfolding rmdir
    directory_removed path e h =
        let a = bound (spot s path) _ t e in
        let b = bound (found (at_spot s a.0) NoEntry) _ t a.2 in
        let c = required (is_directory s b.0) NotDirectory _ t b.2 in
        let d = required (is_empty_directory s b.0) NotEmpty _ t c.1 in
        name_taken a.0 b.0 s (subst Stands (sym (ok_same d.1)) h)

    onto : (from to : Spot) (path_to : List ℕ) (ino : ℕ) (there : Option ℕ) → rename_onto from to path_to ino there s ≡ Ok t → Stands t → Stands s
    unfolding rename_onto
    onto from to path_to ino None e h =
        let a = not_refused (is_directory s ino && lies_below s ino path_to) IntoItself _ t e in
        moved from to ino s (subst Stands (sym (ok_same a.1)) h)
    onto from to path_to ino (Some there) e h = one (there == ino) e h
      where
        one : (b : Bool) → (if b then Ok s else (refuse_if (is_directory s ino && lies_below s ino path_to) IntoItself >> (can_replace s ino there >> Ok (move_name from to ino (take_name to there s))))) ≡ Ok t → Stands t → Stands s
        one true q k = subst Stands (sym (ok_same q)) k
        one false q k =
            let a = not_refused (is_directory s ino && lies_below s ino path_to) IntoItself _ t q in
            let b = tested (can_replace s ino there) _ t a.1 in
            name_taken to there s (moved from to ino (take_name to there s) (subst Stands (sym (ok_same b.1)) k))

    renamed : (path path_to : List ℕ) → rename path path_to s ≡ Ok t → Stands t → Stands s
    unfolding rename
    renamed path path_to e h =
        let a = bound (spot s path) _ t e in
        let b = bound (found (at_spot s a.0) NoEntry) _ t a.2 in
        let c = bound (spot s path_to) _ t b.2 in
        onto a.0 c.0 path_to b.0 (at_spot s c.0) c.2 h

    changed_at : (path : List ℕ) (change : Inode Tagged → Inode Tagged) → ((old : Inode Tagged) → (change old).cells ≡ old.cells) → change_at path change s ≡ Ok t → Stands t → Stands s
    unfolding change_at
    changed_at path change same e h = let a = bound (walk s path) _ t e in keeps_change a.0 change s same (subst Stands (sym (ok_same a.2)) h)

    attribute_set : (path name value : List ℕ) → set_xattr path name value s ≡ Ok t → Stands t → Stands s
    unfolding set_xattr
    attribute_set path name value e h =
        let a = bound (walk s path) _ t e in
        let b = required (is_xattr_name name) BadXattr _ t a.2 in
        keeps_change a.0 (λ inode. record inode { xattrs = with_value bytes_cmp name value inode.xattrs }) s (λ old. refl) (subst Stands (sym (ok_same b.1)) h)

    attribute_removed : (path name : List ℕ) → remove_xattr path name s ≡ Ok t → Stands t → Stands s
    unfolding remove_xattr
    attribute_removed path name e h =
        let a = bound (walk s path) _ t e in
        let b = required (is_xattr_name name) BadXattr _ t a.2 in
        let c = required (has_xattr s a.0 name) NoXattr _ t b.1 in
        keeps_change a.0 (λ inode. record inode { xattrs = without bytes_cmp name inode.xattrs }) s (λ old. refl) (subst Stands (sym (ok_same c.1)) h)

    -- A change of contents, which keeps cells where they stand or puts others.
    contents_changed : (R : Type 0) (path : List ℕ) (end : ℕ) (change : List Tagged → List Tagged) → ((cells : List Tagged) → walk s path ≡ Ok u → HasAt cell o (change cells) → HasAt cell o cells ⊎ R)
        → change_contents path end change s ≡ Ok t → Stands t → Stands s ⊎ R
    unfolding change_contents
    contents_changed R path end change keeps e h =
        let a = bound (walk s path) _ t e in
        let b = required (is_file s a.0) NotFile _ t a.2 in
        let c = required (nat_le end greatest_end) FileTooBig _ t b.1 in
        change_there R a.0 (set_cells change) s (λ old same k. keeps old.cells (subst (λ (x : ℕ). walk s path ≡ Ok x) (sym same) a.1) k) (subst Stands (sym (ok_same c.1)) h)

    range_allocated : (path : List ℕ) (offset size mode : ℕ) → fallocate (untagged 0) path offset size mode s ≡ Ok t → Stands t → Stands s
    unfolding fallocate
    range_allocated path offset size mode e h =
        let a = bound (walk s path) _ t e in
        let b = required (is_file s a.0) NotFile _ t a.2 in
        let c = bound (found (allocation_of mode) (BadFallocate mode)) _ t b.1 in
        let d = required (nat_le (offset + size) greatest_end) FileTooBig _ t c.2 in
        elim (change_there ⊥ a.0 (set_cells (fallocated (untagged 0) c.0 offset size)) s (λ old same k. inl (at_fallocated cell c.0 o offset size old.cells k)) (subst Stands (sym (ok_same d.1)) h)) [ inl k ↦ k | inr none ↦ absurd none ]

-- ---- the laws

pub edits_put_theirs : EditsPutTheirs
unfolding edit
edits_put_theirs put (MkFile path) s t e cell u o h = inl (made cell u o s t (new_inode File 0o600 0 []) path refl e h)
edits_put_theirs put (MkDir path) s t e cell u o h = inl (made cell u o s t new_directory path refl e h)
edits_put_theirs put (MkNod mode rdev path) s t e cell u o h = inl (device_made cell u o s t mode rdev path e h)
edits_put_theirs put (MkFifo path) s t e cell u o h = inl (made cell u o s t (new_inode Fifo 0o600 0 []) path refl e h)
edits_put_theirs put (MkSock path) s t e cell u o h = inl (made cell u o s t (new_inode Socket 0o600 0 []) path refl e h)
edits_put_theirs put (Symlink path path_link) s t e cell u o h = inl (made cell u o s t (new_inode SymbolicLink 0o777 0 path_link) path refl e h)
edits_put_theirs put (Rename path path_to) s t e cell u o h = inl (renamed cell u o s t path path_to e h)
edits_put_theirs put (Link path path_link) s t e cell u o h = inl (linked cell u o s t path path_link e h)
edits_put_theirs put (Unlink path) s t e cell u o h = inl (unlinked cell u o s t path e h)
edits_put_theirs put (Rmdir path) s t e cell u o h = inl (directory_removed cell u o s t path e h)
edits_put_theirs put (SetXattr name value path) s t e cell u o h = inl (attribute_set cell u o s t path name value e h)
edits_put_theirs put (RemoveXattr name path) s t e cell u o h = inl (attribute_removed cell u o s t path name e h)
edits_put_theirs put (Write path offset bytes) s t e cell u o h =
    contents_changed cell u o s t ((walk s path ≡ Ok u) × (offset ≤ o) × HasAt cell (o - offset) put) path (offset + length put) (written_at (untagged 0) offset put)
    (λ cells w k. elim (at_written cell o offset put cells k) [ inl a ↦ inl a | inr b ↦ inr (w, b.0, b.1) ]) e h
edits_put_theirs put (Truncate size path) s t e cell u o h =
    elim (contents_changed cell u o s t ⊥ path size (resized (untagged 0) size) (λ cells w k. inl (at_resized cell o size cells k)) e h) [ inl k ↦ inl k | inr none ↦ absurd none ]
edits_put_theirs put (Chmod mode path) s t e cell u o h = inl (changed_at cell u o s t path (λ inode. record inode { mode = mode % 0o10_000 }) (λ old. refl) e h)
edits_put_theirs put (Chown uid gid path) s t e cell u o h = inl (changed_at cell u o s t path (λ inode. record inode { uid = uid; gid = gid }) (λ old. refl) e h)
edits_put_theirs put (Utimes mtime atime path) s t e cell u o h = inl (changed_at cell u o s t path (λ inode. record inode { atime = atime; mtime = mtime }) (λ old. refl) e h)
edits_put_theirs put (UpdateExtent size path offset) s t e cell u o h = inl (subst (λ (x : Subvolume Tagged). StandsIn cell x u o) (sym (ok_same e)) h)
edits_put_theirs put (Fallocate size path offset mode) s t e cell u o h = inl (range_allocated cell u o s t path offset size mode e h)
edits_put_theirs put (FileAttr path flags) s t e cell u o h = inl (changed_at cell u o s t path (λ inode. record inode { flags = flags }) (λ old. refl) e h)
edits_put_theirs put (Subvol uuid ctransid path) s t e cell u o h = inl (subst (λ (x : Subvolume Tagged). StandsIn cell x u o) (sym (ok_same e)) h)
edits_put_theirs put (Snapshot uuid ctransid path clone_uuid clone_ctransid) s t e cell u o h = inl (subst (λ (x : Subvolume Tagged). StandsIn cell x u o) (sym (ok_same e)) h)
edits_put_theirs put (Clone path offset clone_uuid clone_ctransid clone_path clone_offset clone_len) s t e cell u o h = inl (subst (λ (x : Subvolume Tagged). StandsIn cell x u o) (sym (ok_same e)) h)
edits_put_theirs put End s t e cell u o h = inl (subst (λ (x : Subvolume Tagged). StandsIn cell x u o) (sym (ok_same e)) h)

pub clones_put_theirs : ClonesPutTheirs
unfolding clone
clones_put_theirs s source own values t e cell u o h =
    let a = bound (cloned s source own values) (λ range. Ok (change_inode range.ino (set_cells (overwritten (untagged 0) values.offset range.cells)) s)) t e in
    let range : Cloned Tagged = a.0 in
    change_there cell u o (IsPutByClone s source own values cell u o) range.ino (set_cells (overwritten (untagged 0) values.offset range.cells)) s
    (λ old same k. elim (at_overwritten cell o values.offset range.cells old.cells k) [
      | inl b ↦ inl b
      | inr b ↦ inr (record { range = range; made = a.1; file = sym same; low = b.0; there = b.1 })
    ])
    (subst (λ (x : Subvolume Tagged). StandsIn cell x u o) (sym (ok_same a.2)) h)
