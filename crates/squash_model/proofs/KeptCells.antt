-- An edit that is not of contents leaves the cells of each inode that is there afterwards; what is
-- new has none.
use Rattle.std.specs.Prelude.{◌≡◌, ◌⊎◌, ℕ, ◌<◌, ◌≤◌, ◌==◌, Bool, true, false, ◌&&◌, List, [], Option, None, Some, Result, Ok, nat_le, is_some, is_none, if◌then◌else◌}
use Rattle.std.specs.Ordering.{nat_cmp}
use Rattle.std.specs.Cmp.{nat_cmp_total}
use Rattle.std.proofs.Common.{refl, sym, ap, subst, ◌∙◌, arith, inl, inr}
use Rattle.std.proofs.lemmas.Bool.{cases_eq, true≢false}
use Rattle.std.proofs.lemmas.Map.Lookups.{exact_unsigned}
use Rattle.send_model.specs.Refusal.{Refusal, BadPath, NoEntry, NotDirectory, EntryThere, IsDirectory, NotEmpty, IntoItself, BadXattr, NoXattr, BadDevice, NoNumber}
use Rattle.send_model.specs.Chain.{◌>>◌, refuse_if, found}
use Rattle.send_model.specs.Command.{Command, Subvol, Snapshot, MkFile, MkDir, MkNod, MkFifo, MkSock, Symlink, Rename, Link, Unlink, Rmdir, SetXattr, RemoveXattr, Write, Clone, Truncate, Chmod, Chown, Utimes, End, UpdateExtent, Fallocate, FileAttr}
use Rattle.send_model.specs.Path.{path_names}
use Rattle.send_model.specs.Subvolume.{Inode, Subvolume, Spot, IsSound, inode_at, is_directory, walk, spot, is_empty_directory, name_count, new_inode}
use Rattle.send_model.specs.Edit.{make, make_device, device_kind, add_inode, take_name, remove_inode, remove_name, add_name, link, unlink, rmdir, rename, rename_onto, can_replace, move_name, lies_below, change_at, change_inode, set_inode, set_xattr, remove_xattr, has_xattr, is_xattr_name, at_spot, greatest_number, edit}
use Rattle.send_model.specs.Clone.{cells_of}
use Rattle.send_model.proofs.Fuel.{required, not_refused, tested, bound, ok_same}
use Rattle.send_model.proofs.MapLaws.{with_value-here, with_value-other, without-here, without-other}

abbrev pub changes_contents : Command → Bool
changes_contents (Write path offset bytes) = true
changes_contents (Truncate size path) = true
changes_contents (Fallocate size path offset mode) = true
changes_contents c = false

module _ {C : Type 0} where
  pub cells_by : (s t : Subvolume C) (i : ℕ) → inode_at t i ≡ inode_at s i → cells_of t i ≡ cells_of s i
  unfolding cells_of
  cells_by s t i e = ap (λ (o : Option (Inode C)). elim o as (λ x. List C) [ None ↦ [] | Some inode ↦ inode.cells ]) e

  pub cells_at : (s : Subvolume C) (i : ℕ) (o : Option (Inode C)) → inode_at s i ≡ o → cells_of s i ≡ (elim o as (λ x. List C) [ None ↦ [] | Some inode ↦ inode.cells ])
  unfolding cells_of
  cells_at s i o e = ap (λ (x : Option (Inode C)). elim x as (λ y. List C) [ None ↦ [] | Some inode ↦ inode.cells ]) e

  pub record Kept (s t : Subvolume C) : Type 0 where
    pub cells : (i : ℕ) → is_some (inode_at t i) ≡ true → cells_of t i ≡ cells_of s i
    pub there : (i : ℕ) → is_some (inode_at t i) ≡ true → (is_some (inode_at s i) ≡ true) ⊎ (s.next ≤ i)
    pub next : s.next ≤ t.next

  same_inodes : (s t : Subvolume C) → ((i : ℕ) → inode_at t i ≡ inode_at s i) → s.next ≤ t.next → Kept s t
  same_inodes s t e n = record { cells = λ i h. cells_by s t i (e i); there = λ i h. inl (ap is_some (sym (e i)) ∙ h); next = n }

  kept_on : (s t u : Subvolume C) → Kept s t → ((i : ℕ) → inode_at u i ≡ inode_at t i) → t.next ≤ u.next → Kept s u
  kept_on s t u k e n =
      let low = k.next in
      record {
        cells = λ i h. cells_by t u i (e i) ∙ k.cells i (ap is_some (sym (e i)) ∙ h);
        there = λ i h. k.there i (ap is_some (sym (e i)) ∙ h);
        next = omega (arith, low, n);
      }

  taken_kept : (place : Spot) (x : ℕ) (s : Subvolume C) → Kept s (take_name place x s)
  unfolding take_name
  taken_kept place x s = one (nat_le (name_count s x) 1)
    where
      gone : (i : ℕ) → is_some (inode_at (remove_inode x (remove_name place s)) i) ≡ true → inode_at (remove_inode x (remove_name place s)) i ≡ inode_at s i
      gone i h = elim (cases_eq i x) [
        | inl e ↦ absurd (let none = subst (λ (j : ℕ). is_some (inode_at (remove_inode x (remove_name place s)) j) ≡ true) e h in
            let empty = ap is_some (without-here nat_cmp nat_cmp_total exact_unsigned x s.inodes) in true≢false (sym none ∙ empty))
        | inr n ↦ without-other nat_cmp nat_cmp_total exact_unsigned i x s.inodes n
      ]

      one : (b : Bool) → Kept s (if b then remove_inode x (remove_name place s) else remove_name place s)
      one true = record {
        cells = λ i h. cells_by s (remove_inode x (remove_name place s)) i (gone i h);
        there = λ i h. inl (ap is_some (sym (gone i h)) ∙ h);
        next = omega arith;
      }
      one false = same_inodes s (remove_name place s) (λ i. refl) (omega arith)

  changed_kept : (x : ℕ) (change : Inode C → Inode C) (s : Subvolume C) → ((inode : Inode C) → (change inode).cells ≡ inode.cells) → Kept s (change_inode x change s)
  unfolding change_inode
  changed_kept x change s same = one (inode_at s x) refl
    where
      two : (inode : Inode C) → inode_at s x ≡ Some inode → Kept s (set_inode x (change inode) s)
      two inode e = record {
        cells = λ i h. elim (cases_eq i x) [
          | inl q ↦ subst (λ (j : ℕ). cells_of (set_inode x (change inode) s) j ≡ cells_of s j) (sym q)
              (cells_at (set_inode x (change inode) s) x (Some (change inode)) (with_value-here nat_cmp nat_cmp_total exact_unsigned x (change inode) s.inodes) ∙ same inode ∙ sym (cells_at s x (Some inode) e))
          | inr n ↦ cells_by s (set_inode x (change inode) s) i (with_value-other nat_cmp nat_cmp_total exact_unsigned i x (change inode) s.inodes n)
        ];
        there = λ i h. elim (cases_eq i x) [
          | inl q ↦ inl (ap (λ (j : ℕ). is_some (inode_at s j)) q ∙ ap is_some e)
          | inr n ↦ inl (ap is_some (sym (with_value-other nat_cmp nat_cmp_total exact_unsigned i x (change inode) s.inodes n)) ∙ h)
        ];
        next = omega arith;
      }

      one : (o : Option (Inode C)) → inode_at s x ≡ o → Kept s (elim o as (λ y. Subvolume C) [ None ↦ s | Some inode ↦ set_inode x (change inode) s ])
      one None e = same_inodes s s (λ i. refl) (omega arith)
      one (Some inode) e = two inode e

  added_kept : (place : Spot) (inode : Inode C) (s : Subvolume C) → IsSound s → inode.cells ≡ [] → Kept s (add_inode place inode s)
  unfolding add_inode
  added_kept place inode s sound none =
      let t : Subvolume C = add_inode place inode s in
      record {
        cells = λ i h. elim (cases_eq i s.next) [
          | inl q ↦ subst (λ (j : ℕ). cells_of t j ≡ cells_of s j) (sym q)
              (cells_at t s.next (Some inode) (with_value-here nat_cmp nat_cmp_total exact_unsigned s.next inode s.inodes) ∙ none ∙ sym (cells_at s s.next None absent))
          | inr n ↦ cells_by s t i (with_value-other nat_cmp nat_cmp_total exact_unsigned i s.next inode s.inodes n)
        ];
        there = λ i h. elim (cases_eq i s.next) [
          | inl q ↦ inr (omega (arith, q))
          | inr n ↦ inl (ap is_some (sym (with_value-other nat_cmp nat_cmp_total exact_unsigned i s.next inode s.inodes n)) ∙ h)
        ];
        next = omega arith;
      }
    where
      absent : inode_at s s.next ≡ None
      absent = one (inode_at s s.next) refl
        where
          one : (o : Option (Inode C)) → inode_at s s.next ≡ o → o ≡ None
          one None e = refl
          one (Some x) e = absurd (let below : s.next < s.next = sound.below_next s.next (ap is_some e) in omega (arith, below))

  -- ---- each edit

  make_kept : (inode : Inode C) (path : List ℕ) (s t : Subvolume C) → IsSound s → inode.cells ≡ [] → make inode path s ≡ Ok t → Kept s t
  unfolding make
  make_kept inode path s t sound none e =
      let a = bound (spot s path) _ t e in
      let b = required (is_none (at_spot s a.0)) EntryThere _ t a.2 in
      let c = not_refused (s.next == greatest_number) NoNumber _ t b.1 in
      subst (λ (u : Subvolume C). Kept s u) (ok_same c.1) (added_kept a.0 inode s sound none)

  device_kept : (mode rdev : ℕ) (path : List ℕ) (s t : Subvolume C) → IsSound s → make_device mode rdev path s ≡ Ok t → Kept s t
  unfolding make_device
  device_kept mode rdev path s t sound e = let a = bound (found (device_kind mode) BadDevice) _ t e in make_kept (new_inode a.0 0o600 rdev []) path s t sound refl a.2

  link_kept : (path existing : List ℕ) (s t : Subvolume C) → link path existing s ≡ Ok t → Kept s t
  unfolding link
  link_kept path existing s t e =
      let a = required (is_some (path_names path)) BadPath _ t e in
      let b = bound (walk s existing) _ t a.1 in
      let c = not_refused (is_directory s b.0) IsDirectory _ t b.2 in
      let d = bound (spot s path) _ t c.1 in
      let f = required (is_none (at_spot s d.0)) EntryThere _ t d.2 in
      subst (λ (u : Subvolume C). Kept s u) (ok_same f.1) (same_inodes s (add_name d.0 b.0 s) (λ i. refl) (omega arith))

  unlink_kept : (path : List ℕ) (s t : Subvolume C) → unlink path s ≡ Ok t → Kept s t
  unfolding unlink
  unlink_kept path s t e =
      let a = bound (spot s path) _ t e in
      let b = bound (found (at_spot s a.0) NoEntry) _ t a.2 in
      let c = not_refused (is_directory s b.0) IsDirectory _ t b.2 in
      subst (λ (u : Subvolume C). Kept s u) (ok_same c.1) (taken_kept a.0 b.0 s)

  rmdir_kept : (path : List ℕ) (s t : Subvolume C) → rmdir path s ≡ Ok t → Kept s t
  unfolding rmdir
  rmdir_kept path s t e =
      let a = bound (spot s path) _ t e in
      let b = bound (found (at_spot s a.0) NoEntry) _ t a.2 in
      let c = required (is_directory s b.0) NotDirectory _ t b.2 in
      let d = required (is_empty_directory s b.0) NotEmpty _ t c.1 in
      subst (λ (u : Subvolume C). Kept s u) (ok_same d.1) (taken_kept a.0 b.0 s)

  onto_kept : (from to : Spot) (path_to : List ℕ) (moved : ℕ) (o : Option ℕ) (s t : Subvolume C) → rename_onto from to path_to moved o s ≡ Ok t → Kept s t
  unfolding rename_onto move_name
  onto_kept from to path_to moved None s t e =
      let a = not_refused (is_directory s moved && lies_below s moved path_to) IntoItself _ t e in
      subst (λ (u : Subvolume C). Kept s u) (ok_same a.1) (moved_kept s s (same_inodes s s (λ i. refl) (omega arith)) from to moved)
    where
      moved_kept : (s t : Subvolume C) → Kept s t → (from to : Spot) (moved : ℕ) → Kept s (move_name from to moved t)
      moved_kept s t k from to moved = kept_on s t (move_name from to moved t) k (λ i. refl) (omega arith)
  onto_kept from to path_to moved (Some there) s t e = one (there == moved) e
    where
      one : (b : Bool) → (if b then Ok s else (refuse_if (is_directory s moved && lies_below s moved path_to) IntoItself >> (can_replace s moved there >> Ok (move_name from to moved (take_name to there s))))) ≡ Ok t → Kept s t
      one true q = subst (λ (u : Subvolume C). Kept s u) (ok_same q) (same_inodes s s (λ i. refl) (omega arith))
      one false q =
          let a = not_refused (is_directory s moved && lies_below s moved path_to) IntoItself _ t q in
          let b = tested (can_replace s moved there) _ t a.1 in
          subst (λ (u : Subvolume C). Kept s u) (ok_same b.1) (kept_on s (take_name to there s) (move_name from to moved (take_name to there s)) (taken_kept to there s) (λ i. refl) (omega arith))

  rename_kept : (path path_to : List ℕ) (s t : Subvolume C) → rename path path_to s ≡ Ok t → Kept s t
  unfolding rename
  rename_kept path path_to s t e =
      let a = bound (spot s path) _ t e in
      let b = bound (found (at_spot s a.0) NoEntry) _ t a.2 in
      let c = bound (spot s path_to) _ t b.2 in
      onto_kept a.0 c.0 path_to b.0 (at_spot s c.0) s t c.2

  change_kept : (path : List ℕ) (change : Inode C → Inode C) (s t : Subvolume C) → ((inode : Inode C) → (change inode).cells ≡ inode.cells) → change_at path change s ≡ Ok t → Kept s t
  unfolding change_at
  change_kept path change s t same e = let a = bound (walk s path) _ t e in subst (λ (u : Subvolume C). Kept s u) (ok_same a.2) (changed_kept a.0 change s same)

  set_kept : (path name value : List ℕ) (s t : Subvolume C) → set_xattr path name value s ≡ Ok t → Kept s t
  unfolding set_xattr
  set_kept path name value s t e =
      let a = bound (walk s path) _ t e in
      let b = required (is_xattr_name name) BadXattr _ t a.2 in
      subst (λ (u : Subvolume C). Kept s u) (ok_same b.1) (changed_kept a.0 _ s (λ inode. refl))

  removed_kept : (path name : List ℕ) (s t : Subvolume C) → remove_xattr path name s ≡ Ok t → Kept s t
  unfolding remove_xattr
  removed_kept path name s t e =
      let a = bound (walk s path) _ t e in
      let b = required (is_xattr_name name) BadXattr _ t a.2 in
      let c = required (has_xattr s a.0 name) NoXattr _ t b.1 in
      subst (λ (u : Subvolume C). Kept s u) (ok_same c.1) (changed_kept a.0 _ s (λ inode. refl))

  nothing_kept : (s t : Subvolume C) → ◌≡◌ {A = Result (Subvolume C) Refusal} (Ok s) (Ok t) → Kept s t
  nothing_kept s t e = subst (λ (u : Subvolume C). Kept s u) (ok_same e) (same_inodes s s (λ i. refl) (omega arith))

  pub edit_kept : (z : C) (put : List C) (c : Command) (s t : Subvolume C) → changes_contents c ≡ false → IsSound s → edit z put c s ≡ Ok t → Kept s t
  unfolding edit
  edit_kept z put (MkFile path) s t n h e = make_kept _ path s t h refl e
  edit_kept z put (MkDir path) s t n h e = make_kept _ path s t h refl e
  edit_kept z put (MkNod mode rdev path) s t n h e = device_kept mode rdev path s t h e
  edit_kept z put (MkFifo path) s t n h e = make_kept _ path s t h refl e
  edit_kept z put (MkSock path) s t n h e = make_kept _ path s t h refl e
  edit_kept z put (Symlink path path_link) s t n h e = make_kept _ path s t h refl e
  edit_kept z put (Rename path path_to) s t n h e = rename_kept path path_to s t e
  edit_kept z put (Link path path_link) s t n h e = link_kept path path_link s t e
  edit_kept z put (Unlink path) s t n h e = unlink_kept path s t e
  edit_kept z put (Rmdir path) s t n h e = rmdir_kept path s t e
  edit_kept z put (SetXattr name value path) s t n h e = set_kept path name value s t e
  edit_kept z put (RemoveXattr name path) s t n h e = removed_kept path name s t e
  edit_kept z put (Write path offset bytes) s t n h e = cc
  edit_kept z put (Truncate size path) s t n h e = cc
  edit_kept z put (Chmod mode path) s t n h e = change_kept path _ s t (λ inode. refl) e
  edit_kept z put (Chown uid gid path) s t n h e = change_kept path _ s t (λ inode. refl) e
  edit_kept z put (Utimes mtime atime path) s t n h e = change_kept path _ s t (λ inode. refl) e
  edit_kept z put (UpdateExtent size path offset) s t n h e = nothing_kept s t e
  edit_kept z put (Fallocate size path offset mode) s t n h e = cc
  edit_kept z put (FileAttr path flags) s t n h e = change_kept path _ s t (λ inode. refl) e
  edit_kept z put (Subvol uuid ctransid path) s t n h e = nothing_kept s t e
  edit_kept z put (Snapshot uuid ctransid path clone_uuid clone_ctransid) s t n h e = nothing_kept s t e
  edit_kept z put (Clone path offset clone_uuid clone_ctransid clone_path clone_offset clone_len) s t n h e = nothing_kept s t e
  edit_kept z put End s t n h e = nothing_kept s t e
