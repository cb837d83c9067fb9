-- Edits and clones keep a number for each inode.
use Rattle.std.specs.Prelude.{◌≡◌, ℕ, ◌+◌, ◌≤◌, ◌==◌, Bool, true, false, cond, ◌&&◌, T, List, [], ◌∷◌, length, Option, None, Some, Ok, nat_le, is_some, is_none, if◌then◌else◌}
use Rattle.std.specs.declared.cmp.Ordering.{Ordering}
use Rattle.std.specs.declared.cmp.Ordering.TheVariants.{Less, Equal, Greater}
use Rattle.std.specs.Ordering.{nat_cmp, is_eq}
use Rattle.std.specs.Cmp.{nat_cmp_total}
use Rattle.std.specs.FinMap.Entries.{by_order, below_all}
use Rattle.std.proofs.Common.{refl, ap, subst, ◌∙◌, arith}
use Rattle.std.proofs.lemmas.Bool.{eqb-false}
use Rattle.send_model.specs.Refusal.{BadPath, NoEntry, NotDirectory, IsDirectory, EntryThere, NotEmpty, NoNumber, IntoItself, NotFile, FileTooBig, BadXattr, NoXattr, BadDevice, BadFallocate}
use Rattle.send_model.specs.Chain.{◌>>◌, refuse_if, found}
use Rattle.send_model.specs.Command.{Command, MkFile, MkDir, MkNod, MkFifo, MkSock, Symlink, Rename, Link, Unlink, Rmdir, SetXattr, RemoveXattr, Write, Truncate, Chmod, Chown, Utimes, Fallocate, FileAttr}
use Rattle.send_model.specs.Path.{path_names}
use Rattle.send_model.specs.Map.{Map, IsMap, value_at, with_value}
use Rattle.send_model.specs.Subvolume.{Inode, Subvolume, Spot, IsSound, root_alone, inode_at, is_directory, is_file, walk, spot, name_count, is_empty_directory}
use Rattle.send_model.specs.Edit.{greatest_end, greatest_number, set_inode, change_inode, add_inode, take_name, move_name, remove_name, remove_inode, make, make_device, device_kind, at_spot, link, unlink, rmdir, lies_below, can_replace, rename_onto, rename, change_at, is_xattr_name, set_xattr, has_xattr, remove_xattr, change_contents, allocation_of, fallocate, edit}
use Rattle.send_model.specs.Clone.{cloned, clone, clone_values}
use Rattle.snapshot_model.specs.SentLaws.{HasNumbers}
use Rattle.send_model.proofs.Fuel.{bound, required, not_refused, tested, ok_same}
use Rattle.send_model.proofs.MapLaws.{T_left, T_right, is_less}
use Rattle.snapshot_model.proofs.SentNumbers.{fewer}

module _ {X : Type 0} where
  one_longer : (k : ℕ) (x : X) (m : Map ℕ X) → length (with_value nat_cmp k x m) ≤ length m + 1
  one_longer k x [] = omega arith
  one_longer k x (e ∷ m) = one (nat_cmp k e.0) (one_longer k x m)
    where
      one : (r : Ordering) → length (with_value nat_cmp k x m) ≤ length m + 1 → length (by_order r ((k, x) ∷ e ∷ m) ((e.0, x) ∷ m) (e ∷ with_value nat_cmp k x m)) ≤ length (e ∷ m) + 1
      one Less l = omega arith
      one Equal l = omega arith
      one Greater l = omega (arith, l)

  less_none : (k x : ℕ) (m : Map ℕ X) → nat_cmp k x ≡ Less → T (below_all nat_cmp x m) → value_at nat_cmp k m ≡ None
  less_none k x [] e h = refl
  less_none k x (f ∷ m) e h =
      let less : nat_cmp k f.0 ≡ Less = nat_cmp_total.trans k x f.0 e (is_less _ (T_left _ _ h)) in
      ap (λ (r : Ordering). cond (is_eq r) (Some f.1) (value_at nat_cmp k m)) less ∙ less_none k x m e (T_right _ _ h)

  as_long : (k : ℕ) (x y : X) (m : Map ℕ X) → IsMap nat_cmp m → value_at nat_cmp k m ≡ Some y → length (with_value nat_cmp k x m) ≤ length m
  as_long k x y [] h e = cc
  as_long k x y (f ∷ m) h e = one (nat_cmp k f.0) refl e (as_long k x y m (T_right _ _ h))
    where
      one : (r : Ordering) → nat_cmp k f.0 ≡ r → cond (is_eq r) (Some f.1) (value_at nat_cmp k m) ≡ Some y → (value_at nat_cmp k m ≡ Some y → length (with_value nat_cmp k x m) ≤ length m)
          → length (by_order r ((k, x) ∷ f ∷ m) ((f.0, x) ∷ m) (f ∷ with_value nat_cmp k x m)) ≤ length (f ∷ m)
      one Less at e more = let none : value_at nat_cmp k m ≡ None = less_none k f.0 m at (T_left _ _ h) in cc (none, e)
      one Equal at e more = omega arith
      one Greater at e more = let l = more e in omega (arith, l)

module _ {C : Type 0} where
  -- No more inodes, and the same next number.
  record NoMore (s t : Subvolume C) : Type 0 where
    inodes : length t.inodes ≤ length s.inodes
    next : t.next ≡ s.next

  same : (s : Subvolume C) → NoMore s s
  same s = record { inodes = omega arith; next = refl }

  numbers_by : (s t : Subvolume C) → NoMore s t → HasNumbers s → HasNumbers t
  numbers_by s t n h = record { each = omega (arith, n.inodes, n.next, h.each); next = omega (arith, n.next, h.next) }

  changes : (ino : ℕ) (change : Inode C → Inode C) (s : Subvolume C) → IsSound s → NoMore s (change_inode ino change s)
  unfolding change_inode
  changes ino change s sound = one (inode_at s ino) refl
    where
      one : (o : Option (Inode C)) → inode_at s ino ≡ o → NoMore s (elim o as (λ x. Subvolume C) [ None ↦ s | Some inode ↦ set_inode ino (change inode) s ])
      one None e = same s
      one (Some inode) e = record { inodes = as_long ino (change inode) inode s.inodes sound.inodes_in_order e; next = refl }

  takes : (place : Spot) (ino : ℕ) (s : Subvolume C) → NoMore s (take_name place ino s)
  unfolding take_name
  takes place ino s = one (nat_le (name_count s ino) 1)
    where
      one : (b : Bool) → NoMore s (if b then remove_inode ino (remove_name place s) else remove_name place s)
      one true = record { inodes = fewer _ s.inodes; next = refl }
      one false = record { inodes = omega arith; next = refl }

  moves : (from to : Spot) (ino : ℕ) (s u : Subvolume C) → NoMore s u → NoMore s (move_name from to ino u)
  unfolding move_name
  moves from to ino s u n = record { inodes = n.inodes; next = n.next }

  makes : (inode : Inode C) (path : List ℕ) (s t : Subvolume C) → HasNumbers s → make inode path s ≡ Ok t → HasNumbers t
  unfolding make add_inode
  makes inode path s t h e =
      let a = bound (spot s path) _ t e in
      let b = required (is_none (at_spot s a.0)) EntryThere _ t a.2 in
      let c = not_refused (s.next == greatest_number) NoNumber _ t b.1 in
      let below : s.next ≡ greatest_number → ⊥ = eqb-false s.next greatest_number c.0 in
      subst (λ (u : Subvolume C). HasNumbers u) (ok_same c.1) (record {
        each = omega (arith, h.each, one_longer s.next inode s.inodes);
        next = omega (arith, h.next, below);
      })

  makes_device : (mode rdev : ℕ) (path : List ℕ) (s t : Subvolume C) → HasNumbers s → make_device mode rdev path s ≡ Ok t → HasNumbers t
  unfolding make_device
  makes_device mode rdev path s t h e = let a = bound (found (device_kind mode) BadDevice) _ t e in makes _ path s t h a.2

  links : (path existing : List ℕ) (s t : Subvolume C) → link path existing s ≡ Ok t → NoMore s t
  unfolding link
  links path existing s t e =
      let a = required (is_some (path_names path)) BadPath _ t e in
      let b = bound (walk s existing) _ t a.1 in
      let c = not_refused (is_directory s b.0) IsDirectory _ t b.2 in
      let d = bound (spot s path) _ t c.1 in
      let f = required (is_none (at_spot s d.0)) EntryThere _ t d.2 in
      subst (λ (u : Subvolume C). NoMore s u) (ok_same f.1) (record { inodes = omega arith; next = refl })

  unlinks : (path : List ℕ) (s t : Subvolume C) → unlink path s ≡ Ok t → NoMore s t
  unfolding unlink
  unlinks path s t e =
      let a = bound (spot s path) _ t e in
      let b = bound (found (at_spot s a.0) NoEntry) _ t a.2 in
      let c = not_refused (is_directory s b.0) IsDirectory _ t b.2 in
      subst (λ (u : Subvolume C). NoMore s u) (ok_same c.1) (takes a.0 b.0 s)

  rmdirs : (path : List ℕ) (s t : Subvolume C) → rmdir path s ≡ Ok t → NoMore s t
  unfolding rmdir
  rmdirs path s t e =
      let a = bound (spot s path) _ t e in
      let b = bound (found (at_spot s a.0) NoEntry) _ t a.2 in
      let c = required (is_directory s b.0) NotDirectory _ t b.2 in
      let d = required (is_empty_directory s b.0) NotEmpty _ t c.1 in
      subst (λ (u : Subvolume C). NoMore s u) (ok_same d.1) (takes a.0 b.0 s)

  renames_onto : (from to : Spot) (path_to : List ℕ) (ino : ℕ) (there : Option ℕ) (s t : Subvolume C) → rename_onto from to path_to ino there s ≡ Ok t → NoMore s t
  unfolding rename_onto
  renames_onto from to path_to ino None s t e =
      let a = not_refused (is_directory s ino && lies_below s ino path_to) IntoItself _ t e in
      subst (λ (u : Subvolume C). NoMore s u) (ok_same a.1) (moves from to ino s s (same s))
  renames_onto from to path_to ino (Some there) s t e = one (there == ino) e
    where
      one : (b : Bool) → (if b then Ok s else (refuse_if (is_directory s ino && lies_below s ino path_to) IntoItself >> (can_replace s ino there >> Ok (move_name from to ino (take_name to there s))))) ≡ Ok t → NoMore s t
      one true q = subst (λ (u : Subvolume C). NoMore s u) (ok_same q) (same s)
      one false q =
          let a = not_refused (is_directory s ino && lies_below s ino path_to) IntoItself _ t q in
          let b = tested (can_replace s ino there) _ t a.1 in
          subst (λ (u : Subvolume C). NoMore s u) (ok_same b.1) (moves from to ino s (take_name to there s) (takes to there s))

  renames : (path path_to : List ℕ) (s t : Subvolume C) → rename path path_to s ≡ Ok t → NoMore s t
  unfolding rename
  renames path path_to s t e =
      let a = bound (spot s path) _ t e in
      let b = bound (found (at_spot s a.0) NoEntry) _ t a.2 in
      let c = bound (spot s path_to) _ t b.2 in
      renames_onto a.0 c.0 path_to b.0 (at_spot s c.0) s t c.2

  changes_at : (path : List ℕ) (change : Inode C → Inode C) (s t : Subvolume C) → IsSound s → change_at path change s ≡ Ok t → NoMore s t
  unfolding change_at
  changes_at path change s t sound e =
      let a = bound (walk s path) _ t e in
      subst (λ (u : Subvolume C). NoMore s u) (ok_same a.2) (changes a.0 change s sound)

  sets_xattr : (path name value : List ℕ) (s t : Subvolume C) → IsSound s → set_xattr path name value s ≡ Ok t → NoMore s t
  unfolding set_xattr
  sets_xattr path name value s t sound e =
      let a = bound (walk s path) _ t e in
      let b = required (is_xattr_name name) BadXattr _ t a.2 in
      subst (λ (u : Subvolume C). NoMore s u) (ok_same b.1) (changes a.0 _ s sound)

  removes_xattr : (path name : List ℕ) (s t : Subvolume C) → IsSound s → remove_xattr path name s ≡ Ok t → NoMore s t
  unfolding remove_xattr
  removes_xattr path name s t sound e =
      let a = bound (walk s path) _ t e in
      let b = required (is_xattr_name name) BadXattr _ t a.2 in
      let c = required (has_xattr s a.0 name) NoXattr _ t b.1 in
      subst (λ (u : Subvolume C). NoMore s u) (ok_same c.1) (changes a.0 _ s sound)

  changes_contents : (path : List ℕ) (end : ℕ) (change : List C → List C) (s t : Subvolume C) → IsSound s → change_contents path end change s ≡ Ok t → NoMore s t
  unfolding change_contents
  changes_contents path end change s t sound e =
      let a = bound (walk s path) _ t e in
      let b = required (is_file s a.0) NotFile _ t a.2 in
      let c = required (nat_le end greatest_end) FileTooBig _ t b.1 in
      subst (λ (u : Subvolume C). NoMore s u) (ok_same c.1) (changes a.0 _ s sound)

  fallocates : (zero_cell : C) (path : List ℕ) (offset size mode : ℕ) (s t : Subvolume C) → IsSound s → fallocate zero_cell path offset size mode s ≡ Ok t → NoMore s t
  unfolding fallocate
  fallocates zero_cell path offset size mode s t sound e =
      let a = bound (walk s path) _ t e in
      let b = required (is_file s a.0) NotFile _ t a.2 in
      let c = bound (found (allocation_of mode) (BadFallocate mode)) _ t b.1 in
      let d = required (nat_le (offset + size) greatest_end) FileTooBig _ t c.2 in
      subst (λ (u : Subvolume C). NoMore s u) (ok_same d.1) (changes a.0 _ s sound)

  pub edit_keeps_numbers : (zero_cell : C) (put : List C) (c : Command) (s t : Subvolume C) → IsSound s → HasNumbers s → edit zero_cell put c s ≡ Ok t → HasNumbers t
  unfolding edit
  edit_keeps_numbers zero_cell put (MkFile path) s t sound h e = makes _ path s t h e
  edit_keeps_numbers zero_cell put (MkDir path) s t sound h e = makes _ path s t h e
  edit_keeps_numbers zero_cell put (MkNod mode rdev path) s t sound h e = makes_device mode rdev path s t h e
  edit_keeps_numbers zero_cell put (MkFifo path) s t sound h e = makes _ path s t h e
  edit_keeps_numbers zero_cell put (MkSock path) s t sound h e = makes _ path s t h e
  edit_keeps_numbers zero_cell put (Symlink path path_link) s t sound h e = makes _ path s t h e
  edit_keeps_numbers zero_cell put (Rename path path_to) s t sound h e = numbers_by s t (renames path path_to s t e) h
  edit_keeps_numbers zero_cell put (Link path path_link) s t sound h e = numbers_by s t (links path path_link s t e) h
  edit_keeps_numbers zero_cell put (Unlink path) s t sound h e = numbers_by s t (unlinks path s t e) h
  edit_keeps_numbers zero_cell put (Rmdir path) s t sound h e = numbers_by s t (rmdirs path s t e) h
  edit_keeps_numbers zero_cell put (SetXattr name value path) s t sound h e = numbers_by s t (sets_xattr path name value s t sound e) h
  edit_keeps_numbers zero_cell put (RemoveXattr name path) s t sound h e = numbers_by s t (removes_xattr path name s t sound e) h
  edit_keeps_numbers zero_cell put (Write path offset bytes) s t sound h e = numbers_by s t (changes_contents path _ _ s t sound e) h
  edit_keeps_numbers zero_cell put (Truncate size path) s t sound h e = numbers_by s t (changes_contents path _ _ s t sound e) h
  edit_keeps_numbers zero_cell put (Chmod mode path) s t sound h e = numbers_by s t (changes_at path _ s t sound e) h
  edit_keeps_numbers zero_cell put (Chown uid gid path) s t sound h e = numbers_by s t (changes_at path _ s t sound e) h
  edit_keeps_numbers zero_cell put (Utimes mtime atime path) s t sound h e = numbers_by s t (changes_at path _ s t sound e) h
  edit_keeps_numbers zero_cell put (Fallocate size path offset mode) s t sound h e = numbers_by s t (fallocates zero_cell path offset size mode s t sound e) h
  edit_keeps_numbers zero_cell put (FileAttr path flags) s t sound h e = numbers_by s t (changes_at path _ s t sound e) h
  edit_keeps_numbers zero_cell put c s t sound h e = subst (λ (u : Subvolume C). HasNumbers u) (ok_same e) h

  pub clone_keeps_numbers : (zero_cell : C) (part : Subvolume C) (source : Option (Subvolume C)) (is_own : Bool) (path : List ℕ) (offset : ℕ) (clone_path : List ℕ) (from len : ℕ) (t : Subvolume C)
      → IsSound part → HasNumbers part → clone zero_cell part source is_own (clone_values path offset clone_path from len) ≡ Ok t → HasNumbers t
  unfolding clone
  clone_keeps_numbers zero_cell part source is_own path offset clone_path from len t sound h e =
      let a = bound (cloned part source is_own (clone_values path offset clone_path from len)) _ t e in
      numbers_by part t (subst (λ (u : Subvolume C). NoMore part u) (ok_same a.2) (changes a.0.ino _ part sound)) h

  pub root_alone_numbers : HasNumbers {C = C} root_alone
  unfolding root_alone
  root_alone_numbers = record { each = omega arith; next = omega arith }
