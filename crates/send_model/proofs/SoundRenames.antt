-- Renaming keeps a subvolume sound, and so does each edit.
use Rattle.std.specs.Prelude.{◌≡◌, ℕ, Bool, true, false, cond, not, ◌&&◌, ◌||◌, List, Option, None, Some, Ok, IsTrue, nat_le, ◌==◌, if◌then◌else◌}
use Rattle.std.specs.Ordering.{nat_cmp}
use Rattle.std.specs.Cmp.{nat_cmp_total}
use Rattle.std.specs.List.{list_any}
use Rattle.std.proofs.Common.{refl, sym, ap, subst, ◌∙◌}
use Rattle.std.proofs.lemmas.Bool.{eqb-false}
use Rattle.std.proofs.lemmas.Map.Lookups.{exact_unsigned}
use Rattle.send_model.specs.Refusal.{NoEntry, NotDirectory, IsDirectory, NotEmpty, IntoItself}
use Rattle.send_model.specs.Chain.{◌>>◌, require, refuse_if, found}
use Rattle.send_model.specs.Command.{Command, MkFile, MkDir, MkNod, MkFifo, MkSock, Symlink, Rename, Link, Unlink, Rmdir, SetXattr, RemoveXattr, Write, Truncate, Chmod, Chown, Utimes, Fallocate, FileAttr}
use Rattle.send_model.specs.Map.{named_cmp, without}
use Rattle.send_model.specs.Subvolume.{Subvolume, Spot, root, inode_at, named, is_directory, spot, all_but_last, inodes_on_way, name_count, is_empty_directory, IsSound}
use Rattle.send_model.specs.Edit.{take_name, remove_inode, remove_name, move_name, at_spot, rename, rename_onto, can_replace, lies_below, edit}
use Rattle.send_model.proofs.Sorts.{same_inside}
use Rattle.send_model.proofs.Fuel.{not_refused, tested, bound, ok_same}
use Rattle.send_model.proofs.MapLaws.{without-other}
use Rattle.send_model.proofs.WalkLaws.{Leads, Step, Around, leads-leaf, leads_from_walk, leads-around}
use Rattle.send_model.proofs.Soundness.{key, other_place, name_gone, name_left, directory_by}
use Rattle.send_model.proofs.SoundRemovals.{taken_is_sound, moved_is_sound}
use Rattle.send_model.proofs.SoundEdits.{PlaceOf, place_of, found_is, not_both, file_is_leaf, empty_is_leaf, make_is_sound, make_device_is_sound, link_is_sound, unlink_is_sound, rmdir_is_sound, change_at_is_sound, set_xattr_is_sound, remove_xattr_is_sound, change_contents_is_sound, fallocate_is_sound}

module _ {C : Type 0} where
  -- ---- what a name that goes leaves

  pub taken_names : (place : Spot) (x : ℕ) (s : Subvolume C) → (take_name place x s).names ≡ without named_cmp (key place) s.names
  unfolding take_name
  taken_names place x s = one (nat_le (name_count s x) 1)
    where
      one : (b : Bool) → (cond b (remove_inode x (remove_name place s)) (remove_name place s)).names ≡ without named_cmp (key place) s.names
      one true = refl
      one false = refl

  taken_inodes : (place : Spot) (x : ℕ) (s : Subvolume C) (ino : ℕ) → (ino ≡ x → ⊥) → inode_at (take_name place x s) ino ≡ inode_at s ino
  unfolding take_name
  taken_inodes place x s ino n = one (nat_le (name_count s x) 1)
    where
      one : (b : Bool) → inode_at (cond b (remove_inode x (remove_name place s)) (remove_name place s)) ino ≡ inode_at s ino
      one true = without-other nat_cmp nat_cmp_total exact_unsigned ino x s.inodes n
      one false = refl

  -- ---- the ways that renaming ends well

  -- A new place that does not lie below the moved inode is reached by names that pass it by.
  way_around : (s : Subvolume C) (x : ℕ) (path : List ℕ) (place : Spot) → PlaceOf s path place → lies_below s x path ≡ false → (way : List (List ℕ)) × Leads (Around (Step s) x) way root place.directory
  unfolding lies_below
  way_around s x path place p below =
      let passed : list_any (λ i. i == x) (inodes_on_way s root (all_but_last p.names)) ≡ false =
      ap (λ (o : Option (List (List ℕ))). elim o as (λ y. Bool) [ None ↦ false | Some names ↦ list_any (λ i. i == x) (inodes_on_way s root (all_but_last names)) ]) (sym p.of_path) ∙ below in
      (all_but_last p.names, leads-around s x (all_but_last p.names) root place.directory (leads_from_walk s (all_but_last p.names) root place.directory p.walked) passed)

  -- What gives way to another inode has no names in it.
  pub replaced_is_leaf : (s : Subvolume C) (moved there : ℕ) → IsSound s → can_replace s moved there ≡ Ok tt → (name : List ℕ) (ino : ℕ) → named s there name ≡ Some ino → ⊥
  replaced_is_leaf s moved there h can =
      let a = not_refused (is_directory s moved && not (is_directory s there)) NotDirectory _ tt can in
      let b = not_refused (not (is_directory s moved) && is_directory s there) IsDirectory _ tt a.1 in
      leaf (is_directory s there) refl (kept (not (is_directory s there) || is_empty_directory s there) b.1)
    where
      kept : (t : Bool) → require t NotEmpty ≡ Ok tt → t ≡ true
      kept true e = refl
      kept false e = cc

      leaf : (d : Bool) → is_directory s there ≡ d → not d || is_empty_directory s there ≡ true → (name : List ℕ) (ino : ℕ) → named s there name ≡ Some ino → ⊥
      leaf true is empty = empty_is_leaf s there empty
      leaf false is empty = file_is_leaf s there h is

  -- The inode moves to where another one gave way.
  replaced_is_sound : (s : Subvolume C) (from to : Spot) (moved there : ℕ) → IsSound s → at_spot s from ≡ Some moved → at_spot s to ≡ Some there → (there ≡ moved → ⊥)
      → IsTrue (is_directory s to.directory)
      → ((name : List ℕ) (ino : ℕ) → named s there name ≡ Some ino → ⊥)
      → (IsTrue (is_directory s moved) → (way : List (List ℕ)) × Leads (Around (Step s) moved) way root to.directory)
      → IsSound (move_name from to moved (take_name to there s))
  replaced_is_sound s from to moved there h at stands differ directory leaf around =
      moved_is_sound (take_name to there s) from to moved (taken_is_sound s to there h stands leaf)
      (left from.directory from.name moved (λ e. differ (sym e)) at ∙ at)
      (name_gone s (take_name to there s) to (taken_names to there s))
      (kept to.directory to_differs ∙ directory)
      (λ is. let way = around (sym (kept moved (λ e. differ (sym e))) ∙ is) in (
        way.0,
        leads-leaf (Around (Step s) moved) (Around (Step (take_name to there s)) moved) there (λ name below step. leaf name below step.0.1)
            (λ i name below n m step. ((kept i n ∙ step.0.0, left i name below m step.0.1 ∙ step.0.1), step.1)) way.0 root to.directory way.1 to_differs,
      ))
    where
      to_differs : to.directory ≡ there → ⊥
      to_differs e = leaf to.name there (subst (λ (i : ℕ). named s i to.name ≡ Some there) e stands)

      kept : (ino : ℕ) → (ino ≡ there → ⊥) → is_directory (take_name to there s) ino ≡ is_directory s ino
      kept ino n = directory_by s (take_name to there s) ino (taken_inodes to there s ino n)

      left : (d : ℕ) (name : List ℕ) (ino : ℕ) → (ino ≡ there → ⊥) → named s d name ≡ Some ino → named (take_name to there s) d name ≡ named s d name
      left d name ino n found = name_left s (take_name to there s) to (taken_names to there s) d name (other_place s d name to (Some there) stands (λ e. n (same_inside (sym found ∙ e))))

  renamed_onto_is_sound : (from to : Spot) (path_to : List ℕ) (moved : ℕ) (o : Option ℕ) (s t : Subvolume C) → IsSound s → at_spot s from ≡ Some moved → PlaceOf s path_to to → at_spot s to ≡ o
      → rename_onto from to path_to moved o s ≡ Ok t → IsSound t
  unfolding rename_onto
  renamed_onto_is_sound from to path_to moved None s t h at place none e =
      let a = not_refused (is_directory s moved && lies_below s moved path_to) IntoItself _ t e in
      subst (λ (u : Subvolume C). IsSound u) (ok_same a.1)
      (moved_is_sound s from to moved h at none place.directory (λ is. way_around s moved path_to to place (not_both (is_directory s moved) (lies_below s moved path_to) a.0 is)))
  renamed_onto_is_sound from to path_to moved (Some there) s t h at place some e = one (there == moved) refl e
    where
      one : (b : Bool) → (there == moved) ≡ b
          → (if b then Ok s else (refuse_if (is_directory s moved && lies_below s moved path_to) IntoItself >> (can_replace s moved there >> Ok (move_name from to moved (take_name to there s))))) ≡ Ok t → IsSound t
      one true same e = subst (λ (u : Subvolume C). IsSound u) (ok_same e) h
      one false differ e =
          let a = not_refused (is_directory s moved && lies_below s moved path_to) IntoItself _ t e in
          let b = tested (can_replace s moved there) _ t a.1 in
          subst (λ (u : Subvolume C). IsSound u) (ok_same b.1)
          (replaced_is_sound s from to moved there h at some (eqb-false there moved differ) place.directory (replaced_is_leaf s moved there h b.0)
          (λ is. way_around s moved path_to to place (not_both (is_directory s moved) (lies_below s moved path_to) a.0 is)))

  rename_is_sound : (path path_to : List ℕ) (s t : Subvolume C) → IsSound s → rename path path_to s ≡ Ok t → IsSound t
  unfolding rename
  rename_is_sound path path_to s t h e =
      let a = bound (spot s path) _ t e in
      let b = bound (found (at_spot s a.0) NoEntry) _ t a.2 in
      let c = bound (spot s path_to) _ t b.2 in
      renamed_onto_is_sound a.0 c.0 path_to b.0 (at_spot s c.0) s t h (found_is (at_spot s a.0) NoEntry b.0 b.1) (place_of s path_to c.0 c.1) refl c.2

  -- ---- each edit

  -- What an edit makes of a sound subvolume is sound.
  pub edit_keeps_sound : (zero_cell : C) (put : List C) (c : Command) (s t : Subvolume C) → IsSound s → edit zero_cell put c s ≡ Ok t → IsSound t
  unfolding edit
  edit_keeps_sound zero_cell put (MkFile path) s t h e = make_is_sound _ path s t h e
  edit_keeps_sound zero_cell put (MkDir path) s t h e = make_is_sound _ path s t h e
  edit_keeps_sound zero_cell put (MkNod mode rdev path) s t h e = make_device_is_sound mode rdev path s t h e
  edit_keeps_sound zero_cell put (MkFifo path) s t h e = make_is_sound _ path s t h e
  edit_keeps_sound zero_cell put (MkSock path) s t h e = make_is_sound _ path s t h e
  edit_keeps_sound zero_cell put (Symlink path path_link) s t h e = make_is_sound _ path s t h e
  edit_keeps_sound zero_cell put (Rename path path_to) s t h e = rename_is_sound path path_to s t h e
  edit_keeps_sound zero_cell put (Link path path_link) s t h e = link_is_sound path path_link s t h e
  edit_keeps_sound zero_cell put (Unlink path) s t h e = unlink_is_sound path s t h e
  edit_keeps_sound zero_cell put (Rmdir path) s t h e = rmdir_is_sound path s t h e
  edit_keeps_sound zero_cell put (SetXattr name value path) s t h e = set_xattr_is_sound path name value s t h e
  edit_keeps_sound zero_cell put (RemoveXattr name path) s t h e = remove_xattr_is_sound path name s t h e
  edit_keeps_sound zero_cell put (Write path offset bytes) s t h e = change_contents_is_sound path _ _ s t h e
  edit_keeps_sound zero_cell put (Truncate size path) s t h e = change_contents_is_sound path _ _ s t h e
  edit_keeps_sound zero_cell put (Chmod mode path) s t h e = change_at_is_sound path _ s t (λ inode. refl) h e
  edit_keeps_sound zero_cell put (Chown uid gid path) s t h e = change_at_is_sound path _ s t (λ inode. refl) h e
  edit_keeps_sound zero_cell put (Utimes mtime atime path) s t h e = change_at_is_sound path _ s t (λ inode. refl) h e
  edit_keeps_sound zero_cell put (Fallocate size path offset mode) s t h e = fallocate_is_sound zero_cell path offset size mode s t h e
  edit_keeps_sound zero_cell put (FileAttr path flags) s t h e = change_at_is_sound path _ s t (λ inode. refl) h e
  edit_keeps_sound zero_cell put c s t h e = subst (λ (u : Subvolume C). IsSound u) (ok_same e) h
